-- Laws of storing, as the code divides it.
use Prim.Native.Nat.{ℕ, ◌+◌, ◌*◌, ◌≤◌}
use mathlib.Core.Path.{◌≡◌, refl, sym, ap, ◌∙◌}
use mathlib.Core.Bool.{Bool, true, false}
use mathlib.Core.List.{List, [], ◌∷◌}
use lib.ListN.{length, take}
use lib.Dec.{leb}
use borrow.Author.Tests.{leb-true, le-leb}
use Rattle.little_endian.specs.LittleEndian.{little_endian}
use Rattle.table.specs.declared.Summary.{Summary}
use Rattle.table.specs.Memory.{written}
use Rattle.table.specs.Rows.{capture_width, capture_numbers, annotation_width, annotation_numbers, flat, table, captures_of, annotations_of}
use Rattle.table.specs.Summary.{summary_numbers}
use Rattle.table.specs.Table.{counts_ok, well_formed}
use Rattle.table.specs.Wrote.{wrote}
use Rattle.table.proofs.Bools.{and_left, and_right}
use Rattle.table.proofs.TableLaws.{formed}
use Rattle.output.proofs.Writing.{Parts, parts_of}
use Rattle.table_stored.specs.Form.{opening, eight_each, head_size, capture_bytes, annotation_bytes, stored_of}
use Rattle.table_stored.specs.Store.{store_answer, store_memory}
use Rattle.table_stored.proofs.FormLaws.{captures_front, annotations_front, stored_length}

-- the bytes of mark and version, as the code has them
pub opening_is : 0x53 ∷ 0x47 ∷ 0x54 ∷ 1 ∷ 0 ∷ [] ≡ opening
unfolding little_endian
opening_is = refl

module _ (t : Summary) (caps notes : List ℕ) (e : counts_ok (table t caps notes) ≡ true) where
  pub captures_in_lem : capture_width * t.captures ≤ length caps
  unfolding counts_ok
  captures_in_lem = leb-true _ _ (and_left (leb (capture_width * t.captures) (length caps)) _ e)

  pub annotations_in_lem : annotation_width * t.annotations ≤ length notes
  unfolding counts_ok
  annotations_in_lem = leb-true _ _ (and_right (leb (capture_width * t.captures) (length caps)) _ e)

  -- the parts that are written
  pub stored_parts : Parts (stored_of (table t caps notes))
      ((0x53 ∷ 0x47 ∷ 0x54 ∷ 1 ∷ 0 ∷ []) ∷ eight_each (summary_numbers t) ∷ eight_each (take (capture_width * t.captures) caps) ∷ eight_each (take (annotation_width * t.annotations) notes) ∷ [])
  unfolding stored_of
  stored_parts = rw (← captures_front caps t.captures captures_in_lem, ← annotations_front notes t.annotations annotations_in_lem, opening_is)
      (parts_of opening (eight_each (summary_numbers t) ∷ eight_each (flat capture_numbers (captures_of (table t caps notes))) ∷ eight_each (flat annotation_numbers (annotations_of (table t caps notes))) ∷ []))

-- ---- the answer, and the memory m after it
module _ (t : Summary) (caps notes m : List ℕ) (b : Bool) (e : b ≡ well_formed (table t caps notes)) where
  pub store_18 : b ≡ false → (wrote 18 0 ≡ store_answer (table t caps notes) (length m)) × (m ≡ store_memory (table t caps notes) m)
  unfolding store_answer
  store_18 f = (rw (sym e ∙ f), rw (sym e ∙ f))

  module _ (f : b ≡ true) (d : Bool) (g : d ≡ leb (head_size + capture_bytes t.captures + annotation_bytes t.annotations) (length m)) where
    fits : d ≡ leb (length (stored_of (table t caps notes))) (length m)
    fits = g ∙ ap (λ (n : ℕ). leb n (length m)) (sym (stored_length (table t caps notes)))

    pub store_20 : d ≡ false → (wrote 20 0 ≡ store_answer (table t caps notes) (length m)) × (m ≡ store_memory (table t caps notes) m)
    unfolding store_answer
    store_20 h = (rw (sym e ∙ f, sym fits ∙ h), rw (sym e ∙ f, sym fits ∙ h))

    module _ (h : d ≡ true) where
      pub store_counts : counts_ok (table t caps notes) ≡ true
      unfolding counts_ok
      store_counts =
          let F = formed t caps notes (sym e ∙ f) in
          rw (le-leb _ _ F.laid.fit, le-leb _ _ F.noted)

      pub store_room : length (stored_of (table t caps notes)) ≤ length m
      store_room = leb-true _ _ (sym fits ∙ h)

      pub store_0 : (n : ℕ) (out : List ℕ) → (n ≡ length (stored_of (table t caps notes))) × (out ≡ written (stored_of (table t caps notes)) m)
          → (wrote 0 n ≡ store_answer (table t caps notes) (length m)) × (out ≡ store_memory (table t caps notes) m)
      unfolding store_answer
      store_0 n out z = (rw (sym e ∙ f, sym fits ∙ h, z.0), z.1 ∙ rw (sym e ∙ f, sym fits ∙ h))
