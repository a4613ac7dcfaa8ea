-- A capture and an annotation from the places of their fields.
use Rattle.std.specs.Prelude.{Option}
use mathlib.Core.Path.{◌≡◌, refl, sym, ap, ◌∙◌}
use mathlib.Core.Bool.{Bool, true, false, cond}
use mathlib.Core.List.{List, [], ◌∷◌}
use Prim.Native.Nat.{ℕ, ◌≤◌, ◌<◌}
use native.Mathlib.Omega.{arith}
use lib.ListN.{length, get_or, replicate, get_or-replicate, length-replicate, get_or-eq_default}
use lib.Dec.{ltb, eqb}
use borrow.Author.Tests.{ltb-true, ltb-false}
use Rattle.refusals.specs.Refusals.{rule, lowest, least}
use Rattle.refusals.proofs.LeastLaws.{least_none, Ascending, rules_of, either, lowest_either}
use Rattle.json_names.specs.Same.{same}
use Rattle.sigmf_texts.specs.Lookup.{index_in}
use Rattle.sigmf_names.specs.Names.{Core, capture_fields, annotation_fields, core_at, type_at}
use Rattle.table.specs.declared.Place.{Place}
use Rattle.sigmf_objects.specs.Fields.{Field, fields_at, close_at, value_in, is_absent, uint_or, misnamed, missing_from, missing, mistyped}
use Rattle.sigmf_objects.specs.Places.{noted, Noted, size_as, length_of, size_of, Measured, Within, Clear, walk_low}
use Rattle.sigmf_objects.specs.Capture.{breaks_rule, bad_datetime, capture_rules, read_capture}
use Rattle.sigmf_objects.specs.Annotation.{count_in, raw_text_place, annotation_rules, read_annotation, count_by, place_by}
use Rattle.sigmf_objects.proofs.WalkLaws.{or_false}
use Rattle.sigmf_objects.proofs.ValueLaws.{absent_is, count_by_lem, place_by_lem}

pub clear_zeros : (n : ℕ) → Clear (replicate n 0)
unfolding Clear
clear_zeros n i = go (ltb i n) refl where
  go : (t : Bool) → ltb i n ≡ t → ◌≡◌ {A = ℕ} (get_or (replicate n 0) i 0) 0
  go true q = get_or-replicate n i 0 0 (ltb-true i n q)
  go false q = get_or-eq_default (replicate n 0) 0 (rw (length-replicate {A = ℕ} n 0) (ltb-false i n q))

pub within_at : (s places : List ℕ) → Within s places → (i : ℕ) → get_or places i 0 ≤ length s
unfolding Within
within_at s places w i = w i

-- ---- 5 and 7 by the walk, the others by the places
walk_and : (a m b : Bool) (ns : List ℕ) (bs : List Bool) → Ascending 7 ns
    → lowest (rule 5 a ∷ rule 6 m ∷ rule 7 b ∷ rules_of ns bs) ≡ least (lowest (rule 5 a ∷ rule 7 b ∷ [])) (lowest (rule 6 m ∷ rules_of ns bs))
unfolding lowest rules_of either Ascending
walk_and true m b ns bs h = lowest_either 0 (5 ∷ 6 ∷ 7 ∷ ns) (true ∷ false ∷ b ∷ []) (false ∷ m ∷ false ∷ bs) (omega arith, (omega arith, (omega arith, h)))
walk_and false m true ns bs h = lowest_either 0 (5 ∷ 6 ∷ 7 ∷ ns) (false ∷ false ∷ true ∷ []) (false ∷ m ∷ false ∷ bs) (omega arith, (omega arith, (omega arith, h)))
walk_and false m false ns bs h = least_none 0 _ refl

pub object_low_lem : (cs : List Core) (fs : List Field) (m : Bool) (ns : List ℕ) (bs : List Bool) → Ascending 7 ns → missing cs fs ≡ m
    → (walk others low : ℕ) → walk ≡ walk_low cs fs → others ≡ lowest (rule 6 m ∷ rules_of ns bs) → low ≡ least walk others
    → low ≡ lowest (rule 5 (misnamed fs) ∷ rule 6 (missing cs fs) ∷ rule 7 (mistyped cs fs) ∷ rules_of ns bs)
object_low_lem cs fs m ns bs h em walk others low ew eo el =
    rw (em, walk_and (misnamed fs) m (mistyped cs fs) ns bs h, ← ew, ← eo) el

-- ---- a capture
module _ (s : List ℕ) (at : ℕ) (places sizes : List ℕ) (n : Noted s capture_fields (fields_at s at) places) (m : Measured capture_fields (fields_at s at) sizes) where
  capture_place : (i : ℕ) → i < 6 → noted s (get_or places i 0) ≡ value_in capture_fields i (fields_at s at)
  unfolding Noted capture_fields
  capture_place i h = sym (n i h)

  capture_size : (i : ℕ) → i < 6 → get_or sizes i 0 ≡ size_of (type_at capture_fields i) (value_in capture_fields i (fields_at s at))
  unfolding Measured capture_fields
  capture_size i h = m i h

  capture_start : get_or sizes 0 0 ≡ uint_or 0 (value_in capture_fields 0 (fields_at s at))
  unfolding size_as type_at core_at capture_fields
  capture_start = capture_size 0 (omega arith)

  capture_header : get_or sizes 2 0 ≡ uint_or 0 (value_in capture_fields 2 (fields_at s at))
  unfolding size_as type_at core_at capture_fields
  capture_header = capture_size 2 (omega arith)

  pub capture_moment : get_or sizes 4 0 ≡ length_of (noted s (get_or places 4 0))
  unfolding size_as type_at core_at capture_fields
  capture_moment = capture_size 4 (omega arith) ∙ ap length_of (sym (capture_place 4 (omega arith)))

  capture_missing : missing capture_fields (fields_at s at) ≡ is_absent (noted s (get_or places 0 0))
  unfolding missing_from capture_fields
  capture_missing = or_false (is_absent (value_in capture_fields 0 (fields_at s at))) ∙ ap is_absent (sym (capture_place 0 (omega arith)))

  pub capture_is : (walk others low close : ℕ) → walk ≡ walk_low capture_fields (fields_at s at)
      → others ≡ lowest (rule 6 (is_absent (noted s (get_or places 0 0))) ∷ rule 11 (breaks_rule (noted s (get_or places 4 0))) ∷ []) → low ≡ least walk others
      → close ≡ close_at s at
      → record { low = low; entry = record { start = get_or sizes 0 0; header = get_or sizes 2 0 }; close = close } ≡ read_capture s at
  unfolding read_capture bad_datetime rules_of Ascending index_in same capture_fields
  capture_is walk others low close ew eo el ec =
      let e11 = ap breaks_rule (capture_place 4 (omega arith)) in
      let e1 : low ≡ lowest (capture_rules (fields_at s at)) = object_low_lem capture_fields (fields_at s at) _ (11 ∷ []) (bad_datetime (fields_at s at) ∷ []) (omega arith, tt) capture_missing walk others low ew (rw (← e11) eo) el in
      rw (← e1, ← capture_start, ← capture_header, ← ec)

-- ---- an annotation
module _ (s : List ℕ) (at : ℕ) (places sizes : List ℕ) (n : Noted s annotation_fields (fields_at s at) places) (m : Measured annotation_fields (fields_at s at) sizes) where
  annotation_place : (i : ℕ) → i < 10 → noted s (get_or places i 0) ≡ value_in annotation_fields i (fields_at s at)
  unfolding Noted annotation_fields
  annotation_place i h = sym (n i h)

  annotation_size : (i : ℕ) → i < 10 → get_or sizes i 0 ≡ size_of (type_at annotation_fields i) (noted s (get_or places i 0))
  unfolding Measured annotation_fields
  annotation_size i h = m i h ∙ ap (size_of (type_at annotation_fields i)) (sym (annotation_place i h))

  annotation_start : get_or sizes 0 0 ≡ uint_or 0 (noted s (get_or places 0 0))
  unfolding size_as type_at core_at annotation_fields
  annotation_start = annotation_size 0 (omega arith)

  annotation_count_lem : get_or sizes 1 0 ≡ uint_or 0 (noted s (get_or places 1 0))
  unfolding size_as type_at core_at annotation_fields
  annotation_count_lem = annotation_size 1 (omega arith)

  annotation_label : get_or sizes 3 0 ≡ length_of (noted s (get_or places 3 0))
  unfolding size_as type_at core_at annotation_fields
  annotation_label = annotation_size 3 (omega arith)

  annotation_missing : missing annotation_fields (fields_at s at) ≡ is_absent (noted s (get_or places 0 0))
  unfolding missing_from annotation_fields
  annotation_missing = or_false (is_absent (value_in annotation_fields 0 (fields_at s at))) ∙ ap is_absent (sym (annotation_place 0 (omega arith)))

  pub annotation_is : (walk others low : ℕ) (count : Option ℕ) (label : Place) (close : ℕ) → walk ≡ walk_low annotation_fields (fields_at s at)
      → others ≡ cond (eqb (get_or places 0 0) 0) 6 0 → low ≡ least walk others → count ≡ count_by (get_or places 1 0) (get_or sizes 1 0)
      → label ≡ place_by (get_or places 3 0) (get_or sizes 3 0) → close ≡ close_at s at
      → record { low = low; entry = record { start = get_or sizes 0 0; count = count; texts = record { label = label } }; close = close } ≡ read_annotation s at
  unfolding read_annotation rules_of Ascending index_in same annotation_fields
  annotation_is walk others low count label close ew eo el eu ep ec =
      let e1 : low ≡ lowest (annotation_rules (fields_at s at)) =
      object_low_lem annotation_fields (fields_at s at) _ [] [] tt annotation_missing walk others low ew (eo ∙ absent_is s (get_or places 0 0)) el in
      let e2 = annotation_start ∙ ap (uint_or 0) (annotation_place 0 (omega arith)) in
      let e3 = eu ∙ count_by_lem s (get_or places 1 0) (get_or sizes 1 0) annotation_count_lem ∙ ap count_in (annotation_place 1 (omega arith)) in
      let e4 = ep ∙ place_by_lem s (get_or places 3 0) (get_or sizes 3 0) annotation_label ∙ ap raw_text_place (annotation_place 3 (omega arith)) in
      rw (← e1, ← e2, ← e3, ← e4, ← ec)
