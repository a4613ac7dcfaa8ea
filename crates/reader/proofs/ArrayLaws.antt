-- The elements of an array, read one by one into flat memory.
use Rattle.std.specs.Prelude.{None, Some, Option}
use mathlib.Core.Path.{◌≡◌, refl, sym, ap, ◌∙◌}
use mathlib.Core.Bool.{Bool, true, false, cond}
use mathlib.Core.List.{List, [], ◌∷◌, ◌++◌, append_assoc, append-nil}
use mathlib.Core.Option.{Option as Maybe, none, some}
use Prim.Native.Nat.{ℕ, zero, suc, ◌≤◌, ◌<◌, ◌+◌, ◌-◌, ◌*◌}
use native.Mathlib.Omega.{arith}
use lib.ListN.{length, take, drop, length-append, length-take, length-drop}
use lib.Seq.{length-take-le, take_at}
use lib.Dec.{eqb, ltb, leb}
use borrow.Author.Tests.{eqb-true, ne_eqb, leb-true, leb-false}
use Rattle.refusals.specs.Refusals.{Rule, rule, lowest, least}
use Rattle.refusals.proofs.LeastLaws.{least_none, least_only, least_low, least_high, least_unit, least_assoc}
use Rattle.json_blocks.specs.TextBytes.{byte, to, skip_blanks}
use Rattle.json_blocks.proofs.ByteLaws.{inside, cond_elim, blanks_onward}
use Rattle.json_grammar.specs.ByPlace.{value_at}
use Rattle.json_grammar.specs.Skip.{skip_value}
use Rattle.json_strings.specs.Decode.{decoded_from}
use Rattle.json_names.specs.Same.{same}
use Rattle.json_names.proofs.SameLaws.{same_is}
use Rattle.json_strings.proofs.LengthLaws.{decoded_short}
use Rattle.json_walk.specs.declared.Member.{Member}
use Rattle.json_walk.specs.declared.Element.{Element}
use Rattle.json_walk.specs.Members.{next_item, member_step, member_found, element_step, members_end_from, members_end, elements_from, elements_at}
use Rattle.json_walk.proofs.StepLaws.{member_steps}
use Rattle.json_walk.proofs.EndLaws.{members_found, members_over, members_end_found, members_end_over, member_places, elements_found, elements_over}
use Rattle.json_walk.proofs.ReadLaws.{Elements, ElementRead, elements_start, elements_close, element_read, element_close, object_read, object_end, value_inside}
use Rattle.sigmf_texts.specs.Lookup.{index_in}
use Rattle.sigmf_values.specs.Values.{part_of}
use Rattle.sigmf_names.specs.Names.{Core, core_name, capture_fields, annotation_fields}
use Rattle.sigmf_extensions.specs.Extensions.{member_name}
use Rattle.table.specs.Memory.{put_row}
use Rattle.table.specs.Rows.{flat}
use Rattle.table.proofs.RowLaws.{put_room}
use Rattle.sigmf_objects.specs.Fields.{Value, field_of, fields_at, close_at, number_in, last_where, value_from, value_in, is_absent, missing_from}
use Rattle.sigmf_objects.specs.Capture.{read_capture}
use Rattle.sigmf_objects.specs.Annotation.{read_annotation}
use Rattle.sigmf_objects.proofs.WalkLaws.{fields_from, close_inside}
use Rattle.reader.specs.Kind.{Kind}
use Rattle.reader.specs.Kind as K
use Rattle.reader.specs.File.{is_object}
use Rattle.reader.specs.Parts.{top_levels, array_levels, entry_bytes, WasRead, entry_size, object_low, object_numbers, element_low, element_end, element_put, array_low, EntriesKept}
use Rattle.reader.proofs.StageLaws.{or_falses}

-- ---- an object with core:sample_start is long
module _ (s : List ℕ) where
  ends_onward : (n i : ℕ) → length s - i < n → i ≤ members_end_from s i
  ends_onward zero i h = absurd (omega arith)
  ends_onward (suc n) i h = go (member_step s i) refl (λ j. ends_onward n j) where
    go : (x : Option (Member × ℕ)) → member_step s i ≡ x → ((j : ℕ) → length s - j < n → j ≤ members_end_from s j) → i ≤ members_end_from s i
    go (Some (m, j)) e k =
        let o = member_steps s i m j (ap member_found e) in
        omega (arith, members_end_found s i m j e, k j (omega arith), o.0)
    go None e k = omega (arith, members_end_over s i e)

  module _ (c : Core) (cs : List Core) (long : 17 ≤ length (core_name c)) where
    -- the member with the first core name
    name_long : (i : ℕ) (m : Member) (j : ℕ) → member_step s i ≡ Some (m, j) → number_in (c ∷ cs) (field_of s m) ≡ 0 → i + 19 ≤ m.value
    unfolding index_in
    name_long i m j e h = go (same (member_name s m) (core_name c)) refl h where
      go : (t : Bool) → same (member_name s m) (core_name c) ≡ t → cond t 0 (suc (index_in core_name cs (member_name s m))) ≡ 0 → i + 19 ≤ m.value
      go true q h =
          let p = member_places s i m j e in
          let raw : List ℕ = part_of s m.name m.quote in
          let n : length (decoded_from raw 0) ≡ length (core_name c) = ap length (same_is (member_name s m) (core_name c) q) in
          let k : length raw ≤ m.quote - m.name = omega (arith, length-take (m.quote - m.name) (drop m.name s)) in
          omega (arith, p.name, p.value, decoded_short raw)
      go false q h = absurd (omega arith)

    members_long : (n i : ℕ) → length s - i < n → (z : Maybe Value) → is_absent z ≡ true
        → is_absent (value_from (c ∷ cs) 0 z (fields_from s i)) ≡ false → i + 19 ≤ members_end_from s i
    unfolding last_where
    members_long zero i h z a b = absurd (omega arith)
    members_long (suc n) i h z a b = go (member_step s i) refl (λ j. members_long n j) where
      step : (m : Member) (j : ℕ) → member_step s i ≡ Some (m, j) → (t : Bool) → eqb (number_in (c ∷ cs) (field_of s m)) 0 ≡ t
          → is_absent (value_from (c ∷ cs) 0 (cond t (some (field_of s m).value) z) (fields_from s j)) ≡ false
          → ((j : ℕ) → length s - j < n → (z : Maybe Value) → is_absent z ≡ true → is_absent (value_from (c ∷ cs) 0 z (fields_from s j)) ≡ false → j + 19 ≤ members_end_from s j)
          → i + 19 ≤ members_end_from s i
      step m j e true q v k =
          omega (arith, name_long i m j e (eqb-true _ _ q), (member_places s i m j e).end, (member_places s i m j e).next, ends_onward (suc (length s)) j (omega arith), members_end_found s i m j e)
      step m j e false q v k =
          let o = member_steps s i m j (ap member_found e) in
          omega (arith, o.0, k j (omega (arith, o.0, o.1)) z a v, members_end_found s i m j e)

      go : (x : Option (Member × ℕ)) → member_step s i ≡ x
          → ((j : ℕ) → length s - j < n → (z : Maybe Value) → is_absent z ≡ true → is_absent (value_from (c ∷ cs) 0 z (fields_from s j)) ≡ false → j + 19 ≤ members_end_from s j)
          → i + 19 ≤ members_end_from s i
      go (Some (m, j)) e k = step m j e (eqb (number_in (c ∷ cs) (field_of s m)) 0) refl (rw (members_found s i m j e) at b) k
      go None e k =
          let v : is_absent z ≡ false = rw (members_over s i e) at b in
          let f : true ≡ false = sym a ∙ v in
          let x : ◌≡◌ {A = ℕ} 0 1 = cc in
          absurd (omega arith)

    object_long : (at : ℕ) → is_absent (value_in (c ∷ cs) 0 (fields_at s at)) ≡ false → at + entry_bytes ≤ members_end s at
    object_long at e = omega (arith, members_long (suc (length s)) (skip_blanks s (at + 1)) (omega arith) none refl e, blanks_onward s (at + 1))

  -- of the rules 5 and 6 neither holds
  none_missing : (a m : Bool) (rs : List Rule) → lowest (rule 5 a ∷ rule 6 m ∷ rs) ≡ 0 → m ≡ false
  unfolding lowest
  none_missing true m rs e = absurd (omega arith)
  none_missing false true rs e = absurd (omega arith)
  none_missing false false rs e = refl

  kind_long : (k : Kind) (at : ℕ) → object_low k s at ≡ 0 → at + entry_bytes ≤ members_end s at
  unfolding read_capture read_annotation missing_from capture_fields annotation_fields
  kind_long K.Capture at e = object_long _ _ (omega arith) at (or_falses _ _ (none_missing _ _ _ e)).0
  kind_long K.Annotation at e = object_long _ _ (omega arith) at (or_falses _ _ (none_missing _ _ _ e)).0

  -- an element that gives no cause for a refusal is an object, and takes `entry_bytes` at least
  element_long : (k : Kind) (at : ℕ) → element_low k s at ≡ 0 → (is_object s at ≡ true) × (at + entry_bytes ≤ members_end s at)
  unfolding element_low
  element_long k at e = go (is_object s at) refl e where
    go : (t : Bool) → is_object s at ≡ t → cond t (object_low k s at) 4 ≡ 0 → (is_object s at ≡ true) × (at + entry_bytes ≤ members_end s at)
    go true q h = (q, kind_long k at h)
    go false q h = absurd (omega arith)

-- ---- rows put
module _ (w n : ℕ) (out xs : List ℕ) (h : length xs ≡ w) where
  put_take : w * n + w ≤ length out → take (w * (n + 1)) (put_row w out n xs) ≡ take (w * n) out ++ xs
  put_take r =
      let z : length (take (w * n) out ++ xs) ≡ w * (n + 1) = omega (arith, length-append (take (w * n) out) xs, length-take-le (w * n) out (omega arith)) in
      rw (put_room w out n xs r) (take_at (take (w * n) out ++ xs) (drop (w * n + w) out) (w * (n + 1)) z)

  put_length : length (put_row w out n xs) ≡ length out
  unfolding put_row
  put_length =
      cond_elim (λ (l : List ℕ). length l ≡ length out) (leb (w * n + w) (length out)) _ _
      (λ q.
      let l = leb-true (w * n + w) (length out) q in
      omega (arith, length-append (take (w * n) out ++ xs) (drop (w * n + w) out), length-append (take (w * n) out) xs, length-take-le (w * n) out (omega arith), length-drop (w * n + w) out))
      (λ _. refl)

numbers_length : (k : Kind) (s : List ℕ) (at : ℕ) → length (object_numbers k s at) ≡ entry_size k
numbers_length K.Capture s at = refl
numbers_length K.Annotation s at = refl

-- ---- an element
put_same : (k : Kind) (s : List ℕ) (at : ℕ) (out : List ℕ) (n : ℕ) → length (element_put k s at out n) ≡ length out
put_same k s at out n =
    cond_elim (λ (l : List ℕ). length l ≡ length out) (is_object s at) _ _
    (λ _. put_length (entry_size k) n out (object_numbers k s at) (numbers_length k s at)) (λ _. refl)

-- the value found is the one that is passed
skip_is : (s : List ℕ) (p w : ℕ) (rest : List Element) → elements_from s p ≡ record { at = p; end = w } ∷ rest → w ≡ skip_value s p
unfolding element_step
skip_is s p w rest e = go (ltb p (skip_value s p)) refl where
  go : (t : Bool) → ltb p (skip_value s p) ≡ t → w ≡ skip_value s p
  go true q =
      let f = elements_found s p (record { at = p; end = skip_value s p }) (next_item s (skip_value s p)) (rw q) in
      let h : record { at = p; end = skip_value s p } ∷ elements_from s (next_item s (skip_value s p)) ≡ record { at = p; end = w } ∷ rest = sym f ∙ e in
      let x : ◌≡◌ {A = Element} (record { at = p; end = skip_value s p }) (record { at = p; end = w }) = cc in
      sym (ap (λ (y : Element). y.end) x)
  go false q =
      let f = elements_over s p (rw q) in
      let h : ◌≡◌ {A = List Element} [] (record { at = p; end = w } ∷ rest) = sym f ∙ e in
      let z : ◌≡◌ {A = ℕ} 0 1 = cc in
      absurd (omega arith)

module _ (d : ℕ) (s : List ℕ) (at : ℕ) (b : byte s at ≡ 0x7B) (r : WasRead (suc d) s at) where
  pub close_ends : close_at s at + 1 ≡ r.0
  close_ends = omega (arith, (object_end d s at r.0 r.1 b).1, close_inside s at (inside s at 0x7B (sym b) (omega arith)))

  pub close_fits : close_at s at + 1 ≤ length s
  close_fits = omega (arith, close_ends, value_inside (suc d) s at (record { at = r.0 }) r.1)

ends_object : (s : List ℕ) (at : ℕ) → byte s at ≡ 0x7B → element_end s at ≡ members_end s at + 1
unfolding element_end
ends_object s at b = rw (b, close_inside s at (inside s at 0x7B (sym b) (omega arith)))

module _ (k : Kind) (s : List ℕ) (at n : ℕ) (out : List ℕ) where
  pub element_object : byte s at ≡ 0x7B → (low close : ℕ) (after : List ℕ) → low ≡ object_low k s at → close ≡ close_at s at → after ≡ put_row (entry_size k) out n (object_numbers k s at)
      → (low ≡ element_low k s at) × ((close + 1 ≡ element_end s at) × (after ≡ element_put k s at out n))
  unfolding element_low element_end
  element_object b low close after el ec ea = (rw b el, (rw (b, ec), rw b ea))

  pub element_other : (byte s at ≡ 0x7B → ⊥) → (end : ℕ) → end ≡ skip_value s at → (4 ≡ element_low k s at) × ((end ≡ element_end s at) × (out ≡ element_put k s at out n))
  unfolding element_low element_end
  element_other b end e = (rw (ne_eqb (byte s at) 0x7B b), (rw (ne_eqb (byte s at) 0x7B b) e, rw (ne_eqb (byte s at) 0x7B b)))

-- ---- the walk over the array at a place stands at p, with n elements read
pub record Walking (k : Kind) (s : List ℕ) (at p n low : ℕ) (m out : List ℕ) : Type 0 where
  pub end : ℕ
  pub read : value_at top_levels s at ≡ to end
  pub walk : Elements array_levels s end p
  pub counted : n + length (elements_from s p) ≡ length (elements_at s at)
  pub lows : least low (array_low k s (elements_from s p)) ≡ array_low k s (elements_at s at)
  pub few : n ≤ p
  pub long : length out ≡ length m
  pub rows : low ≡ 0 → (entry_bytes * n ≤ p) × (take (entry_size k * n) out ++ flat (λ e. object_numbers k s e.at) (elements_from s p) ≡ flat (λ e. object_numbers k s e.at) (elements_at s at))

module _ (k : Kind) (s : List ℕ) (at : ℕ) (m : List ℕ) where
  pub walk_begin : (p : ℕ) → p ≡ skip_blanks s (at + 1) → WasRead top_levels s at → byte s at ≡ 0x5B → Walking k s at p 0 0 m m
  walk_begin p ep r b = rw ep (record {
    end = r.0;
    read = r.1;
    walk = elements_start array_levels s at r.0 r.1 b;
    counted = omega arith;
    lows = sym (least_none 0 (array_low k s (elements_at s at)) refl);
    few = omega arith;
    long = refl;
    rows = λ _. (omega arith, let z : entry_size k * 0 ≡ 0 = omega arith in rw z);
  })

  module _ (p n low : ℕ) (out : List ℕ) (x : Walking k s at p n low m out) (b : byte s p ≡ 0x5D) where
    none_left : elements_from s p ≡ []
    none_left = elements_close s p b

    pub walk_low_lem : low ≡ array_low k s (elements_at s at)
    unfolding array_low
    walk_low_lem = least_unit low ∙ ap (λ (l : List Element). least low (array_low k s l)) (sym none_left) ∙ x.lows

    pub walk_kept : low ≡ 0 → EntriesKept k s (elements_at s at) out n
    unfolding flat
    walk_kept e =
        let f = ap length none_left in (
          omega (arith, x.counted),
          sym (append-nil (take (entry_size k * n) out))
              ∙ ap (λ (l : List Element). take (entry_size k * n) out ++ flat (λ e. object_numbers k s e.at) l) (sym none_left)
              ∙ (x.rows e).1,
        )

    pub walk_end : value_at top_levels s at ≡ to (p + 1)
    walk_end = x.read ∙ ap to (sym (element_close array_levels s x.end p x.walk b))

pub least_zero : (a b : ℕ) → least a b ≡ 0 → (a ≡ 0) × (b ≡ 0)
least_zero zero b e = (refl, least_none 0 b refl ∙ e)
least_zero (suc a) zero e = (least_only (suc a) 0 (λ z. omega arith) refl ∙ e, refl)
least_zero (suc a) (suc b) e = go (leb (suc a) (suc b)) refl where
  go : (t : Bool) → leb (suc a) (suc b) ≡ t → (suc a ≡ 0) × (suc b ≡ 0)
  go true q = absurd (omega (arith, least_low (suc a) (suc b) (λ z. omega arith) (λ z. omega arith) (leb-true _ _ q)))
  go false q = absurd (omega (arith, least_high (suc a) (suc b) (λ z. omega arith) (λ z. omega arith) (leb-false _ _ q)))

-- n entries of `entry_bytes` each leave room for one more
entry_room : (k : Kind) (n l m : ℕ) → entry_size k * l ≤ entry_bytes * m → entry_bytes * (n + 1) ≤ l → entry_size k * n + entry_size k ≤ m
entry_room K.Capture n l m h g = omega arith
entry_room K.Annotation n l m h g = omega arith

module _ (k : Kind) (s : List ℕ) (at p n low : ℕ) (m out : List ℕ) (x : Walking k s at p n low m out) (b : byte s p ≡ 0x5D → ⊥) where
  walk_element : ElementRead array_levels s x.end p (element_end s p)
  unfolding element_end
  walk_element = go (is_object s p) refl where
    go : (t : Bool) → is_object s p ≡ t → ElementRead array_levels s x.end p (cond t (close_at s p + 1) (skip_value s p))
    go true q =
        let e = eqb-true (byte s p) 0x7B q in
        rw (close_inside s p (inside s p 0x7B (sym e) (omega arith))) (object_read s x.end p 29 x.walk e)
    go false q =
        let r = element_read array_levels s x.end p x.walk b in
        rw (← skip_is s p r.0 _ r.1.found) r.1

  pub walk_read : WasRead array_levels s p
  walk_read = (element_end s p, walk_element.value)

  pub walk_past : (p < next_item s (element_end s p)) × (p < length s)
  walk_past = (omega (arith, walk_element.less, walk_element.onward), omega (arith, walk_element.less, walk_element.inside))

  module _ (room : entry_size k * length s ≤ entry_bytes * length m) where
    row_more : element_low k s p ≡ 0 → low ≡ 0
        → (entry_bytes * (n + 1) ≤ next_item s (element_end s p))
        × (take (entry_size k * (n + 1)) (element_put k s p out n) ++ flat (λ e. object_numbers k s e.at) (elements_from s (next_item s (element_end s p)))
        ≡ flat (λ e. object_numbers k s e.at) (elements_at s at))
    unfolding flat
    row_more f e =
        let l = element_long s k p f in
        let o = x.rows e in
        let c : element_end s p ≡ members_end s p + 1 = object_past l.0 in
        let w = walk_element in
        let g : entry_bytes * (n + 1) ≤ element_end s p = omega (arith, l.1, o.0) in
        let r = entry_room k n (length s) (length out) (omega (arith, x.long)) (omega (arith, w.inside)) in (
          omega (arith, w.onward),
          rw (l.0, put_take (entry_size k) n out (object_numbers k s p) (numbers_length k s p) r)
              (append_assoc (take (entry_size k * n) out) (object_numbers k s p) _
              ∙ ap (λ (es : List Element). take (entry_size k * n) out ++ flat (λ e. object_numbers k s e.at) es) (sym w.found)
              ∙ o.1),
        )
      where
        object_past : is_object s p ≡ true → element_end s p ≡ members_end s p + 1
        object_past q = ends_object s p (eqb-true (byte s p) 0x7B q)

    pub walk_on : (low' : ℕ) → low' ≡ least low (element_low k s p) → (out' : List ℕ) → out' ≡ element_put k s p out n → (q : ℕ) → q ≡ next_item s (element_end s p)
        → Walking k s at q (n + 1) low' m out'
    unfolding array_low
    walk_on low' el out' eo q eq =
        let w = walk_element in
        rw (eo, eq) (record {
          end = x.end;
          read = x.read;
          walk = w.rest;
          counted = omega (arith, ap length w.found, x.counted);
          lows =
              ap (λ (l : ℕ). least l (array_low k s (elements_from s (next_item s (element_end s p))))) el
              ∙ least_assoc low (element_low k s p) (array_low k s (elements_from s (next_item s (element_end s p))))
              ∙ ap (λ (es : List Element). least low (array_low k s es)) (sym w.found)
              ∙ x.lows;
          few = omega (arith, x.few, w.less, w.onward);
          long = put_same k s p out n ∙ x.long;
          rows = λ e. let z = least_zero low (element_low k s p) (sym el ∙ e) in row_more z.1 z.0;
        })
