-- The walk over the members of an object: what one member adds.
use Rattle.std.specs.Prelude.{None, Some, Option}
use mathlib.Core.Path.{◌≡◌, refl, sym, ap, ◌∙◌}
use mathlib.Core.Bool.{Bool, true, false, cond, not, ◌||◌}
use mathlib.Core.List.{List, [], ◌∷◌, map}
use mathlib.Core.Option.{Option as Maybe, some}
use Prim.Native.Nat.{ℕ, zero, suc, ◌≤◌, ◌<◌, ◌+◌, ◌-◌}
use native.Mathlib.Omega.{arith}
use Rattle.std.specs.Option.{is_some}
use Rattle.std.proofs.lemmas.Option.{some_pair_parts}
use lib.ListN.{length, get_or, set, length-set, get_or-eq_default}
use lib.Seq.{get_or-set_same, get_or-set_other, set_out}
use lib.Dec.{eqb, ltb}
use borrow.Author.Tests.{eqb-true, eqb-false, ltb-true, ltb-false, lt-ltb, le-ltb}
use Rattle.refusals.specs.Refusals.{lowest, least}
use Rattle.refusals.proofs.LeastLaws.{least_none, least_unit, least_assoc, Ascending, rules_of, either, lowest_either}
use Rattle.json_blocks.specs.TextBytes.{byte, blank, skip_blanks}
use Rattle.json_blocks.specs.Group.{colon_at}
use Rattle.json_blocks.specs.declared.Cursor.{Cursor}
use Rattle.json_blocks.proofs.ByteLaws.{inside, cond_elim, good_inside, no_blank, skip_on, skip_out, blanks_onward}
use Rattle.json_grammar.specs.Skip.{skip_string, skip_value}
use Rattle.json_walk.specs.declared.Member.{Member}
use Rattle.json_walk.specs.Members.{member_to, member_step, member_found, members_from, members_end_from, members_end}
use Rattle.json_walk.proofs.StepLaws.{member_steps, members_none}
use Rattle.json_walk.proofs.EndLaws.{members_found, members_over, members_end_found, members_end_over, member_places}
use Rattle.json_strings.specs.declared.Position.{Position}
use Rattle.json_strings.specs.Stream.{stream}
use Rattle.sigmf_texts.specs.Texts.{name_text}
use Rattle.sigmf_texts.specs.Lookup.{index_in}
use Rattle.sigmf_texts.specs.Form.{form_ok, form_of, part_after}
use Rattle.sigmf_texts.proofs.LookupLaws.{index_most}
use Rattle.sigmf_names.specs.declared.Object.{Object}
use Rattle.sigmf_names.specs.declared.Object.TheVariants as O
use Rattle.sigmf_values.specs.declared.FieldType.{FieldType}
use Rattle.sigmf_values.specs.declared.FieldType.TheVariants as T
use Rattle.sigmf_values.specs.Values.{part_of, has_type, uint_of}
use Rattle.sigmf_values.specs.ValueCode.{is_value}
use Rattle.sigmf_values.proofs.ValueLaws.{uint_typed}
use Rattle.sigmf_names.specs.Names.{Core, global_fields, capture_fields, annotation_fields, core_of, core_name, type_at}
use Rattle.sigmf_extensions.specs.Extensions.{member_name, member_value}
use Rattle.sigmf_names.proofs.NameLaws.{type_over}
use Rattle.sigmf_objects.specs.Fields.{Value, Field, field_of, fields_at, close_at, number_in, uint_number, last_where, value_from, value_in, misnamed, mistyped}
use Rattle.sigmf_objects.specs.Places.{noted, Noted, size_as, size_of, Measured, Within, Clear, walk_low}
use Rattle.sigmf_names.proofs.NameLaws.{known_formed}
use Rattle.sigmf_objects.proofs.NameLaws.{formed, unformed}

-- ---- 5 and 7
pub or_false : (a : Bool) → (a || false) ≡ a
or_false true = refl
or_false false = refl

pub low_none : (cs : List Core) → 0 ≡ walk_low cs []
unfolding misnamed mistyped lowest
low_none cs = refl

pub low_more : (cs : List Core) (f : Field) (fs : List Field) → walk_low cs (f ∷ fs) ≡ least (walk_low cs (f ∷ [])) (walk_low cs fs)
unfolding misnamed mistyped lowest rules_of either Ascending
low_more cs f fs =
    rw (or_false (not (form_ok f.name)), or_false (not (has_type (type_at cs (number_in cs f)) f.value.part)))
    (lowest_either 0 (5 ∷ 7 ∷ []) (not (form_ok f.name) ∷ not (has_type (type_at cs (number_in cs f)) f.value.part) ∷ []) (misnamed fs ∷ mistyped cs fs ∷ []) (omega arith, (omega arith, tt)))

-- one member
module _ (cs : List Core) (f : Field) where
  pub low_good : form_ok f.name ≡ true → has_type (type_at cs (number_in cs f)) f.value.part ≡ true → 0 ≡ walk_low cs (f ∷ [])
  unfolding misnamed mistyped lowest
  low_good p q = rw (p, q)

  pub low_mistyped : form_ok f.name ≡ true → has_type (type_at cs (number_in cs f)) f.value.part ≡ false → 7 ≡ walk_low cs (f ∷ [])
  unfolding misnamed mistyped lowest
  low_mistyped p q = rw (p, q)

  pub low_misnamed : form_ok f.name ≡ false → 5 ≡ walk_low cs (f ∷ [])
  unfolding misnamed lowest
  low_misnamed p = rw p

  pub low_known : form_ok f.name ≡ true → cond (has_type (type_at cs (number_in cs f)) f.value.part) 0 7 ≡ walk_low cs (f ∷ [])
  low_known p = go (has_type (type_at cs (number_in cs f)) f.value.part) refl where
    go : (t : Bool) → has_type (type_at cs (number_in cs f)) f.value.part ≡ t → cond t 0 7 ≡ walk_low cs (f ∷ [])
    go true q = low_good p q
    go false q = low_mistyped p q

  -- "all others are ignored"
  pub low_unknown : form_ok f.name ≡ true → length cs ≤ number_in cs f → 0 ≡ walk_low cs (f ∷ [])
  unfolding has_type
  low_unknown p h = low_good p (rw (← type_over cs (number_in cs f) h))

-- the member of the code, of field i, by its parts
module _ (kind : Object) (s : List ℕ) (m : Member) (i known : ℕ) (ei : i ≡ number_in (core_of kind) (field_of s m)) (ek : known ≡ length (core_of kind)) where
  module _ (raw : List ℕ) (er : raw ≡ part_of s m.name m.quote) (f : Option Position) (ef : part_after raw f ≡ form_of (name_text raw)) where
    formless : f ≡ None → 5 ≡ walk_low (core_of kind) (field_of s m ∷ [])
    formless e =
        low_misnamed (core_of kind) (field_of s m)
        (unformed (member_name s m) (ap (part_after raw) (sym e) ∙ ef ∙ ap (λ (x : List ℕ). form_of (name_text x)) er))

    in_form : (p : Position) → f ≡ Some p → known ≤ i → 0 ≡ walk_low (core_of kind) (field_of s m ∷ [])
    in_form p e h =
        low_unknown (core_of kind) (field_of s m)
        (formed (member_name s m) (stream raw p) (ap (part_after raw) (sym e) ∙ ef ∙ ap (λ (x : List ℕ). form_of (name_text x)) er)) (omega arith)

    pub member_bad : is_some f ≡ false → 5 ≡ walk_low (core_of kind) (field_of s m ∷ [])
    member_bad h = go f refl h where
      go : (x : Option Position) → f ≡ x → is_some x ≡ false → 5 ≡ walk_low (core_of kind) (field_of s m ∷ [])
      go None e h = formless e
      go (Some p) e h = cc

    pub member_unknown : is_some f ≡ true → known ≤ i → 0 ≡ walk_low (core_of kind) (field_of s m ∷ [])
    member_unknown h l = go f refl h where
      go : (x : Option Position) → f ≡ x → is_some x ≡ true → 0 ≡ walk_low (core_of kind) (field_of s m ∷ [])
      go None e h = cc
      go (Some p) e h = in_form p e l

  module _ (h : i < known) (wanted : FieldType) (ew : wanted ≡ type_at (core_of kind) i) (value : List ℕ) (ev : value ≡ part_of s m.value m.end) where
    name : form_ok (member_name s m) ≡ true
    name = known_formed kind (member_name s m) (omega arith)

    pub member_known : (l : ℕ) → l ≡ cond (has_type wanted value) 0 7 → l ≡ walk_low (core_of kind) (field_of s m ∷ [])
    member_known l el =
        el ∙ ap (λ (x : List ℕ). cond (has_type wanted x) 0 7) ev
        ∙ ap (λ (x : FieldType). cond (has_type x (member_value s m)) 0 7) (ew ∙ ap (type_at (core_of kind)) ei)
        ∙ low_known (core_of kind) (field_of s m) name

-- ---- a part of a wanted type
module _ (t : FieldType) (p : List ℕ) where
  module _ (b : Bool) (e : b ≡ has_type t p) where
    pub part_typed : b ≡ true → ◌≡◌ {A = ℕ} 0 (cond (has_type t p) 0 7)
    part_typed h = ap (λ (x : Bool). cond x 0 7) (sym h ∙ e)

    pub part_mistyped : b ≡ false → ◌≡◌ {A = ℕ} 7 (cond (has_type t p) 0 7)
    part_mistyped h = ap (λ (x : Bool). cond x 0 7) (sym h ∙ e)

  module _ (et : t ≡ T.Uint) (u : Option ℕ) (eu : u ≡ uint_of p) where
    pub uint_low : ◌≡◌ {A = ℕ} (cond (is_value u) 0 7) (cond (has_type t p) 0 7)
    unfolding has_type
    uint_low = ap (λ (x : Option ℕ). cond (is_value x) 0 7) eu ∙ ap (λ (x : Bool). cond x 0 7) (uint_typed p) ∙ ap (λ (x : FieldType). cond (has_type x p) 0 7) (sym et)

    pub uint_size : uint_number u ≡ size_as t p
    unfolding size_as
    uint_size = ap uint_number eu ∙ ap (λ (x : FieldType). size_as x p) (sym et)

-- ---- the members from a place on
abbrev pub fields_from : List ℕ → ℕ → List Field
fields_from s i = map (field_of s) (members_from s i)

-- ---- places
pub core_most : (kind : Object) → length (core_of kind) ≤ 20
unfolding global_fields capture_fields annotation_fields
core_most O.Global = omega arith
core_most O.Capture = omega arith
core_most O.Annotation = omega arith

noted_at : (s : List ℕ) (v e : ℕ) → 0 < v → e ≡ skip_value s v → some (record { at = v; part = part_of s v e }) ≡ noted s v
unfolding noted
noted_at s zero e h q = absurd (omega arith)
noted_at s (suc p) e h q = rw q

-- a place set for field n
module _ (s places : List ℕ) (n v e : ℕ) (h : n < length places) (hv : 0 < v) (he : e ≡ skip_value s v) where
  pub noted_set : (k : ℕ) → cond (eqb n k) (some (record { at = v; part = part_of s v e })) (noted s (get_or places k 0)) ≡ noted s (get_or (set places n v) k 0)
  noted_set k = go (eqb n k) refl where
    go : (t : Bool) → eqb n k ≡ t → cond t (some (record { at = v; part = part_of s v e })) (noted s (get_or places k 0)) ≡ noted s (get_or (set places n v) k 0)
    go true q = noted_at s v e hv he ∙ ap (noted s) (sym (ap (λ (x : ℕ). get_or (set places n v) x 0) (sym (eqb-true n k q)) ∙ get_or-set_same places n v 0 h))
    go false q = ap (noted s) (sym (get_or-set_other places n k v 0 (λ w. eqb-false n k q (sym w))))

-- and its size, of a known field
module _ (s places : List ℕ) (n v e : ℕ) (h : n < length places) (hv : 0 < v) (he : e ≡ skip_value s v) (cs : List Core) (sizes : List ℕ) (z : ℕ)
    (hz : n < length sizes) (ez : n < length cs → z ≡ size_as (type_at cs n) (part_of s v e)) where
  measured_set : (k : ℕ) → k < length cs → get_or sizes k 0 ≡ size_of (type_at cs k) (noted s (get_or places k 0))
      → get_or (set sizes n z) k 0 ≡ size_of (type_at cs k) (noted s (get_or (set places n v) k 0))
  measured_set k l m = go (eqb n k) refl ∙ ap (size_of (type_at cs k)) (noted_set s places n v e h hv he k) where
    go : (t : Bool) → eqb n k ≡ t
        → get_or (set sizes n z) k 0 ≡ size_of (type_at cs k) (cond t (some (record { at = v; part = part_of s v e })) (noted s (get_or places k 0)))
    go true q =
        let r = eqb-true n k q in
        ap (λ (x : ℕ). get_or (set sizes n z) x 0) (sym r) ∙ get_or-set_same sizes n z 0 hz ∙ ez (omega arith)
        ∙ ap (λ (x : ℕ). size_as (type_at cs x) (part_of s v e)) r
    go false q = get_or-set_other sizes n k z 0 (λ w. eqb-false n k q (sym w)) ∙ m

pub within_clear : (s places : List ℕ) → Clear places → Within s places
unfolding Within Clear
within_clear s places z k = rw (z k) (omega arith)

within_set : (s places : List ℕ) (n v : ℕ) → Within s places → v ≤ length s → Within s (set places n v)
unfolding Within
within_set s places n v w h k = go (eqb n k) refl (ltb n (length places)) refl where
  go : (t : Bool) → eqb n k ≡ t → (u : Bool) → ltb n (length places) ≡ u → get_or (set places n v) k 0 ≤ length s
  go true q true p = rw (← eqb-true n k q, get_or-set_same places n v 0 (ltb-true n (length places) p)) h
  go true q false p = rw (set_out places n v (ltb-false n (length places) p)) (w k)
  go false q u p = rw (get_or-set_other places n k v 0 (λ e. eqb-false n k q (sym e))) (w k)

-- ---- a value begins inside the text, or at its end
blanks_within : (s : List ℕ) (n i : ℕ) → length s - i < n → i ≤ length s → skip_blanks s i ≤ length s
blanks_within s zero i h l = absurd (omega arith)
blanks_within s (suc n) i h l = go (blank (byte s i)) refl (λ k. blanks_within s n (i + 1) (omega arith) k) where
  go : (t : Bool) → blank (byte s i) ≡ t → (i + 1 ≤ length s → skip_blanks s (i + 1) ≤ length s) → skip_blanks s i ≤ length s
  go true q f =
      let k = good_inside blank no_blank s i (byte s i) refl q in
      omega (arith, f (omega arith), skip_on blank no_blank s i (byte s i) refl q)
  go false q f = omega (arith, skip_out blank no_blank s i (byte s i) refl q)

colon_within : (s : List ℕ) (e : ℕ) (v : Cursor) → colon_at s e ≡ Some v → v.at ≤ length s
unfolding colon_at
colon_within s e v h =
    cond_elim (λ (x : Option Cursor). x ≡ Some v → v.at ≤ length s) (eqb (byte s (skip_blanks s e)) 0x3A) _ _
    (λ q g.
    let f : skip_blanks s (skip_blanks s e + 1) ≡ v.at = cc in
    let l = inside s (skip_blanks s e) 0x3A (sym (eqb-true _ _ q)) (omega arith) in
    rw (← f) (blanks_within s (suc (length s)) (skip_blanks s e + 1) (omega arith) (omega arith)))
    (λ _ g. cc) h

-- ---- the value of a member ends where its brackets and quotes say
pub record MemberValue (s : List ℕ) (m : Member) : Type 0 where
  pub end : m.end ≡ skip_value s m.value
  pub within : m.value ≤ length s

member_value_lem : (s : List ℕ) (i : ℕ) (m : Member) (j : ℕ) → member_step s i ≡ Some (m, j) → MemberValue s m
unfolding member_step
member_value_lem s i m j e =
    cond_elim (λ (x : Option (Member × ℕ)). x ≡ Some (m, j) → MemberValue s m) (eqb (byte s i) 0x22) _ _
    (λ _. to (colon_at s (skip_string s (i + 1))) refl) (λ _ h. cc) e
  where
    to : (r : Option Cursor) → colon_at s (skip_string s (i + 1)) ≡ r → member_to s i (skip_string s (i + 1)) r ≡ Some (m, j) → MemberValue s m
    to (Some v) p h =
        let q = (some_pair_parts _ _ _ _ h).0 in
        let ev : v.at ≡ m.value = cc in
        let ee : skip_value s v.at ≡ m.end = cc in
        record { end = sym ee ∙ ap (skip_value s) ev; within = rw (← ev) (colon_within s (skip_string s (i + 1)) v p) }
    to None p h = cc

-- ---- where the members of an object inside the text end
pub close_inside : (s : List ℕ) (at : ℕ) → at < length s → close_at s at ≡ members_end s at
unfolding close_at
close_inside s at h = rw (lt-ltb at (length s) h)

-- ---- the walk stands at a place, with what it has found so far
pub record Walking (s : List ℕ) (cs : List Core) (start at low : ℕ) (places sizes : List ℕ) : Type 0 where
  pub lows : least low (walk_low cs (fields_from s at)) ≡ walk_low cs (fields_from s start)
  pub close : members_end_from s at ≡ members_end_from s start
  pub values : (k : ℕ) → k < length cs → value_from cs k (noted s (get_or places k 0)) (fields_from s at) ≡ value_in cs k (fields_from s start)
  pub within : Within s places
  pub measured : (k : ℕ) → k < length cs → get_or sizes k 0 ≡ size_of (type_at cs k) (noted s (get_or places k 0))
  pub slots : length places ≡ length cs + 1
  pub size_slots : length sizes ≡ length cs + 1

module _ (s : List ℕ) (cs : List Core) where
  pub walk_begin : (at : ℕ) (places sizes : List ℕ) → Clear places → Clear sizes → length places ≡ length cs + 1 → length sizes ≡ length cs + 1
      → Walking s cs at at 0 places sizes
  unfolding noted Clear
  walk_begin at places sizes z y n l = record {
    lows = sym (least_none 0 (walk_low cs (fields_from s at)) refl);
    close = refl;
    values = λ k h. rw (z k);
    within = within_clear s places z;
    measured = λ k h. rw (z k, y k);
    slots = n;
    size_slots = l;
  }

  module _ (start at low : ℕ) (places sizes : List ℕ) (w : Walking s cs start at low places sizes) where
    module _ (m : Member) (j : ℕ) (e : member_step s at ≡ Some (m, j)) where
      from : fields_from s at ≡ field_of s m ∷ fields_from s j
      from = ap (map (field_of s)) (members_found s at m j e)

      pub step_past : (at < j) × (at < length s)
      step_past = member_steps s at m j (ap member_found e)

      slot : number_in cs (field_of s m) < length places
      slot = omega (arith, index_most core_name cs (field_of s m).name, w.slots)

      size_slot : number_in cs (field_of s m) < length sizes
      size_slot = omega (arith, index_most core_name cs (field_of s m).name, w.size_slots)

      module _ (raw : List ℕ) (n : ℕ) (er : raw ≡ part_of s m.name m.quote) (en : n ≡ index_in core_name cs (name_text raw)) where
        pub number_is : n ≡ number_in cs (field_of s m)
        number_is = en ∙ ap (λ (x : List ℕ). index_in core_name cs (name_text x)) er

        pub number_inside : n < length places
        number_inside = rw number_is slot

        pub size_inside : n < length sizes
        size_inside = rw number_is size_slot

      pub walk_on : (n l z : ℕ) → n ≡ number_in cs (field_of s m) → l ≡ least low (walk_low cs (field_of s m ∷ []))
          → (n < length cs → z ≡ size_as (type_at cs n) (member_value s m)) → Walking s cs start j l (set places n m.value) (set sizes n z)
      unfolding last_where
      walk_on n l z en el ez = record {
        lows =
            ap (λ (x : ℕ). least x (walk_low cs (fields_from s j))) el
            ∙ least_assoc low (walk_low cs (field_of s m ∷ [])) (walk_low cs (fields_from s j))
            ∙ ap (least low) (sym (low_more cs (field_of s m) (fields_from s j)))
            ∙ ap (λ (x : List Field). least low (walk_low cs x)) (sym from)
            ∙ w.lows;
        close = sym (members_end_found s at m j e) ∙ w.close;
        values =
            λ k h.
            ap (λ (z : Maybe Value). value_from cs k z (fields_from s j))
            (sym (noted_set s places n m.value m.end (rw en slot) (omega (arith, (member_places s at m j e).value)) (member_value_lem s at m j e).end k)
            ∙ ap (λ (x : ℕ). cond (eqb x k) (some (field_of s m).value) (noted s (get_or places k 0))) en)
            ∙ ap (value_from cs k (noted s (get_or places k 0))) (sym from)
            ∙ w.values k h;
        within = within_set s places n m.value w.within (member_value_lem s at m j e).within;
        measured =
            λ k h.
            measured_set s places n m.value m.end (rw en slot) (omega (arith, (member_places s at m j e).value)) (member_value_lem s at m j e).end
            cs sizes z (rw en size_slot) ez k h (w.measured k h);
        slots = length-set places n m.value ∙ w.slots;
        size_slots = length-set sizes n z ∙ w.size_slots;
      }

    module _ (e : member_step s at ≡ None) where
      over : fields_from s at ≡ []
      over = ap (map (field_of s)) (members_over s at e)

      module _ (object : ℕ) (h : object < length s) (es : start ≡ skip_blanks s (object + 1)) where
        pub walk_low_lem : low ≡ walk_low cs (fields_at s object)
        walk_low_lem =
            least_unit low ∙ ap (least low) (low_none cs ∙ ap (walk_low cs) (sym over)) ∙ w.lows
            ∙ ap (λ (i : ℕ). walk_low cs (fields_from s i)) es

        pub walk_close : at ≡ close_at s object
        walk_close = sym (members_end_over s at e) ∙ w.close ∙ ap (members_end_from s) es ∙ sym (close_inside s object h)

        pub walk_noted : Noted s cs (fields_at s object) places
        unfolding Noted last_where
        walk_noted k l =
            ap (λ (i : ℕ). value_in cs k (fields_from s i)) (sym es) ∙ sym (w.values k l) ∙ ap (value_from cs k (noted s (get_or places k 0))) over

        pub walk_measured : Measured cs (fields_at s object) sizes
        unfolding Measured Noted
        walk_measured k l = w.measured k l ∙ ap (size_of (type_at cs k)) (sym (walk_noted k l))

-- ---- an object past the text's end
module _ (s : List ℕ) (at : ℕ) (h : length s ≤ at) where
  pub close_past : at ≡ close_at s at
  unfolding close_at
  close_past = rw (le-ltb at (length s) h)

  none_past : fields_at s at ≡ []
  none_past =
      ap (map (field_of s)) (members_none s (skip_blanks s (at + 1)) 0
      (get_or-eq_default s 0 (omega (arith, blanks_onward s (at + 1)))) (λ z. omega arith))

  pub low_past : (cs : List Core) → 0 ≡ walk_low cs (fields_at s at)
  low_past cs = low_none cs ∙ ap (walk_low cs) (sym none_past)

  pub noted_past : (cs : List Core) (places : List ℕ) → Clear places → Noted s cs (fields_at s at) places
  unfolding Noted Clear noted last_where
  noted_past cs places z k l = rw (none_past, z k)

  pub measured_past : (cs : List Core) (sizes : List ℕ) → Clear sizes → Measured cs (fields_at s at) sizes
  unfolding Measured Clear last_where
  measured_past cs sizes z k l = rw (none_past, z k)
