-- The global object from the places of its fields.
use mathlib.Core.Path.{◌≡◌, refl, sym, ap, ◌∙◌}
use mathlib.Core.Bool.{Bool, true, false, cond, not, ◌||◌}
use mathlib.Core.List.{List, [], ◌∷◌}
use Prim.Native.Nat.{ℕ, zero, suc, ◌≤◌, ◌<◌}
use native.Mathlib.Omega.{arith}
use lib.ListN.{length, get_or}
use lib.Dec.{eqb}
use borrow.Author.Tests.{le-leb, lt-leb}
use Rattle.refusals.specs.Refusals.{rule, lowest, least}
use Rattle.refusals.proofs.LeastLaws.{least_none, Ascending, rules_of, either, lowest_either}
use Rattle.limits.specs.Limits.{channels}
use Rattle.json_blocks.specs.TextBytes.{within}
use Rattle.json_blocks.specs.Lists.{any}
use Rattle.json_grammar.specs.Skip.{skip_value}
use Rattle.sigmf_datatypes.specs.Datatypes.{datatypes, is_listed}
use Rattle.json_names.specs.Same.{same}
use Rattle.sigmf_texts.specs.Lookup.{index_in}
use Rattle.sigmf_texts.specs.Texts.{value_text, version_ok, code_of}
use Rattle.sigmf_extensions.specs.declared.Extension.{Extension}
use Rattle.sigmf_extensions.specs.Extensions.{entries_at, is_malformed, is_needed, entries_rules}
use Rattle.sigmf_extensions.proofs.EntriesLaws.{no_entries}
use Rattle.sigmf_values.specs.Values.{part_of, is_true}
use Rattle.sigmf_names.specs.Names.{global_fields, core_at, type_at}
use Rattle.table.specs.declared.Globals.{Globals}
use Rattle.sigmf_objects.specs.Fields.{fields_at, close_at, value_in, is_absent, uint_or, missing_from, missing}
use Rattle.sigmf_objects.specs.Places.{noted, Noted, size_as, length_of, size_of, Measured, Fitting, walk_low}
use Rattle.sigmf_objects.specs.Global.{is_other_version, other_version, datatype_code, is_other_datatype, other_datatype, channels_of, are_bad_channels, bad_channels, entries_of, bad_extension, needs_extension, lacks_dataset, no_dataset, global_rules, rate_place, globals_of, globals_in, read_global}
use Rattle.sigmf_objects.specs.GlobalPlaces.{placed, first_rules, later_rules, placed_rules}
use Rattle.sigmf_objects.proofs.WalkLaws.{or_false}
use Rattle.sigmf_objects.proofs.ValueLaws.{given_none, absent, present, zero_absent, given_some, uint_by_lem}
use Rattle.sigmf_objects.proofs.ObjectLaws.{object_low_lem}

-- ---- one place
module _ (s : List ℕ) (p : ℕ) where
  pub code_absent : p ≡ 0 → length datatypes ≡ datatype_code (noted s p)
  code_absent e = given_none s p e (length datatypes) (λ v. code_of (value_text v.part))

  rate_by : (n : ℕ) → n ≡ length_of (noted s p) → record { at = p; len = n } ≡ rate_place (noted s p)
  unfolding noted
  rate_by n e = go p refl where
    go : (q : ℕ) → p ≡ q → record { at = p; len = n } ≡ rate_place (noted s q)
    go zero z = rw (e, z)
    go (suc q) z = rw (e, z)

  module _ (f : p ≡ 0 → ⊥) (part : List ℕ) (e : part ≡ part_of s p (skip_value s p)) where
    pub code_is : (n : ℕ) → n ≡ code_of (value_text part) → n ≡ datatype_code (noted s p)
    code_is n q = q ∙ given_some s p f part e (length datatypes) (λ v. code_of (value_text v.part))

    version_is : not (version_ok part) ≡ is_other_version (noted s p)
    version_is = ap not (given_some s p f part e false (λ v. version_ok v.part))

-- ---- the entries of core:extensions
module _ (s : List ℕ) (p : ℕ) where
  pub entries_absent : p ≡ 0 → 0 ≡ lowest (entries_rules (entries_of s (noted s p)))
  entries_absent e = no_entries ∙ ap (λ (es : List Extension). lowest (entries_rules es)) (given_none s p e [] (λ v. entries_at s v.at))

  pub entries_given : (p ≡ 0 → ⊥) → (n : ℕ) → n ≡ lowest (entries_rules (entries_at s p)) → n ≡ lowest (entries_rules (entries_of s (noted s p)))
  entries_given f n q =
      q ∙ ap (λ (es : List Extension). lowest (entries_rules es)) (given_some s p f (part_of s p (skip_value s p)) refl [] (λ v. entries_at s v.at))

-- ---- 6, 8 and 9
module _ (s : List ℕ) (p q : ℕ) where
  pub first_bare : p ≡ 0 → 6 ≡ lowest (first_rules (noted s p) (noted s q))
  unfolding lowest
  first_bare e = rw (← absent s p e)

  module _ (f : p ≡ 0 → ⊥) where
    pub first_unversioned : q ≡ 0 → 6 ≡ lowest (first_rules (noted s p) (noted s q))
    unfolding lowest
    first_unversioned e = rw (← present s p f, ← absent s q e)

    module _ (g : q ≡ 0 → ⊥) (part : List ℕ) (e : part ≡ part_of s q (skip_value s q)) where
      pub first_version : version_ok part ≡ false → 8 ≡ lowest (first_rules (noted s p) (noted s q))
      unfolding lowest
      first_version h = rw (← present s p f, ← present s q g, ← version_is s q g part e, h)

      module _ (h : version_ok part ≡ true) (n : ℕ) (en : n ≡ datatype_code (noted s p)) where
        pub first_unlisted : is_listed n ≡ false → 9 ≡ lowest (first_rules (noted s p) (noted s q))
        unfolding lowest
        first_unlisted l = rw (← present s p f, ← present s q g, ← version_is s q g part e, h, ← en, l)

        pub first_good : is_listed n ≡ true → 0 ≡ lowest (first_rules (noted s p) (noted s q))
        unfolding lowest
        first_good l = rw (← present s p f, ← present s q g, ← version_is s q g part e, h, ← en, l)

-- ---- 14
module _ (s : List ℕ) (p q : ℕ) where
  pub lacks_none : p ≡ 0 → not (eqb p 0) ≡ lacks_dataset (noted s p) (noted s q)
  lacks_none e = ap (λ (n : ℕ). not (eqb n 0)) e ∙ given_none s p e false (λ v. is_true v.part || not (is_absent (noted s q)))

  module _ (f : p ≡ 0 → ⊥) (part : List ℕ) (e : part ≡ part_of s p (skip_value s p)) where
    lacks_is : (is_true part || not (is_absent (noted s q))) ≡ lacks_dataset (noted s p) (noted s q)
    lacks_is = given_some s p f part e false (λ v. is_true v.part || not (is_absent (noted s q)))

    pub lacks_true : is_true part ≡ true → true ≡ lacks_dataset (noted s p) (noted s q)
    lacks_true h = ap (λ (b : Bool). b || not (is_absent (noted s q))) (sym h) ∙ lacks_is

    pub lacks_other : is_true part ≡ false → not (eqb q 0) ≡ lacks_dataset (noted s p) (noted s q)
    lacks_other h = ap not (zero_absent s q) ∙ ap (λ (b : Bool). b || not (is_absent (noted s q))) (sym h) ∙ lacks_is

-- ---- 10, and 12 to 14
module _ (n : ℕ) (es : List Extension) (lacking : Bool) where
  pub later_few : n < 1 → 10 ≡ lowest (later_rules n es lacking)
  unfolding lowest within
  later_few h = rw (lt-leb 1 n h)

  pub later_many : channels < n → 10 ≡ lowest (later_rules n es lacking)
  unfolding lowest within
  later_many h = rw (le-leb 1 n (omega arith), lt-leb n channels h)

  module _ (a : 1 ≤ n) (b : n ≤ channels) where
    later_is : lowest (later_rules n es lacking) ≡ lowest (rule 12 (any is_malformed es) ∷ rule 13 (any is_needed es) ∷ rule 14 lacking ∷ [])
    unfolding lowest within
    later_is = rw (le-leb 1 n a, le-leb n channels b)

    module _ (l : ℕ) (el : l ≡ lowest (entries_rules es)) where
      pub later_entries : (l ≡ 0 → ⊥) → l ≡ lowest (later_rules n es lacking)
      unfolding lowest
      later_entries z = rw later_is (go (any is_malformed es) (any is_needed es) el) where
        go : (m n : Bool) → l ≡ lowest (rule 12 m ∷ rule 13 n ∷ []) → l ≡ lowest (rule 12 m ∷ rule 13 n ∷ rule 14 lacking ∷ [])
        go true n h = h
        go false true h = h
        go false false h = absurd (z h)

      pub later_none : l ≡ 0 → cond lacking 14 0 ≡ lowest (later_rules n es lacking)
      unfolding lowest
      later_none z = rw later_is (go (any is_malformed es) (any is_needed es) el) where
        go : (m n : Bool) → l ≡ lowest (rule 12 m ∷ rule 13 n ∷ []) → cond lacking 14 0 ≡ lowest (rule 12 m ∷ rule 13 n ∷ rule 14 lacking ∷ [])
        go true n h = absurd (omega arith)
        go false true h = absurd (omega arith)
        go false false h = refl

-- ---- all places: rules, and others with higher numbers
module _ (a b c d : Bool) where
  join : (bs : List Bool)
      → lowest (rules_of (6 ∷ 8 ∷ 9 ∷ 10 ∷ 12 ∷ 13 ∷ 14 ∷ []) (either bs (false ∷ false ∷ false ∷ a ∷ b ∷ c ∷ d ∷ [])))
      ≡ least (lowest (rules_of (6 ∷ 8 ∷ 9 ∷ 10 ∷ 12 ∷ 13 ∷ 14 ∷ []) bs)) (lowest (rule 10 a ∷ rule 12 b ∷ rule 13 c ∷ rule 14 d ∷ []))
  unfolding lowest rules_of Ascending
  join bs =
      lowest_either 0 (6 ∷ 8 ∷ 9 ∷ 10 ∷ 12 ∷ 13 ∷ 14 ∷ []) bs (false ∷ false ∷ false ∷ a ∷ b ∷ c ∷ d ∷ [])
      (omega arith, (omega arith, (omega arith, (omega arith, (omega arith, (omega arith, (omega arith, tt)))))))

  after : (x y z : Bool)
      → lowest (rule 6 x ∷ rule 8 y ∷ rule 9 z ∷ rule 10 a ∷ rule 12 b ∷ rule 13 c ∷ rule 14 d ∷ [])
      ≡ least (lowest (rule 6 x ∷ rule 8 y ∷ rule 9 z ∷ [])) (lowest (rule 10 a ∷ rule 12 b ∷ rule 13 c ∷ rule 14 d ∷ []))
  unfolding lowest rules_of either
  after true y z = join (true ∷ [])
  after false true z = join (false ∷ true ∷ [])
  after false false true = join (false ∷ false ∷ true ∷ [])
  after false false false = least_none 0 _ refl

pub places_low : (s places : List ℕ) (low first later n : ℕ) → low ≡ least first later
    → first ≡ lowest (first_rules (placed s places "core:datatype") (placed s places "core:version"))
    → n ≡ channels_of (placed s places "core:num_channels")
    → later ≡ lowest (later_rules n (entries_of s (placed s places "core:extensions")) (lacks_dataset (placed s places "core:metadata_only") (placed s places "core:dataset")))
    → low ≡ lowest (placed_rules s (placed s places))
places_low s places low first later n e ef en el =
    rw (e, ef, el, en)
    (sym (after (are_bad_channels (placed s places "core:num_channels")) (any is_malformed (entries_of s (placed s places "core:extensions")))
    (any is_needed (entries_of s (placed s places "core:extensions"))) (lacks_dataset (placed s places "core:metadata_only") (placed s places "core:dataset"))
    (is_absent (placed s places "core:datatype") || is_absent (placed s places "core:version")) (is_other_version (placed s places "core:version"))
    (is_other_datatype (placed s places "core:datatype"))))

-- ---- by the sizes
module _ (s places sizes : List ℕ) (f : Fitting s global_fields places sizes) where
  fit : (i : ℕ) → i < 20 → get_or sizes i 0 ≡ size_of (type_at global_fields i) (noted s (get_or places i 0))
  unfolding Fitting global_fields
  fit i h = f i h

  pub datatype_length : get_or sizes 0 0 ≡ length_of (noted s (get_or places 0 0))
  unfolding size_as type_at core_at global_fields
  datatype_length = fit 0 (omega arith)

  pub version_length : get_or sizes 1 0 ≡ length_of (noted s (get_or places 1 0))
  unfolding size_as type_at core_at global_fields
  version_length = fit 1 (omega arith)

  pub only_length : get_or sizes 17 0 ≡ length_of (noted s (get_or places 17 0))
  unfolding size_as type_at core_at global_fields
  only_length = fit 17 (omega arith)

  rate_length : get_or sizes 15 0 ≡ length_of (noted s (get_or places 15 0))
  unfolding size_as type_at core_at global_fields
  rate_length = fit 15 (omega arith)

  channels_number : get_or sizes 12 0 ≡ uint_or 0 (noted s (get_or places 12 0))
  unfolding size_as type_at core_at global_fields
  channels_number = fit 12 (omega arith)

  offset_number : get_or sizes 13 0 ≡ uint_or 0 (noted s (get_or places 13 0))
  unfolding size_as type_at core_at global_fields
  offset_number = fit 13 (omega arith)

  trailing_number : get_or sizes 14 0 ≡ uint_or 0 (noted s (get_or places 14 0))
  unfolding size_as type_at core_at global_fields
  trailing_number = fit 14 (omega arith)

  -- what the object says
  pub globals_are : (d c : ℕ) → d ≡ datatype_code (noted s (get_or places 0 0)) → c ≡ cond (eqb (get_or places 12 0) 0) 1 (get_or sizes 12 0)
      → record { datatype = d; channels = c; offset = get_or sizes 13 0; trailing = get_or sizes 14 0; rate = record { at = get_or places 15 0; len = get_or sizes 15 0 } }
      ≡ globals_of (placed s places)
  unfolding index_in same global_fields
  globals_are d c ed ec =
      let e1 = ec ∙ uint_by_lem s (get_or places 12 0) (get_or sizes 12 0) 1 channels_number in
      let e2 = rate_by s (get_or places 15 0) (get_or sizes 15 0) rate_length in
      rw (← ed, ← e1, ← offset_number, ← trailing_number, ← e2)

-- ---- the object
module _ (s : List ℕ) (at : ℕ) (places : List ℕ) (n : Noted s global_fields (fields_at s at) places) where
  pub global_fitting : (sizes : List ℕ) → Measured global_fields (fields_at s at) sizes → Fitting s global_fields places sizes
  unfolding Measured Fitting Noted
  global_fitting sizes m i h = m i h ∙ ap (size_of (type_at global_fields i)) (n i h)

  global_place : (i : ℕ) → i < 20 → noted s (get_or places i 0) ≡ value_in global_fields i (fields_at s at)
  unfolding Noted global_fields
  global_place i h = sym (n i h)

  global_missing : missing global_fields (fields_at s at) ≡ (is_absent (noted s (get_or places 0 0)) || is_absent (noted s (get_or places 1 0)))
  unfolding missing_from global_fields
  global_missing =
      rw (global_place 0 (omega arith), global_place 1 (omega arith))
      (ap (λ (b : Bool). is_absent (value_in global_fields 0 (fields_at s at)) || b) (or_false (is_absent (value_in global_fields 1 (fields_at s at)))))

  pub globals_is : globals_of (placed s places) ≡ globals_in (fields_at s at)
  unfolding index_in same global_fields
  globals_is =
      rw (global_place 0 (omega arith), global_place 12 (omega arith), global_place 13 (omega arith), global_place 14 (omega arith), global_place 15 (omega arith))

  pub global_is : (walk others low close : ℕ) (gs : Globals) → walk ≡ walk_low global_fields (fields_at s at) → others ≡ lowest (placed_rules s (placed s places))
      → low ≡ least walk others → gs ≡ globals_of (placed s places) → close ≡ close_at s at
      → record { low = low; globals = gs; close = close } ≡ read_global s at
  unfolding read_global other_version other_datatype bad_channels bad_extension needs_extension no_dataset rules_of Ascending index_in same global_fields
  global_is walk others low close gs ew eo el eg ec =
      let p0 = global_place 0 (omega arith) in
      let p1 = global_place 1 (omega arith) in
      let p10 = global_place 10 (omega arith) in
      let p12 = global_place 12 (omega arith) in
      let p17 = global_place 17 (omega arith) in
      let p19 = global_place 19 (omega arith) in
      let e1 : low ≡ lowest (global_rules s (fields_at s at)) =
      object_low_lem global_fields (fields_at s at) _ (8 ∷ 9 ∷ 10 ∷ 12 ∷ 13 ∷ 14 ∷ [])
      (other_version (fields_at s at) ∷ other_datatype (fields_at s at) ∷ bad_channels (fields_at s at)
      ∷ bad_extension s (fields_at s at) ∷ needs_extension s (fields_at s at) ∷ no_dataset (fields_at s at) ∷ [])
      (omega arith, (omega arith, (omega arith, (omega arith, (omega arith, (omega arith, tt)))))) global_missing walk others low ew
      (rw (← p0, ← p1, ← p10, ← p12, ← p17, ← p19) eo) el in
      let e2 = eg ∙ globals_is in
      rw (← e1, ← e2, ← ec)
