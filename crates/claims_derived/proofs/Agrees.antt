-- Refusals 3 to 17 by place agree with those over the derivation, and so do the numbers of the table.
use mathlib.Core.Path.{◌≡◌, refl, sym, ap, subst, ◌∙◌}
use mathlib.Core.Bool.{Bool, false, ◌||◌}
use mathlib.Core.List.{List, [], ◌∷◌, ◌++◌, map}
use Prim.Native.Nat.{ℕ}
use Rattle.limits.specs.Limits.{nesting}
use Rattle.json_blocks.specs.TextBytes.{ascii}
use Rattle.json_blocks.specs.Lists.{any}
use Rattle.json_grammar.specs.Grammar.{Text}
use Rattle.json_grammar.proofs.Theorem.{json_is_grammar}
use Rattle.sigmf_names.specs.Names.{global_fields, capture_fields, annotation_fields}
use Rattle.refusals.specs.Refusals.{Rule, rule, lowest}
use Rattle.refusals.proofs.RuleLaws.{Agree, step, agree_lowest, skip, rising, condition, unheld, lowest_before}
use Rattle.reader_layout.specs.Layout.{Contents, sample_rules, unordered, not_whole, index_outside}
use Rattle.sigmf_objects.specs.Fields as O
use Rattle.sigmf_objects.specs.Fields.{Field}
use Rattle.sigmf_objects.specs.Global as OG
use Rattle.sigmf_objects.specs.Capture as OC
use Rattle.sigmf_objects.specs.Annotation as OA
use Rattle.reader.specs.File as F
use Rattle.reader.specs.Reading as L
use Rattle.reader.specs.Reading.{bad_length}
use Rattle.claims_accepted.proofs.Tests.{or_left, or_right}
use Rattle.claims_derived.specs.Derived.{Entry, top}
use Rattle.claims_derived.specs.Rules as D
use Rattle.claims_derived.specs.Rules.{File, in_file, misshapen, mistyped, value, file_in, contents_in, rules_by, rules_of, contents_of}
use Rattle.claims_derived.proofs.Refusal3.{bad_same}
use Rattle.claims_derived.proofs.Shape.{field, as_file, Found, shape_same, file_same, global_found}
use Rattle.claims_derived.proofs.FieldRules.{misnamed_same, mistyped_same, missing_globals, missing_captures, missing_annotations}
use Rattle.claims_derived.proofs.FieldRules.{version_same, datatype_same, channels_same, dataset_same, globals_same, datetime_same, capture_same, annotation_same}
use Rattle.claims_derived.proofs.Extension.{extension_bad, extension_needed}

-- ---- lists of objects
any_fields : (f : List Field → Bool) (g : List Entry → Bool) → ((es : List Entry) → f (map field es) ≡ g es) → (l : List (List Entry))
    → any f (map (λ es. map field es) l) ≡ any g l
unfolding any
any_fields f g h [] = refl
any_fields f g h (es ∷ l) = rw (h es, any_fields f g h l)

any_good : (bad : List Entry → Bool) (f : List Field → Bool) (g : List Entry → Bool) → ((es : List Entry) → bad es ≡ false → f (map field es) ≡ g es) → (l : List (List Entry))
    → any bad l ≡ false → any f (map (λ es. map field es) l) ≡ any g l
unfolding any
any_good bad f g h [] e = refl
any_good bad f g h (es ∷ l) e = rw (h es (or_left (bad es) (any bad l) e), any_good bad f g h l (or_right (bad es) (any bad l) e))

map_fields : {A : Type 0} (f : List Field → A) (g : List Entry → A) → ((es : List Entry) → f (map field es) ≡ g es) → (l : List (List Entry))
    → map f (map (λ es. map field es) l) ≡ map g l
map_fields f g h [] = refl
map_fields f g h (es ∷ l) = rw (h es, map_fields f g h l)

in_file_lem : (a b c : List Field → Bool) (x y z : List Entry → Bool) → ((es : List Entry) → a (map field es) ≡ x es) → ((es : List Entry) → b (map field es) ≡ y es)
    → ((es : List Entry) → c (map field es) ≡ z es) → (f : File) → L.in_file a b c (as_file f) ≡ in_file x y z f
in_file_lem a b c x y z p q r f = rw (p f.global, any_fields b y q f.captures, any_fields c z r f.annotations)

-- ---- of a file
abbrev pub bad_types : File → Bool
bad_types f = in_file (mistyped global_fields) (mistyped capture_fields) (mistyped annotation_fields) f

module _ (f : File) (ok : bad_types f ≡ false) where
  pub ok_global : mistyped global_fields f.global ≡ false
  ok_global = or_left (mistyped global_fields f.global) (any (mistyped capture_fields) f.captures)
      (or_left (mistyped global_fields f.global || any (mistyped capture_fields) f.captures) (any (mistyped annotation_fields) f.annotations) ok)

  ok_captures : any (mistyped capture_fields) f.captures ≡ false
  ok_captures = or_right (mistyped global_fields f.global) (any (mistyped capture_fields) f.captures)
      (or_left (mistyped global_fields f.global || any (mistyped capture_fields) f.captures) (any (mistyped annotation_fields) f.annotations) ok)

  pub ok_annotations : any (mistyped annotation_fields) f.annotations ≡ false
  ok_annotations = or_right (mistyped global_fields f.global || any (mistyped capture_fields) f.captures) (any (mistyped annotation_fields) f.annotations) ok

  contents_file : F.contents_of (as_file f) ≡ contents_in f
  unfolding F.contents_of contents_in
  contents_file = rw (globals_same f.global ok_global, map_fields OC.capture_in D.capture_in capture_same f.captures, map_fields OA.annotation_in D.annotation_in annotation_same f.annotations)

-- ---- the rules from 5 on, of a file; k goes on from 17
abbrev found_rules : List ℕ → ℕ → F.File → List Rule → List Rule
found_rules s d f k = L.object_rules s f ++ (sample_rules (F.contents_of f) d ++ k)

abbrev derived_rules : ℕ → File → List Rule → List Rule
derived_rules d f k =
    rule 5 (in_file D.misnamed D.misnamed D.misnamed f)
    ∷ rule 6 (in_file (D.missing global_fields) (D.missing capture_fields) (D.missing annotation_fields) f)
    ∷ rule 7 (bad_types f)
    ∷ rule 8 (D.other_version f.global)
    ∷ rule 9 (D.other_datatype f.global)
    ∷ rule 10 (D.bad_channels f.global)
    ∷ rule 11 (any D.bad_datetime f.captures)
    ∷ rule 12 (D.bad_extension f.global)
    ∷ rule 13 (D.needs_extension f.global)
    ∷ rule 14 (D.no_dataset f.global)
    ∷ rule 15 (unordered (contents_in f))
    ∷ rule 16 (not_whole (contents_in f) d)
    ∷ rule 17 (index_outside (contents_in f) d)
    ∷ k

module _ (s : List ℕ) (d : ℕ) (f : File) (h : Found s (value "core:extensions" f.global)) (k l : List Rule) (g : bad_types f ≡ false → Agree k l) where
  file_agree : Agree (found_rules s d (as_file f) k) (derived_rules d f l)
  file_agree =
      step (in_file_lem O.misnamed O.misnamed O.misnamed D.misnamed D.misnamed D.misnamed misnamed_same misnamed_same misnamed_same f)
      (λ _. step (in_file_lem (O.missing global_fields) (O.missing capture_fields) (O.missing annotation_fields) (D.missing global_fields) (D.missing capture_fields) (D.missing annotation_fields)
      missing_globals missing_captures missing_annotations f)
      (λ _. step (in_file_lem (O.mistyped global_fields) (O.mistyped capture_fields) (O.mistyped annotation_fields) (mistyped global_fields) (mistyped capture_fields) (mistyped annotation_fields)
      (mistyped_same global_fields) (mistyped_same capture_fields) (mistyped_same annotation_fields) f)
      (λ ok. let a = ok_global f ok in let c = contents_file f ok in
      step (version_same f.global a)
      (λ _. step (datatype_same f.global a)
      (λ _. step (channels_same f.global a)
      (λ _. step (any_good (mistyped capture_fields) OC.bad_datetime D.bad_datetime datetime_same f.captures (ok_captures f ok))
      (λ _. step (extension_bad s f.global h a)
      (λ _. step (extension_needed s f.global h a)
      (λ _. step (dataset_same f.global a)
      (λ _. step (ap unordered c)
      (λ _. step (ap (λ (x : Contents). not_whole x d) c)
      (λ _. step (ap (λ (x : Contents). index_outside x d) c) (λ _. g ok)))))))))))))

-- ---- of a text
-- the numbers of the table agree where 4 and 7 do not hold
pub contents_same : {s : List ℕ} (t : Text nesting s) → misshapen (top t) ≡ false → bad_types (file_in (top t)) ≡ false → L.contents s ≡ contents_of t
contents_same t h ok = ap F.contents_of (file_same t h) ∙ contents_file (file_in (top t)) ok

module _ {s : List ℕ} (t : Text nesting s) (d : ℕ) where
  text_agree : (k l : List Rule) → (misshapen (top t) ≡ false → bad_types (file_in (top t)) ≡ false → Agree k l)
      → Agree (rule 3 (L.bad_members s) ∷ rule 4 (L.misshapen s) ∷ found_rules s d (F.file_of s) k)
      (rule 3 (D.bad_node nesting (top t)) ∷ rule 4 (misshapen (top t)) ∷ derived_rules d (file_in (top t)) l)
  text_agree k l g =
      step (bad_same t) (λ _. step (shape_same t)
      (λ h. subst (λ (f : F.File). Agree (found_rules s d f k) (derived_rules d (file_in (top t)) l)) (sym (file_same t h))
      (file_agree s d (file_in (top t)) (global_found t h (ascii "core:extensions")) k l (g h))))

  is_json_lem : L.not_json s ≡ false
  is_json_lem = rw ((json_is_grammar s).1 t)

  module _ (b : bad_length s d ≡ false) where
    -- 3 to 17, and what goes on from there
    pub read_with : (k l : List Rule) → (misshapen (top t) ≡ false → bad_types (file_in (top t)) ≡ false → Agree k l) → lowest (L.read_rules s d ++ k) ≡ lowest (rules_of t d ++ l)
    unfolding L.read_rules rules_by
    read_with k l g = skip 1 (bad_length s d) _ b ∙ skip 2 (L.not_json s) _ is_json_lem ∙ agree_lowest (text_agree k l g)

  -- where no rule holds 4 and 7 do not
  pub passed_both : (l : List Rule) → lowest (rules_of t d ++ l) ≡ 0 → (misshapen (top t) ≡ false) × (bad_types (file_in (top t)) ≡ false)
  unfolding rules_by rising condition
  passed_both l e = let no = unheld 2 (rules_of t d) refl (lowest_before (rules_of t d) l e) in (no 4, no 7)
