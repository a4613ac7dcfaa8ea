-- The three parts of a file: the lowest of their numbers, and what they say of samples.
use Rattle.std.specs.Prelude.{None, Option, Some}
use mathlib.Core.Path.{◌≡◌, refl, sym, ap, ◌∙◌}
use mathlib.Core.Bool.{Bool, true, false, cond, not, ◌&&◌, ◌||◌}
use mathlib.Core.List.{List, [], ◌∷◌, ◌++◌, map}
use Prim.Native.Nat.{ℕ, ◌-◌, ◌*◌}
use native.Mathlib.Omega.{arith}
use lib.ListN.{length, take, drop, length-map, take-append-drop}
use borrow.Author.Tests.{ne_eqb}
use Rattle.refusals.specs.Refusals.{rule, lowest, least}
use Rattle.refusals.proofs.LeastLaws.{Ascending, rules_of, either, lowest_either}
use Rattle.json_blocks.specs.TextBytes.{byte}
use Rattle.json_blocks.specs.Lists.{any}
use Rattle.json_walk.specs.declared.Element.{Element}
use Rattle.json_walk.specs.Members.{elements_at}
use Rattle.sigmf_names.specs.Names.{Core, capture_fields, annotation_fields}
use Rattle.table.specs.Rows.{rows_from, flat}
use Rattle.table.proofs.RowLaws.{rows_back}
use Rattle.table.specs.declared.CaptureEntry.{CaptureEntry}
use Rattle.table.specs.declared.AnnotationEntry.{AnnotationEntry}
use Rattle.reader_layout.specs.Entries.{entry_width, entry_numbers, capture_entry_of, entry_at, stored_count, note_width, note_numbers, note_of, note_at, capture_entries, annotation_entries, stored_contents}
use Rattle.sigmf_objects.specs.Fields.{Field, fields_at, misnamed, missing, mistyped}
use Rattle.sigmf_objects.specs.Global.{read_global}
use Rattle.sigmf_objects.specs.Capture.{bad_datetime, capture_in, read_capture}
use Rattle.sigmf_objects.specs.Annotation.{annotation_in, read_annotation}
use Rattle.sigmf_objects.proofs.WalkLaws.{or_false}
use Rattle.reader.specs.Kind.{Kind}
use Rattle.reader.specs.Kind as K
use Rattle.reader.specs.declared.TopPlaces.{TopPlaces}
use Rattle.reader.specs.declared.TopRead.{TopRead}
use Rattle.reader.specs.declared.Scanned.{Scanned}
use Rattle.reader.specs.File.{top_at, top_member, elements_in, is_object, all_objects, file_of, contents_of}
use Rattle.reader.specs.Reading.{misshapen, part_rules, contents}
use Rattle.reader.specs.Parts.{TopFound, begins, shaped, object_low, element_low, array_low, EntriesKept, PartsRead, scanned_of, parts_low, parts_contents}
use Rattle.reader.proofs.TopLaws.{placed_begins, placed_is}
use Rattle.reader.proofs.ArrayLaws.{least_zero}

-- ---- an array by the rules
abbrev members_of : List ℕ → List Element → List (List Field)
members_of s es = map (λ e. fields_at s e.at) es

not_and : (a b : Bool) → not (a && b) ≡ (not a || not b)
not_and true b = refl
not_and false b = refl

-- of one kind of object: its core fields, and whether its datetime is judged
module _ (k : Kind) (s : List ℕ) (cs : List Core) (dated : List Field → Bool)
    (low : (at : ℕ) → object_low k s at ≡ lowest (rule 5 (misnamed (fields_at s at)) ∷ rule 6 (missing cs (fields_at s at)) ∷ rule 7 (mistyped cs (fields_at s at)) ∷ rule 11 (dated (fields_at s at)) ∷ [])) where
  abbrev numbers : List ℕ
  numbers = 4 ∷ 5 ∷ 6 ∷ 7 ∷ 11 ∷ []

  abbrev one : Element → List Bool
  one e = not (is_object s e.at) ∷ misnamed (fields_at s e.at) ∷ missing cs (fields_at s e.at) ∷ mistyped cs (fields_at s e.at) ∷ dated (fields_at s e.at) ∷ []

  abbrev all : List Element → List Bool
  all es =
      not (all_objects s es) ∷ any misnamed (members_of s es) ∷ any (missing cs) (members_of s es) ∷ any (mistyped cs) (members_of s es) ∷ any dated (members_of s es) ∷ []

  one_low : (e : Element) → element_low k s e.at ≡ lowest (rules_of numbers (one e))
  unfolding element_low rules_of lowest
  one_low e = go (is_object s e.at) where
    go : (t : Bool) → cond t (object_low k s e.at) 4 ≡ cond (not t) 4 (lowest (rule 5 (misnamed (fields_at s e.at)) ∷ rule 6 (missing cs (fields_at s e.at)) ∷ rule 7 (mistyped cs (fields_at s e.at)) ∷ rule 11 (dated (fields_at s e.at)) ∷ []))
    go true = low e.at
    go false = refl

  array_rules : (es : List Element) → array_low k s es ≡ lowest (rules_of numbers (all es))
  unfolding array_low rules_of lowest all_objects any either Ascending
  array_rules [] = refl
  array_rules (e ∷ es) =
      ap (λ (x : ℕ). least x (array_low k s es)) (one_low e)
      ∙ ap (least (lowest (rules_of numbers (one e)))) (array_rules es)
      ∙ sym (lowest_either 0 numbers (one e) (all es) (omega arith, (omega arith, (omega arith, (omega arith, (omega arith, tt))))))
      ∙ rw (not_and (is_object s e.at) (all_objects s es))

any_none : (fs : List (List Field)) → any (λ _. false) fs ≡ false
unfolding any
any_none [] = refl
any_none (f ∷ fs) = any_none fs

module _ (s : List ℕ) (es : List Element) where
  captures_low : array_low K.Capture s es
      ≡ lowest (rule 4 (not (all_objects s es)) ∷ rule 5 (any misnamed (members_of s es)) ∷ rule 6 (any (missing capture_fields) (members_of s es)) ∷ rule 7 (any (mistyped capture_fields) (members_of s es)) ∷ rule 11 (any bad_datetime (members_of s es)) ∷ [])
  unfolding read_capture rules_of
  captures_low = array_rules K.Capture s capture_fields bad_datetime (λ at. refl) es

  annotations_low : array_low K.Annotation s es
      ≡ lowest (rule 4 (not (all_objects s es)) ∷ rule 5 (any misnamed (members_of s es)) ∷ rule 6 (any (missing annotation_fields) (members_of s es)) ∷ rule 7 (any (mistyped annotation_fields) (members_of s es)) ∷ [])
  unfolding read_annotation rules_of lowest
  annotations_low = array_rules K.Annotation s annotation_fields (λ _. false) (λ at. refl) es ∙ rw (any_none (members_of s es))

-- ---- the three together
module _ (m g5 g6 g7 g8 g9 g10 g12 g13 g14 c4 c5 c6 c7 c11 a4 a5 a6 a7 : Bool) where
  together : m ≡ (c4 || a4)
      → least (least
      (lowest (rule 5 g5 ∷ rule 6 g6 ∷ rule 7 g7 ∷ rule 8 g8 ∷ rule 9 g9 ∷ rule 10 g10 ∷ rule 12 g12 ∷ rule 13 g13 ∷ rule 14 g14 ∷ []))
      (lowest (rule 4 c4 ∷ rule 5 c5 ∷ rule 6 c6 ∷ rule 7 c7 ∷ rule 11 c11 ∷ [])))
      (lowest (rule 4 a4 ∷ rule 5 a5 ∷ rule 6 a6 ∷ rule 7 a7 ∷ []))
      ≡ lowest (rule 4 m ∷ rule 5 (g5 || c5 || a5) ∷ rule 6 (g6 || c6 || a6) ∷ rule 7 (g7 || c7 || a7) ∷ rule 8 g8 ∷ rule 9 g9 ∷ rule 10 g10 ∷ rule 11 c11 ∷ rule 12 g12 ∷ rule 13 g13 ∷ rule 14 g14 ∷ [])
  unfolding lowest rules_of either Ascending
  together e =
      let ns : List ℕ = 4 ∷ 5 ∷ 6 ∷ 7 ∷ 8 ∷ 9 ∷ 10 ∷ 11 ∷ 12 ∷ 13 ∷ 14 ∷ [] in
      let g : List Bool = false ∷ g5 ∷ g6 ∷ g7 ∷ g8 ∷ g9 ∷ g10 ∷ false ∷ g12 ∷ g13 ∷ g14 ∷ [] in
      let c : List Bool = c4 ∷ c5 ∷ c6 ∷ c7 ∷ false ∷ false ∷ false ∷ c11 ∷ [] in
      let a : List Bool = a4 ∷ a5 ∷ a6 ∷ a7 ∷ [] in
      let up : Ascending 0 ns = (omega arith, (omega arith, (omega arith, (omega arith, (omega arith, (omega arith, (omega arith, (omega arith, (omega arith, (omega arith, (omega arith, tt))))))))))) in
      ap (λ (x : ℕ). least x (lowest (rules_of ns a))) (sym (lowest_either 0 ns g c up)) ∙ sym (lowest_either 0 ns (either g c) a up)
      ∙ rw (e, or_false g8, or_false g9, or_false g10)

-- ---- the file that places tell
module _ (s : List ℕ) (t : TopPlaces) (f : TopFound s t) where
  shape : misshapen s
      ≡ not (is_object s (top_at s) && (begins s 0x7B t.global
      && ((begins s 0x5B t.captures && all_objects s (elements_in s (top_member "captures" s))) && (begins s 0x5B t.annotations && all_objects s (elements_in s (top_member "annotations" s))))))
  unfolding misshapen
  shape =
      rw (placed_begins s 0x7B t.global f.global, placed_begins s 0x5B t.captures f.captures, placed_begins s 0x5B t.annotations f.annotations)

  shape_bools : (x g c a l r : Bool) → (g && c && a) ≡ false → not (x && (g && ((c && l) && (a && r)))) ≡ true
  shape_bools false g c a l r e = refl
  shape_bools true false c a l r e = refl
  shape_bools true true false a l r e = refl
  shape_bools true true true false false r e = refl
  shape_bools true true true false true r e = refl
  shape_bools true true true true l r e = cc

  pub not_shaped : shaped s t ≡ false → misshapen s ≡ true
  not_shaped e =
      shape ∙ shape_bools (is_object s (top_at s)) (begins s 0x7B t.global) (begins s 0x5B t.captures) (begins s 0x5B t.annotations) _ _ e

  all_true : (a b c : Bool) → (a && b && c) ≡ true → (a ≡ true) × ((b ≡ true) × (c ≡ true))
  all_true true true true e = (refl, (refl, refl))
  all_true true true false e = cc
  all_true true false c e = cc
  all_true false b c e = cc

  begun : shaped s t ≡ true → (begins s 0x7B t.global ≡ true) × ((begins s 0x5B t.captures ≡ true) × (begins s 0x5B t.annotations ≡ true))
  begun e = all_true _ _ _ e

  module _ (e : shaped s t ≡ true) where
    file : file_of s ≡ record { global = fields_at s t.global; captures = members_of s (elements_at s t.captures); annotations = members_of s (elements_at s t.annotations) }
    unfolding file_of
    file =
        let b = begun e in
        rw (placed_is s 0x7B t.global b.0 [] (fields_at s) f.global, placed_is s 0x5B t.captures b.1.0 [] (elements_at s) f.captures, placed_is s 0x5B t.annotations b.1.1 [] (elements_at s) f.annotations)

    objects : is_object s (top_at s) ≡ true → misshapen s ≡ (not (all_objects s (elements_at s t.captures)) || not (all_objects s (elements_at s t.annotations)))
    objects o =
        let b = begun e in
        shape
        ∙ rw (o, b.0, b.1.0, b.1.1, placed_is s 0x5B t.captures b.1.0 [] (elements_at s) f.captures, placed_is s 0x5B t.annotations b.1.1 [] (elements_at s) f.annotations)
        (not_and (all_objects s (elements_at s t.captures)) (all_objects s (elements_at s t.annotations)))

    parts_low_lem : is_object s (top_at s) ≡ true → parts_low s t ≡ lowest (part_rules s (file_of s))
    unfolding read_global
    parts_low_lem o =
        rw (file, captures_low s (elements_at s t.captures), annotations_low s (elements_at s t.annotations))
        (together (misshapen s) _ _ _ _ _ _ _ _ _ _ _ _ _ _ _ _ _ _ (objects o))

    map_map : {A B : Type 0} (g : List Field → B) (h : A → List Field) (l : List A) → map (λ x. g (h x)) l ≡ map g (map h l)
    map_map g h [] = refl
    map_map g h (x ∷ l) = ap (λ (r : List _). g (h x) ∷ r) (map_map g h l)

    parts_contents_lem : parts_contents s t ≡ contents s
    unfolding read_global read_capture read_annotation contents_of
    parts_contents_lem =
        rw (file, map_map capture_in (λ e. fields_at s e.at) (elements_at s t.captures), map_map annotation_in (λ e. fields_at s e.at) (elements_at s t.annotations))

-- 4 where the shape is not that
pub four : (s : List ℕ) → misshapen s ≡ true → 4 ≡ lowest (part_rules s (file_of s))
unfolding lowest
four s e = rw e

pub no_object : (s : List ℕ) → (byte s (top_at s) ≡ 0x7B → ⊥) → misshapen s ≡ true
unfolding misshapen
no_object s f = rw (ne_eqb (byte s (top_at s)) 0x7B f)

-- ---- entries read back
flat_map : {A B : Type 0} (numbers : B → List ℕ) (f : A → B) (l : List A) → flat numbers (map f l) ≡ flat (λ x. numbers (f x)) l
unfolding flat
flat_map numbers f [] = refl
flat_map numbers f (x ∷ l) = ap (λ (r : List ℕ). numbers (f x) ++ r) (flat_map numbers f l)

module _ (s : List ℕ) (es : List Element) (m : List ℕ) (n : ℕ) where
  split : {B : Type 0} (w : ℕ) (numbers : B → List ℕ) (f : Element → B) → take (w * n) m ≡ flat (λ e. numbers (f e)) es → m ≡ flat numbers (map f es) ++ drop (w * n) m
  split w numbers f e = sym (take-append-drop (w * n) m) ∙ ap (λ (l : List ℕ). l ++ drop (w * n) m) (e ∙ sym (flat_map numbers f es))

  counted : {B : Type 0} (f : Element → B) → n ≡ length es → n - 0 ≡ length (map f es)
  counted f e = omega (arith, length-map es f)

  entries_kept : EntriesKept K.Capture s es m n → capture_entries m n ≡ map (λ e. (read_capture s e.at).entry) es
  unfolding entry_at
  entries_kept h =
      let f : Element → CaptureEntry = λ e. (read_capture s e.at).entry in
      rw (counted f h.0)
      (ap (λ (l : List ℕ). rows_from (λ i. entry_at l i) (length (map f es)) 0) (split entry_width entry_numbers f h.1)
      ∙ rows_back entry_width capture_entry_of entry_numbers (λ r. refl) (λ r. refl) (map f es) (drop (entry_width * n) m))

  note_back : (r : AnnotationEntry) → note_of (note_numbers r) ≡ r
  unfolding stored_count
  note_back r = go r.count refl where
    go : (c : Option ℕ) → r.count ≡ c → note_of (note_numbers r) ≡ r
    go (Some x) e = rw e
    go None e = rw e

  notes_kept : EntriesKept K.Annotation s es m n → annotation_entries m n ≡ map (λ e. (read_annotation s e.at).entry) es
  unfolding note_at
  notes_kept h =
      let f : Element → AnnotationEntry = λ e. (read_annotation s e.at).entry in
      rw (counted f h.0)
      (ap (λ (l : List ℕ). rows_from (λ i. note_at l i) (length (map f es)) 0) (split note_width note_numbers f h.1)
      ∙ rows_back note_width note_of note_numbers (λ r. refl) note_back (map f es) (drop (note_width * n) m))

-- ---- what was read
module _ (s : List ℕ) (top : TopRead) (caps notes : List ℕ) (x : PartsRead s top caps notes)
    (f : TopFound s top.places) (e : shaped s top.places ≡ true) where
  lows_found : (scanned_of top).low ≡ parts_low s top.places
  lows_found = let b = begun s top.places f e in rw ((x.global b.0).0, (x.captures b.1.0).0, (x.annotations b.1.1).0)

  contents_found : (scanned_of top).low ≡ 0
      → stored_contents top.global.globals caps top.captures.count notes top.annotations.count ≡ parts_contents s top.places
  contents_found h =
      let b = begun s top.places f e in
      let z = least_zero (least top.global.low top.captures.low) top.annotations.low h in
      let y = least_zero top.global.low top.captures.low z.0 in
      let kc = (x.captures b.1.0).1 y.1 in
      let ka = (x.annotations b.1.1).1 z.1 in
      rw ((x.global b.0).1, entries_kept s (elements_at s top.places.captures) caps _ kc, notes_kept s (elements_at s top.places.annotations) notes _ ka)

  pub scan_read : is_object s (top_at s) ≡ true → (r : Scanned) → r ≡ scanned_of top
      → (r.low ≡ lowest (part_rules s (file_of s))) × (r.low ≡ 0 → stored_contents r.globals caps r.captures notes r.annotations ≡ contents s)
  scan_read o r er = rw er (lows_found ∙ parts_low_lem s top.places f e o, λ h. contents_found h ∙ parts_contents_lem s top.places f e)
