-- The plan of a well-formed table whose texts stand, and its bytes.
use mathlib.Core.Path.{◌≡◌, refl, sym, ap, ◌∙◌}
use mathlib.Core.Bool.{Bool, true, false, ◌&&◌, ◌||◌}
use mathlib.Core.List.{List, [], ◌∷◌, map, append-nil}
use mathlib.Core.Option.{Option, none, some}
use Prim.Native.Nat.{ℕ, ◌+◌, ◌-◌, ◌<◌, ◌≤◌, ◌^◌}
use native.Mathlib.Omega.{arith}
use lib.ListN.{length, drop, length-drop}
use lib.Seq.{length-take-le}
use lib.Dec.{eqb, leb}
use borrow.Author.Tests.{leb-true, eqb-true, ne_eqb}
use Rattle.json_blocks.specs.TextBytes.{ascii, within}
use Rattle.json_blocks.specs.Lists.{all}
use Rattle.json_grammar.specs.Grammar.{Number, Characters}
use Rattle.json_strings.proofs.Theorem.{body_is_characters}
use Rattle.sigmf_datatypes.specs.Datatypes.{datatype_name}
use Rattle.table.specs.declared.Place.{Place}
use Rattle.table.specs.declared.Capture.{Capture}
use Rattle.table.specs.declared.Annotation.{Annotation}
use Rattle.table.specs.declared.AnnotationEntry.{AnnotationEntry}
use Rattle.table.specs.declared.Summary.{Summary}
use Rattle.table.specs.Place.{absent}
use Rattle.table.specs.Judge.{annotations_ok}
use Rattle.table.proofs.Bools.{and_left, and_right}
use Rattle.table.proofs.ObeyLaws.{note_good}
use Rattle.listing_labels.specs.Text.{part, stands, text_good}
use Rattle.listing_labels.specs.Label.{label_ok, labels_ok}
use Rattle.listing_labels.proofs.TextLaws.{stands_is, stands_inside}
use Rattle.claims_accepted.proofs.ValueLaws as Y
use Rattle.claims_accepted.proofs.ValueLaws.{Each}
use Rattle.claims_derived.proofs.Nodes.{Both, nothing, next}
use Rattle.writer.specs.Metadata.{object_text, array_text, member_text, number_member, string_member, capture_text, label_member, annotation_text, rate_member, global_text}
use Rattle.writer.specs.Writer.{is_number, rate_ok}
use Rattle.claims_written.specs.ReadBack.{SameText}
use Rattle.claims_written.proofs.Derivations.{ordinary}
use Rattle.claims_written.proofs.Numbers.{is_number_lem}
use Rattle.claims_written.proofs.Pieces.{Some, field, object_text_lem, array_text_lem}
use Rattle.claims_written.proofs.Plan.{decimal_field, plain_field, Note, Plan, capture_value, label_field, note_value, rate_field, global_value, captures_value, notes_value, top_value, plan_text}
use Rattle.claims_written.proofs.Objects.{Small, Back}
use Rattle.claims_written.proofs.Whole.{NoteBack}
use Rattle.claims_written.proofs.TableBack.{NoteRead}
use Rattle.claims_written.proofs.Datatypes.{name_plain}

-- ---- texts
unfoldable pub TextOf : {P : List ℕ → Type 0} → List ℕ → Place → Option (Some P) → Type 0
TextOf s p none = absent p ≡ true
TextOf s p (some x) = (absent p ≡ false) × ((x.0 ≡ part s p) × (length x.0 ≡ p.len))

part_long : (s : List ℕ) (p : Place) → p.at + p.len ≤ length s → length (part s p) ≡ p.len
part_long s p h = length-take-le p.len (drop p.at s) (omega (arith, length-drop p.at s))

pub label_plan : (s : List ℕ) (p : Place) → text_good s p ≡ true → (o : Option (Some Characters)) × TextOf s p o
unfolding text_good TextOf
label_plan s p h = go (absent p) refl h where
  go : (b : Bool) → absent p ≡ b → b || stands s p ≡ true → (o : Option (Some Characters)) × TextOf s p o
  go true e q = (none, e)
  go false e q =
      let z = stands_is s p q in
      (some (part s p, (body_is_characters (part s p)).0 z.body), (e, (refl, part_long s p (omega (arith, stands_inside s p z)))))

pub rate_plan : (s : List ℕ) (p : Place) → rate_ok s p ≡ true → (o : Option (Some Number)) × TextOf s p o
unfolding rate_ok TextOf
rate_plan s p h = go (absent p) refl h where
  go : (b : Bool) → absent p ≡ b → b || (leb (p.at + p.len) (length s) && is_number (part s p)) ≡ true → (o : Option (Some Number)) × TextOf s p o
  go true e q = (none, e)
  go false e q =
      let i = leb (p.at + p.len) (length s) in let n = is_number (part s p) in
      (some (part s p, is_number_lem (part s p) (and_right i n q)), (e, (refl, part_long s p (leb-true _ _ (and_left i n q)))))

-- there and back
pub same_text : {P : List ℕ → Type 0} (s : List ℕ) (p : Place) (w : List ℕ) (q : Place) (o : Option (Some P)) → TextOf s p o → Back w q o → SameText s p w q
unfolding TextOf Back absent
same_text s p w q none a b =
    let x = eqb-true p.at 0 (and_left (eqb p.at 0) (eqb p.len 0) a) in
    let y = eqb-true p.len 0 (and_right (eqb p.at 0) (eqb p.len 0) a) in
    record {
      presence = rw b (sym a);
      len = ap (λ (z : Place). z.len) b ∙ sym y;
      bytes = rw (b, y) refl;
    }
same_text s p w q (some x) a b =
    record {
      presence = rw (ne_eqb q.at 0 (λ e. omega (arith, b.0, e))) (sym a.0);
      len = b.1.0 ∙ a.1.1;
      bytes = b.1.1 ∙ a.1.0;
    }

-- ---- annotations
pub data NoteOf (s : List ℕ) : Annotation → Note → Type 0 where
  note_of_lem : (r : Annotation) (o : Option (Some Characters)) → TextOf s r.texts.label o → NoteOf s r (record { start = r.start; count = r.end - r.start; label = o })

pub notes_plan : (s : List ℕ) (rs : List Annotation) → labels_ok s rs ≡ true → (ns : List Note) × Both (NoteOf s) rs ns
unfolding labels_ok
notes_plan s [] h = ([], nothing)
notes_plan s (r ∷ t) h =
    let a = label_ok s r in let b = labels_ok s t in
    let l = label_plan s r.texts.label (and_left a b h) in
    let m = notes_plan s t (and_right a b h) in
    (_ ∷ m.0, next (note_of_lem r l.0 l.1) m.1)

note_read : (s w : List ℕ) (r : Annotation) (n : Note) (a : AnnotationEntry) → NoteOf s r n → NoteBack w n a → NoteRead s w r a
note_read s w _ _ a (note_of_lem r o l) b = record { start = b.start; count = b.count; label = same_text s r.texts.label w a.texts.label o l b.label }

pub notes_read : (s w : List ℕ) {rs : List Annotation} {ns : List Note} {es : List AnnotationEntry} → Both (NoteOf s) rs ns → Both (NoteBack w) ns es → Both (NoteRead s w) rs es
notes_read s w nothing nothing = nothing
notes_read s w (next {a = r} {b = n} p ps) (next {b = x} q qs) = next (note_read s w r n x p q) (notes_read s w ps qs)

pub notes_small : (s : List ℕ) (e l : ℕ) {rs : List Annotation} {ns : List Note} → Both (NoteOf s) rs ns → annotations_ok e l rs ≡ true → e < 2 ^ 64 → Each (λ n. Small n.start n.count) ns
notes_small s e l nothing q h = Y.nothing
notes_small s e l (next {k = t} (note_of_lem r o x) ps) q h =
    let c = note_good e l r t q in
    let u : Small r.start (r.end - r.start) = record { one = omega (arith, c.up, c.upto, h); two = omega (arith, c.up, c.upto, h) } in
    Y.next u (notes_small s e r.start ps c.then h)

-- ---- their bytes
capture_text_lem : (r : Capture) → (capture_value r).0 ≡ capture_text r
unfolding capture_value capture_text all ordinary within
capture_text_lem r =
    object_text_lem 29 (decimal_field 28 (ascii "core:sample_start") refl r.start) (decimal_field 28 (ascii "core:header_bytes") refl r.header ∷ [])

captures_text : (rs : List Capture) → map (λ b. b.0) (map capture_value rs) ≡ map capture_text rs
captures_text [] = refl
captures_text (r ∷ t) = rw (capture_text_lem r, captures_text t)

label_text_lem : (s : List ℕ) (r : Annotation) (o : Option (Some Characters)) → TextOf s r.texts.label o → map (λ b. b.0) (label_field o) ≡ label_member s r
unfolding label_field label_member TextOf
label_text_lem s r none a = rw a
label_text_lem s r (some (cs, p)) a = rw a.0 (ap (λ (x : List ℕ). string_member "core:label" x ∷ []) a.1.0)

note_text : (s : List ℕ) (r : Annotation) (n : Note) → NoteOf s r n → (note_value n).0 ≡ annotation_text s r
unfolding note_value annotation_text all ordinary within
note_text s _ _ (note_of_lem r o l) =
    object_text_lem 29 (decimal_field 28 (ascii "core:sample_start") refl r.start)
    (decimal_field 28 (ascii "core:sample_count") refl (r.end - r.start) ∷ label_field o)
    ∙ ap (λ (k : List (List ℕ)). object_text (number_member "core:sample_start" r.start ∷ number_member "core:sample_count" (r.end - r.start) ∷ k)) (label_text_lem s r o l)

notes_text : (s : List ℕ) {rs : List Annotation} {ns : List Note} → Both (NoteOf s) rs ns → map (λ b. b.0) (map note_value ns) ≡ map (annotation_text s) rs
notes_text s nothing = refl
notes_text s (next {a = r} {b = n} p ps) = rw (note_text s r n p, notes_text s ps)

-- ---- the plan
module _ (t : Summary) (s : List ℕ) (cs : List Capture) (rs : List Annotation) (o : Option (Some Number)) (ns : List Note) where
  abbrev pub plan_of : Plan
  plan_of = record {
    name = datatype_name t.datatype;
    plain = name_plain t.datatype;
    channels = t.channels;
    offset = t.offset;
    trailing = t.trailing;
    rate = o;
    captures = cs;
    notes = ns;
  }

  module _ (l : TextOf s t.rate o) (b : Both (NoteOf s) rs ns) where
    rate_text : map (λ b. b.0) (rate_field o) ≡ rate_member s t
    unfolding rate_field rate_member TextOf
    rate_text = go o l where
      go : (o : Option (Some Number)) → TextOf s t.rate o → map (λ b. b.0) (rate_field o) ≡ rate_member s t
      go none a = rw a
      go (some (x, p)) a = rw a.0 (ap (λ (x : List ℕ). member_text "core:sample_rate" x ∷ []) a.1.0)

    global_text_lem : (global_value plan_of).0 ≡ global_text s t
    unfolding global_value global_text all ordinary within
    global_text_lem =
        object_text_lem 30 (plain_field 29 (ascii "core:datatype") refl (datatype_name t.datatype) (name_plain t.datatype))
        (plain_field 29 (ascii "core:version") refl (ascii "1.0.0") refl
        ∷ decimal_field 29 (ascii "core:num_channels") refl t.channels
        ∷ decimal_field 29 (ascii "core:offset") refl t.offset
        ∷ decimal_field 29 (ascii "core:trailing_bytes") refl t.trailing
        ∷ rate_field o)
        ∙ ap (λ (k : List (List ℕ)). object_text (string_member "core:datatype" (datatype_name t.datatype) ∷ string_member "core:version" (ascii "1.0.0") ∷ number_member "core:num_channels" t.channels
        ∷ number_member "core:offset" t.offset ∷ number_member "core:trailing_bytes" t.trailing ∷ k)) rate_text

    -- it is the text that is written
    pub plan_text_lem : plan_text plan_of
        ≡ object_text (member_text "global" (global_text s t) ∷ member_text "captures" (array_text (map capture_text cs)) ∷ member_text "annotations" (array_text (map (annotation_text s) rs)) ∷ [])
    unfolding top_value all ordinary within
    plan_text_lem =
        append-nil (top_value plan_of).0
        ∙ object_text_lem 31 (field 31 (ascii "global") refl (global_value plan_of).0 (global_value plan_of).1)
        (field 31 (ascii "captures") refl (captures_value plan_of).0 (captures_value plan_of).1 ∷ field 31 (ascii "annotations") refl (notes_value plan_of).0 (notes_value plan_of).1 ∷ [])
        ∙ ap (λ (k : List ℕ). object_text (member_text "global" k ∷ member_text "captures" (captures_value plan_of).0 ∷ member_text "annotations" (notes_value plan_of).0 ∷ [])) global_text_lem
        ∙ ap (λ (k : List ℕ). object_text (member_text "global" (global_text s t) ∷ member_text "captures" k ∷ member_text "annotations" (notes_value plan_of).0 ∷ []))
        (array_text_lem 30 (map capture_value cs) ∙ ap (λ (k : List (List ℕ)). array_text k) (captures_text cs))
        ∙ ap (λ (k : List ℕ). object_text (member_text "global" (global_text s t) ∷ member_text "captures" (array_text (map capture_text cs)) ∷ member_text "annotations" k ∷ []))
        (array_text_lem 30 (map note_value ns) ∙ ap (λ (k : List (List ℕ)). array_text k) (notes_text s b))
