-- The written text in the parts that it is written in.
use Prim.Native.Nat.{ℕ, zero, suc, ◌-◌, ◌≤◌, ◌<◌}
use mathlib.Core.Path.{◌≡◌, refl, sym, ap, ◌∙◌}
use mathlib.Core.Bool.{Bool, true, false, cond}
use mathlib.Core.List.{List, [], ◌∷◌, ◌++◌, map, append_assoc, append-nil}
use native.Mathlib.Omega.{arith}
use lib.ListN.{length, set}
use lib.Seq.{set_split}
use Rattle.json_blocks.specs.TextBytes.{ascii}
use Rattle.sigmf_datatypes.specs.Datatypes.{datatype_name}
use Rattle.table.specs.declared.Annotation.{Annotation}
use Rattle.table.specs.declared.Capture.{Capture}
use Rattle.table.specs.declared.Place.{Place}
use Rattle.table.specs.declared.Summary.{Summary}
use Rattle.table.specs.Memory.{written}
use Rattle.table.specs.Place.{absent}
use Rattle.table.specs.Rows.{capture_at, annotation_at, rows_from, rest, flat, table}
use Rattle.decimal.specs.Decimal.{digits_of, field}
use Rattle.listing_labels.specs.Text.{part}
use Rattle.output.proofs.Writing.{joined, Parts, parts_of, parts_pair}
use Rattle.writer.specs.Metadata.{commas, object_text, member_text, number_member, string_member, rate_member, global_text, capture_text, label_member, annotation_text, metadata_of}
use Rattle.writer.specs.TextParts.{raw_member, comma_before, item, items, format_text, head_text}

-- ---- a text with c after it, whose own last part is Z
-- the bytes D, then Z; and D in front of a byte q
after : (D Z c : List ℕ) → (D ++ Z) ++ c ≡ D ++ (Z ++ c)
after D Z c = append_assoc D Z c

after_one : (D q Z c : List ℕ) → ((D ++ q) ++ Z) ++ c ≡ D ++ ((q ++ Z) ++ c)
after_one D q Z c = ap (λ (l : List ℕ). l ++ c) (append_assoc D q Z) ∙ append_assoc D (q ++ Z) c

-- ---- a comma
pub comma_nothing : (k : ℕ) (m : List ℕ) → k ≡ 0 → (0 ≡ length (comma_before k)) × (m ≡ written (comma_before k) m)
unfolding comma_before
comma_nothing k m e = (rw e, rw e)

pub comma_room : (k : ℕ) (m : List ℕ) → (k ≡ 0 → ⊥) → length (comma_before k) ≤ length m → 0 < length m
unfolding comma_before
comma_room zero m h l = absurd (h refl)
comma_room (suc k) m h l = omega arith

pub comma_put : (k : ℕ) (m : List ℕ) → (k ≡ 0 → ⊥) → length (comma_before k) ≤ length m → (1 ≡ length (comma_before k)) × (set m 0 0x2C ≡ written (comma_before k) m)
unfolding comma_before
comma_put zero m h l = absurd (h refl)
comma_put (suc k) m h l = (refl, set_split m 0 0x2C (omega arith))

-- ---- a raw text as a member
pub raw_parts : (before s : List ℕ) (p : Place) (z : List ℕ) → absent p ≡ false → (x : List ℕ) → x ≡ part s p → Parts (raw_member before s p z) (before ∷ x ∷ z ∷ [])
unfolding raw_member
raw_parts before s p z e x q = record { whole = rw (e, sym q) (append_assoc before x z ∙ ap (λ (l : List ℕ). before ++ (x ++ l)) (sym (append-nil z))) }

-- ---- rows
pub capture_parts : (r : Capture) → Parts (capture_text r)
    (field (ascii "{\"core:sample_start\":") r.start ∷ field (ascii ",\"core:header_bytes\":") r.header ∷ ascii "}" ∷ [])
unfolding capture_text commas field
capture_parts r = record {
  whole = ap (λ (l : List ℕ). ascii "{\"core:sample_start\":" ++ l) (after (digits_of r.start) (ascii ",\"core:header_bytes\":" ++ digits_of r.header) (ascii "}"));
}

annotation_by : (b : Bool) (a n : ℕ) (x : List ℕ)
    → object_text (number_member "core:sample_start" a ∷ number_member "core:sample_count" n ∷ cond b [] (string_member "core:label" x ∷ []))
    ≡ joined (field (ascii "{\"core:sample_start\":") a ∷ field (ascii ",\"core:sample_count\":") n ∷ cond b [] (ascii ",\"core:label\":\"" ++ x ++ ascii "\"") ∷ ascii "}" ∷ [])
unfolding commas field
annotation_by true a n x =
    ap (λ (l : List ℕ). ascii "{\"core:sample_start\":" ++ l) (after (digits_of a) (ascii ",\"core:sample_count\":" ++ digits_of n) (ascii "}"))
annotation_by false a n x =
    ap (λ (l : List ℕ). ascii "{\"core:sample_start\":" ++ l)
    (after (digits_of a) (ascii ",\"core:sample_count\":" ++ (digits_of n ++ (ascii ",\"core:label\":\"" ++ (x ++ ascii "\"")))) (ascii "}")
    ∙ ap (λ (l : List ℕ). digits_of a ++ (ascii ",\"core:sample_count\":" ++ l)) (after (digits_of n) (ascii ",\"core:label\":\"" ++ (x ++ ascii "\"")) (ascii "}")))

pub annotation_parts : (s : List ℕ) (r : Annotation) → Parts (annotation_text s r)
    (field (ascii "{\"core:sample_start\":") r.start ∷ field (ascii ",\"core:sample_count\":") (r.end - r.start)
    ∷ raw_member (ascii ",\"core:label\":\"") s r.texts.label (ascii "\"") ∷ ascii "}" ∷ [])
unfolding annotation_text label_member raw_member
annotation_parts s r = record { whole = annotation_by (absent r.texts.label) r.start (r.end - r.start) (part s r.texts.label) }

-- with the count n
pub annotation_parts_by : (s : List ℕ) (r : Annotation) (n : ℕ) → n ≡ r.end - r.start → Parts (annotation_text s r)
    (field (ascii "{\"core:sample_start\":") r.start ∷ field (ascii ",\"core:sample_count\":") n
    ∷ raw_member (ascii ",\"core:label\":\"") s r.texts.label (ascii "\"") ∷ ascii "}" ∷ [])
annotation_parts_by s r n e = rw e (annotation_parts s r)

-- a row with its comma
pub item_parts : (k : ℕ) {F : List ℕ} {ps : List (List ℕ)} → Parts F ps → Parts (comma_before k ++ F) (comma_before k ∷ ps)
item_parts k P = record { whole = ap (λ (l : List ℕ). comma_before k ++ l) P.whole }

-- ---- what comes before the captures
head_by : (b : Bool) (N : List ℕ) (c o t : ℕ) (x : List ℕ)
    → ascii "{\"global\":" ++ object_text (string_member "core:datatype" N ∷ string_member "core:version" (ascii "1.0.0") ∷ number_member "core:num_channels" c
    ∷ number_member "core:offset" o ∷ number_member "core:trailing_bytes" t ∷ cond b [] (member_text "core:sample_rate" x ∷ []))
    ≡ joined (ascii "{\"global\":{\"core:datatype\":\"" ∷ N ∷ field (ascii "\",\"core:version\":\"1.0.0\",\"core:num_channels\":") c
    ∷ field (ascii ",\"core:offset\":") o ∷ field (ascii ",\"core:trailing_bytes\":") t ∷ cond b [] (ascii ",\"core:sample_rate\":" ++ x ++ []) ∷ ascii "}" ∷ [])
unfolding commas field
head_by true N c o t x =
    ap (λ (l : List ℕ). ascii "{\"global\":{\"core:datatype\":\"" ++ l)
    (after_one N (ascii "\"") (ascii ",\"core:version\":\"1.0.0\",\"core:num_channels\":" ++ (digits_of c ++ (ascii ",\"core:offset\":" ++ (digits_of o ++ (ascii ",\"core:trailing_bytes\":" ++ digits_of t))))) (ascii "}")
    ∙ ap (λ (l : List ℕ). N ++ (ascii "\",\"core:version\":\"1.0.0\",\"core:num_channels\":" ++ l))
    (after (digits_of c) (ascii ",\"core:offset\":" ++ (digits_of o ++ (ascii ",\"core:trailing_bytes\":" ++ digits_of t))) (ascii "}")
    ∙ ap (λ (l : List ℕ). digits_of c ++ (ascii ",\"core:offset\":" ++ l)) (after (digits_of o) (ascii ",\"core:trailing_bytes\":" ++ digits_of t) (ascii "}"))))
head_by false N c o t x =
    ap (λ (l : List ℕ). ascii "{\"global\":{\"core:datatype\":\"" ++ l)
    (after_one N (ascii "\"") (ascii ",\"core:version\":\"1.0.0\",\"core:num_channels\":" ++ (digits_of c ++ (ascii ",\"core:offset\":" ++ (digits_of o ++ (ascii ",\"core:trailing_bytes\":" ++ (digits_of t ++ (ascii ",\"core:sample_rate\":" ++ x))))))) (ascii "}")
    ∙ ap (λ (l : List ℕ). N ++ (ascii "\",\"core:version\":\"1.0.0\",\"core:num_channels\":" ++ l))
    (after (digits_of c) (ascii ",\"core:offset\":" ++ (digits_of o ++ (ascii ",\"core:trailing_bytes\":" ++ (digits_of t ++ (ascii ",\"core:sample_rate\":" ++ x))))) (ascii "}")
    ∙ ap (λ (l : List ℕ). digits_of c ++ (ascii ",\"core:offset\":" ++ l))
    (after (digits_of o) (ascii ",\"core:trailing_bytes\":" ++ (digits_of t ++ (ascii ",\"core:sample_rate\":" ++ x))) (ascii "}")
    ∙ ap (λ (l : List ℕ). digits_of o ++ (ascii ",\"core:trailing_bytes\":" ++ l))
    (after (digits_of t) (ascii ",\"core:sample_rate\":" ++ x) (ascii "}")
    ∙ ap (λ (l : List ℕ). digits_of t ++ (ascii ",\"core:sample_rate\":" ++ (l ++ ascii "}"))) (sym (append-nil x))))))

pub head_parts : (s : List ℕ) (t : Summary) → Parts (head_text s t)
    (ascii "{\"global\":{\"core:datatype\":\"" ∷ datatype_name t.datatype ∷ field (ascii "\",\"core:version\":\"1.0.0\",\"core:num_channels\":") t.channels
    ∷ field (ascii ",\"core:offset\":") t.offset ∷ field (ascii ",\"core:trailing_bytes\":") t.trailing
    ∷ raw_member (ascii ",\"core:sample_rate\":") s t.rate [] ∷ ascii "}" ∷ [])
unfolding global_text rate_member raw_member
head_parts s t = record { whole = head_by (absent t.rate) (datatype_name t.datatype) t.channels t.offset t.trailing (part s t.rate) }

pub format_parts : (t : Summary) → Parts (format_text t)
    (ascii "{\"global\":{\"core:datatype\":\"" ∷ datatype_name t.datatype ∷ field (ascii "\",\"core:version\":\"1.0.0\",\"core:num_channels\":") t.channels ∷ [])
format_parts t = parts_of (ascii "{\"global\":{\"core:datatype\":\"") (datatype_name t.datatype ∷ field (ascii "\",\"core:version\":\"1.0.0\",\"core:num_channels\":") t.channels ∷ [])

pub head_in_parts : (s : List ℕ) (t : Summary) → Parts (head_text s t)
    (format_text t ∷ field (ascii ",\"core:offset\":") t.offset ∷ field (ascii ",\"core:trailing_bytes\":") t.trailing
    ∷ raw_member (ascii ",\"core:sample_rate\":") s t.rate [] ∷ ascii "}" ∷ [])
head_in_parts s t = parts_pair (parts_pair (head_parts s t))

-- ---- the rows of an array
module _ {A : Type 0} (f : A → List ℕ) (at : ℕ → A) where
  -- after the first
  later : (j k : ℕ) (x : List ℕ) → x ++ flat (λ l. l) (rows_from (item f at) j (suc k)) ≡ commas (x ∷ map f (rows_from at j (suc k)))
  unfolding rows_from flat commas comma_before
  later zero k x = append-nil x
  later (suc j) k x = ap (λ (l : List ℕ). x ++ (0x2C ∷ l)) (later j (suc k) (f (at (suc k))))

  all_from : (j : ℕ) → flat (λ l. l) (rows_from (item f at) j 0) ≡ commas (map f (rows_from at j 0))
  unfolding rows_from flat commas comma_before
  all_from zero = refl
  all_from (suc j) = later j 0 (f (at 0))

  pub items_are : (n : ℕ) → items f at n ≡ commas (map f (rest at n 0))
  items_are n = all_from (n - 0)

-- ---- the whole
whole_by : (G C N : List ℕ)
    → 0x7B ∷ (commas (member_text "global" G ∷ member_text "captures" (0x5B ∷ (C ++ (0x5D ∷ []))) ∷ member_text "annotations" (0x5B ∷ (N ++ (0x5D ∷ []))) ∷ []) ++ (0x7D ∷ []))
    ≡ joined ((ascii "{\"global\":" ++ G) ∷ ascii ",\"captures\":[" ∷ C ∷ ascii "],\"annotations\":[" ∷ N ∷ ascii "]}" ∷ [])
unfolding commas
whole_by G C N =
    ap (λ (l : List ℕ). ascii "{\"global\":" ++ l)
    (after G (ascii ",\"captures\":[" ++ ((C ++ ascii "]") ++ (ascii ",\"annotations\":[" ++ (N ++ ascii "]")))) (ascii "}")
    ∙ ap (λ (l : List ℕ). G ++ (ascii ",\"captures\":[" ++ l))
    (after_one C (ascii "]") (ascii ",\"annotations\":[" ++ (N ++ ascii "]")) (ascii "}")
    ∙ ap (λ (l : List ℕ). C ++ (ascii "],\"annotations\":[" ++ l)) (after N (ascii "]") (ascii "}"))))

module _ (t : Summary) (caps notes s : List ℕ) where
  pub metadata_parts : Parts (metadata_of (table t caps notes) s)
      (head_text s t ∷ ascii ",\"captures\":[" ∷ items capture_text (capture_at caps) t.captures
      ∷ ascii "],\"annotations\":[" ∷ items (annotation_text s) (annotation_at notes) t.annotations ∷ ascii "]}" ∷ [])
  unfolding metadata_of
  metadata_parts = record {
    whole = whole_by (global_text s t) (commas (map capture_text (rest (capture_at caps) t.captures 0))) (commas (map (annotation_text s) (rest (annotation_at notes) t.annotations 0)))
        ∙ rw (sym (items_are capture_text (capture_at caps) t.captures), sym (items_are (annotation_text s) (annotation_at notes) t.annotations));
  }
