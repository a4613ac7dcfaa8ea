-- A text to be written, as numbers and raw texts with their derivations; its derivation.
use mathlib.Core.Path.{◌≡◌, refl, subst}
use mathlib.Core.Bool.{true}
use mathlib.Core.List.{List, [], ◌∷◌, ◌++◌, map}
use mathlib.Core.Option.{Option, none, some}
use Prim.Native.Nat.{ℕ, suc}
use Rattle.limits.specs.Limits.{nesting}
use Rattle.json_blocks.specs.TextBytes.{ascii, within}
use Rattle.json_blocks.specs.Lists.{all}
use Rattle.json_grammar.specs.Grammar.{Number, Characters, no_blanks, Member, Value, Text}
use Rattle.json_grammar.specs.Grammar as G
use Rattle.table.specs.declared.Capture.{Capture}
use Rattle.claims_derived.specs.Derived.{number, text, whole_of, meant, Entry, entry_from}
use Rattle.claims_written.proofs.Derivations.{ordinary, plainly, plainly_meant, decimal_derived}
use Rattle.claims_written.proofs.Pieces.{Some, number_of, string_of, object_of, array_of, field, number_said, string_said}
use Rattle.claims_written.proofs.Entries.{Has, Whole}

-- ---- members with a name that stands for itself
module _ (d : ℕ) (n : List ℕ) (e : all ordinary n ≡ true) where
  abbrev pub number_field : {x : List ℕ} → Number x → Some (Member (Value (suc d)))
  number_field {x} p = field (suc d) n e x (number_of d p)

  abbrev pub decimal_field : ℕ → Some (Member (Value (suc d)))
  decimal_field k = number_field (decimal_derived k).0

  abbrev pub text_field : {cs : List ℕ} → Characters cs → Some (Member (Value (suc d)))
  text_field {cs} p = field (suc d) n e (0x22 ∷ (cs ++ (0x22 ∷ []))) (string_of d p)

  abbrev pub plain_field : (x : List ℕ) → all ordinary x ≡ true → Some (Member (Value (suc d)))
  plain_field x q = text_field (plainly x q)

  abbrev pub entry : ℕ → Some (Member (Value (suc d))) → Entry
  entry i a = entry_from (suc d) i a.0 a.1

  pub number_has : (i : ℕ) {x : List ℕ} (p : Number x) → Has n (number (whole_of p)) (entry i (number_field p))
  number_has i p = record { name = plainly_meant n e; scalar = number_said d _ p }

  pub decimal_has : (i k : ℕ) → Has n (Whole k) (entry i (decimal_field k))
  decimal_has i k = subst (λ (w : Option ℕ). Has n (number w) (entry i (decimal_field k))) (decimal_derived k).1 (number_has i (decimal_derived k).0)

  pub text_has : (i : ℕ) {cs : List ℕ} (p : Characters cs) → Has n (text (meant p)) (entry i (text_field p))
  text_has i p = record { name = plainly_meant n e; scalar = string_said d _ p }

  pub plain_has : (i : ℕ) (x : List ℕ) (q : all ordinary x ≡ true) → Has n (text x) (entry i (plain_field x q))
  plain_has i x q = subst (λ (w : List ℕ). Has n (text w) (entry i (plain_field x q))) (plainly_meant x q) (text_has i (plainly x q))

-- ---- what is to be written
pub record Note : Type 0 where
  pub start : ℕ
  pub count : ℕ
  pub label : Option (Some Characters)

pub record Plan : Type 0 where
  pub name : List ℕ
  pub plain : all ordinary name ≡ true
  pub channels : ℕ
  pub offset : ℕ
  pub trailing : ℕ
  pub rate : Option (Some Number)
  pub captures : List Capture
  pub notes : List Note

unfoldable pub capture_value : Capture → Some (Value 30)
unfolding all ordinary within
capture_value r =
    object_of 29 (decimal_field 28 (ascii "core:sample_start") refl r.start)
    (decimal_field 28 (ascii "core:header_bytes") refl r.header ∷ [])

unfoldable pub label_field : Option (Some Characters) → List (Some (Member (Value 29)))
unfolding all ordinary within
label_field none = []
label_field (some (cs, p)) = text_field 28 (ascii "core:label") refl p ∷ []

unfoldable pub note_value : Note → Some (Value 30)
unfolding all ordinary within
note_value r =
    object_of 29 (decimal_field 28 (ascii "core:sample_start") refl r.start)
    (decimal_field 28 (ascii "core:sample_count") refl r.count ∷ label_field r.label)

unfoldable pub rate_field : Option (Some Number) → List (Some (Member (Value 30)))
unfolding all ordinary within
rate_field none = []
rate_field (some (x, p)) = number_field 29 (ascii "core:sample_rate") refl p ∷ []

unfoldable pub global_value : Plan → Some (Value 31)
unfolding all ordinary within
global_value p =
    object_of 30 (plain_field 29 (ascii "core:datatype") refl p.name p.plain)
    (plain_field 29 (ascii "core:version") refl (ascii "1.0.0") refl
    ∷ decimal_field 29 (ascii "core:num_channels") refl p.channels
    ∷ decimal_field 29 (ascii "core:offset") refl p.offset
    ∷ decimal_field 29 (ascii "core:trailing_bytes") refl p.trailing
    ∷ rate_field p.rate)

abbrev pub captures_value : Plan → Some (Value 31)
captures_value p = array_of 30 (map capture_value p.captures)

abbrev pub notes_value : Plan → Some (Value 31)
notes_value p = array_of 30 (map note_value p.notes)

unfoldable pub top_value : Plan → Some (Value 32)
unfolding all ordinary within
top_value p =
    object_of 31 (field 31 (ascii "global") refl (global_value p).0 (global_value p).1)
    (field 31 (ascii "captures") refl (captures_value p).0 (captures_value p).1
    ∷ field 31 (ascii "annotations") refl (notes_value p).0 (notes_value p).1 ∷ [])

abbrev pub plan_text : Plan → List ℕ
plan_text p = (top_value p).0 ++ []

-- its derivation
abbrev pub planned : (p : Plan) → Text nesting (plan_text p)
planned p = G.text {w = []} {u = []} (top_value p).0 no_blanks (top_value p).1 no_blanks
