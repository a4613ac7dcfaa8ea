-- Demand 2, of the listing of an accepted recording: "the listing has one line for the recording, each capture and each annotation, whatever a
-- label contains, and each label's text can be recovered from its line". s is the metadata, t the table as it was read, and m the
-- output lent to the listing, as it was.
use Rattle.std.specs.Prelude.{◌≡◌, cond, List, [], ◌∷◌, ◌++◌, map, ℕ, ◌+◌, ◌<◌, length, get_or, take, leb}
use Rattle.std.proofs.Math.Option.{Option, none, some}
use Rattle.limits.specs.Limits.{nesting}
use Rattle.json_grammar.specs.Grammar.{Text}
use Rattle.json_strings.specs.Meaning.{Means}
use Rattle.table.specs.Memory.{written}
use Rattle.table.specs.Rows.{flat, Table, captures_of, annotations_of}
use Rattle.table.specs.declared.Wrote.{Wrote}
use Rattle.listing.specs.Lines.{recording_line, capture_line, annotation_line}
use Rattle.table.specs.Wrote.{wrote}
use Rattle.listing.specs.Listing.{listing_answer, listing_memory}
use Rattle.listing_lines.specs.Split.{split_lines}
use Rattle.listing_lines.specs.Recover.{label_in}
use Rattle.reader.specs.Reading.{table_read}
use Rattle.claims_derived.specs.Derived.{Node}
use Rattle.claims_derived.specs.Rules.{value}
use Rattle.claims.specs.Demand2.{annotation}

-- what is got back from an annotation's line: none if it has no `core:label`, else what the characters of that member's value mean
pub data LabelBack : Option Node → Option (List ℕ) → Type 0 where
  no_label : LabelBack none none
  label : {n : Node} {cs x : List ℕ} → n.bytes ≡ 0x22 ∷ (cs ++ (0x22 ∷ [])) → Means cs x → LabelBack (some n) (some x)

module _ (t : Table) (s : List ℕ) where
  -- a line each
  abbrev pub all_lines : List (List ℕ)
  all_lines = recording_line t.summary ∷ map capture_line (captures_of t) ++ map (annotation_line s) (annotations_of t)

  abbrev pub joined : List ℕ
  joined = flat (λ l. l) all_lines

-- an answer r, and the output w that the call leaves
pub record ListedBy (t : Table) (s m : List ℕ) (r : Wrote) (w : List ℕ) : Type 0 where
  -- refused for lack of room alone, and then with 20
  pub answer : r ≡ cond (leb (length (joined t s)) (length m)) (wrote 0 (length (joined t s))) (wrote 20 0)
  -- "from the front of the lent memory; beyond them nothing changes"
  pub output : w ≡ cond (leb (length (joined t s)) (length m)) (written (joined t s) m) m
  -- the lines, read off the first `bytes` bytes of the output
  pub lines : r.refusal ≡ 0 → split_lines (take r.count w) ≡ all_lines t s
  -- the line of annotation k, past those of the recording and its captures, in whatever way the text is derived
  pub labels : r.refusal ≡ 0 → (u : Text nesting s) (k : ℕ) → k < t.summary.annotations
      → LabelBack (value "core:label" (annotation u k)) (label_in (get_or (split_lines (take r.count w)) (1 + t.summary.captures + k) []))

-- of the table as the reader leaves it
abbrev pub ListedRead : List ℕ → ℕ → List ℕ → List ℕ → List ℕ → Type 0
ListedRead s d caps notes m =
    let t = table_read s d caps notes in
    ListedBy t s m (listing_answer t s (length m)) (listing_memory t s m)
