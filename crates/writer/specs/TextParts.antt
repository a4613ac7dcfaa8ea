-- For the code: the parts that the text is written in, and how long they are.
use Rattle.std.specs.Prelude.{ℕ, zero, suc, ◌+◌, cond, List, [], ◌++◌, length}
use Rattle.json_blocks.specs.TextBytes.{ascii}
use Rattle.sigmf_datatypes.specs.Datatypes.{datatype_name}
use Rattle.table.specs.declared.Place.{Place}
use Rattle.table.specs.declared.Summary.{Summary}
use Rattle.table.specs.Place.{absent}
use Rattle.table.specs.Rows.{rest, flat}
use Rattle.decimal.specs.Decimal.{field}
use Rattle.listing_labels.specs.Text.{part}
use Rattle.writer.specs.Metadata.{global_text}

-- ---- a member whose value is a raw text, with the bytes before and after it; nothing if the text is absent
unfoldable pub raw_member : List ℕ → List ℕ → Place → List ℕ → List ℕ
raw_member before s p after = cond (absent p) [] (before ++ part s p ++ after)

-- how long it is, with n bytes around the text
unfoldable pub raw_length : ℕ → List ℕ → Place → ℕ
raw_length n s p = cond (absent p) 0 (n + length (part s p))

-- ---- the rows of an array: a comma before each but the first, row 0
unfoldable pub comma_before : ℕ → List ℕ
comma_before zero = []
comma_before (suc k) = ascii ","

-- row k, f being the text of a row
abbrev pub item : {A : Type 0} → (A → List ℕ) → (ℕ → A) → ℕ → List ℕ
item f at k = comma_before k ++ f (at k)

-- n rows
abbrev pub items : {A : Type 0} → (A → List ℕ) → (ℕ → A) → ℕ → List ℕ
items f at n = flat (λ x. x) (rest (item f at) n 0)

-- ---- the beginning of global, up to the channels
abbrev pub format_text : Summary → List ℕ
format_text t = ascii "{\"global\":{\"core:datatype\":\"" ++ datatype_name t.datatype ++ field (ascii "\",\"core:version\":\"1.0.0\",\"core:num_channels\":") t.channels

-- what comes before the captures
abbrev pub head_text : List ℕ → Summary → List ℕ
head_text s t = ascii "{\"global\":" ++ global_text s t
