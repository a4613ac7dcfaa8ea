-- Texts that document 01 judges decoded: "Names, and the texts of datatype, version and datetime, are judged after escapes are
-- decoded". A name is handed over raw, between its quotes; a value as the part of the text that holds it, with its quotes.
use Rattle.std.specs.Prelude.{Bool, List, ℕ}
use Rattle.json_blocks.specs.TextBytes.{ascii}
use Rattle.json_strings.specs.Decode.{decoded_from}
use Rattle.json_names.specs.Same.{same}
use Rattle.sigmf_datatypes.specs.Datatypes.{datatypes}
use Rattle.sigmf_texts.specs.Lookup.{index_in}

abbrev pub name_text : List ℕ → List ℕ
name_text raw = decoded_from raw 0

abbrev pub value_text : List ℕ → List ℕ
value_text p = decoded_from p 1

-- refusal 8: "`core:version` is not `1.0.0`"
abbrev pub version_ok : List ℕ → Bool
version_ok p = same (value_text p) (ascii "1.0.0")

-- refusal 9: "`core:datatype` is not in the list": the code of a decoded text, or how many codes there are
abbrev pub code_of : List ℕ → ℕ
code_of d = index_in (λ r. r.name) datatypes d
