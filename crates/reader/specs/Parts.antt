-- For the code: what each part of a metadata file gives cause for.
use Rattle.std.specs.Prelude.{◌≡◌, Bool, true, false, cond, ◌&&◌, List, [], ◌∷◌, map, ℕ, ◌≤◌, ◌<◌, ◌+◌, ◌-◌, ◌*◌, length, take, eqb}
use Rattle.std.proofs.Math.Option.{Option, none, some}
use Rattle.limits.specs.Limits.{nesting}
use Rattle.refusals.specs.Refusals.{least}
use Rattle.json_blocks.specs.TextBytes.{byte, ascii, to}
use Rattle.json_grammar.specs.ByPlace.{value_at}
use Rattle.json_grammar.specs.Skip.{skip_value}
use Rattle.json_names.specs.Same.{same}
use Rattle.json_walk.specs.declared.Element.{Element}
use Rattle.json_walk.specs.Members.{elements_at}
use Rattle.table.specs.Memory.{put_row}
use Rattle.table.specs.Rows.{flat}
use Rattle.reader_layout.specs.Layout.{Contents}
use Rattle.reader_layout.specs.Entries.{entry_width, entry_numbers, note_width, note_numbers}
use Rattle.sigmf_objects.specs.Fields.{Value, close_at}
use Rattle.sigmf_objects.specs.Global.{read_global}
use Rattle.sigmf_objects.specs.Capture.{read_capture}
use Rattle.sigmf_objects.specs.Annotation.{read_annotation}
use Rattle.reader.specs.Kind.{Kind}
use Rattle.reader.specs.Kind as K
use Rattle.reader.specs.declared.TopName.{TopName}
use Rattle.reader.specs.declared.TopName.TheVariants as N
use Rattle.reader.specs.declared.TopPlaces.{TopPlaces}
use Rattle.reader.specs.declared.GlobalRead.{GlobalRead}
use Rattle.reader.specs.declared.ArrayRead.{ArrayRead}
use Rattle.reader.specs.declared.TopRead.{TopRead}
use Rattle.reader.specs.declared.Scanned.{Scanned}
use Rattle.reader.specs.File.{top_member, is_object}

-- ---- sizes
-- the levels left for a member of the top level, and for an element of an array there
abbrev pub top_levels : ℕ
top_levels = nesting - 1

abbrev pub array_levels : ℕ
array_levels = nesting - 2

-- the fewest bytes of the text that an entry takes (element_long of proofs/ArrayLaws.antt)
abbrev pub entry_bytes : ℕ
entry_bytes = 20

-- the longest short text
abbrev pub short_text : ℕ
short_text = 4096

-- ---- the members of the top level
-- the value at a place was read, with d levels below
abbrev pub WasRead : ℕ → List ℕ → ℕ → Type 0
WasRead d s at = (j : ℕ) × (value_at d s at ≡ to j)

-- and a walk passes it
abbrev pub WasPassed : List ℕ → ℕ → Type 0
WasPassed s at = value_at top_levels s at ≡ to (skip_value s at)

-- which of the three names a decoded one is
unfoldable pub top_name : List ℕ → TopName
top_name n =
    cond (same n (ascii "global")) N.Global
    (cond (same n (ascii "captures")) N.Captures (cond (same n (ascii "annotations")) N.Annotations N.Other))

-- the places of the three members: none yet, and after one more with its value at a place
abbrev pub no_places : TopPlaces
no_places = record { global = 0; captures = 0; annotations = 0 }

abbrev pub places_with : TopName → ℕ → TopPlaces → TopPlaces
places_with N.Global at t = record { global = at; captures = t.captures; annotations = t.annotations }
places_with N.Captures at t = record { global = t.global; captures = at; annotations = t.annotations }
places_with N.Annotations at t = record { global = t.global; captures = t.captures; annotations = at }
places_with N.Other at t = t

-- a member's value kept by its place p; 0 stands for none
pub data MemberPlace (s : List ℕ) (p : ℕ) : Option Value → Type 0 where
  absent : p ≡ 0 → MemberPlace s p none
  present : {v : Value} → p ≡ v.at → 0 < p → WasRead top_levels s p → MemberPlace s p (some v)

pub record TopFound (s : List ℕ) (t : TopPlaces) : Type 0 where
  pub global : MemberPlace s t.global (top_member "global" s)
  pub captures : MemberPlace s t.captures (top_member "captures" s)
  pub annotations : MemberPlace s t.annotations (top_member "annotations" s)

-- there is a value, and b is its first byte
unfoldable pub begins : List ℕ → ℕ → ℕ → Bool
begins s b p = cond (eqb p 0) false (eqb (byte s p) b)

abbrev pub shaped : List ℕ → TopPlaces → Bool
shaped s t = begins s 0x7B t.global && begins s 0x5B t.captures && begins s 0x5B t.annotations

-- ---- the elements of an array
abbrev pub entry_size : Kind → ℕ
entry_size K.Capture = entry_width
entry_size K.Annotation = note_width

-- of the object at a place: the lowest number it gives cause for, and the numbers that are kept of it
abbrev pub object_low : Kind → List ℕ → ℕ → ℕ
object_low K.Capture s at = (read_capture s at).low
object_low K.Annotation s at = (read_annotation s at).low

abbrev pub object_numbers : Kind → List ℕ → ℕ → List ℕ
object_numbers K.Capture s at = entry_numbers (read_capture s at).entry
object_numbers K.Annotation s at = note_numbers (read_annotation s at).entry

-- of the element at a place: 4 if it is no object
unfoldable pub element_low : Kind → List ℕ → ℕ → ℕ
element_low k s at = cond (is_object s at) (object_low k s at) 4

-- past it, as the walks over an object's own members tell, so that no object is passed twice
unfoldable pub element_end : List ℕ → ℕ → ℕ
element_end s at = cond (is_object s at) (close_at s at + 1) (skip_value s at)

-- kept as entry n of a memory, if it is an object
abbrev pub element_put : Kind → List ℕ → ℕ → List ℕ → ℕ → List ℕ
element_put k s at m n = cond (is_object s at) (put_row (entry_size k) m n (object_numbers k s at)) m

unfoldable pub array_low : Kind → List ℕ → List Element → ℕ
array_low k s [] = 0
array_low k s (e ∷ es) = least (element_low k s e.at) (array_low k s es)

-- n elements are kept at the front of a memory
abbrev pub EntriesKept : Kind → List ℕ → List Element → List ℕ → ℕ → Type 0
EntriesKept k s es m n = (n ≡ length es) × (take (entry_size k * n) m ≡ flat (λ e. object_numbers k s e.at) es)

-- there is room for the entries of a text
abbrev pub EntriesRoom : List ℕ → List ℕ → List ℕ → Type 0
EntriesRoom s caps notes = (entry_size K.Capture * length s ≤ entry_bytes * length caps) × (entry_size K.Annotation * length s ≤ entry_bytes * length notes)

-- the same, of memory for so many numbers
abbrev pub HasRoom : List ℕ → ℕ → ℕ → Type 0
HasRoom s caps notes = (entry_size K.Capture * length s ≤ entry_bytes * caps) × (entry_size K.Annotation * length s ≤ entry_bytes * notes)

-- ---- what was read of the three parts: of one that has not its own shape, anything
abbrev pub GlobalIs : List ℕ → ℕ → GlobalRead → Type 0
GlobalIs s p g = begins s 0x7B p ≡ true → (g.low ≡ (read_global s p).low) × (g.globals ≡ (read_global s p).globals)

abbrev pub ArrayIs : Kind → List ℕ → ℕ → ArrayRead → List ℕ → Type 0
ArrayIs k s p a m =
    begins s 0x5B p ≡ true → (a.low ≡ array_low k s (elements_at s p)) × (a.low ≡ 0 → EntriesKept k s (elements_at s p) m a.count)

pub record PartsRead (s : List ℕ) (top : TopRead) (caps notes : List ℕ) : Type 0 where
  pub global : GlobalIs s top.places.global top.global
  pub captures : ArrayIs K.Capture s top.places.captures top.captures caps
  pub annotations : ArrayIs K.Annotation s top.places.annotations top.annotations notes

-- ---- the three parts together
abbrev pub scanned_of : TopRead → Scanned
scanned_of t = record {
  low = least (least t.global.low t.captures.low) t.annotations.low;
  globals = t.global.globals;
  captures = t.captures.count;
  annotations = t.annotations.count;
}

abbrev pub parts_low : List ℕ → TopPlaces → ℕ
parts_low s t =
    least (least (read_global s t.global).low (array_low K.Capture s (elements_at s t.captures))) (array_low K.Annotation s (elements_at s t.annotations))

abbrev pub parts_contents : List ℕ → TopPlaces → Contents
parts_contents s t = record {
  globals = (read_global s t.global).globals;
  captures = map (λ e. (read_capture s e.at).entry) (elements_at s t.captures);
  annotations = map (λ e. (read_annotation s e.at).entry) (elements_at s t.annotations);
}
