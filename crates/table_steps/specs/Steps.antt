-- Document 01, "Rows, pieces, cuts": lists of steps (demand 3), and what they are compared with.
use Rattle.std.specs.Prelude.{ℕ, ◌+◌, ◌*◌, ◌≤◌, ◌<◌, ◌≡◌, Bool, true, ◌&&◌, cond, List, [], ◌∷◌, length, leb, eqb}
use Rattle.table.specs.Rows.{capture_width, annotation_width}
use Rattle.table.specs.Table.{well_formed}
use Rattle.table_cuts.specs.Cut.{Rows, rows_of}
use Rattle.table_steps.specs.Calls.{Held, cut_call, copy_call, copy_back, cut_held, the_cut, the_copy, sample_of}

-- ---- what runs
-- "a step asks the cut and copy of any a and b, into other memory of any size": and of any content
pub record Step : Type 0 where
  pub from : ℕ
  pub to : ℕ
  pub captures : List ℕ
  pub annotations : List ℕ
  pub bytes : List ℕ

-- "It is accepted if both are"
unfoldable pub step_accepted : Held → Step → Bool
step_accepted s k =
    eqb (cut_call s k.from k.to k.captures k.annotations).summary.refusal 0 && eqb (copy_call s k.from k.to k.bytes).answer.refusal 0

-- "and leaves the cut's table and, as dataset, the bytes copied"
unfoldable pub left : Held → Step → Held
left s k = cut_held s k.from k.to k.captures k.annotations (copy_back s k.from k.to k.bytes)

-- "otherwise the old ones"
unfoldable pub step : Held → Step → Held
step s k = cond (step_accepted s k) (left s k) s

unfoldable pub run : Held → List Step → Held
run s [] = s
run s (k ∷ ks) = run (step s k) ks

-- which steps of a list were accepted
unfoldable pub accepts : Held → List Step → List Bool
accepts s [] = []
accepts s (k ∷ ks) = step_accepted s k ∷ accepts (step s k) ks

-- ---- "What this is compared with keeps only the original and the last accepted range"
pub data Last : Type 0 where
  none : Last
  some : ℕ → ℕ → Last

-- "and is fed only each step's a, b and memory sizes"
pub record Sizes : Type 0 where
  pub from : ℕ
  pub to : ℕ
  pub capture_room : ℕ
  pub annotation_room : ℕ
  pub byte_room : ℕ

abbrev pub sizes : Step → Sizes
sizes k = record { from = k.from; to = k.to; capture_room = length k.captures; annotation_room = length k.annotations; byte_room = length k.bytes }

unfoldable pub all_sizes : List Step → List Sizes
all_sizes [] = []
all_sizes (k ∷ ks) = sizes k ∷ all_sizes ks

-- the last accepted range, at first the whole recording
unfoldable pub low : Held → Last → ℕ
low z none = z.table.summary.offset
low z (some a b) = a

unfoldable pub high : Held → Last → ℕ
high z none = z.table.summary.offset + z.table.summary.samples
high z (some a b) = b

-- a range in order within lo to hi, with room for n capture rows, m annotation rows and y bytes
unfoldable pub fits : ℕ → ℕ → ℕ → ℕ → ℕ → Sizes → Bool
fits lo hi n m y k =
    leb lo k.from && leb k.from k.to && leb k.to hi
    && (leb (capture_width * n) k.capture_room && leb (annotation_width * m) k.annotation_room) && leb y k.byte_room

-- the model takes a step if its range lies in order within the last accepted one and the direct cut and copy have room
unfoldable pub takes : Held → Last → Sizes → Bool
takes z p k =
    fits (low z p) (high z p) (length (the_cut z k.from k.to).captures) (length (the_cut z k.from k.to).annotations) (length (the_copy z k.from k.to)) k

unfoldable pub next : Held → Last → Sizes → Last
next z p k = cond (takes z p k) (some k.from k.to) p

unfoldable pub last : Held → Last → List Sizes → Last
last z p [] = p
last z p (k ∷ ks) = last z (next z p k) ks

unfoldable pub model : Held → Last → List Sizes → List Bool
model z p [] = []
model z p (k ∷ ks) = takes z p k ∷ model z (next z p k) ks

-- ---- what is compared: summary, rows and dataset
pub record Seen : Type 0 where
  pub rows : Rows
  pub bytes : List ℕ

unfoldable pub seen : Held → Seen
seen s = record { rows = rows_of s.table; bytes = s.bytes }

-- one direct cut and copy of the original, or the original's own
unfoldable pub direct : Held → Last → Seen
direct z none = seen z
direct z (some a b) = record { rows = the_cut z a b; bytes = the_copy z a b }

-- demand 3, of the original z and any list of steps
pub record Demand3 (z : Held) (ks : List Step) : Type 0 where
  -- the steps that are accepted are those that the model takes
  pub same : accepts z ks ≡ model z none (all_sizes ks)
  -- at the end all is as after one direct cut and copy to the last accepted range
  pub end : seen (run z ks) ≡ direct z (last z none (all_sizes ks))
  -- a well-formed table with a dataset of its length
  pub formed : well_formed (run z ks).table ≡ true
  pub long : length (run z ks).bytes ≡ (run z ks).table.summary.size
  -- its range is the last accepted one, and each sample of it has the bytes that it had
  pub from : (run z ks).table.summary.offset ≡ low z (last z none (all_sizes ks))
  pub upto : (run z ks).table.summary.offset + (run z ks).table.summary.samples ≡ high z (last z none (all_sizes ks))
  pub samples : (i : ℕ) → low z (last z none (all_sizes ks)) ≤ i → i < high z (last z none (all_sizes ks)) → sample_of (run z ks) i ≡ sample_of z i
