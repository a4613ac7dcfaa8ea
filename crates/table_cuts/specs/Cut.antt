-- Document 01, "Rows, pieces, cuts": cuts; 18, 19, 20.
use Rattle.std.specs.Prelude.{ℕ, ◌-◌, ◌*◌, min, max, Bool, ◌&&◌, cond, List, [], ◌∷◌, ◌++◌, length, leb, ltb, eqb}
use Rattle.table.specs.declared.Capture.{Capture}
use Rattle.table.specs.declared.Annotation.{Annotation}
use Rattle.table.specs.declared.Summary.{Summary}
use Rattle.table.specs.Memory.{written}
use Rattle.table.specs.Rows.{capture_width, capture_numbers, annotation_width, annotation_numbers, flat, Table, captures_of, annotations_of}
use Rattle.table.specs.Table.{well_formed, no_table}
use Rattle.table_pieces.specs.Pieces.{inside}

-- samples s to e "share a sample with [a, b)"
abbrev pub shares : ℕ → ℕ → ℕ → ℕ → Bool
shares a b s e = ltb (max a s) (min b e)

abbrev pub shares_capture : ℕ → ℕ → Capture → Bool
shares_capture a b r = shares a b r.start r.end

abbrev pub shares_annotation : ℕ → ℕ → Annotation → Bool
shares_annotation a b r = shares a b r.start r.end

-- "clipped to it"; O is a and headers are 0
abbrev pub clip_capture : ℕ → ℕ → ℕ → Capture → Capture
clip_capture a b w r = record { start = max a r.start; end = min b r.end; first = (max a r.start - a) * w; header = 0 }

-- "the text places stay"
abbrev pub clip_annotation : ℕ → ℕ → Annotation → Annotation
clip_annotation a b r = record { start = max a r.start; end = min b r.end; texts = r.texts }

-- "are kept in order and clipped"; "empty ones go"
unfoldable pub kept : {A : Type 0} → (A → Bool) → (A → A) → List A → List A
kept f g [] = []
kept f g (r ∷ t) = cond (f r) (g r ∷ []) [] ++ kept f g t

abbrev pub cut_captures : ℕ → ℕ → ℕ → List Capture → List Capture
cut_captures a b w rs = kept (shares_capture a b) (clip_capture a b w) rs

abbrev pub cut_annotations : ℕ → ℕ → List Annotation → List Annotation
cut_annotations a b rs = kept (shares_annotation a b) (clip_annotation a b) rs

-- "O becomes a, N becomes b − a, T and headers 0, D = N·W"; both counts follow; "The rest of the summary and the text places stay"
unfoldable pub cut_summary : Summary → ℕ → ℕ → ℕ → ℕ → Summary
cut_summary t a b n m = record {
  refusal = t.refusal;
  datatype = t.datatype;
  channels = t.channels;
  width = t.width;
  offset = a;
  trailing = 0;
  samples = b - a;
  size = (b - a) * t.width;
  captures = n;
  annotations = m;
  rate = t.rate;
}

-- a table by its rows: the summary, and the rows read off the memories
pub record Rows : Type 0 where
  pub summary : Summary
  pub captures : List Capture
  pub annotations : List Annotation

unfoldable pub cut : ℕ → ℕ → Rows → Rows
cut a b t = record {
  summary = cut_summary t.summary a b (length (cut_captures a b t.summary.width t.captures)) (length (cut_annotations a b t.annotations));
  captures = cut_captures a b t.summary.width t.captures;
  annotations = cut_annotations a b t.annotations;
}

abbrev pub rows_of : Table → Rows
rows_of t = record { summary = t.summary; captures = captures_of t; annotations = annotations_of t }

abbrev pub cut_in : Table → ℕ → ℕ → Rows
cut_in t a b = cut a b (rows_of t)

-- x and y: how many numbers the memories for captures and for annotations hold
unfoldable pub cut_answer : Table → ℕ → ℕ → ℕ → ℕ → Summary
cut_answer t a b x y =
    cond (well_formed t)
    (cond (inside t.summary a b)
    (cond (leb (capture_width * length (cut_in t a b).captures) x && leb (annotation_width * length (cut_in t a b).annotations) y)
    (cut_in t a b).summary
    (no_table 20))
    (no_table 19))
    (no_table 18)

-- the lent memories m for captures and k for annotations after the call
abbrev pub cut_capture_memory : Table → ℕ → ℕ → List ℕ → List ℕ → List ℕ
cut_capture_memory t a b m k =
    cond (eqb (cut_answer t a b (length m) (length k)).refusal 0) (written (flat capture_numbers (cut_in t a b).captures) m) m

abbrev pub cut_annotation_memory : Table → ℕ → ℕ → List ℕ → List ℕ → List ℕ
cut_annotation_memory t a b m k =
    cond (eqb (cut_answer t a b (length m) (length k)).refusal 0) (written (flat annotation_numbers (cut_in t a b).annotations) k) k
