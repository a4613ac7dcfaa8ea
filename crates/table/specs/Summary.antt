-- Document 01, "Rows, pieces, cuts": the numbers of a summary.
use Rattle.std.specs.Prelude.{ℕ, List, [], ◌∷◌, get_or}
use Rattle.table.specs.declared.Summary.{Summary}

-- "refusal, datatype code, channels, W, O, T, N, D, both counts, place and length of sample_rate"
abbrev pub summary_width : ℕ
summary_width = 12

abbrev pub summary_numbers : Summary → List ℕ
summary_numbers t =
    t.refusal ∷ t.datatype ∷ t.channels ∷ t.width ∷ t.offset ∷ t.trailing ∷ t.samples ∷ t.size ∷ t.captures ∷ t.annotations ∷ t.rate.at ∷ t.rate.len ∷ []

-- the summary that they are
abbrev pub summary_of : List ℕ → Summary
summary_of l = record {
  refusal = get_or l 0 0;
  datatype = get_or l 1 0;
  channels = get_or l 2 0;
  width = get_or l 3 0;
  offset = get_or l 4 0;
  trailing = get_or l 5 0;
  samples = get_or l 6 0;
  size = get_or l 7 0;
  captures = get_or l 8 0;
  annotations = get_or l 9 0;
  rate = record { at = get_or l 10 0; len = get_or l 11 0 };
}
