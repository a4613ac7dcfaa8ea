-- Laws of the judge of a table, and what a well-formed table tells.
use Prim.Native.Nat.{ℕ, ◌+◌, ◌-◌, ◌*◌, ◌/◌, ◌≤◌, ◌<◌, ◌^◌}
use mathlib.Core.Path.{◌≡◌, refl, sym, ap, ◌∙◌}
use mathlib.Core.Bool.{Bool, true, false, ◌&&◌, false≢true}
use Rattle.std.proofs.Common.{Option, Some, None}
use Rattle.std.specs.Option.{option_eq}
use mathlib.Core.List.{List}
use native.Mathlib.Omega.{arith}
use mir.Syntax.{w64}
use mir.Val.{Fits}
use lib.ListN.{length}
use Rattle.std.proofs.lemmas.Option.{none-some, same_Some}
use lib.Dec.{leb, eqb}
use borrow.Author.Tests.{le-leb, lt-leb, eq-eqb, leb-true, leb-false, eqb-true}
use Rattle.limits.specs.Limits.{dataset, channels}
use Rattle.sigmf_datatypes.specs.Datatypes.{is_listed, width_of, sample_bytes}
use Rattle.sigmf_datatypes.proofs.Laws.{width_least}
use Rattle.table.specs.declared.Capture.{Capture}
use Rattle.table.specs.declared.Annotation.{Annotation}
use Rattle.table.specs.declared.Summary.{Summary}
use Rattle.table.specs.Rows.{capture_width, annotation_width, capture_at, annotation_at, rest, captures, annotations, table}
use Rattle.table.specs.Samples.{header_sum, next_start}
use Rattle.table.specs.Place.{ends_within}
use Rattle.table.specs.Table.{own_entries, captures_obey, annotations_obey, all_texts, format_ok, counts_ok, sizes_ok, rows_ok, well_formed}
use Rattle.table.specs.Judge.{capture_ok, captures_ok, annotation_ok, annotations_ok, numbers_ok, layout_ok, summed, Laid}
use Rattle.table.proofs.Bools.{and_left, and_right, and_false, same_test}
use Rattle.table.proofs.ObeyLaws.{captures_obey_lem, annotations_obey_lem}
use Rattle.table.proofs.RowLaws.{rest_more, rest_at, rest_none}

-- ---- the next start
pub next_some : (l : List ℕ) (n i e : ℕ) (x : Capture) → x ≡ capture_at l i → i < n → x.start ≡ next_start e (own_entries (rest (capture_at l) n i))
unfolding next_start
next_some l n i e x q lt = rw (rest_more (capture_at l) n i lt, q)

pub next_none : (l : List ℕ) (n i e : ℕ) → n ≤ i → e ≡ next_start e (own_entries (rest (capture_at l) n i))
unfolding next_start
next_none l n i e h = rw (rest_none (capture_at l) n i h)

-- ---- the captures: their rules and the sum of headers, row by row
pub sum_split : (l : List ℕ) (n i : ℕ) (x : Capture) → x ≡ capture_at l i → i < n → header_sum (own_entries (rest (capture_at l) n i)) ≡ x.header + header_sum (own_entries (rest (capture_at l) n (i + 1)))
unfolding header_sum
sum_split l n i x e lt = rw (rest_at (capture_at l) n i x e lt)

pub record Summing (l : List ℕ) (n o e w cap s h i : ℕ) : Type 0 where
  pub low : o ≤ s
  pub under : h ≤ cap
  pub sum : h + header_sum (own_entries (rest (capture_at l) n i)) ≡ header_sum (own_entries (captures l n))
  pub good : captures_ok o e w s h (rest (capture_at l) n i) ≡ captures_ok o e w o 0 (captures l n)

pub sum_begin : (l : List ℕ) (n o e w cap : ℕ) → Summing l n o e w cap o 0 0
sum_begin l n o e w cap = record { low = omega arith; under = omega arith; sum = omega arith; good = refl }

module _ (l : List ℕ) (n o e w cap s h i : ℕ) (S : Summing l n o e w cap s h i) where
  pub sum_done : n ≤ i → Some h ≡ summed (captures_ok o e w o 0 (captures l n)) cap (header_sum (own_entries (captures l n)))
  unfolding header_sum captures_ok
  sum_done g =
      let z : h ≡ header_sum (own_entries (captures l n)) = omega (arith, S.sum, ap (λ (rs : List Capture). header_sum (own_entries rs)) (rest_none (capture_at l) n i g)) in
      let k : header_sum (own_entries (captures l n)) ≤ cap = omega (arith, S.under) in
      rw (← S.good, rest_none (capture_at l) n i g, le-leb _ _ k, z)

  module _ (x : Capture) (q : x ≡ capture_at l i) (lt : i < n) where
    pub sum_over : cap - h < x.header → None ≡ summed (captures_ok o e w o 0 (captures l n)) cap (header_sum (own_entries (captures l n)))
    sum_over g =
        let big : cap < header_sum (own_entries (captures l n)) = omega (arith, S.sum, sum_split l n i x q lt) in
        rw (lt-leb _ _ big, and_false (captures_ok o e w o 0 (captures l n)))

    module _ (g : x.header ≤ cap - h) where
      pub head_fits : (m : ℕ) → m + cap < 2 ^ 63 → Fits w64 (h + x.header)
      head_fits m b = omega (arith, S.under)

      pub head_below : (m : ℕ) → m + cap < 2 ^ 63 → m + (h + x.header) < 2 ^ 63
      head_below m b = omega (arith, S.under)

      module _ (next : ℕ) (k : next ≡ next_start e (own_entries (rest (capture_at l) n (i + 1)))) (t : Bool) (u : t ≡ capture_ok o e w s (h + x.header) next x) where
        split : t && captures_ok o e w x.start (h + x.header) (rest (capture_at l) n (i + 1)) ≡ captures_ok o e w o 0 (captures l n)
        unfolding captures_ok
        split = rw (u, k, q) (rw (rest_more (capture_at l) n i lt) at S.good)

        pub sum_bad : t ≡ false → None ≡ summed (captures_ok o e w o 0 (captures l n)) cap (header_sum (own_entries (captures l n)))
        sum_bad f =
            let z : false ≡ captures_ok o e w o 0 (captures l n) = rw f at split in
            rw (← z)

        after : t ≡ true → o ≤ x.start
        unfolding capture_ok
        after f =
            let z : leb s x.start ≡ true = and_left _ _ (and_left _ _ (and_left _ _ (sym u ∙ f))) in
            omega (arith, leb-true s x.start z, S.low)

        pub sum_on : t ≡ true → Summing l n o e w cap x.start (h + x.header) (i + 1)
        sum_on f = record { low = after f; under = omega (arith, S.under); sum = omega (arith, S.sum, sum_split l n i x q lt); good = rw f at split }

pub summed_yes : (good : Bool) (cap S a : ℕ) → Some a ≡ summed good cap S → (good ≡ true) × (a ≡ S) × (S ≤ cap)
summed_yes good cap S a e = go (good && leb S cap) refl
  where
    go : (b : Bool) → good && leb S cap ≡ b → (good ≡ true) × (a ≡ S) × (S ≤ cap)
    go true q = (and_left _ _ q, same_Some a S (rw q at e), leb-true _ _ (and_right good _ q))
    go false q = absurd (none-some a (sym (rw q at e)))

pub summed_no : (good : Bool) (cap S : ℕ) → None ≡ summed good cap S → good ≡ true → cap < S
summed_no good cap S e g = go (leb S cap) refl
  where
    go : (b : Bool) → leb S cap ≡ b → cap < S
    go false q = leb-false _ _ q
    go true q = absurd (none-some S (rw (g, q) at e))

-- ---- the layout: parts that make the size
abbrev laid_out : Summary → List Capture → Bool
laid_out t rs = captures_ok t.offset (t.offset + t.samples) t.width t.offset 0 rs

-- samples and trailer do not fit
pub fixed_over : (t : Summary) → t.size < t.trailing + t.samples * t.width → None ≡ summed true t.size (t.trailing + t.samples * t.width)
fixed_over t h = rw (lt-leb _ _ h)

module _ (t : Summary) (a : ℕ) (z : Some a ≡ summed true t.size (t.trailing + t.samples * t.width)) where
  parts : (a ≡ t.trailing + t.samples * t.width) × (a ≤ t.size)
  parts =
      let k = summed_yes true t.size (t.trailing + t.samples * t.width) a z in
      (k.1, omega (arith, k.1, k.2))

  pub lay_within : a ≤ t.size
  lay_within = parts.1

  pub lay_below : t.size ≤ dataset → (t.offset + t.samples - t.offset) * t.width + (t.size - a) < 2 ^ 63
  lay_below g =
      let n : t.offset + t.samples - t.offset ≡ t.samples = omega arith in
      rw n (omega (arith, parts))

module _ (t : Summary) (rs : List Capture) where
  layout_facts : layout_ok t rs ≡ true → (laid_out t rs ≡ true) × (t.trailing + header_sum (own_entries rs) + t.samples * t.width ≡ t.size)
  unfolding layout_ok
  layout_facts e = (and_left _ _ e, eqb-true _ _ (and_right (laid_out t rs) _ e))

  layout_true : laid_out t rs ≡ true → t.trailing + header_sum (own_entries rs) + t.samples * t.width ≡ t.size → layout_ok t rs ≡ true
  unfolding layout_ok
  layout_true e f = rw (e, eq-eqb _ _ f)

  layout_false : (t.trailing + header_sum (own_entries rs) + t.samples * t.width ≡ t.size → ⊥) → false ≡ layout_ok t rs
  layout_false f = same_test false (layout_ok t rs) (λ z. absurd (false≢true z)) (λ z y. f (layout_facts y).1)

  pub lay_over : None ≡ summed true t.size (t.trailing + t.samples * t.width) → false ≡ layout_ok t rs
  lay_over z = layout_false (λ x. omega (arith, x, summed_no true t.size (t.trailing + t.samples * t.width) z refl))

  module _ (a : ℕ) (z : Some a ≡ summed true t.size (t.trailing + t.samples * t.width)) where
    module _ (s : Option ℕ) (e : s ≡ summed (laid_out t rs) (t.size - a) (header_sum (own_entries rs))) where
      given : (r : Option ℕ) → r ≡ s → option_eq eqb r (Some (t.size - a)) ≡ true → layout_ok t rs ≡ true
      given None q x = absurd (false≢true x)
      given (Some b) q x =
          let k = summed_yes (laid_out t rs) _ (header_sum (own_entries rs)) b (q ∙ e) in
          layout_true k.0 (omega (arith, eqb-true b (t.size - a) x, k.1, parts t a z))

      found : layout_ok t rs ≡ true → option_eq eqb s (Some (t.size - a)) ≡ true
      found y =
          let k = layout_facts y in
          let h : header_sum (own_entries rs) ≡ t.size - a = omega (arith, k.1, parts t a z) in
          let g : header_sum (own_entries rs) ≤ t.size - a = omega (arith, h) in
          rw (e, k.0, le-leb _ _ g) (eq-eqb _ _ h)

      pub lay_good : option_eq eqb s (Some (t.size - a)) ≡ layout_ok t rs
      lay_good = same_test _ _ (given s refl) (λ x y. false≢true (sym x ∙ found y))

-- ---- annotations
-- row by row: B is what the whole test says, t what the row's test says
module _ (x : Annotation) (l : List ℕ) (n i e s : ℕ) (t B : Bool) (q : x ≡ annotation_at l i) (lt : i < n) (u : t ≡ annotation_ok e s x)
    (b : annotations_ok e s (rest (annotation_at l) n i) ≡ B) where
  note_split : t && annotations_ok e x.start (rest (annotation_at l) n (i + 1)) ≡ B
  unfolding annotations_ok
  note_split = rw (u, q) (rw (rest_more (annotation_at l) n i lt) at b)

  pub note_bad : t ≡ false → false ≡ B
  note_bad f = rw f at note_split

  pub note_on : t ≡ true → annotations_ok e x.start (rest (annotation_at l) n (i + 1)) ≡ B
  note_on f = rw f at note_split

pub note_done : (l : List ℕ) (n i e s : ℕ) (B : Bool) → n ≤ i → annotations_ok e s (rest (annotation_at l) n i) ≡ B → true ≡ B
unfolding annotations_ok
note_done l n i e s B g b = rw (rest_none (annotation_at l) n i g) at b

-- ---- the format
pub record Format (t : Summary) : Type 0 where
  pub code : is_listed t.datatype ≡ true
  pub some : 1 ≤ t.channels
  pub few : t.channels ≤ channels
  pub wide : t.width ≡ width_of t.datatype t.channels

pub format_facts : (t : Summary) → format_ok t ≡ true → Format t
unfolding format_ok
format_facts t e =
    let k = leb 1 t.channels && leb t.channels channels in
    let a = and_left (is_listed t.datatype && k) _ e in
    let b = and_right (is_listed t.datatype) k a in
    record { code = and_left (is_listed t.datatype) k a; some = leb-true _ _ (and_left (leb 1 t.channels) _ b); few = leb-true _ _ (and_right (leb 1 t.channels) _ b); wide = eqb-true _ _ (and_right (is_listed t.datatype && k) _ e) }

pub width_some : (t : Summary) → format_ok t ≡ true → 1 ≤ t.width
width_some t e =
    let f = format_facts t e in
    rw f.wide (width_least t.datatype t.channels f.code f.some)

module _ (t : Summary) (w : ℕ) (e : w ≡ sample_bytes t.datatype t.channels) where
  right : format_ok t ≡ true → w ≡ t.width
  unfolding sample_bytes
  right g =
      let f = format_facts t g in
      e ∙ rw (f.code, le-leb _ _ f.some, le-leb _ _ f.few) (sym f.wide)

  pub format_none : w ≡ 0 → false ≡ format_ok t
  format_none z = same_test false (format_ok t) (λ y. absurd (false≢true y)) (λ y g. omega (arith, right g, width_some t g))

  pub format_same : (w ≡ 0 → ⊥) → eqb t.width w ≡ format_ok t
  unfolding sample_bytes format_ok
  format_same z = same_test (eqb t.width w) (format_ok t) (λ y. go (is_listed t.datatype && (leb 1 t.channels && leb t.channels channels)) refl (eqb-true _ _ y)) (λ y g. false≢true (sym y ∙ eq-eqb _ _ (sym (right g))))
    where
      go : (b : Bool) → is_listed t.datatype && (leb 1 t.channels && leb t.channels channels) ≡ b → t.width ≡ w → format_ok t ≡ true
      go true q y = rw q (eq-eqb _ _ (y ∙ e ∙ rw q))
      go false q y = absurd (z (e ∙ rw q))

-- ---- the summary's numbers
pub record Numbers (t : Summary) : Type 0 where
  pub said : t.refusal ≡ 0
  pub format : format_ok t ≡ true
  pub wide : 1 ≤ t.width
  pub small : t.size ≤ dataset
  pub ends : t.offset + t.samples ≤ 2 ^ 64 - 1
  pub rate : ends_within t.rate ≡ true

pub numbers : (t : Summary) → numbers_ok t ≡ true → Numbers t
unfolding numbers_ok
numbers t e =
    let a = eqb t.refusal 0 && format_ok t in
    let b = a && leb t.size dataset in
    let c = b && leb (t.offset + t.samples) (2 ^ 64 - 1) in
    let x = and_left c _ e in
    let y = and_left b _ x in
    let z = and_left a _ y in
    let f = and_right (eqb t.refusal 0) _ z in
    record { said = eqb-true _ _ (and_left (eqb t.refusal 0) _ z); format = f; wide = width_some t f; small = leb-true _ _ (and_right a _ y); ends = leb-true _ _ (and_right b _ x); rate = and_right c _ e }

-- ---- a well-formed table
pub record Formed (t : Summary) (caps notes : List ℕ) : Type 0 where
  pub nums : Numbers t
  pub laid : Laid t caps
  pub noted : annotation_width * t.annotations ≤ length notes
  pub in_order : annotations_ok (t.offset + t.samples) t.offset (annotations notes t.annotations) ≡ true

pub formed : (t : Summary) (caps notes : List ℕ) → well_formed (table t caps notes) ≡ true → Formed t caps notes
unfolding well_formed counts_ok sizes_ok rows_ok
formed t caps notes e =
    let a = eqb t.refusal 0 && format_ok t in
    let b = a && counts_ok (table t caps notes) in
    let c = b && sizes_ok (table t caps notes) in
    let x = and_left c (rows_ok (table t caps notes)) e in
    let y = and_left b (sizes_ok (table t caps notes)) x in
    let z = and_left a (counts_ok (table t caps notes)) y in
    let f = and_right (eqb t.refusal 0) (format_ok t) z in
    let n = and_right a (counts_ok (table t caps notes)) y in
    let s = and_right b (sizes_ok (table t caps notes)) x in
    let r = and_right c (rows_ok (table t caps notes)) e in
    let s2 = and_left (eqb (t.trailing + header_sum (own_entries (captures caps t.captures)) + t.samples * t.width) t.size && leb t.size dataset) _ s in
    let small = leb-true t.size dataset (and_right (eqb (t.trailing + header_sum (own_entries (captures caps t.captures)) + t.samples * t.width) t.size) _ s2) in
    let ends = leb-true (t.offset + t.samples) (2 ^ 64 - 1) (and_right (eqb (t.trailing + header_sum (own_entries (captures caps t.captures)) + t.samples * t.width) t.size && leb t.size dataset) _ s) in
    let O = t.offset in
    let E = t.offset + t.samples in
    let C = captures caps t.captures in
    let N = annotations notes t.annotations in
    let r2 = and_left (captures_obey O E t.width C && annotations_obey O E N) _ r in
    let r3 = and_right (captures_obey O E t.width C && annotations_obey O E N) _ r in
    record {
      nums = record { said = eqb-true _ _ (and_left (eqb t.refusal 0) _ z); format = f; wide = width_some t f; small = small; ends = ends; rate = and_right (all_texts N) _ r3 };
      laid = record {
        fit = leb-true _ _ (and_left (leb (capture_width * t.captures) (length caps)) _ n);
        total = eqb-true _ _ (and_left (eqb (t.trailing + header_sum (own_entries (captures caps t.captures)) + t.samples * t.width) t.size) _ s2);
        small = small;
        ends = ends;
        in_order = captures_obey_lem O E t.width C ∙ and_left (captures_obey O E t.width C) _ r2;
      };
      noted = leb-true _ _ (and_right (leb (capture_width * t.captures) (length caps)) _ n);
      in_order = annotations_obey_lem O E N ∙ rw (and_right (captures_obey O E t.width C) _ r2) (and_left (all_texts N) _ r3);
    }

pub well_formed_lem : (t : Summary) (caps notes : List ℕ) → Formed t caps notes → well_formed (table t caps notes) ≡ true
unfolding well_formed counts_ok sizes_ok rows_ok
well_formed_lem t caps notes F =
    let N = annotations notes t.annotations in
    let c = sym (captures_obey_lem t.offset (t.offset + t.samples) t.width (captures caps t.captures)) ∙ F.laid.in_order in
    let n = sym (annotations_obey_lem t.offset (t.offset + t.samples) N) ∙ F.in_order in
    rw (
      eq-eqb _ _ F.nums.said,
      F.nums.format,
      le-leb _ _ F.laid.fit,
      le-leb _ _ F.noted,
      eq-eqb _ _ F.laid.total,
      le-leb _ _ F.laid.small,
      le-leb _ _ F.laid.ends,
      c,
      and_left (annotations_obey t.offset (t.offset + t.samples) N) (all_texts N) n,
      and_right (annotations_obey t.offset (t.offset + t.samples) N) (all_texts N) n,
      F.nums.rate,
    )

numbers_true : (t : Summary) → Numbers t → numbers_ok t ≡ true
unfolding numbers_ok
numbers_true t n = rw (eq-eqb _ _ n.said, n.format, le-leb _ _ n.small, le-leb _ _ n.ends, n.rate)

-- what the numbers tell the other parts
module _ (t : Summary) (e : numbers_ok t ≡ true) where
  pub numbers_wide : 1 ≤ t.width
  numbers_wide = (numbers t e).wide

  pub numbers_small : t.size ≤ dataset
  numbers_small = (numbers t e).small

  pub numbers_ends : t.offset + t.samples < 2 ^ 64
  numbers_ends = let k = (numbers t e).ends in omega arith

-- the parts are the whole
pub well_formed_is : (t : Summary) (caps notes : List ℕ) → well_formed (table t caps notes)
    ≡ numbers_ok t && leb t.captures (length caps / capture_width) && leb t.annotations (length notes / annotation_width) && layout_ok t (captures caps t.captures)
    && annotations_ok (t.offset + t.samples) t.offset (annotations notes t.annotations)
well_formed_is t caps notes = same_test _ _ there (λ x y. false≢true (sym x ∙ back y))
  where
    few : Bool
    few = leb t.captures (length caps / capture_width)

    too : Bool
    too = leb t.annotations (length notes / annotation_width)

    laid : Bool
    laid = layout_ok t (captures caps t.captures)

    there : well_formed (table t caps notes) ≡ true → numbers_ok t && few && too && laid && annotations_ok (t.offset + t.samples) t.offset (annotations notes t.annotations) ≡ true
    there e =
        let F = formed t caps notes e in
        let c : t.captures ≤ length caps / capture_width = omega (arith, F.laid.fit) in
        let n : t.annotations ≤ length notes / annotation_width = omega (arith, F.noted) in
        rw (numbers_true t F.nums, le-leb _ _ c, le-leb _ _ n, layout_true t (captures caps t.captures) F.laid.in_order F.laid.total, F.in_order)

    back : numbers_ok t && few && too && laid && annotations_ok (t.offset + t.samples) t.offset (annotations notes t.annotations) ≡ true → well_formed (table t caps notes) ≡ true
    back e =
        let a = and_left (numbers_ok t && few && too && laid) _ e in
        let b = and_left (numbers_ok t && few && too) laid a in
        let d = and_left (numbers_ok t && few) too b in
        let n = numbers t (and_left (numbers_ok t) few d) in
        let l = layout_facts t (captures caps t.captures) (and_right (numbers_ok t && few && too) laid a) in
        let c = leb-true t.captures (length caps / capture_width) (and_right (numbers_ok t) few d) in
        let m = leb-true t.annotations (length notes / annotation_width) (and_right (numbers_ok t && few) too b) in
        well_formed_lem t caps notes (record {
          nums = n;
          laid = record { fit = omega (arith, c); total = l.1; small = n.small; ends = n.ends; in_order = l.0 };
          noted = omega (arith, m);
          in_order = and_right (numbers_ok t && few && too && laid) _ e;
        })

-- of a test that said so
module _ (t : Summary) (caps notes : List ℕ) (b : Bool) (e : b ≡ well_formed (table t caps notes)) (f : b ≡ true) where
  pub formed_of : Formed t caps notes
  formed_of = formed t caps notes (sym e ∙ f)

  pub laid_of : Laid t caps
  laid_of = formed_of.laid

  pub ends_of : t.offset + t.samples < 2 ^ 64
  ends_of = let k = laid_of.ends in omega arith
