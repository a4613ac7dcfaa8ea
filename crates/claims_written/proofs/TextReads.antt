-- The text that is written derives by the grammar, and reads back as the table.
use mathlib.Core.Path.{◌≡◌, refl, sym, ap, subst, ◌∙◌}
use mathlib.Core.Bool.{true, false, ◌&&◌}
use mathlib.Core.List.{List, [], ◌∷◌, ◌++◌}
use mathlib.Core.Option.{Option}
use Prim.Native.Nat.{ℕ, ◌+◌, ◌≤◌}
use native.Mathlib.Omega.{arith}
use lib.ListN.{length}
use lib.Dec.{eqb, leb}
use borrow.Author.Tests.{leb-true, eqb-true, ne_eqb, le-ltb}
use Rattle.limits.specs.Limits.{nesting, metadata, dataset, channels}
use Rattle.json_blocks.specs.TextBytes.{within}
use Rattle.json_grammar.specs.Grammar.{Text, Number}
use Rattle.refusals.specs.Refusals.{Rule, rule, lowest}
use Rattle.refusals.proofs.RuleLaws.{rising, over, step, skip, lowest_then}
use Rattle.sigmf_datatypes.specs.Datatypes.{is_listed, width_of}
use Rattle.table.specs.declared.Place.{Place}
use Rattle.table.specs.declared.Annotation.{Annotation}
use Rattle.table.specs.declared.Summary.{Summary}
use Rattle.table.specs.Rows.{Table, captures_of, annotations_of}
use Rattle.table.specs.Table.{format_ok}
use Rattle.table.proofs.Bools.{and_left, and_right}
use Rattle.table.proofs.TableLaws.{Formed, formed}
use Rattle.reader_layout.specs.Layout.{Contents, sample_rules, captures_in, annotations_in, summary_in, too_many}
use Rattle.reader.specs.Reading.{bad_length, contents, read_refusal, read_answer}
use Rattle.claims_accepted.proofs.Accepted as A
use Rattle.claims_derived.specs.Rules.{rules_by, rules_of, contents_of}
use Rattle.claims_derived.proofs.Nodes.{Both}
use Rattle.claims_derived.proofs.Agrees.{contents_same, read_with, passed_both}
use Rattle.writer.specs.Metadata.{metadata_of}
use Rattle.claims.specs.Room.{RoomFor}
use Rattle.claims_written.specs.ReadBack.{SameText, SameAnnotations, rate_at, ReadsBack}
use Rattle.claims_written.proofs.Pieces.{Some, object_of}
use Rattle.claims_written.proofs.Plan.{Note, Plan, top_value, plan_text, planned}
use Rattle.claims_written.proofs.Whole.{SmallPlan, Planned, planned_reads}
use Rattle.claims_written.proofs.TableBack.{captures_small}
use Rattle.claims_written.proofs.Datatypes.{code_back}
use Rattle.claims_written.proofs.FromTable.{TextOf, rate_plan, same_text, NoteOf, notes_plan, notes_read, notes_small, plan_of, plan_text_lem}
use Rattle.claims_written.proofs.Laid.{Agrees, samples_fit, captures_laid, notes_laid, room, summary_laid}
use Rattle.claims_written.proofs.Writable.{Writable}

-- ---- a derivation u whose contents agree with the table reads as the table
rules_rise : {w : List ℕ} (u : Text nesting w) (d : ℕ) → rising 2 (rules_of u d) ≡ true
unfolding rising rules_by
rules_rise u d = refl

module _ {t : Table} {s w : List ℕ} (caps notes : List ℕ) (u : Text nesting w) (F : Formed t.summary t.captures t.annotations) (a : Agrees t s w (contents_of u))
    (l : bad_length w t.summary.size ≡ false) (r : lowest (rules_of u t.summary.size) ≡ lowest (sample_rules (contents_of u) t.summary.size))
    (m : RoomFor t caps notes) where
  abbrev d : ℕ
  d = t.summary.size

  abbrev more : Contents → List Rule
  more k = rule 20 (too_many k caps notes) ∷ []

  none_holds_lem : lowest (rules_of u d ++ more (contents_of u)) ≡ 0
  unfolding lowest
  none_holds_lem = lowest_then 2 (rules_of u d) (more (contents_of u)) (rules_rise u d) (r ∙ samples_fit F a) ∙ skip 20 (too_many (contents_of u) caps notes) [] (room F a caps notes m)

  contents_are : contents w ≡ contents_of u
  contents_are = let p = passed_both u d (more (contents_of u)) none_holds_lem in contents_same u p.0 p.1

  refusal_is : read_refusal w d caps notes ≡ 0
  unfolding read_refusal
  refusal_is = read_with u d l (more (contents w)) (more (contents_of u)) (λ h ok. step (ap (λ (k : Contents). too_many k caps notes) (contents_same u h ok)) (λ _. over)) ∙ none_holds_lem

  accepted : (read_answer w d caps notes).refusal ≡ 0
  accepted = A.read_number w d caps notes ∙ refusal_is

  summary_is : read_answer w d caps notes ≡ rate_at (contents_of u).globals.rate t.summary
  summary_is = A.summary_is w d caps notes accepted ∙ ap (λ (k : Contents). summary_in k d) contents_are ∙ summary_laid F a

  pub agrees_reads : ReadsBack t s w caps notes
  agrees_reads =
      let p : (contents_of u).globals.rate ≡ (read_answer w d caps notes).rate = sym (ap (λ (z : Summary). z.rate) summary_is) in
      record {
        accepted = accepted;
        same = record {
          summary = summary_is ∙ ap (λ (q : Place). rate_at q t.summary) p;
          rate = subst (λ (q : Place). SameText s t.summary.rate w q) p a.rate;
          captures = A.captures_are w d caps notes accepted ∙ ap (λ (k : Contents). captures_in k d) contents_are ∙ captures_laid F a;
          annotations = subst (λ (z : List Annotation). SameAnnotations s w (annotations_of t) z)
              (sym (A.annotations_are w d caps notes accepted ∙ ap (λ (k : Contents). annotations_in k d) contents_are)) (notes_laid F a);
        };
      }

-- ---- the format of a well-formed table
record Format (t : Summary) : Type 0 where
  code : is_listed t.datatype ≡ true
  channelled : within 1 channels t.channels ≡ true
  most : t.channels ≤ channels
  width : t.width ≡ width_of t.datatype t.channels

format_is : (t : Summary) → format_ok t ≡ true → Format t
unfolding format_ok within
format_is t e =
    let a = is_listed t.datatype in let b = leb 1 t.channels && leb t.channels channels in let c = eqb t.width (width_of t.datatype t.channels) in
    let q = and_right a b (and_left (a && b) c e) in
    record {
      code = and_left a b (and_left (a && b) c e);
      channelled = q;
      most = leb-true t.channels channels (and_right (leb 1 t.channels) (leb t.channels channels) q);
      width = eqb-true _ _ (and_right (a && b) c e);
    }

-- ---- the text that is written
module _ (t : Table) (s : List ℕ) (F : Formed t.summary t.captures t.annotations) (f : Format t.summary) (o : Option (Some Number)) (ns : List Note)
    (q : TextOf s t.summary.rate o) (b : Both (NoteOf s) (annotations_of t) ns) where
  abbrev S : Summary
  S = t.summary

  abbrev plan : Plan
  plan = plan_of S s (captures_of t) (annotations_of t) o ns

  small : SmallPlan plan
  small = record {
    global = record { channels = omega (arith, f.most); offset = omega (arith, F.nums.ends); trailing = omega (arith, F.laid.total, F.laid.small) };
    captures = captures_small S.offset (S.offset + S.samples) S.width (captures_of t) F.laid.in_order S.size (omega (arith, F.nums.ends)) (omega (arith, F.laid.total)) (omega (arith, F.laid.small));
    notes = notes_small s (S.offset + S.samples) S.offset b F.in_order (omega (arith, F.nums.ends));
  }

  P : Planned plan S.size
  P = planned_reads plan small (ap is_listed (code_back S.datatype f.code) ∙ f.code) f.channelled S.size

  agrees : Agrees t s (plan_text plan) (contents_of (planned plan))
  agrees =
      let c = P.code ∙ code_back S.datatype f.code in
      record {
        code = c;
        channels = P.channels;
        offset = P.offset;
        trailing = P.trailing;
        width = ap (λ (n : ℕ). width_of n (contents_of (planned plan)).globals.channels) c ∙ ap (λ (n : ℕ). width_of S.datatype n) P.channels ∙ sym f.width;
        rate = same_text s S.rate (plan_text plan) _ o q P.rate;
        captures = P.captures;
        annotations = notes_read s (plan_text plan) b P.notes;
      }

  long : length (plan_text plan) ≤ metadata → bad_length (plan_text plan) S.size ≡ false
  unfolding bad_length top_value object_of
  long h = rw (ne_eqb (length (plan_text plan)) 0 (λ e. omega (arith, e)), le-ltb metadata (length (plan_text plan)) h, le-ltb dataset S.size F.laid.small)

  plan_reads : (caps notes : List ℕ) → length (plan_text plan) ≤ metadata → RoomFor t caps notes → ReadsBack t s (plan_text plan) caps notes
  plan_reads caps notes h m = agrees_reads caps notes (planned plan) F agrees (long h) P.rules m

  plan_is : plan_text plan ≡ metadata_of t s
  unfolding metadata_of
  plan_is = plan_text_lem S s (captures_of t) (annotations_of t) o ns q b

-- ---- of a writable table
module _ (t : Table) (s : List ℕ) (z : Writable t s) where
  F : Formed t.summary t.captures t.annotations
  F = formed t.summary t.captures t.annotations z.table

  f : Format t.summary
  f = format_is t.summary F.nums.format

  o : (o : Option (Some Number)) × TextOf s t.summary.rate o
  o = rate_plan s t.summary.rate z.rate

  n : (ns : List Note) × Both (NoteOf s) (annotations_of t) ns
  n = notes_plan s (annotations_of t) z.labels

  p : plan_text (plan_of t.summary s (captures_of t) (annotations_of t) o.0 n.0) ≡ metadata_of t s
  p = plan_is t s F f o.0 n.0 o.1 n.1

  -- it is a text of the grammar
  pub text_derived : Text nesting (metadata_of t s)
  text_derived = subst (Text nesting) p (planned (plan_of t.summary s (captures_of t) (annotations_of t) o.0 n.0))

  -- and reads back
  pub text_reads : length (metadata_of t s) ≤ metadata → (caps notes : List ℕ) → RoomFor t caps notes → ReadsBack t s (metadata_of t s) caps notes
  text_reads h caps notes m =
      subst (λ (w : List ℕ). ReadsBack t s w caps notes) p
      (plan_reads t s F f o.0 n.0 o.1 n.1 caps notes (subst (λ (w : List ℕ). length w ≤ metadata) (sym p) h) m)
