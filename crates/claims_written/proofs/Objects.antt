-- What is said of the objects of a planned text, at any place, and that the texts copied stand there.
use mathlib.Core.Path.{◌≡◌, refl, sym, ap, subst, ◌∙◌}
use mathlib.Core.Bool.{true, false}
use mathlib.Core.List.{List, [], ◌∷◌, ◌++◌}
use mathlib.Core.Option.{Option, none, some}
use Prim.Native.Nat.{ℕ, suc, ◌+◌, ◌-◌, ◌<◌, ◌≤◌, ◌^◌}
use native.Mathlib.Omega.{arith}
use lib.ListN.{length, length-append}
use Rattle.json_blocks.specs.TextBytes.{ascii, within}
use Rattle.json_blocks.specs.Lists.{all}
use Rattle.json_grammar.specs.Grammar.{Number, Characters, Member, Value}
use Rattle.json_grammar.specs.Stands.{Stands}
use Rattle.json_grammar.proofs.Stands.{stands_tail, stands_left}
use Rattle.json_strings.proofs.Theorem.{stands_part}
use Rattle.json_walk.specs.declared.Member.{Member as Span}
use Rattle.listing_labels.specs.Text.{part}
use Rattle.listing_labels.proofs.TextLaws.{part_in}
use Rattle.sigmf_values.specs.declared.FieldType.TheVariants as T
use Rattle.table.specs.declared.Place.{Place}
use Rattle.table.specs.declared.Capture.{Capture}
use Rattle.table.specs.Place.{nowhere}
use Rattle.claims_derived.specs.Derived.{whole_of, meant, Node, Entry, entry_from, Here, node_members}
use Rattle.claims_derived.specs.Rules.{is_a, is_object, bad_node, text_place, number_place}
use Rattle.claims_accepted.proofs.ValueLaws as Y
use Rattle.claims_accepted.proofs.ValueLaws.{Each}
use Rattle.claims_derived.proofs.Nodes.{Both, nothing, next, SameMember, members_derived}
use Rattle.claims_written.proofs.Derivations.{ordinary, row_from}
use Rattle.claims_written.proofs.Pieces.{Some, object_of, node, object_kind, object_members, object_elements}
use Rattle.claims_written.proofs.Entries.{Once, object_good, GoodCapture, good_capture, GoodNote, good_bare, good_labelled, GoodGlobal, good_global, good_rated}
use Rattle.claims_written.proofs.Plan.{number_field, decimal_field, text_field, plain_field, number_has, decimal_has, text_has, plain_has, Note, Plan, capture_value, label_field, note_value, rate_field, global_value}

-- ---- an object whose members are good
pub record GoodObject (d : ℕ) (Good : List Entry → Type 0) (n : Node) : Type 0 where
  pub object : is_object n ≡ true
  pub bad : bad_node (suc d) n ≡ false
  pub good : Good (node_members n)

object_node : (d i : ℕ) (a : Some (Member (Value d))) (l : List (Some (Member (Value d)))) (Good : List Entry → Type 0) → ((es : List Entry) → Good es → Once d es)
    → Good (row_from (entry_from d) (i + 1 + 0) a l) → GoodObject d Good (node (suc d) i (object_of d a l))
unfolding is_a
object_node d i a l Good once g =
    let h = subst Good (sym (object_members d i a l)) g in
    record {
      object = ap (is_a T.Object) (object_kind d i a l);
      bad = object_good d (node (suc d) i (object_of d a l)) (once _ h) (object_elements d i a l);
      good = h;
    }

-- ---- captures
pub record Small (a b : ℕ) : Type 0 where
  pub one : a < 2 ^ 64
  pub two : b < 2 ^ 64

abbrev pub CaptureNode : Capture → Node → Type 0
CaptureNode r n = GoodObject 29 (GoodCapture r.start r.header) n

pub capture_node : (i : ℕ) (r : Capture) → Small r.start r.header → CaptureNode r (node 30 i (capture_value r))
unfolding capture_value row_from all ordinary within
capture_node i r b =
    object_node 29 i _ _ (GoodCapture r.start r.header) (λ es g. g.once)
    (good_capture _ _ r.start r.header (decimal_has 28 (ascii "core:sample_start") refl _ r.start) (decimal_has 28 (ascii "core:header_bytes") refl _ r.header) b.one b.two)

-- ---- texts that stand in what is written
-- the raw text x is at a place of w, or it is absent
unfoldable pub Back : {P : List ℕ → Type 0} → List ℕ → Place → Option (Some P) → Type 0
Back w p none = p ≡ nowhere
Back w p (some x) = (1 ≤ p.at) × ((p.len ≡ length x.0) × (part w p ≡ x.0))

-- a number, and characters between quotes, that stand at i
number_back : {w x : List ℕ} (i : ℕ) → 1 ≤ i → (p : Number x) → Stands w i x (i + length x) → Back {P = Number} w (record { at = i; len = length x }) (some (x, p))
unfolding Back
number_back {w} {x} i h p q = (h, (refl, sym (part_in w (record { at = i; len = length x })) ∙ stands_part q))

raw_back : {w cs : List ℕ} (i : ℕ) (p : Characters cs) → Stands w i (0x22 ∷ (cs ++ (0x22 ∷ []))) (i + length (0x22 ∷ (cs ++ (0x22 ∷ []))))
    → Back {P = Characters} w (record { at = i + 1; len = length (0x22 ∷ (cs ++ (0x22 ∷ []))) - 2 }) (some (cs, p))
unfolding Back
raw_back {w} {cs} i p q =
    let o = stands_left w cs (0x22 ∷ []) (stands_tail w q) in
    let l : length (0x22 ∷ (cs ++ (0x22 ∷ []))) - 2 ≡ length cs = omega (arith, length-append cs (0x22 ∷ [])) in
    (omega arith, (l, ap (λ (k : ℕ). part w (record { at = i + 1; len = k })) l ∙ sym (part_in w (record { at = i + 1; len = length cs })) ∙ stands_part o))

-- the members of an object that stands, stand
members_here : {w : List ℕ} {d : ℕ} {k : List Span} {es : List Entry} → Both (SameMember w d) k es → Each (λ e. Here w e.node) es
members_here nothing = Y.nothing
members_here (next r rs) = Y.next r.stands (members_here rs)

row_here : (d i : ℕ) (a : Some (Member (Value d))) (l : List (Some (Member (Value d)))) (w : List ℕ) → Here w (node (suc d) i (object_of d a l))
    → Each (λ e. Here w e.node) (row_from (entry_from d) (i + 1 + 0) a l)
unfolding is_a
row_here d i a l w q =
    subst (Each (λ e. Here w e.node)) (object_members d i a l)
    (members_here (members_derived (node (suc d) i (object_of d a l)) q (ap (is_a T.Object) (object_kind d i a l))))

third : {w : List ℕ} {e f g : Entry} → Each (λ e. Here w e.node) (e ∷ f ∷ g ∷ []) → Here w g.node
third (Y.next _ (Y.next _ (Y.next r _))) = r

sixth : {w : List ℕ} {a b c e f g : Entry} → Each (λ e. Here w e.node) (a ∷ b ∷ c ∷ e ∷ f ∷ g ∷ []) → Here w g.node
sixth (Y.next _ (Y.next _ (Y.next _ r))) = third r

-- ---- annotations
pub record NoteNode (r : Note) (n : Node) : Type 0 where
  pub label : Place
  pub is : GoodObject 29 (GoodNote r.start r.count label) n
  pub told : (w : List ℕ) → Here w n → Back w label r.label

module _ (i s c : ℕ) (b : Small s c) where
  abbrev note : Option (Some Characters) → Note
  note o = record { start = s; count = c; label = o }

  note_by : (o : Option (Some Characters)) → NoteNode (note o) (node 30 i (note_value (note o)))
  unfolding note_value label_field row_from all ordinary within Back
  note_by none = record {
    label = nowhere;
    is = object_node 29 i _ _ (GoodNote s c nowhere) (λ es g. g.once)
        (good_bare _ _ s c (decimal_has 28 (ascii "core:sample_start") refl _ s) (decimal_has 28 (ascii "core:sample_count") refl _ c) b.one b.two);
    told = λ w q. refl;
  }
  note_by (some (cs, p)) =
      let f1 = decimal_field 28 (ascii "core:sample_start") refl s in
      let f2 = decimal_field 28 (ascii "core:sample_count") refl c in
      let f3 = text_field 28 (ascii "core:label") refl p in
      let i1 : ℕ = i + 1 + 0 in let i2 : ℕ = i1 + length f1.0 + 1 in let i3 : ℕ = i2 + length f2.0 + 1 in
      let g : Entry = entry_from 29 i3 f3.0 f3.1 in
      record {
        label = text_place g.node;
        is = object_node 29 i f1 (f2 ∷ f3 ∷ []) (GoodNote s c (text_place g.node)) (λ es g. g.once)
            (good_labelled _ _ s c (decimal_has 28 (ascii "core:sample_start") refl i1 s) (decimal_has 28 (ascii "core:sample_count") refl i2 c) b.one b.two
            g (meant p) (text_has 28 (ascii "core:label") refl i3 p));
        told = λ w q. raw_back g.node.at p (third (row_here 29 i f1 (f2 ∷ f3 ∷ []) w q));
      }

pub note_node : (i : ℕ) (r : Note) → Small r.start r.count → NoteNode r (node 30 i (note_value r))
note_node i r b = note_by i r.start r.count b r.label

-- ---- global
pub record GlobalNode (p : Plan) (n : Node) : Type 0 where
  pub rate : Place
  pub is : GoodObject 30 (GoodGlobal p.name p.channels p.offset p.trailing rate) n
  pub told : (w : List ℕ) → Here w n → Back w rate p.rate

pub record SmallGlobal (c o t : ℕ) : Type 0 where
  pub channels : c < 2 ^ 64
  pub offset : o < 2 ^ 64
  pub trailing : t < 2 ^ 64

module _ (i : ℕ) (name : List ℕ) (plain : all ordinary name ≡ true) (c o t : ℕ) (caps : List Capture) (notes : List Note) (b : SmallGlobal c o t) where
  abbrev plan : Option (Some Number) → Plan
  plan r = record { name = name; plain = plain; channels = c; offset = o; trailing = t; rate = r; captures = caps; notes = notes }

  global_by : (r : Option (Some Number)) → GlobalNode (plan r) (node 31 i (global_value (plan r)))
  unfolding global_value rate_field row_from all ordinary within Back
  global_by none = record {
    rate = nowhere;
    is = object_node 30 i _ _ (GoodGlobal name c o t nowhere) (λ es g. g.once)
        (good_global _ _ _ _ _ name c o t (plain_has 29 (ascii "core:datatype") refl _ name plain) (plain_has 29 (ascii "core:version") refl _ (ascii "1.0.0") refl)
        (decimal_has 29 (ascii "core:num_channels") refl _ c) (decimal_has 29 (ascii "core:offset") refl _ o) (decimal_has 29 (ascii "core:trailing_bytes") refl _ t)
        b.channels b.offset b.trailing);
    told = λ w q. refl;
  }
  global_by (some (x, p)) =
      let f1 = plain_field 29 (ascii "core:datatype") refl name plain in
      let f2 = plain_field 29 (ascii "core:version") refl (ascii "1.0.0") refl in
      let f3 = decimal_field 29 (ascii "core:num_channels") refl c in
      let f4 = decimal_field 29 (ascii "core:offset") refl o in
      let f5 = decimal_field 29 (ascii "core:trailing_bytes") refl t in
      let f6 = number_field 29 (ascii "core:sample_rate") refl p in
      let i1 : ℕ = i + 1 + 0 in let i2 : ℕ = i1 + length f1.0 + 1 in let i3 : ℕ = i2 + length f2.0 + 1 in
      let i4 : ℕ = i3 + length f3.0 + 1 in let i5 : ℕ = i4 + length f4.0 + 1 in let i6 : ℕ = i5 + length f5.0 + 1 in
      let l = f2 ∷ f3 ∷ f4 ∷ f5 ∷ f6 ∷ [] in
      let g : Entry = entry_from 30 i6 f6.0 f6.1 in
      record {
        rate = number_place g.node;
        is = object_node 30 i f1 l (GoodGlobal name c o t (number_place g.node)) (λ es g. g.once)
            (good_rated _ _ _ _ _ name c o t (plain_has 29 (ascii "core:datatype") refl i1 name plain) (plain_has 29 (ascii "core:version") refl i2 (ascii "1.0.0") refl)
            (decimal_has 29 (ascii "core:num_channels") refl i3 c) (decimal_has 29 (ascii "core:offset") refl i4 o) (decimal_has 29 (ascii "core:trailing_bytes") refl i5 t)
            b.channels b.offset b.trailing g (whole_of p) (number_has 29 (ascii "core:sample_rate") refl i6 p));
        told = λ w q. number_back g.node.at (omega arith) p (sixth (row_here 30 i f1 l w q));
      }

pub global_node_lem : (i : ℕ) (p : Plan) → SmallGlobal p.channels p.offset p.trailing → GlobalNode p (node 31 i (global_value p))
global_node_lem i p b = global_by i p.name p.plain p.channels p.offset p.trailing p.captures p.notes b p.rate
