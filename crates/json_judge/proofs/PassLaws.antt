-- One pass over the items of an array or object: the loops' invariants, and the steps from one to the next.
use Rattle.std.specs.Prelude.{None, Option, Some}
use mathlib.Core.Path.{◌≡◌, refl, sym, ap, subst, ◌∙◌}
use mathlib.Core.Bool.{Bool, true, false, cond, ◌||◌}
use mathlib.Core.List.{List, [], ◌∷◌, map}
use Prim.Native.Nat.{ℕ, zero, suc, ◌≤◌, ◌<◌, ◌+◌, ◌-◌, ◌*◌}
use native.Mathlib.Omega.{arith}
use native.Mathlib.Numerals.{add-one, sub-one}
use lib.ListN.{length, get_or, set, take, drop, length-set}
use lib.Seq.{get_or-set_same, get_or-set_other, get_or-take, take-set-le, take-take, take-nil}
use lib.Dec.{eqb, ltb, leb}
use borrow.Author.Tests.{lt-ltb, le-ltb, leb-true, leb-false, eqb-true, ltb-true, ltb-false}
use Rattle.std.proofs.lemmas.Option.{some_pair_parts}
use Rattle.limits.specs.Limits.{members}
use Rattle.json_blocks.specs.TextBytes.{byte, to, blank, skip_blanks}
use Rattle.json_blocks.specs.Lists.{any}
use Rattle.json_blocks.specs.Group.{after_item, colon_at}
use Rattle.json_tokens.specs.MemberName.{name_at}
use Rattle.json_blocks.specs.declared.Cursor.{Cursor}
use Rattle.json_blocks.specs.declared.After.{After}
use Rattle.json_blocks.specs.declared.After.TheVariants as A
use Rattle.json_blocks.proofs.ByteLaws.{inside, cond_elim, blanks_onward, Onward, onward_is}
use Rattle.json_blocks.proofs.GroupLaws.{OnwardAfter, onward_item, after_onward}
use Rattle.json_tokens.proofs.MemberNameLaws.{name_onward}
use Rattle.json_grammar.specs.ByPlace.{items_at, group_at, member_at, value_at}
use Rattle.json_grammar.specs.Skip.{token_byte}
use Rattle.json_grammar.proofs.SkipRead.{value_read}
use Rattle.json_grammar.proofs.ItemLaws.{value_onward, value_forward, member_forward, member_none, member_value_lem, items_none, items_bad, items_close, items_less, items_more, group_empty, group_items}
use Rattle.json_walk.specs.declared.Member.{Member}
use Rattle.json_walk.specs.declared.Element.{Element}
use Rattle.json_walk.specs.Members.{next_item, members_from, elements_from}
use Rattle.json_walk.proofs.StepLaws.{after_item_lem, after_close, after_scalar, members_more, members_none, elements_more, elements_none}
use Rattle.json_walk.proofs.ReadLaws.{NameRead, name_read}
use Rattle.json_strings.specs.Decode.{decoded_from}
use Rattle.json_names.specs.Keys.{key_of}
use Rattle.json_names.specs.Plain.{keyed}
use Rattle.json_judge.specs.declared.Names.{Names}
use Rattle.json_judge.proofs.ValueLaws.{keyed_none, keyed_to}
use Rattle.json_judge.specs.MemberNames.{decoded_name, has_name, repeated, bad_names, bad_array, bad_object, bad_members_at}
use Rattle.json_judge.specs.Stack.{names_on, kept_key, KeysAgree, refuses, NameKept, kept, refused, FrontKept}
use Rattle.json_judge.specs.Pass.{Passed, scan_of, array_at, object_at, bad_array_at, bad_object_at}

-- ---- a group, by the depth that is left
module _ (d : ℕ) (s : List ℕ) (at : ℕ) where
  array_deep : d ≡ 0 → array_at d s at ≡ None
  unfolding array_at
  array_deep e = rw e

  object_deep : d ≡ 0 → object_at d s at ≡ None
  unfolding object_at
  object_deep e = rw e

array_group : (d : ℕ) (s : List ℕ) (at : ℕ) → (d ≡ 0 → ⊥) → array_at d s at ≡ group_at (value_at (d - 1) s) s 0x5D at
unfolding array_at
array_group zero s at f = absurd (f refl)
array_group (suc d) s at f = rw (sub-one (suc d))

object_group : (d : ℕ) (s : List ℕ) (at : ℕ) → (d ≡ 0 → ⊥) → object_at d s at ≡ group_at (member_at (value_at (d - 1) s) s) s 0x7D at
unfolding object_at
object_group zero s at f = absurd (f refl)
object_group (suc d) s at f = rw (sub-one (suc d))

-- ---- what a pass promises
pub passed : {used : ℕ} {tell r : (Option (Cursor × Bool))} {places keys places' keys' : List ℕ} → r ≡ tell → FrontKept used places places' → FrontKept used keys keys'
    → Passed used tell places keys r places' keys'
passed a b c = record { told = a; places_kept = b; keys_kept = c }

-- ---- what a scan tells
pub scan_bad : (x : Option Cursor) (b : Bool) → None ≡ scan_of x b → x ≡ None
scan_bad (Some c) b e = let z : ◌≡◌ {A = ℕ} 0 1 = cc in absurd (omega arith)
scan_bad None b e = refl

pub scan_to : (x : Option Cursor) (b : Bool) (c : Cursor) (t : Bool) → Some (c, t) ≡ scan_of x b → (x ≡ Some c) × (b ≡ t)
scan_to (Some d) b c t e = let p = some_pair_parts _ _ _ _ e in (cc, cc)
scan_to None b c t e = let z : ◌≡◌ {A = ℕ} 0 1 = cc in absurd (omega arith)

told_bad : (x : Option Cursor) (b : Bool) → x ≡ None → None ≡ scan_of x b
told_bad x b e = rw e

told_to : (x : Option Cursor) (b t : Bool) (c : Cursor) → x ≡ Some c → t ≡ b → Some (c, t) ≡ scan_of x b
told_to x b t c e h = rw (e, h)

-- ---- memory below a place is kept
pub kept_same : (used : ℕ) (l : List ℕ) → FrontKept used l l
kept_same used l = record { same = refl; long = refl }

pub kept_then : {used : ℕ} {a b c : List ℕ} → FrontKept used a b → FrontKept used b c → FrontKept used a c
kept_then p q = record { same = q.same ∙ p.same; long = q.long ∙ p.long }

pub kept_less : {used more : ℕ} {a b : List ℕ} → used ≤ more → FrontKept more a b → FrontKept used a b
kept_less {used} {more} {a} {b} h p = record {
  same = sym (take-take used more b h) ∙ ap (take used) p.same ∙ take-take used more a h;
  long = p.long;
}

kept_set : (used k : ℕ) (l : List ℕ) (x : ℕ) → used ≤ k → FrontKept used l (set l k x)
kept_set used k l x h = record { same = take-set-le used l k x h; long = length-set l k x }

kept_at : {used : ℕ} {a b : List ℕ} → FrontKept used a b → (k : ℕ) → k < used → get_or b k 0 ≡ get_or a k 0
kept_at {used} {a} {b} p k h = sym (get_or-take used b k 0 h) ∙ ap (λ (l : List ℕ). get_or l k 0) p.same ∙ get_or-take used a k 0 h

part_taken : (base i : ℕ) (l : List ℕ) → take i (drop base l) ≡ drop base (take (base + i) l)
part_taken zero i l = let e : zero + i ≡ i = omega arith in rw e
part_taken (suc base) i [] = take-nil i ∙ ap (drop (suc base)) (sym (take-nil (suc base + i)))
part_taken (suc base) i (x ∷ l) = let e : suc base + i ≡ suc (base + i) = omega arith in rw e (part_taken base i l)

part_kept : {used : ℕ} {a b : List ℕ} → FrontKept used a b → (base i : ℕ) → base + i ≤ used → take i (drop base b) ≡ take i (drop base a)
part_kept {used} {a} {b} p base i h = part_taken base i b ∙ ap (drop base) (kept_less h p).same ∙ sym (part_taken base i a)

-- ---- the names kept, in memory that is kept
names_kept : (s : List ℕ) {more : ℕ} {a b : List ℕ} → FrontKept more a b → (base n : ℕ) → base + n ≤ more → names_on s b base n ≡ names_on s a base n
unfolding names_on
names_kept s p base zero h = refl
names_kept s {more} {a} {b} p base (suc n) h =
    rw (kept_at p (base + n) (omega arith), names_kept s p base n (omega arith))

agree_kept : (s : List ℕ) {more : ℕ} {a b k l : List ℕ} → FrontKept more a b → FrontKept more k l → (base n : ℕ) → base + n ≤ more → KeysAgree s a k base n → KeysAgree s b l base n
unfolding KeysAgree
agree_kept s {a} {b} {k} {l} p q base n h f i g =
    let e : kept_key (take i (drop base l)) (decoded_from s (get_or b (base + i) 0)) ≡ kept_key (take i (drop base k)) (decoded_from s (get_or a (base + i) 0)) =
    rw (part_kept q base i (omega arith), kept_at p (base + i) (omega arith)) in
    kept_at q (base + i) (omega arith) ∙ f i g ∙ sym e

names_long : (s places : List ℕ) (base n : ℕ) → length (names_on s places base n) ≡ n
unfolding names_on
names_long s places base zero = refl
names_long s places base (suc n) = ap suc (names_long s places base n)

-- ---- an object's members from one on, after the names seen
pub bad_from : (ℕ → Bool) → List ℕ → List (List ℕ) → List Member → Bool
bad_from bad s seen [] = false
bad_from bad s seen (m ∷ l) = (leb members (length seen) || has_name (decoded_name s m) seen) || (bad m.value || bad_from bad s (decoded_name s m ∷ seen) l)

either_true : (a b : Bool) → b ≡ true → (a || b) ≡ true
either_true true b h = refl
either_true false b h = h

-- the accumulated test is the one over all members
from_is : (bad : ℕ → Bool) (s : List ℕ) (seen : List (List ℕ)) (ms : List Member) → length seen ≤ members
    → bad_from bad s seen ms ≡ ((repeated seen (map (decoded_name s) ms) || ltb members (length seen + length (map (decoded_name s) ms))) || any (λ m. bad m.value) ms)
unfolding repeated any bad_from
from_is bad s seen [] h = sym (rw (le-ltb members (length seen + 0) (omega arith)))
from_is bad s seen (m ∷ l) h = go (λ g. from_is bad s (decoded_name s m ∷ seen) l g) (leb members (length seen)) refl (has_name (decoded_name s m) seen) where
  n : ℕ
  n = length (map (decoded_name s) l)

  over : ℕ → Bool
  over k = (repeated (decoded_name s m ∷ seen) (map (decoded_name s) l) || ltb members k) || any (λ x. bad x.value) l

  order : (r o v w : Bool) → (v || ((r || o) || w)) ≡ ((r || o) || (v || w))
  order true o true w = refl
  order true o false w = refl
  order false true true w = refl
  order false true false w = refl
  order false false v w = refl

  go : (suc (length seen) ≤ members → bad_from bad s (decoded_name s m ∷ seen) l ≡ over (suc (length seen) + n)) → (t : Bool) → leb members (length seen) ≡ t → (x : Bool)
      → ((t || x) || (bad m.value || bad_from bad s (decoded_name s m ∷ seen) l))
      ≡ (((x || repeated (decoded_name s m ∷ seen) (map (decoded_name s) l)) || ltb members (length seen + suc n)) || (bad m.value || any (λ k. bad k.value) l))
  go ih true q x =
      let e : ltb members (length seen + suc n) ≡ true = lt-ltb members (length seen + suc n) (omega (arith, leb-true members (length seen) q)) in
      sym (ap (λ (z : Bool). z || (bad m.value || any (λ k. bad k.value) l)) (either_true (x || repeated (decoded_name s m ∷ seen) (map (decoded_name s) l)) _ e))
  go ih false q true = refl
  go ih false q false =
      let e : suc (length seen) + n ≡ length seen + suc n = omega arith in
      ap (λ (z : Bool). bad m.value || z) (ih (omega (arith, leb-false members (length seen) q)) ∙ ap over e)
      ∙ order (repeated (decoded_name s m ∷ seen) (map (decoded_name s) l)) (ltb members (length seen + suc n)) (bad m.value) (any (λ k. bad k.value) l)

object_from : (bad : ℕ → Bool) (s : List ℕ) (ms : List Member) → bad_from bad s [] ms ≡ bad_object bad s ms
unfolding bad_names
object_from bad s ms =
    from_is bad s [] ms (omega arith) ∙ rest
  where
    rest : ((repeated [] (map (decoded_name s) ms) || ltb members (0 + length (map (decoded_name s) ms))) || any (λ m. bad m.value) ms) ≡ bad_object bad s ms
    rest = let e : 0 + length (map (decoded_name s) ms) ≡ length (map (decoded_name s) ms) = omega arith in rw e

-- ---- the loop over the elements of an array
pub record ArrayPass (d : ℕ) (s : List ℕ) (at start used : ℕ) (places₀ keys₀ places keys : List ℕ) (bad : Bool) (i : ℕ) : Type 0 where
  pub reading : items_at (value_at d s) s 0x5D i ≡ items_at (value_at d s) s 0x5D start
  pub names : (bad || bad_array (bad_members_at d s) (elements_from s i)) ≡ bad_array (bad_members_at d s) (elements_from s start)
  pub forward : at ≤ i
  pub places_kept : FrontKept used places₀ places
  pub keys_kept : FrontKept used keys₀ keys

pub array_start : (d : ℕ) (s : List ℕ) (at start used : ℕ) (places keys : List ℕ) → start ≡ skip_blanks s at → ArrayPass d s at start used places keys places keys false start
array_start d s at start used places keys e = record {
  reading = refl;
  names = refl;
  forward = omega (arith, blanks_onward s at);
  places_kept = kept_same used places;
  keys_kept = kept_same used keys;
}

-- what the loop tells of the whole
abbrev pub ArrayTold : ℕ → List ℕ → ℕ → Option (Cursor × Bool) → Type 0
ArrayTold d s start r = r ≡ scan_of (items_at (value_at d s) s 0x5D start) (bad_array (bad_members_at d s) (elements_from s start))

-- no number or literal goes on with a close
bracket_ends : token_byte 0x5D ≡ false
unfolding token_byte blank
bracket_ends = refl

brace_ends : token_byte 0x7D ≡ false
unfolding token_byte blank
brace_ends = refl

-- an element was read, and what stands after it
module _ (d : ℕ) (s : List ℕ) (i : ℕ) (c : Cursor) (ev : value_at d s i ≡ Some c) where
  element_first : (after_item s 0x5D c.at ≡ None → ⊥) → elements_from s i ≡ record { at = i; end = c.at } ∷ elements_from s (next_item s c.at)
  element_first f = elements_more s i c.at (value_read d s i c ev (after_scalar s 0x5D c.at bracket_ends f)) (value_onward d s i c ev)

after_apart : (a : Option After) (c : Cursor) → a ≡ Some (A.Item c) → a ≡ None → ⊥
after_apart a c e f = let z : ◌≡◌ {A = ℕ} 0 1 = cc in omega arith

close_apart : (a : Option After) (c : Cursor) → a ≡ Some (A.Close c) → a ≡ None → ⊥
close_apart a c e f = let z : ◌≡◌ {A = ℕ} 0 1 = cc in omega arith

or_assoc : (a b c : Bool) → ((a || b) || c) ≡ (a || (b || c))
or_assoc true b c = refl
or_assoc false b c = refl

or_false : (a : Bool) → (a || false) ≡ a
or_false true = refl
or_false false = refl

module _ (d : ℕ) (s : List ℕ) (at start used : ℕ) (places₀ keys₀ places keys : List ℕ) (bad : Bool) (i : ℕ)
    (p : ArrayPass d s at start used places₀ keys₀ places keys bad i) (r : Option (Cursor × Bool)) (er : r ≡ scan_of (value_at d s i) (bad_members_at d s i)) where
  pub array_stop : r ≡ None → ArrayTold d s start None
  array_stop h = told_bad _ _ (sym p.reading ∙ items_none (value_at d s) s 0x5D i (scan_bad _ _ (sym h ∙ er)))

  module _ (c : Cursor) (inner : Bool) (h : r ≡ Some (c, inner)) (b : Bool) (eb : b ≡ (bad || inner)) (a : Option After) (ea : a ≡ after_item s 0x5D c.at) where
    read : value_at d s i ≡ Some c
    read = (scan_to (value_at d s i) (bad_members_at d s i) c inner (sym h ∙ er)).0

    found : bad_members_at d s i ≡ inner
    found = (scan_to (value_at d s i) (bad_members_at d s i) c inner (sym h ∙ er)).1

    pub array_bad : a ≡ None → ArrayTold d s start None
    array_bad g = told_bad _ _ (sym p.reading ∙ items_bad (value_at d s) s 0x5D i c read (sym ea ∙ g))

    rest_is : (after_item s 0x5D c.at ≡ None → ⊥) → (b || bad_array (bad_members_at d s) (elements_from s (next_item s c.at))) ≡ bad_array (bad_members_at d s) (elements_from s start)
    unfolding any
    rest_is f =
        ap (λ (x : Bool). x || bad_array (bad_members_at d s) (elements_from s (next_item s c.at))) eb ∙ or_assoc bad inner _
        ∙ ap (λ (x : Bool). bad || (x || bad_array (bad_members_at d s) (elements_from s (next_item s c.at)))) (sym found)
        ∙ ap (λ (l : List Element). bad || bad_array (bad_members_at d s) l) (sym (element_first d s i c read f)) ∙ p.names

    pub array_close : (e : Cursor) → a ≡ Some (A.Close e) → ArrayTold d s start (Some (e, b))
    unfolding any
    array_close e g =
        let q = sym ea ∙ g in
        let k = after_close s 0x5D c.at e q in
        let n = elements_none s (next_item s c.at) 0x5D k.0 (λ z. omega arith) refl bracket_ends in
        told_to _ _ b e (sym p.reading ∙ items_close (value_at d s) s 0x5D i c read e q)
        (sym (or_false b) ∙ ap (λ (l : List Element). b || bad_array (bad_members_at d s) l) (sym n) ∙ rest_is (close_apart _ e q))

    module _ (e : Cursor) (g : a ≡ Some (A.Item e)) where
      pub array_less : (i < e.at) × (i < length s)
      array_less = items_less (value_at d s) s 0x5D i c read (value_forward d s) e (sym ea ∙ g)

      pub array_again : (places' keys' : List ℕ) → FrontKept used places places' → FrontKept used keys keys' → ArrayPass d s at start used places₀ keys₀ places' keys' b e.at
      array_again places' keys' kp kk =
          let q = sym ea ∙ g in
          let k = after_item_lem s 0x5D c.at e q in
          record {
            reading = items_more (value_at d s) s 0x5D i c read (value_forward d s) e q ∙ p.reading;
            names = ap (λ (x : ℕ). b || bad_array (bad_members_at d s) (elements_from s x)) (sym k) ∙ rest_is (after_apart _ e q);
            forward = omega (arith, array_less.0, p.forward);
            places_kept = kept_then p.places_kept kp;
            keys_kept = kept_then p.keys_kept kk;
          }

-- ---- the array, from past its opening byte; k is where the blanks end, b the byte there
pub array_zero : (d : ℕ) (s : List ℕ) (at : ℕ) → d ≡ 0 → None ≡ scan_of (array_at d s at) (bad_array_at d s at)
array_zero d s at e = told_bad _ _ (array_deep d s at e)

bad_array_lem : (d : ℕ) (s : List ℕ) (at : ℕ) → (d ≡ 0 → ⊥) → bad_array_at d s at ≡ bad_array (bad_members_at (d - 1) s) (elements_from s (skip_blanks s at))
unfolding bad_array_at
bad_array_lem zero s at f = absurd (f refl)
bad_array_lem (suc d) s at f = rw (sub-one (suc d))

module _ (d : ℕ) (s : List ℕ) (at k b : ℕ) (f : d ≡ 0 → ⊥) (ek : k ≡ skip_blanks s at) (eb : b ≡ byte s k) where
  pub array_empty : b ≡ 0x5D → Some ((record { at = k + 1 }), false) ≡ scan_of (array_at d s at) (bad_array_at d s at)
  unfolding any
  array_empty h =
      told_to _ _ false (record { at = k + 1 }) (array_group d s at f ∙ group_empty (value_at (d - 1) s) s 0x5D at k b ek eb h)
      (sym (bad_array_lem d s at f ∙ ap (λ (l : List Element). bad_array (bad_members_at (d - 1) s) l)
      (ap (elements_from s) (sym ek) ∙ elements_none s k 0x5D (sym eb ∙ h) (λ z. omega arith) refl bracket_ends)))

  pub array_told : (r : Option (Cursor × Bool)) → (b ≡ 0x5D → ⊥) → ArrayTold (d - 1) s k r → r ≡ scan_of (array_at d s at) (bad_array_at d s at)
  array_told r g e = rw (array_group d s at f, group_items (value_at (d - 1) s) s 0x5D at k b ek eb g, bad_array_lem d s at f, ← ek) e

-- ---- the loop over the members of an object
pub record ObjectPass (d : ℕ) (s : List ℕ) (at start used : ℕ) (places₀ keys₀ places keys : List ℕ) (bad : Bool) (n i : ℕ) : Type 0 where
  pub reading : items_at (member_at (value_at d s) s) s 0x7D i ≡ items_at (member_at (value_at d s) s) s 0x7D start
  pub names : (bad || bad_from (bad_members_at d s) s (names_on s places used n) (members_from s i)) ≡ bad_object (bad_members_at d s) s (members_from s start)
  pub agree : KeysAgree s places keys used n
  pub few : n ≤ members
  pub forward : at + 4 * n ≤ i
  pub places_kept : FrontKept used places₀ places
  pub keys_kept : FrontKept used keys₀ keys

no_keys : (s places keys : List ℕ) (base : ℕ) → KeysAgree s places keys base 0
unfolding KeysAgree
no_keys s places keys base k h = absurd (omega arith)

pub object_start : (d : ℕ) (s : List ℕ) (at start used : ℕ) (places keys : List ℕ) → start ≡ skip_blanks s at → ObjectPass d s at start used places keys places keys false 0 start
unfolding names_on
object_start d s at start used places keys e = record {
  reading = refl;
  names = object_from (bad_members_at d s) s (members_from s start);
  agree = no_keys s places keys used;
  few = omega arith;
  forward = omega (arith, blanks_onward s at);
  places_kept = kept_same used places;
  keys_kept = kept_same used keys;
}

abbrev pub ObjectTold : ℕ → List ℕ → ℕ → Option (Cursor × Bool) → Type 0
ObjectTold d s start r = r ≡ scan_of (items_at (member_at (value_at d s) s) s 0x7D start) (bad_object (bad_members_at d s) s (members_from s start))

-- ---- a name was read
-- the name, its colon and the value's place are three bytes at least, and the colon stands inside the text
pub name_inside : (s : List ℕ) (i : ℕ) (v : Cursor) → name_at s i ≡ Some v → (i + 3 ≤ length s) × (i + 3 ≤ v.at)
unfolding colon_at
name_inside s i v e = go (name_read s i v e) where
  colon : (n : ℕ) (x : Option Cursor) → cond (eqb (byte s (skip_blanks s n)) 0x3A) (to (skip_blanks s (skip_blanks s n + 1))) None ≡ Some v → skip_blanks s n < length s
  colon n x h =
      cond_elim (λ (r : Option Cursor). r ≡ Some v → skip_blanks s n < length s) (eqb (byte s (skip_blanks s n)) 0x3A) _ _
      (λ b _. inside s (skip_blanks s n) 0x3A (sym (eqb-true _ _ b)) (omega arith)) (λ _ g. let z : ◌≡◌ {A = ℕ} 0 1 = cc in absurd (omega arith)) h

  go : NameRead s i v → (i + 3 ≤ length s) × (i + 3 ≤ v.at)
  go p =
      let h = onward_is (subst (λ (x : Option Cursor). Onward (i + 3) x) e (name_onward s i)) in
      let l = colon p.end.at None p.colon in
      let m = blanks_onward s p.end.at in
      let n = p.last in
      (omega arith, omega arith)

-- ---- a name with its key
module _ (s : List ℕ) (i : ℕ) (k : Option (Cursor × ℕ)) (ek : k ≡ keyed (name_at s i) (key_of (decoded_from s (i + 1)))) (v : Cursor) (key : ℕ) (hk : k ≡ Some (v, key)) where
  name_was : (name_at s i ≡ Some v) × (key ≡ key_of (decoded_from s (i + 1)))
  name_was = keyed_to (name_at s i) (key_of (decoded_from s (i + 1))) v key (sym hk ∙ ek)

  pub name_far : (i + 3 ≤ length s) × (i + 3 ≤ v.at)
  name_far = name_inside s i v name_was.0

-- the member at i, where its value was read up to c, is the next one found
module _ (d : ℕ) (s : List ℕ) (i : ℕ) (v c : Cursor) (en : name_at s i ≡ Some v) (ev : value_at d s v.at ≡ Some c)
    (f : after_item s 0x7D c.at ≡ None → ⊥) where
  member_first : (m : Member) × (m.name ≡ i + 1) × (m.value ≡ v.at) × (members_from s i ≡ m ∷ members_from s (next_item s c.at))
  member_first =
      let p = name_read s i v en in
      let w = value_read d s v.at c ev (after_scalar s 0x7D c.at brace_ends f) in (
        record { name = i + 1; quote = p.end.at - 1; value = v.at; end = c.at },
        refl,
        refl,
        members_more s i p.quote p.end v p.string p.colon c.at w,
      )

-- ---- a name was kept, or refused
few_more : (t : Bool) (x : Bool) → (t || x) ≡ false → t ≡ false
few_more true x e = e
few_more false x e = refl

module _ (s : List ℕ) (at base : ℕ) (names : Names) (places keys : List ℕ) where
  below : refuses s places base names.count at ≡ false → names.count < members
  unfolding refuses
  below e = leb-false members names.count (few_more (leb members names.count) _ e)

  pub kept_few : {names' : Names} {places' keys' : List ℕ} → NameKept s at base names places keys names' places' keys' → names.count ≤ members → names'.count ≤ members
  kept_few (kept e) h = let l = below e in omega arith
  kept_few (refused e) h = h

  pub kept_most : {names' : Names} {places' keys' : List ℕ} → NameKept s at base names places keys names' places' keys' → names'.count ≤ names.count + 1
  kept_most (kept e) = omega arith
  kept_most (refused e) = omega arith

  pub kept_places : {names' : Names} {places' keys' : List ℕ} → NameKept s at base names places keys names' places' keys' → FrontKept base places places'
  kept_places (kept e) = kept_set base (base + names.count) places at (omega arith)
  kept_places (refused e) = kept_same base places

  pub kept_keys : {names' : Names} {places' keys' : List ℕ} → NameKept s at base names places keys names' places' keys' → FrontKept base keys keys'
  kept_keys (kept e) = kept_set base (base + names.count) keys _ (omega arith)
  kept_keys (refused e) = kept_same base keys

  module _ (fits : names.count < members → base + names.count < length places) (fits' : names.count < members → base + names.count < length keys) where
    top : (n : ℕ) → base + n < length places → names_on s (set places (base + n) at) base (n + 1) ≡ decoded_from s at ∷ names_on s places base n
    unfolding names_on
    top n h =
        rw (add-one n, get_or-set_same places (base + n) at 0 h, names_kept s (kept_set (base + n) (base + n) places at (omega arith)) base n (omega arith))

    pub kept_agree : {names' : Names} {places' keys' : List ℕ} → NameKept s at base names places keys names' places' keys'
        → KeysAgree s places keys base names.count → KeysAgree s places' keys' base names'.count
    unfolding KeysAgree
    kept_agree (kept e) f k h = go (ltb k names.count) refl where
      v : ℕ
      v = kept_key (take names.count (drop base keys)) (decoded_from s at)

      before : (k : ℕ) → k ≤ names.count → take k (drop base (set keys (base + names.count) v)) ≡ take k (drop base keys)
      before k l = part_kept (kept_set (base + names.count) (base + names.count) keys v (omega arith)) base k (omega arith)

      go : (t : Bool) → ltb k names.count ≡ t
          → get_or (set keys (base + names.count) v) (base + k) 0
          ≡ kept_key (take k (drop base (set keys (base + names.count) v))) (decoded_from s (get_or (set places (base + names.count) at) (base + k) 0))
      go true q =
          let l = ltb-true k names.count q in
          rw (
            before k (omega arith),
            get_or-set_other keys (base + names.count) (base + k) v 0 (λ z. omega arith),
            get_or-set_other places (base + names.count) (base + k) at 0 (λ z. omega arith),
          ) (f k l)
      go false q =
          let l = ltb-false k names.count q in
          let m : k ≡ names.count = omega arith in
          rw (m, before names.count (omega arith), get_or-set_same keys (base + names.count) v 0 (fits' (below e)), get_or-set_same places (base + names.count) at 0 (fits (below e)))
    kept_agree (refused e) f k h = f k h

    -- one member more, after the names kept
    pub kept_told : {names' : Names} {places' keys' : List ℕ} → NameKept s at base names places keys names' places' keys'
        → (bad : ℕ → Bool) (m : Member) (l : List Member) → m.name ≡ at
        → ((names'.bad || bad m.value) || bad_from bad s (names_on s places' base names'.count) l)
        ≡ (names.bad || bad_from bad s (names_on s places base names.count) (m ∷ l))
    unfolding bad_from refuses
    kept_told (kept e) bad m l h =
        rw (top names.count (fits (below e)), names_long s places base names.count, h, e)
        (or_assoc names.bad (bad m.value) (bad_from bad s (decoded_from s at ∷ names_on s places base names.count) l))
    kept_told (refused e) bad m l h =
        sym (either_true names.bad _ (rw (names_long s places base names.count, h, e)))

-- ---- the loop's steps
module _ (d : ℕ) (s : List ℕ) (at start used : ℕ) (places₀ keys₀ places keys : List ℕ) (bad : Bool) (n i : ℕ)
    (p : ObjectPass d s at start used places₀ keys₀ places keys bad n i) where
  pub object_nameless : (k : Option (Cursor × ℕ)) → k ≡ keyed (name_at s i) (key_of (decoded_from s (i + 1))) → k ≡ None → ObjectTold d s start None
  object_nameless k ek h =
      told_bad _ _ (sym p.reading
      ∙ items_none (member_at (value_at d s) s) s 0x7D i (member_none (value_at d s) s i (keyed_none (name_at s i) (key_of (decoded_from s (i + 1))) (sym h ∙ ek))))

  module _ (k : Option (Cursor × ℕ)) (ek : k ≡ keyed (name_at s i) (key_of (decoded_from s (i + 1)))) (v : Cursor) (key : ℕ) (hk : k ≡ Some (v, key)) (t : Names) (places' keys' : List ℕ)
      (et : NameKept s (i + 1) used (record { count = n; bad = bad }) places keys t places' keys')
      (fits : n < members → used + n < length places) (fits' : n < members → used + n < length keys)
      (r : Option (Cursor × Bool)) (er : r ≡ scan_of (value_at d s v.at) (bad_members_at d s v.at)) where
    name_is : name_at s i ≡ Some v
    name_is = (name_was s i k ek v key hk).0

    pub object_stop : r ≡ None → ObjectTold d s start None
    object_stop h =
        told_bad _ _ (sym p.reading
        ∙ items_none (member_at (value_at d s) s) s 0x7D i (member_value_lem (value_at d s) s i v name_is ∙ scan_bad _ _ (sym h ∙ er)))

    module _ (c : Cursor) (inner : Bool) (h : r ≡ Some (c, inner)) (b : Bool) (eb : b ≡ (t.bad || inner)) (a : Option After) (ea : a ≡ after_item s 0x7D c.at) where
      value_is : value_at d s v.at ≡ Some c
      value_is = (scan_to (value_at d s v.at) (bad_members_at d s v.at) c inner (sym h ∙ er)).0

      inner_is : bad_members_at d s v.at ≡ inner
      inner_is = (scan_to (value_at d s v.at) (bad_members_at d s v.at) c inner (sym h ∙ er)).1

      member_is : member_at (value_at d s) s i ≡ Some c
      member_is = member_value_lem (value_at d s) s i v name_is ∙ value_is

      pub object_bad : a ≡ None → ObjectTold d s start None
      object_bad g = told_bad _ _ (sym p.reading ∙ items_bad (member_at (value_at d s) s) s 0x7D i c member_is (sym ea ∙ g))

      -- the names after this member, with the memory that its value left
      module _ (places'' : List ℕ) (kp : FrontKept (used + t.count) places' places'') where
        same_names : names_on s places'' used t.count ≡ names_on s places' used t.count
        same_names = names_kept s kp used t.count (omega arith)

        rest_told : (after_item s 0x7D c.at ≡ None → ⊥)
            → (b || bad_from (bad_members_at d s) s (names_on s places'' used t.count) (members_from s (next_item s c.at))) ≡ bad_object (bad_members_at d s) s (members_from s start)
        rest_told f =
            let m = member_first d s i v c name_is value_is f in
            let e : inner ≡ bad_members_at d s m.0.value = sym inner_is ∙ ap (bad_members_at d s) (sym m.2) in
            rw (same_names, eb, e)
            (kept_told s (i + 1) used (record { count = n; bad = bad }) places keys fits fits' et (bad_members_at d s) m.0 (members_from s (next_item s c.at)) m.1
            ∙ ap (λ (l : List Member). bad || bad_from (bad_members_at d s) s (names_on s places used n) l) (sym m.3) ∙ p.names)

        pub object_close : (e : Cursor) → a ≡ Some (A.Close e) → ObjectTold d s start (Some (e, b))
        unfolding bad_from
        object_close e g =
            let w = sym ea ∙ g in
            let l = after_close s 0x7D c.at e w in
            let o = members_none s (next_item s c.at) 0x7D l.0 (λ z. omega arith) in
            told_to _ _ b e (sym p.reading ∙ items_close (member_at (value_at d s) s) s 0x7D i c member_is e w)
            (sym (or_false b) ∙ ap (λ (x : List Member). b || bad_from (bad_members_at d s) s (names_on s places'' used t.count) x) (sym o) ∙ rest_told (close_apart _ e w))

        module _ (e : Cursor) (g : a ≡ Some (A.Item e)) where
          pub object_less : (i + 4 ≤ e.at) × (i < length s)
          object_less = go (subst (OnwardAfter s c.at) (sym ea ∙ g) (after_onward s 0x7D c.at)) where
            go : OnwardAfter s c.at (Some (A.Item e)) → (i + 4 ≤ e.at) × (i < length s)
            go (onward_item l m) =
                let f = name_far s i k ek v key hk in
                (omega (arith, f.1, value_onward d s v.at c value_is), omega (arith, f.0))

          pub object_again : (keys'' : List ℕ) → FrontKept (used + t.count) keys' keys'' → ObjectPass d s at start used places₀ keys₀ places'' keys'' b t.count e.at
          object_again keys'' kk =
              let w = sym ea ∙ g in
              let l = after_item_lem s 0x7D c.at e w in
              let y = kept_most s (i + 1) used (record { count = n; bad = bad }) places keys et in
              record {
                reading = items_more (member_at (value_at d s) s) s 0x7D i c member_is (member_forward d s) e w ∙ p.reading;
                names = ap (λ (x : ℕ). b || bad_from (bad_members_at d s) s (names_on s places'' used t.count) (members_from s x)) (sym l) ∙ rest_told (after_apart _ e w);
                agree = agree_kept s kp kk used t.count (omega arith)
                    (kept_agree s (i + 1) used (record { count = n; bad = bad }) places keys fits fits' et p.agree);
                few = kept_few s (i + 1) used (record { count = n; bad = bad }) places keys et p.few;
                forward = omega (arith, object_less.0, p.forward, y);
                places_kept = kept_then p.places_kept (kept_then (kept_places s (i + 1) used (record { count = n; bad = bad }) places keys et) (kept_less (omega arith) kp));
                keys_kept = kept_then p.keys_kept (kept_then (kept_keys s (i + 1) used (record { count = n; bad = bad }) places keys et) (kept_less (omega arith) kk));
              }

-- ---- the object, from past its opening byte; k is where the blanks end, b the byte there
pub object_zero : (d : ℕ) (s : List ℕ) (at : ℕ) → d ≡ 0 → None ≡ scan_of (object_at d s at) (bad_object_at d s at)
object_zero d s at e = told_bad _ _ (object_deep d s at e)

bad_object_lem : (d : ℕ) (s : List ℕ) (at : ℕ) → (d ≡ 0 → ⊥) → bad_object_at d s at ≡ bad_object (bad_members_at (d - 1) s) s (members_from s (skip_blanks s at))
unfolding bad_object_at
bad_object_lem zero s at f = absurd (f refl)
bad_object_lem (suc d) s at f = rw (sub-one (suc d))

module _ (d : ℕ) (s : List ℕ) (at k b : ℕ) (f : d ≡ 0 → ⊥) (ek : k ≡ skip_blanks s at) (eb : b ≡ byte s k) where
  pub object_empty : b ≡ 0x7D → Some ((record { at = k + 1 }), false) ≡ scan_of (object_at d s at) (bad_object_at d s at)
  unfolding any bad_names repeated
  object_empty h =
      told_to _ _ false (record { at = k + 1 }) (object_group d s at f ∙ group_empty (member_at (value_at (d - 1) s) s) s 0x7D at k b ek eb h)
      (sym (bad_object_lem d s at f ∙ ap (λ (l : List Member). bad_object (bad_members_at (d - 1) s) s l)
      (ap (members_from s) (sym ek) ∙ members_none s k 0x7D (sym eb ∙ h) (λ z. omega arith))))

  pub object_told : (r : Option (Cursor × Bool)) → (b ≡ 0x7D → ⊥) → ObjectTold (d - 1) s k r → r ≡ scan_of (object_at d s at) (bad_object_at d s at)
  object_told r g e = rw (object_group d s at f, group_items (member_at (value_at (d - 1) s) s) s 0x7D at k b ek eb g, bad_object_lem d s at f, ← ek) e
