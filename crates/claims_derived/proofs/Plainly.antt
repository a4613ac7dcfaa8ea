-- An extension entry by the counts of its members' classes is one by its three members.
use mathlib.Core.Path.{◌≡◌, refl, sym, ap, ◌∙◌}
use mathlib.Core.Bool.{Bool, true, false, cond, not, ◌&&◌, false≢true}
use mathlib.Core.List.{List, [], ◌∷◌, map}
use mathlib.Core.Option.{Option, none, some}
use Prim.Native.Nat.{ℕ, suc, ◌+◌}
use Prim.Native.String.{String}
use native.Mathlib.Omega.{arith}
use lib.ListN.{length}
use lib.Dec.{eqb}
use borrow.Author.Tests.{eqb-true, ne_eqb}
use Rattle.json_blocks.specs.TextBytes.{ascii}
use Rattle.json_names.specs.Same.{same}
use Rattle.json_names.proofs.SameLaws.{same_is}
use Rattle.sigmf_values.specs.declared.FieldType.TheVariants as T
use Rattle.sigmf_extensions.specs.declared.EntryMember.{EntryMember}
use Rattle.sigmf_extensions.specs.declared.EntryMember.TheVariants as M
use Rattle.sigmf_extensions.specs.declared.Tally.{Tally}
use Rattle.sigmf_extensions.specs.declared.Extension.{Extension}
use Rattle.sigmf_extensions.specs.declared.Extension.TheVariants as E
use Rattle.sigmf_extensions.specs.Extensions.{counted, no_members, needed_if, judged}
use Rattle.table.proofs.Bools.{and_left, and_right}
use Rattle.claims_derived.specs.Derived.{Kind, object, array, number, text, boolean, null, Node, Entry, kind}
use Rattle.claims_derived.specs.Rules.{given, present, which, is_a, is_true, value_from, value, has, entry_by}

-- ---- the class of a member, as the reader counts it
abbrev pub class_of : Entry → EntryMember
class_of e =
    cond (same e.name (ascii "name")) (cond (is_a T.Text (kind e.node)) M.Name M.Other)
    (cond (same e.name (ascii "version")) (cond (is_a T.Text (kind e.node)) M.Version M.Other)
    (cond (same e.name (ascii "optional"))
    (cond (is_a T.Boolean (kind e.node)) (cond (is_true (kind e.node)) M.OptionalTrue M.OptionalFalse) M.Other) M.Other))

unfoldable pub tallied : Tally → List EntryMember → Tally
tallied t [] = t
tallied t (c ∷ l) = tallied (counted t c) l

-- ---- there are as many classes as members
abbrev total : Tally → ℕ
total t = t.names + t.versions + t.optionals + t.others

counted_total : (t : Tally) (c : EntryMember) → total (counted t c) ≡ total t + 1
counted_total t M.Name = omega arith
counted_total t M.Version = omega arith
counted_total t M.OptionalTrue = omega arith
counted_total t M.OptionalFalse = omega arith
counted_total t M.Other = omega arith

tallied_total : (t : Tally) (l : List EntryMember) → total (tallied t l) ≡ total t + length l
unfolding tallied
tallied_total t [] = omega arith
tallied_total t (c ∷ l) = omega (arith, tallied_total (counted t c) l, counted_total t c)

other_count : (t : Tally) → (total t ≡ 3 → ⊥) → judged t ≡ E.Malformed
unfolding judged
other_count t h = go _ refl where
  go : (b : Bool) → (eqb t.names 1 && eqb t.versions 1 && eqb t.optionals 1 && eqb t.others 0) ≡ b
      → cond (eqb t.names 1 && eqb t.versions 1 && eqb t.optionals 1 && eqb t.others 0) (cond (needed_if (eqb t.trues 1)) E.Needed E.Ignored) E.Malformed ≡ E.Malformed
  go false e = rw e
  go true e =
      let a = eqb t.names 1 in let b = eqb t.versions 1 in let c = eqb t.optionals 1 in let d = eqb t.others 0 in
      let p = and_left (a && b && c) d e in
      let q = and_left (a && b) c p in
      absurd (h (omega (
        arith,
        eqb-true t.others 0 (and_right (a && b && c) d e),
        eqb-true t.optionals 1 (and_right (a && b) c p),
        eqb-true t.versions 1 (and_right a b q),
        eqb-true t.names 1 (and_left a b q),
      )))

-- ---- what matters of a member
data Tag : Type 0 where
  name_tag : Bool → Tag
  version_tag : Bool → Tag
  optional_tag : Option Bool → Tag
  other_tag : Tag

abbrev truth : Kind → Option Bool
truth = which none none (λ _. none) (λ _. none) (λ b. some b) none

-- by whether its name is `name`, `version`, `optional`
abbrev tag_by : Bool → Bool → Bool → Node → Tag
tag_by a b c n = cond a (name_tag (is_a T.Text (kind n))) (cond b (version_tag (is_a T.Text (kind n))) (cond c (optional_tag (truth (kind n))) other_tag))

abbrev tag_of : Entry → Tag
tag_of e = tag_by (same e.name (ascii "name")) (same e.name (ascii "version")) (same e.name (ascii "optional")) e.node

abbrev class_by : Tag → EntryMember
class_by (name_tag b) = cond b M.Name M.Other
class_by (version_tag b) = cond b M.Version M.Other
class_by (optional_tag (some b)) = cond b M.OptionalTrue M.OptionalFalse
class_by (optional_tag none) = M.Other
class_by other_tag = M.Other

boolean_class : (k : Kind) → cond (is_a T.Boolean k) (cond (is_true k) M.OptionalTrue M.OptionalFalse) M.Other ≡ class_by (optional_tag (truth k))
unfolding is_a is_true
boolean_class object = refl
boolean_class array = refl
boolean_class (number n) = refl
boolean_class (text t) = refl
boolean_class (boolean b) = refl
boolean_class null = refl

class_tag : (e : Entry) → class_of e ≡ class_by (tag_of e)
class_tag e = go (same e.name (ascii "name")) (same e.name (ascii "version")) (same e.name (ascii "optional")) where
  go : (a b c : Bool)
      → cond a (cond (is_a T.Text (kind e.node)) M.Name M.Other) (cond b (cond (is_a T.Text (kind e.node)) M.Version M.Other)
      (cond c (cond (is_a T.Boolean (kind e.node)) (cond (is_true (kind e.node)) M.OptionalTrue M.OptionalFalse) M.Other) M.Other))
      ≡ class_by (tag_by a b c e.node)
  go true b c = refl
  go false true c = refl
  go false false true = boolean_class (kind e.node)
  go false false false = refl

-- ---- the last member with a name
abbrev name_in : Option Bool → Tag → Option Bool
name_in z (name_tag b) = some b
name_in z (version_tag b) = z
name_in z (optional_tag b) = z
name_in z other_tag = z

abbrev version_in : Option Bool → Tag → Option Bool
version_in z (version_tag b) = some b
version_in z (name_tag b) = z
version_in z (optional_tag b) = z
version_in z other_tag = z

abbrev optional_in : Option (Option Bool) → Tag → Option (Option Bool)
optional_in z (optional_tag b) = some b
optional_in z (name_tag b) = z
optional_in z (version_tag b) = z
optional_in z other_tag = z

unfoldable last_in : {A : Type 0} → (A → Tag → A) → A → List Tag → A
last_in f z [] = z
last_in f z (t ∷ l) = last_in f (f z t) l

abbrev mapped : {A B : Type 0} → (A → B) → Option A → Option B
mapped f none = none
mapped f (some a) = some (f a)

module _ {A : Type 0} (name : String) (f : Option A → Tag → Option A) (g : Node → A)
    (one : (e : Entry) (z : Option Node) → mapped g (cond (same e.name (ascii name)) (some e.node) z) ≡ f (mapped g z) (tag_of e)) where
  last_is : (z : Option Node) (es : List Entry) → mapped g (value_from (ascii name) z es) ≡ last_in f (mapped g z) (map tag_of es)
  unfolding value_from last_in
  last_is z [] = refl
  last_is z (e ∷ es) = last_is (cond (same e.name (ascii name)) (some e.node) z) es ∙ ap (λ (w : Option A). last_in f w (map tag_of es)) (one e z)

-- the three names differ
differ : (x : List ℕ) (m n : String) → same (ascii m) (ascii n) ≡ false → same x (ascii m) ≡ true → same x (ascii n) ≡ false
differ x m n h e = ap (λ (l : List ℕ). same l (ascii n)) (same_is x (ascii m) e) ∙ h

module _ (e : Entry) (z : Option Node) where
  name_one : mapped (λ n. is_a T.Text (kind n)) (cond (same e.name (ascii "name")) (some e.node) z) ≡ name_in (mapped (λ n. is_a T.Text (kind n)) z) (tag_of e)
  name_one = go (same e.name (ascii "name")) (same e.name (ascii "version")) (same e.name (ascii "optional")) where
    go : (a b c : Bool) → mapped (λ n. is_a T.Text (kind n)) (cond a (some e.node) z)
        ≡ name_in (mapped (λ n. is_a T.Text (kind n)) z) (tag_by a b c e.node)
    go true b c = refl
    go false true c = refl
    go false false true = refl
    go false false false = refl

  version_one : mapped (λ n. is_a T.Text (kind n)) (cond (same e.name (ascii "version")) (some e.node) z) ≡ version_in (mapped (λ n. is_a T.Text (kind n)) z) (tag_of e)
  unfolding same
  version_one = go (same e.name (ascii "name")) (same e.name (ascii "version")) (same e.name (ascii "optional")) (differ e.name "name" "version" refl) where
    go : (a b c : Bool) → (a ≡ true → b ≡ false) → mapped (λ n. is_a T.Text (kind n)) (cond b (some e.node) z)
        ≡ version_in (mapped (λ n. is_a T.Text (kind n)) z) (tag_by a b c e.node)
    go true b c h = rw (h refl)
    go false true c h = refl
    go false false true h = refl
    go false false false h = refl

  optional_one : mapped (λ n. truth (kind n)) (cond (same e.name (ascii "optional")) (some e.node) z) ≡ optional_in (mapped (λ n. truth (kind n)) z) (tag_of e)
  unfolding same
  optional_one = go (same e.name (ascii "name")) (same e.name (ascii "version")) (same e.name (ascii "optional")) (differ e.name "name" "optional" refl) (differ e.name "version" "optional" refl) where
    go : (a b c : Bool) → (a ≡ true → c ≡ false) → (b ≡ true → c ≡ false) → mapped (λ n. truth (kind n)) (cond c (some e.node) z)
        ≡ optional_in (mapped (λ n. truth (kind n)) z) (tag_by a b c e.node)
    go true b c h k = rw (h refl)
    go false true c h k = rw (k refl)
    go false false true h k = refl
    go false false false h k = refl

-- ---- three members
abbrev by_tags : List Tag → Extension
by_tags l =
    cond (given false (λ b. b) (last_in name_in none l) && (given false (λ b. b) (last_in version_in none l) && given false (λ b. present b) (last_in optional_in none l)))
    (cond (needed_if (given false (λ b. given false (λ c. c) b) (last_in optional_in none l))) E.Needed E.Ignored) E.Malformed

abbrev alike : Extension → Extension → Bool
alike E.Malformed E.Malformed = true
alike E.Malformed E.Needed = false
alike E.Malformed E.Ignored = false
alike E.Needed E.Needed = true
alike E.Needed E.Malformed = false
alike E.Needed E.Ignored = false
alike E.Ignored E.Ignored = true
alike E.Ignored E.Malformed = false
alike E.Ignored E.Needed = false

alike_is : (a b : Extension) → alike a b ≡ true → a ≡ b
alike_is E.Malformed E.Malformed e = refl
alike_is E.Malformed E.Needed e = absurd (false≢true e)
alike_is E.Malformed E.Ignored e = absurd (false≢true e)
alike_is E.Needed E.Needed e = refl
alike_is E.Needed E.Malformed e = absurd (false≢true e)
alike_is E.Needed E.Ignored e = absurd (false≢true e)
alike_is E.Ignored E.Ignored e = refl
alike_is E.Ignored E.Malformed e = absurd (false≢true e)
alike_is E.Ignored E.Needed e = absurd (false≢true e)

unfoldable every : (Tag → Bool) → Bool
every p =
    (p (name_tag true) && p (name_tag false)) && ((p (version_tag true) && p (version_tag false))
    && ((p (optional_tag none) && (p (optional_tag (some true)) && p (optional_tag (some false)))) && p other_tag))

every_is : (p : Tag → Bool) → every p ≡ true → (t : Tag) → p t ≡ true
unfolding every
every_is p e = go where
  a : Bool
  a = p (name_tag true) && p (name_tag false)

  b : Bool
  b = p (version_tag true) && p (version_tag false)

  c : Bool
  c = p (optional_tag none) && (p (optional_tag (some true)) && p (optional_tag (some false)))

  r : Bool
  r = b && (c && p other_tag)

  go : (t : Tag) → p t ≡ true
  go (name_tag true) = and_left (p (name_tag true)) (p (name_tag false)) (and_left a r e)
  go (name_tag false) = and_right (p (name_tag true)) (p (name_tag false)) (and_left a r e)
  go (version_tag true) = and_left (p (version_tag true)) (p (version_tag false)) (and_left b (c && p other_tag) (and_right a r e))
  go (version_tag false) = and_right (p (version_tag true)) (p (version_tag false)) (and_left b (c && p other_tag) (and_right a r e))
  go (optional_tag none) = and_left (p (optional_tag none)) _ (and_left c (p other_tag) (and_right b (c && p other_tag) (and_right a r e)))
  go (optional_tag (some true)) =
      and_left (p (optional_tag (some true))) (p (optional_tag (some false))) (and_right (p (optional_tag none)) _ (and_left c (p other_tag) (and_right b (c && p other_tag) (and_right a r e))))
  go (optional_tag (some false)) =
      and_right (p (optional_tag (some true))) (p (optional_tag (some false))) (and_right (p (optional_tag none)) _ (and_left c (p other_tag) (and_right b (c && p other_tag) (and_right a r e))))
  go other_tag = and_right c (p other_tag) (and_right b (c && p other_tag) (and_right a r e))

abbrev check : Tag → Tag → Tag → Bool
check a b c = alike (judged (tallied no_members (class_by a ∷ (class_by b ∷ (class_by c ∷ []))))) (by_tags (a ∷ (b ∷ (c ∷ []))))

checked : every (λ a. every (λ b. every (λ c. check a b c))) ≡ true
unfolding every judged tallied last_in
checked = refl

three : (a b c : Tag) → judged (tallied no_members (class_by a ∷ (class_by b ∷ (class_by c ∷ [])))) ≡ by_tags (a ∷ (b ∷ (c ∷ [])))
three a b c =
    alike_is _ _ (every_is (λ c. check a b c) (every_is (λ b. every (λ c. check a b c)) (every_is (λ a. every (λ b. every (λ c. check a b c))) checked a) b) c)

-- ---- any members
boolean_is : (k : Kind) → is_a T.Boolean k ≡ present (truth k)
unfolding is_a
boolean_is object = refl
boolean_is array = refl
boolean_is (number n) = refl
boolean_is (text t) = refl
boolean_is (boolean b) = refl
boolean_is null = refl

true_is : (k : Kind) → is_true k ≡ given false (λ c. c) (truth k)
unfolding is_true
true_is object = refl
true_is array = refl
true_is (number n) = refl
true_is (text t) = refl
true_is (boolean b) = refl
true_is null = refl

given_mapped : {A : Type 0} (g : Node → A) (f : A → Bool) (h : Node → Bool) → ((n : Node) → h n ≡ f (g n)) → (v : Option Node) → given false h v ≡ given false f (mapped g v)
given_mapped g f h e none = refl
given_mapped g f h e (some n) = e n

module _ (es : List Entry) where
  name_is : has T.Text "name" es ≡ given false (λ b. b) (last_in name_in none (map tag_of es))
  name_is =
      given_mapped (λ n. is_a T.Text (kind n)) (λ b. b) (λ n. is_a T.Text (kind n)) (λ _. refl) (value "name" es)
      ∙ ap (given false (λ b. b)) (last_is "name" name_in (λ n. is_a T.Text (kind n)) name_one none es)

  version_is : has T.Text "version" es ≡ given false (λ b. b) (last_in version_in none (map tag_of es))
  version_is =
      given_mapped (λ n. is_a T.Text (kind n)) (λ b. b) (λ n. is_a T.Text (kind n)) (λ _. refl) (value "version" es)
      ∙ ap (given false (λ b. b)) (last_is "version" version_in (λ n. is_a T.Text (kind n)) version_one none es)

  optional_is : has T.Boolean "optional" es ≡ given false (λ b. present b) (last_in optional_in none (map tag_of es))
  optional_is =
      given_mapped (λ n. truth (kind n)) (λ b. present b) (λ n. is_a T.Boolean (kind n)) (λ n. boolean_is (kind n)) (value "optional" es)
      ∙ ap (given false (λ b. present b)) (last_is "optional" optional_in (λ n. truth (kind n)) optional_one none es)

  needed_is : given false (λ m. is_true (kind m)) (value "optional" es) ≡ given false (λ b. given false (λ c. c) b) (last_in optional_in none (map tag_of es))
  needed_is =
      given_mapped (λ n. truth (kind n)) (λ b. given false (λ c. c) b) (λ n. is_true (kind n)) (λ n. true_is (kind n)) (value "optional" es)
      ∙ ap (given false (λ b. given false (λ c. c) b)) (last_is "optional" optional_in (λ n. truth (kind n)) optional_one none es)

  by_tags_lem : length es ≡ 3 → entry_by es ≡ by_tags (map tag_of es)
  unfolding entry_by
  by_tags_lem h = rw (h, name_is, version_is, optional_is, needed_is)

  map_length : {A B : Type 0} (f : A → B) (l : List A) → length (map f l) ≡ length l
  map_length f [] = refl
  map_length f (a ∷ l) = ap suc (map_length f l)

  not_three : (length es ≡ 3 → ⊥) → judged (tallied no_members (map class_of es)) ≡ entry_by es
  unfolding entry_by
  not_three h =
      other_count _ (λ z. h (omega (arith, z, tallied_total no_members (map class_of es), map_length class_of es)))
      ∙ rw (ne_eqb (length es) 3 h)

pub entry_plain : (es : List Entry) → judged (tallied no_members (map class_of es)) ≡ entry_by es
entry_plain [] = not_three [] (λ z. omega arith)
entry_plain (a ∷ []) = not_three (a ∷ []) (λ z. omega arith)
entry_plain (a ∷ (b ∷ [])) = not_three (a ∷ (b ∷ [])) (λ z. omega arith)
entry_plain (a ∷ (b ∷ (c ∷ []))) =
    rw (class_tag a, class_tag b, class_tag c) (three (tag_of a) (tag_of b) (tag_of c)) ∙ sym (by_tags_lem (a ∷ (b ∷ (c ∷ []))) refl)
entry_plain (a ∷ (b ∷ (c ∷ (d ∷ l)))) = not_three (a ∷ (b ∷ (c ∷ (d ∷ l)))) (λ z. omega arith)
