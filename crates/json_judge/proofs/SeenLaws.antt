-- The names kept for the open objects: steps of specs/Stack.antt, on plain variables.
use Rattle.std.specs.Prelude.{None, Option, Some}
use mathlib.Core.Path.{◌≡◌, refl, sym, ap, subst, ◌∙◌}
use mathlib.Core.Bool.{Bool, true, false, cond, ◌||◌}
use mathlib.Core.List.{List, [], ◌∷◌}
use Prim.Native.Nat.{ℕ, zero, suc, ◌≤◌, ◌<◌, ◌+◌, ◌-◌}
use native.Mathlib.Omega.{arith}
use native.Mathlib.Numerals.{add-one}
use lib.ListN.{length, get_or, set, take, drop, length-drop, drop_of_length-le}
use lib.Seq.{get_or-drop, drop-cons}
use lib.Dec.{eqb, ltb}
use borrow.Author.Tests.{le-leb, lt-leb, eqb-false, ltb-true, ltb-false}
use Rattle.limits.specs.Limits.{members}
use Rattle.json_blocks.proofs.ByteLaws.{cond_elim}
use Rattle.json_strings.specs.Decode.{decoded_from}
use Rattle.json_names.specs.Same.{same}
use Rattle.json_names.specs.Keys.{key_of, second_key_of}
use Rattle.json_names.proofs.SameLaws.{same_ne}
use Rattle.json_judge.specs.declared.Names.{Names}
use Rattle.json_judge.specs.MemberNames.{has_name}
use Rattle.json_judge.specs.Stack.{has_key, names_on, kept_key, IsKey, first_key, second_key, KeysAgree, fresh_key, refuses, NameKept, kept, refused}

neither_left : (t u : Bool) → (t || u) ≡ false → t ≡ false
neither_left true u e = e
neither_left false u e = refl

neither_right : (t u : Bool) → (t || u) ≡ false → u ≡ false
neither_right true u e = let z : ◌≡◌ {A = ℕ} 0 1 = cc in absurd (omega arith)
neither_right false u e = e

-- a name that has neither of another's keys is not the same
key_clash : {k l : List ℕ} {c : ℕ} → k ≡ l → IsKey l c → (c ≡ key_of k → ⊥) → (c ≡ second_key_of k → ⊥) → ⊥
key_clash e first_key f g = f (ap key_of (sym e))
key_clash e second_key f g = g (ap second_key_of (sym e))

pub keys_apart : (k l : List ℕ) (c : ℕ) → IsKey l c → (c ≡ key_of k → ⊥) → (c ≡ second_key_of k → ⊥) → false ≡ same k l
keys_apart k l c h f g = sym (same_ne k l (λ e. key_clash e h f g))

-- ---- one of the names kept
module _ (s places : List ℕ) (base : ℕ) (x : List ℕ) where
  pub known_on : (k : ℕ) → false ≡ same x (decoded_from s (get_or places (base + k) 0)) → has_name x (names_on s places base k) ≡ has_name x (names_on s places base (k + 1))
  unfolding has_name names_on
  known_on k f = rw (add-one k, ← f) refl

  pub known_found : (n k : ℕ) → k < n → true ≡ same x (decoded_from s (get_or places (base + k) 0)) → true ≡ has_name x (names_on s places base n)
  unfolding has_name names_on
  known_found zero k h e = absurd (omega arith)
  known_found (suc n) k h e = go (λ l. known_found n k l e) (ltb k n) refl where
    last : ℕ → Bool
    last i = same x (decoded_from s (get_or places (base + i) 0))

    either : (t u : Bool) → true ≡ u → true ≡ (t || u)
    either true u f = refl
    either false u f = f

    go : (k < n → true ≡ has_name x (names_on s places base n)) → (t : Bool) → ltb k n ≡ t → true ≡ (last n || has_name x (names_on s places base n))
    go f true q = either (last n) _ (f (ltb-true k n q))
    go f false q =
        let l = ltb-false k n q in
        let m : k ≡ n = omega arith in
        let g : true ≡ last n = e ∙ ap last m in
        rw (← g)

is_key : (before x : List ℕ) → IsKey x (kept_key before x)
unfolding kept_key
is_key before x = cond_elim (IsKey x) (has_key (key_of x) before) _ _ (λ _. second_key) (λ _. first_key)

pub key_at : (s places keys : List ℕ) (base n k : ℕ) → KeysAgree s places keys base n → k < n
    → IsKey (decoded_from s (get_or places (base + k) 0)) (get_or keys (base + k) 0)
unfolding KeysAgree
key_at s places keys base n k h l = rw (h k l) (is_key (take k (drop base keys)) (decoded_from s (get_or places (base + k) 0)))

-- ---- keys alone
either_same : (t u : Bool) (l : Bool) → ((t || u) || l) ≡ (t || (u || l))
either_same true u l = refl
either_same false u l = refl

module _ (key : ℕ) (l : List ℕ) (i : ℕ) where
  pub key_on : i < length l → (found : Bool) → ((found || eqb (get_or l i 0) key) || has_key key (drop (i + 1) l)) ≡ (found || has_key key (drop i l))
  unfolding has_key
  key_on h found = rw (add-one i, drop-cons l i 0 h) (either_same found (eqb (get_or l i 0) key) (has_key key (drop (suc i) l)))

  pub key_end : length l ≤ i → (found : Bool) → found ≡ (found || has_key key (drop i l))
  unfolding has_key
  key_end h found = rw (drop_of_length-le l h) (none found) where
    none : (t : Bool) → t ≡ (t || false)
    none true = refl
    none false = refl

-- a key that is not among the first n + 1 is not among the first n, and not the one after them
key_less : (key : ℕ) (l : List ℕ) (n : ℕ) → n < length l → has_key key (take (suc n) l) ≡ false → (has_key key (take n l) ≡ false) × (get_or l n 0 ≡ key → ⊥)
unfolding has_key
key_less key [] n h e = absurd (omega arith)
key_less key (x ∷ l) zero h e = (refl, eqb-false x key (neither_left _ _ e))
key_less key (x ∷ l) (suc n) h e =
    let m = key_less key l n (omega arith) (neither_right (eqb x key) _ e) in
    (rw (neither_left (eqb x key) _ e) m.0, m.1)

-- a name whose key is not among the keys is not among the names
module _ (s places keys : List ℕ) (base : ℕ) (x : List ℕ) (key : ℕ) (ek : key ≡ key_of x) where
  kept_first : (before y : List ℕ) → has_key key before ≡ false → x ≡ y → kept_key before y ≡ key
  unfolding kept_key
  kept_first before y h e = rw (← e, ← ek, h)

  unknown : (n : ℕ) → base + n ≤ length keys → KeysAgree s places keys base n → has_key key (take n (drop base keys)) ≡ false → false ≡ has_name x (names_on s places base n)
  unfolding names_on has_name KeysAgree
  unknown zero l a e = refl
  unknown (suc n) l a e =
      let d : length (drop base keys) ≡ length keys - base = length-drop base keys in
      let m = key_less key (drop base keys) n (omega arith) e in
      let y = decoded_from s (get_or places (base + n) 0) in
      rw (same_ne x y (λ q. m.1 (get_or-drop base keys n 0 ∙ a n (omega arith) ∙ kept_first (take n (drop base keys)) y m.0 q)))
      (unknown n (omega arith) (λ k h. a k (omega arith)) m.0)

-- ---- a name is known, or the key to keep for it
module _ (s : List ℕ) (at : ℕ) (places keys : List ℕ) (base n key : ℕ) (ek : key ≡ key_of (decoded_from s at)) (t : Bool) (et : t ≡ has_key key (take (base + n - base) (drop base keys))) where
  key_among : has_key key (take n (drop base keys)) ≡ t
  key_among = let m : base + n - base ≡ n = omega arith in ap (λ (z : ℕ). has_key key (take z (drop base keys))) (sym m) ∙ sym et

  pub fresh_known : true ≡ has_name (decoded_from s at) (names_on s places base n) → None ≡ fresh_key s at places keys base n
  unfolding fresh_key
  fresh_known e = rw (← e)

  pub fresh_second : t ≡ true → false ≡ has_name (decoded_from s at) (names_on s places base n) → (k : ℕ) → k ≡ second_key_of (decoded_from s at)
      → Some k ≡ fresh_key s at places keys base n
  unfolding fresh_key kept_key
  fresh_second h e k ek' = rw (← e, ← ek, key_among, h, ek')

  pub fresh_first : t ≡ false → base + n ≤ length keys → KeysAgree s places keys base n → Some key ≡ fresh_key s at places keys base n
  unfolding fresh_key
  fresh_first h l a =
      let u = key_among ∙ h in
      rw (← unknown s places keys base (decoded_from s at) key ek n l a u, kept_first s places keys base (decoded_from s at) key ek (take n (drop base keys)) (decoded_from s at) u refl)

is_known : (t : Bool) (v : ℕ) → None ≡ cond t None (Some v) → t ≡ true
is_known true v e = refl
is_known false v e = let z : ◌≡◌ {A = ℕ} 0 1 = cc in absurd (omega arith)

is_fresh : (t : Bool) (v k : ℕ) → Some k ≡ cond t None (Some v) → (t ≡ false) × (k ≡ v)
is_fresh true v k e = let z : ◌≡◌ {A = ℕ} 0 1 = cc in absurd (omega arith)
is_fresh false v k e = (refl, cc)

-- ---- a name is kept, or refused
module _ (s : List ℕ) (at base : ℕ) (names : Names) (places keys : List ℕ) where
  pub name_over : members ≤ names.count → NameKept s at base names places keys (record { count = names.count; bad = true }) places keys
  unfolding refuses
  name_over h = refused (rw (le-leb _ _ h))

  module _ (h : names.count < members) (f : Option ℕ) (ef : f ≡ fresh_key s at places keys base names.count) where
    pub name_known : f ≡ None → NameKept s at base names places keys (record { count = names.count; bad = true }) places keys
    unfolding refuses fresh_key
    name_known e = refused (rw (lt-leb _ _ h) (is_known _ _ (sym e ∙ ef)))

    pub name_new : (k : ℕ) → f ≡ Some k
        → NameKept s at base names places keys (record { count = names.count + 1; bad = names.bad })
        (set places (base + names.count) at) (set keys (base + names.count) k)
    unfolding refuses fresh_key
    name_new k e =
        let p = is_fresh _ _ k (sym e ∙ ef) in
        subst (λ (x : ℕ). NameKept s at base names places keys (record { count = names.count + 1; bad = names.bad })
        (set places (base + names.count) at) (set keys (base + names.count) x)) (sym p.1) (kept (rw (lt-leb _ _ h) p.0))
