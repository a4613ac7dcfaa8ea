-- The members and elements found in a text are those of its derivation, places included.
use Rattle.std.specs.Prelude.{Some}
use mathlib.Core.Path.{◌≡◌, refl, sym, ap, ◌∙◌}
use mathlib.Core.Bool.{false}
use mathlib.Core.List.{List, [], ◌∷◌, ◌++◌}
use Prim.Native.Nat.{ℕ, ◌≤◌, ◌<◌, ◌+◌, ◌-◌}
use native.Mathlib.Omega.{arith}
use lib.ListN.{length, length-append}
use borrow.Author.Tests.{eq-eqb}
use Rattle.json_blocks.specs.TextBytes.{byte, to, blank, skip_blanks}
use Rattle.json_blocks.specs.Group.{colon_at}
use Rattle.json_blocks.specs.declared.Cursor.{Cursor}
use Rattle.json_grammar.specs.Grammar.{Blank, space, tab, line_feed, carriage_return, Blanks, string, Items, last, more, Group, empty, full, Member, member, Array, Object, Value}
use Rattle.json_grammar.specs.Skip.{token_byte, skip_string, skip_value}
use Rattle.json_grammar.specs.Stands.{Stands}
use Rattle.json_grammar.proofs.Stands.{stands_none, stands_head, stands_tail, stands_left, stands_right}
use Rattle.json_grammar.proofs.Skips.{blanks_complete, blanks_first}
use Rattle.json_grammar.proofs.Groups.{apart, solid_above, member_first}
use Rattle.json_grammar.proofs.Values.{value_first}
use Rattle.json_grammar.proofs.SkipLaws.{string_skipped, value_skipped}
use Rattle.json_walk.specs.declared.Member.{Member as Span}
use Rattle.json_walk.specs.declared.Element.{Element}
use Rattle.json_walk.specs.Members.{next_item, members_from, elements_from, members_at, elements_at}
use Rattle.json_walk.proofs.WalkLaws.{next_comma, next_close}
use Rattle.json_walk.proofs.StepLaws.{members_more, members_none, elements_more, elements_none}
use Rattle.claims_derived.specs.Derived.{items_from, group_from}

-- a member that begins at i: its places
abbrev pub span_of : {Val : List ℕ → Type 0} → ℕ → (x : List ℕ) → Member Val x → Span
span_of i x (member {n} {w} {u} {v} s a b p) = record {
  name = i + 1;
  quote = i + length n - 1;
  value = i + length n + length w + 1 + length u;
  end = i + length n + length w + 1 + length u + length v;
}

abbrev pub element_of : (d : ℕ) → ℕ → (x : List ℕ) → Value d x → Element
element_of d i x p = record { at = i; end = i + length x }

blank_scalar : (b : ℕ) → Blank b → token_byte b ≡ false
unfolding token_byte blank
blank_scalar _ space = refl
blank_scalar _ tab = refl
blank_scalar _ line_feed = refl
blank_scalar _ carriage_return = refl

ends_before : {s w : List ℕ} {i j : ℕ} → Blanks w → Stands s i w j → token_byte (byte s j) ≡ false → token_byte (byte s i) ≡ false
ends_before = blanks_first (λ b. token_byte b ≡ false) blank_scalar

module _ {s : List ℕ} {Item : List ℕ → Type 0} {A : Type 0} (of : ℕ → (x : List ℕ) → Item x → A) (walk : ℕ → List A) (close : ℕ) (high : 0x2C < close)
    (ends : token_byte close ≡ false) (first : (x : List ℕ) (i j : ℕ) → Item x → Stands s i x j → 0x21 ≤ byte s i)
    (next : (x : List ℕ) (i j : ℕ) (p : Item x) → Stands s i x j → token_byte (byte s j) ≡ false → walk i ≡ of i x p ∷ walk (next_item s j))
    (done : (i : ℕ) → byte s i ≡ close → walk i ≡ []) where
  items_first : {xs : List ℕ} {i j : ℕ} → Items Item xs → Stands s i xs j → 0x21 ≤ byte s i
  items_first (last {x} {w} p a) q = first x _ _ p (stands_left s x w q)
  items_first (more {x} {w} {u} {xs} p a b r) q = first x _ _ p (stands_left s x (w ++ (0x2C ∷ (u ++ xs))) q)

  items_walked : {xs : List ℕ} {i k : ℕ} (p : Items Item xs) → Stands s i xs k → byte s k ≡ close → walk i ≡ items_from of i p
  unfolding items_from token_byte blank
  items_walked {i} {k} (last {x} {w} p a) q e =
      let t = stands_right s x w q in
      let f = blanks_complete a t (solid_above (byte s k) (omega arith)) in
      let n = next_close s _ k (byte s k) (sym f) refl (omega arith) in
      next x _ _ p (stands_left s x w q) (ends_before a t (rw e ends))
      ∙ ap (λ (l : List A). of i x p ∷ l) (ap walk (sym n) ∙ done k e)
  items_walked {i} {k} (more {x} {w} {u} {xs} p a b r) q e =
      let t = stands_right s x (w ++ (0x2C ∷ (u ++ xs))) q in
      let y = apart xs (omega arith) a b (λ k z. items_first r z) t in
      let n = next_comma s (i + length x) _ 0x2C refl (sym y.mark) _ refl refl in
      let c = stands_head s (stands_right s w (0x2C ∷ (u ++ xs)) t) in
      let h : skip_blanks s (skip_blanks s (i + length x) + 1) ≡ i + length x + length w + 1 + length u =
      omega (arith, y.rest.end, q.end, length-append x (w ++ (0x2C ∷ (u ++ xs))), length-append w (0x2C ∷ (u ++ xs)), length-append u xs) in
      next x _ _ p (stands_left s x (w ++ (0x2C ∷ (u ++ xs))) q) (ends_before a (stands_left s w (0x2C ∷ (u ++ xs)) t) (rw c refl))
      ∙ ap (λ (l : List A). of i x p ∷ l) (ap walk (sym n) ∙ items_walked r y.rest e ∙ ap (λ (m : ℕ). items_from of m r) h)

  group_walked : {x : List ℕ} {b i j : ℕ} (p : Group Item b close x) → Stands s i x j → walk (skip_blanks s (i + 1)) ≡ group_from of i p
  unfolding group_from
  group_walked (empty {w} p) q =
      let t = stands_right s w (close ∷ []) (stands_tail s q) in
      let f = blanks_complete p (stands_left s w (close ∷ []) (stands_tail s q)) (solid_above _ (omega (arith, stands_head s t))) in
      rw f (done _ (stands_head s t))
  group_walked (full {w} {xs} p r) q =
      let t = stands_right s w (xs ++ (close ∷ [])) (stands_tail s q) in
      let z = stands_left s xs (close ∷ []) t in
      let f = blanks_complete p (stands_left s w (xs ++ (close ∷ [])) (stands_tail s q)) (solid_above _ (items_first r z)) in
      rw f (items_walked r z (stands_head s (stands_right s xs (close ∷ []) t)))

colon_is : (s : List ℕ) (i : ℕ) → byte s (skip_blanks s i) ≡ 0x3A → colon_at s i ≡ to (skip_blanks s (skip_blanks s i + 1))
unfolding colon_at
colon_is s i e = rw (eq-eqb _ _ e)

value_some : (d : ℕ) (x : List ℕ) → Value d x → 0 < length x
value_some d [] p = absurd (omega (arith, (value_first d p (stands_none [] 0)).solid))
value_some d (b ∷ x) p = omega arith

span_is : (s : List ℕ) (i : ℕ) (q : byte s i ≡ 0x22) (e v : Cursor) → skip_string s (i + 1) ≡ e.at → colon_at s e.at ≡ Some v → (w : ℕ) → skip_value s v.at ≡ w
    → {o m k : ℕ} → e.at - 1 ≡ o → v.at ≡ m → w ≡ k
    → members_from s i ≡ record { name = i + 1; quote = o; value = m; end = k } ∷ members_from s (next_item s w)
span_is s i q e v es ec w ew a b c = members_more s i q e v es ec w ew ∙ rw (a, b, c)

module _ (d : ℕ) {s : List ℕ} where
  member_next : (x : List ℕ) (i j : ℕ) (p : Member (Value d) x) → Stands s i x j → token_byte (byte s j) ≡ false
      → members_from s i ≡ span_of i x p ∷ members_from s (next_item s j)
  member_next x i j (member {w} {u} {v} (string {cs} n) a b p) q h =
      let m : List ℕ = 0x22 ∷ (cs ++ (0x22 ∷ [])) in
      let t = stands_tail s (stands_left s m (w ++ (0x3A ∷ (u ++ v))) q) in
      let z = stands_right s m (w ++ (0x3A ∷ (u ++ v))) q in
      let y = apart v (omega arith) a b (λ l z. (value_first d p z).solid) z in
      let g : skip_blanks s (skip_blanks s (i + length m) + 1) ≡ i + length m + length w + 1 + length u =
      omega (arith, y.rest.end, z.end, length-append w (0x3A ∷ (u ++ v)), length-append u v) in
      span_is s i (stands_head s q) (record { at = i + length m }) _ (string_skipped s (i + 1) _ cs n t) (colon_is s (i + length m) y.mark) j
      (value_skipped d s _ j v p y.rest h) refl g (omega (arith, y.rest.end, g))

  -- the members found in an object that stands from i on are its derivation's, at their places
  pub members_placed : {x : List ℕ} {i j : ℕ} (g : Object (Value d) x) → Stands s i x j → members_at s i ≡ group_from span_of i g
  unfolding token_byte blank
  members_placed g q =
      group_walked span_of (λ i. members_from s i) 0x7D (omega arith) refl
      (λ x i j p t. (member_first p t).solid) member_next (λ i e. members_none s i 0x7D e (omega arith)) g q

  element_next : (x : List ℕ) (i j : ℕ) (p : Value d x) → Stands s i x j → token_byte (byte s j) ≡ false
      → elements_from s i ≡ element_of d i x p ∷ elements_from s (next_item s j)
  element_next x i j p q h =
      elements_more s i j (value_skipped d s i j x p q h) (omega (arith, q.end, value_some d x p)) ∙ rw q.end

  pub elements_placed : {x : List ℕ} {i j : ℕ} (g : Array (Value d) x) → Stands s i x j → elements_at s i ≡ group_from (element_of d) i g
  unfolding token_byte blank
  elements_placed g q =
      group_walked (element_of d) (λ i. elements_from s i) 0x5D (omega arith) refl
      (λ x i j p t. (value_first d p t).solid) element_next (λ i e. elements_none s i 0x5D e (omega arith) refl refl) g q
