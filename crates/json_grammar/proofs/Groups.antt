-- Arrays and objects, whatever their items are: what the reader finds is a group, and a group is found.
use Rattle.std.specs.Prelude.{None, Option, Some}
use mathlib.Core.Path.{◌≡◌, refl, sym, ap, ◌∙◌}
use mathlib.Core.Bool.{false, cond}
use mathlib.Core.List.{List, [], ◌∷◌, ◌++◌}
use Prim.Native.Nat.{ℕ, zero, suc, ◌≤◌, ◌<◌, ◌+◌, ◌-◌}
use native.Mathlib.Omega.{arith}
use lib.ListN.{length}
use lib.Dec.{eqb}
use borrow.Author.Tests.{eq-eqb, ne_eqb, eqb-true}
use Rattle.json_blocks.specs.declared.Cursor.{Cursor}
use Rattle.json_blocks.specs.declared.After.{After}
use Rattle.json_blocks.specs.declared.After.TheVariants as A
use Rattle.json_blocks.specs.Turns.{after_turn as turned, run_turns, run_text}
use Rattle.json_blocks.specs.TextBytes.{byte, to, and_then, blank, skip_blanks}
use Rattle.json_blocks.specs.Group.{after_item, colon_at}
use Rattle.json_tokens.specs.MemberName.{name_at}
use Rattle.json_blocks.proofs.ByteLaws.{inside, cond_elim, blanks_onward}
use Rattle.json_blocks.proofs.GroupLaws.{after_close}
use Rattle.json_grammar.specs.Grammar.{Blank, space, tab, line_feed, carriage_return, Blanks, String, Items, last, more, Group, empty, full, Member, member}
use Rattle.json_grammar.specs.ByPlace.{close_turn, then_turn, item_turn, items_at, group_at, member_at}
use Rattle.json_grammar.specs.Stands.{Stands, Ends}
use Rattle.json_grammar.proofs.Stands.{stands_join, stands_head, stands_tail, stands_left, stands_right}
use Rattle.json_grammar.proofs.Derived.{Derived, derived, Closed, closed, stands_here, stands_cons, stands_next, Got, got, not_got, got_to_lem, got_map}
use Rattle.json_grammar.proofs.Skips.{blanks_sound, blanks_complete, blanks_first}
use Rattle.json_grammar.proofs.Numbers.{ends_below}
use Rattle.json_grammar.proofs.Strings.{string_sound, string_complete}

-- ---- sound
-- the byte b with blanks around it, from i up to j
data Parted (b : ℕ) (s : List ℕ) (i j : ℕ) : Type 0 where
  parted : {k : ℕ} → Derived Blanks s i k → byte s k ≡ b → Derived Blanks s (k + 1) j → Parted b s i j

data Next (s : List ℕ) (close i : ℕ) : Option After → Type 0 where
  an_item : {c : Cursor} → Parted 0x2C s i c.at → Next s close i (Some (A.Item c))
  a_close : {k : ℕ} → Derived Blanks s i k → byte s k ≡ close → Next s close i (Some (A.Close (record { at = k + 1 })))
  neither : Next s close i None

after_sound : (s : List ℕ) (close i : ℕ) → Next s close i (after_item s close i)
unfolding after_item
after_sound s close i =
    cond_elim (Next s close i) (eqb (byte s (skip_blanks s i)) 0x2C) _ _
    (λ e. an_item {c = record { at = skip_blanks s (skip_blanks s i + 1) }} (parted (blanks_sound s i) (eqb-true _ _ e) (blanks_sound s (skip_blanks s i + 1))))
    (λ _. cond_elim (Next s close i) (eqb (byte s (skip_blanks s i)) close) _ _ (λ e. a_close (blanks_sound s i) (eqb-true _ _ e)) (λ _. neither))

module _ {s : List ℕ} {i j k : ℕ} {Item : List ℕ → Type 0} where
  more_of : {close l : ℕ} → Derived Item s i j → Parted 0x2C s j k → Closed (Items Item) close s k l → Closed (Items Item) close s i l
  more_of (derived p q) (parted (derived a t) e (derived b u)) (closed (derived r x) f) =
      closed (derived (more p a b r) (stands_join s q (stands_join s t (stands_cons e (omega arith) (stands_join s u x))))) f

  member_of_lem : {l : ℕ} → Derived String s i j → Parted 0x3A s j k → Derived Item s k l → Derived (Member Item) s i l
  member_of_lem (derived p q) (parted (derived a t) e (derived b u)) (derived v x) =
      derived (member p a b v) (stands_join s q (stands_join s t (stands_cons e (omega arith) (stands_join s u x))))

module _ {s : List ℕ} {item : ℕ → (Option Cursor)} {Item : List ℕ → Type 0} (sound : (i : ℕ) → Got (Derived Item s i) (item i)) where
  pub member_sound : (i : ℕ) → Got (Derived (Member Item) s i) (member_at item s i)
  unfolding member_at name_at colon_at
  member_sound i = cond_elim (λ m. Got (Derived (Member Item) s i) (and_then m item)) (eqb (byte s i) 0x22) _ _ (λ e. go (string_sound s i (eqb-true _ _ e))) (λ _. not_got)
    where
      go : {r : (Option Cursor)} → Got (Derived String s i) r
          → Got (Derived (Member Item) s i) (and_then (and_then r (colon_at s)) item)
      go (got {c} p) =
          cond_elim (λ r. Got (Derived (Member Item) s i) (and_then r item))
          (eqb (byte s (skip_blanks s c.at)) 0x3A) _ _
          (λ e. got_map (λ j q. member_of_lem p (parted (blanks_sound s c.at) (eqb-true _ _ e) (blanks_sound s (skip_blanks s c.at + 1))) q) (sound _))
          (λ _. not_got)
      go not_got = not_got

  module _ (close : ℕ) where
    items_sound : (n i : ℕ) → Got (Closed (Items Item) close s i) (run_turns None (item_turn item s close) n i)
    unfolding run_turns item_turn
    items_sound zero i = not_got
    items_sound (suc n) i = go (sound i) (items_sound n) where
      follow : {j : ℕ} {a : (Option After)} (f : ℕ → Option Cursor) → Derived Item s i j → Next s close j a → ((k : ℕ) → Got (Closed (Items Item) close s k) (f k))
          → Got (Closed (Items Item) close s i) (turned {A = (Option Cursor)} (close_turn a) f)
      follow f p (an_item {c} m) g = got_map (λ k r. more_of p m r) (g c.at)
      follow f (derived p q) (a_close (derived a t) e) g = got_to_lem (closed (derived (last p a) (stands_join s q t)) e)
      follow f p neither g = not_got

      go : {r : (Option Cursor)} → Got (Derived Item s i) r → ((k : ℕ) → Got (Closed (Items Item) close s k) (run_turns None (item_turn item s close) n k))
          → Got (Closed (Items Item) close s i) (turned {A = (Option Cursor)} (then_turn r (λ j. close_turn (after_item s close j))) (λ k. run_turns None (item_turn item s close) n k))
      go (got {c} p) g = follow _ p (after_sound s close c.at) g
      go not_got g = not_got

    pub group_sound : {i b : ℕ} → byte s i ≡ b → 0 < b → 0 < close → Got (Derived (Group Item b close) s i) (group_at item s close (i + 1))
    unfolding group_at items_at run_text
    group_sound {i} {b} e h h' = go (blanks_sound s (i + 1)) where
      fill : {j k : ℕ} → Derived Blanks s (i + 1) j → Closed (Items Item) close s j k → Derived (Group Item b close) s i k
      fill (derived p q) (closed (derived r t) f) = derived (full p r) (stands_cons e h (stands_join s q (stands_join s t (stands_here f h'))))

      none : {j : ℕ} → Derived Blanks s (i + 1) j → byte s j ≡ close → Derived (Group Item b close) s i (j + 1)
      none (derived p q) f = derived (empty p) (stands_cons e h (stands_join s q (stands_here f h')))

      go : {j : ℕ} → Derived Blanks s (i + 1) j → Got (Derived (Group Item b close) s i) (cond (eqb (byte s j) close) (to (j + 1)) (items_at item s close j))
      go {j} p =
          cond_elim (Got (Derived (Group Item b close) s i)) (eqb (byte s j) close) _ _ (λ f. got_to_lem (none p (eqb-true _ _ f)))
          (λ _. got_map (λ k q. fill p q) (items_sound (suc (length s)) j))

-- ---- complete
pub solid_above : (b : ℕ) → 0x21 ≤ b → blank b ≡ false
unfolding blank
solid_above b h = rw (ne_eqb b 0x20 (omega arith), ne_eqb b 0x09 (omega arith), ne_eqb b 0x0A (omega arith), ne_eqb b 0x0D (omega arith))

pub blank_ends : (b : ℕ) → Blank b → Ends b
blank_ends _ space = ends_below 0x20 (omega arith)
blank_ends _ tab = ends_below 0x09 (omega arith)
blank_ends _ line_feed = ends_below 0x0A (omega arith)
blank_ends _ carriage_return = ends_below 0x0D (omega arith)

-- the byte b stands after the blanks from i on, and x after the blanks after it
pub record Apart (s : List ℕ) (b i : ℕ) (x : List ℕ) (j : ℕ) : Type 0 where
  pub mark : byte s (skip_blanks s i) ≡ b
  pub rest : Stands s (skip_blanks s (skip_blanks s i + 1)) x j

module _ {s : List ℕ} {b i j : ℕ} {w : List ℕ} where
  pub apart : {u : List ℕ} (x : List ℕ) → 0x21 ≤ b → Blanks w → Blanks u → ((k : ℕ) → Stands s k x j → 0x21 ≤ byte s k) → Stands s i (w ++ (b ∷ (u ++ x))) j → Apart s b i x j
  apart {u} x h p r first q =
      let t = stands_right s w (b ∷ (u ++ x)) q in
      let y = stands_right s u x (stands_tail s t) in
      let e = blanks_complete p (stands_left s w (b ∷ (u ++ x)) q) (solid_above _ (rw (stands_head s t) h)) in
      let f = blanks_complete r (stands_left s u x (stands_tail s t)) (solid_above _ (first _ y)) in
      record { mark = rw e (stands_head s t); rest = rw (e, f) y }

  -- an item ends where blanks and a byte that ends it follow
  followed : (x : List ℕ) → Ends b → Blanks w → Stands s i (w ++ (b ∷ x)) j → Ends (byte s i)
  followed x h p q = blanks_first Ends blank_ends p (stands_left s w (b ∷ x) q) (rw (stands_head s (stands_right s w (b ∷ x) q)) h)

item_after : {s : List ℕ} {i j : ℕ} {x : List ℕ} (close : ℕ) → Apart s 0x2C i x j → after_item s close i ≡ Some (A.Item (record { at = skip_blanks s (skip_blanks s i + 1) }))
unfolding after_item
item_after close y = rw (eq-eqb _ _ y.mark)

-- what an item starts with: no blank and no close
pub record First (close b : ℕ) : Type 0 where
  pub solid : 0x21 ≤ b
  pub inner : b ≡ close → ⊥

module _ {s : List ℕ} {item : ℕ → (Option Cursor)} {Item : List ℕ → Type 0} (close : ℕ) (high : 0x2C < close) (ends : Ends close)
    (first : (x : List ℕ) (i j : ℕ) → Item x → Stands s i x j → First close (byte s i))
    (complete : (x : List ℕ) (i j : ℕ) → Item x → Stands s i x j → Ends (byte s j) → item i ≡ to j) where
  items_first : {xs : List ℕ} {i j : ℕ} → Items Item xs → Stands s i xs j → First close (byte s i)
  items_first (last {x} {w} p a) q = first x _ _ p (stands_left s x w q)
  items_first (more {x} {w} {u} {xs} p a b r) q = first x _ _ p (stands_left s x (w ++ (0x2C ∷ (u ++ xs))) q)

  items_complete : (n : ℕ) {xs : List ℕ} {i k : ℕ} → Items Item xs → Stands s i xs k → byte s k ≡ close → length s - i < n
      → run_turns None (item_turn item s close) n i ≡ to (k + 1)
  unfolding run_turns item_turn
  items_complete zero p q e h = absurd (omega arith)
  items_complete (suc n) {k} (last {x} {w} p a) q e h =
      let t = stands_right s x w q in
      let f = blanks_complete a t (solid_above _ (omega arith)) in
      rw (complete x _ _ p (stands_left s x w q) (blanks_first Ends blank_ends a t (rw e ends)), ← after_close s close _ k close (sym f) (sym e) (omega arith) refl)
  items_complete (suc n) {i} (more {x} {w} {u} {xs} p a b r) q e h =
      let t = stands_right s x (w ++ (0x2C ∷ (u ++ xs))) q in
      let y = apart xs (omega arith) a b (λ k z. (items_first r z).solid) t in
      let l = inside s _ 0x2C (sym y.mark) (omega arith) in
      let m = blanks_onward s (i + length x) in
      let o = blanks_onward s (skip_blanks s (i + length x) + 1) in
      rw (complete x _ _ p (stands_left s x (w ++ (0x2C ∷ (u ++ xs))) q) (followed (u ++ xs) (ends_below 0x2C (omega arith)) a t), item_after close y)
      (items_complete n r y.rest e (omega arith))

  -- a group is found past its opening byte
  pub group_complete : {x : List ℕ} {i j b : ℕ} → Group Item b close x → Stands s i x j → group_at item s close (i + 1) ≡ to j
  unfolding group_at items_at run_text
  group_complete (empty {w} p) q =
      let t = stands_right s w (close ∷ []) (stands_tail s q) in
      let e = stands_head s t in
      let f = blanks_complete p (stands_left s w (close ∷ []) (stands_tail s q)) (solid_above _ (omega arith)) in
      rw (f, eq-eqb _ _ e, stands_next t)
  group_complete (full {w} {xs} p r) q =
      let t = stands_right s w (xs ++ (close ∷ [])) (stands_tail s q) in
      let y = stands_right s xs (close ∷ []) t in
      let z = stands_left s xs (close ∷ []) t in
      let g = items_first r z in
      let f = blanks_complete p (stands_left s w (xs ++ (close ∷ [])) (stands_tail s q)) (solid_above _ g.solid) in
      rw (f, ne_eqb _ _ g.inner) (items_complete (suc (length s)) r z (stands_head s y) (omega arith) ∙ ap to (stands_next y))

pub group_first : {s x : List ℕ} {Item : List ℕ → Type 0} {i j b close : ℕ} → Group Item b close x → Stands s i x j → byte s i ≡ b
group_first {s} (empty p) q = stands_head s q
group_first {s} (full p r) q = stands_head s q

pub member_first : {s x : List ℕ} {Value : List ℕ → Type 0} {i j : ℕ} → Member Value x → Stands s i x j → First 0x7D (byte s i)
member_first {s} (member {n} {w} {u} {v} p a b r) q =
    let e = (string_complete p (stands_left s n (w ++ (0x3A ∷ (u ++ v))) q)).0 in
    omega arith

pub member_complete : {s x : List ℕ} {value : ℕ → (Option Cursor)} {Value : List ℕ → Type 0} {i j : ℕ}
    → ((v : List ℕ) (k : ℕ) → Value v → Stands s k v j → 0x21 ≤ byte s k) → ((v : List ℕ) (k : ℕ) → Value v → Stands s k v j → value k ≡ to j)
    → Member Value x → Stands s i x j → member_at value s i ≡ to j
unfolding member_at name_at colon_at
member_complete {s} first complete (member {n} {w} {u} {v} p a b r) q =
    let f = string_complete p (stands_left s n (w ++ (0x3A ∷ (u ++ v))) q) in
    let y = apart v (omega arith) a b (λ k z. first v k r z) (stands_right s n (w ++ (0x3A ∷ (u ++ v))) q) in
    rw (eq-eqb _ _ f.0, f.1, eq-eqb _ _ y.mark) (complete v _ r y.rest)
