-- Past plain bytes a string, its decoded text and its key go on.
use Rattle.std.specs.Prelude.{None, Some}
use mathlib.Core.Path.{◌≡◌, refl, sym, ap, ◌∙◌}
use mathlib.Core.Bool.{Bool, true, false, ◌&&◌}
use Rattle.std.specs.Bool.{then_some}
use mathlib.Core.List.{List, [], ◌∷◌}
use Prim.Native.Nat.{ℕ, zero, suc, ◌≤◌, ◌<◌, ◌+◌, ◌-◌, ◌*◌, ◌%◌}
use native.Mathlib.Omega.{arith}
use native.Mathlib.Numerals.{add-one}
use lib.ListN.{length, take, drop}
use lib.Seq.{drop-cons}
use lib.Dec.{eqb}
use borrow.Author.Tests.{eq-eqb, eqb-true}
use Rattle.json_blocks.specs.TextBytes.{byte}
use Rattle.json_characters.specs.String.{string_at}
use Rattle.json_blocks.specs.Blocks.{plain_byte, ordinary_byte, all_at}
use Rattle.json_blocks.proofs.ByteLaws.{inside}
use Rattle.json_characters.proofs.StringLaws.{string_close}
use Rattle.json_blocks.proofs.BlockLaws.{and_left, and_right, and_assoc, and_true, all_on, all_end, all_first, all_later}
use Rattle.json_blocks.proofs.BlockLaws.{ordinary_is, plain_is, plain_inside}
use Rattle.json_characters.proofs.StringLaws.{plain_string}
use Rattle.json_names.specs.declared.Run.{Run}
use Rattle.json_strings.specs.Decode.{decoded_from}
use Rattle.json_names.specs.Same.{same}
use Rattle.json_names.specs.Keys.{key_from, key_of}
use Rattle.json_names.specs.Plain.{alike, keyed, PlainRun}
use Rattle.json_strings.proofs.DecodeLaws.{from_end, from_unit, unit_plain, ends_not, ends_quote}
use Rattle.json_names.proofs.SameLaws.{key_end, key_on}

module _ (s : List ℕ) (i b : ℕ) (e : b ≡ byte s i) (t : plain_byte b ≡ true) where
  pub plain_decoded : decoded_from s i ≡ b ∷ decoded_from s (i + 1)
  plain_decoded =
      let p = plain_is b t in
      from_unit s i None (ends_not s i (plain_inside s i b e t) (λ z. p.quote (e ∙ z))) (unit_plain s i (λ z. p.slash (e ∙ z))) ∙ ap (λ (x : ℕ). x ∷ decoded_from s (i + 1)) (sym e)

  -- a run goes on by one byte
  pub run_more : (at h : ℕ) → PlainRun s at (record { at = i; key = h }) → (k : ℕ) → k ≡ (h * 16777619 + b) % 4294967296 → k < 4294967296 → PlainRun s at (record { at = i + 1; key = k })
  run_more at h p k q l = record {
    string = plain_string s i b e t ∙ p.string;
    key = key_on 16777619 h (decoded_from s i) b (decoded_from s (i + 1)) plain_decoded k q ∙ p.key;
    small = l;
  }

-- ---- the bytes of a block in a key
module _ (m : ℕ) (s : List ℕ) where
  block_first : (n i : ℕ) → i < length s → take (suc n) (drop i s) ≡ byte s i ∷ take n (drop (i + 1) s)
  block_first n i l = rw (add-one i, drop-cons s i 0 l)

  -- one byte more, k of the n being in the key
  pub block_on : (h i n k : ℕ) → k < n → i + k < length s → (next : ℕ) → next ≡ (h * m + byte s (i + k)) % 4294967296
      → key_from m next (take (n - (k + 1)) (drop (i + (k + 1)) s)) ≡ key_from m h (take (n - k) (drop (i + k) s))
  block_on h i n k l r next e =
      let p : n - k ≡ suc (n - (k + 1)) = omega arith in
      let q : i + (k + 1) ≡ i + k + 1 = omega arith in
      let f = block_first (n - (k + 1)) (i + k) r in
      rw (p, q) (key_on m h (take (suc (n - (k + 1))) (drop (i + k) s)) (byte s (i + k)) _ f next e)

  pub block_end : (h i n k : ℕ) → n ≤ k → h ≡ key_from m h (take (n - k) (drop (i + k) s))
  block_end h i n k l = let p : n - k ≡ 0 = omega arith in rw p (key_end m h [] refl)

pub ruleset block_laws = (all_on, all_end, block_on, block_end)

run_bytes : (s : List ℕ) (at n i h : ℕ) → PlainRun s at (record { at = i; key = h }) → i + n ≤ length s → all_at plain_byte n s i ≡ true
    → PlainRun s at (record { at = i + n; key = key_from 16777619 h (take n (drop i s)) })
unfolding key_from
run_bytes s at zero i h p l e = let q : i + 0 ≡ i = omega arith in rw q p
run_bytes s at (suc n) i h p l e =
    let q : i + suc n ≡ i + 1 + n = omega arith in
    let k : ℕ = (h * 16777619 + byte s i) % 4294967296 in
    let one = run_more s i (byte s i) refl (all_first plain_byte s n i e) at h p k refl (omega arith) in
    rw (q, block_first 16777619 s n i (omega arith)) (run_bytes s at n (i + 1) k one (omega arith) (all_later plain_byte s n i e))

-- a run goes on by n bytes
pub run_block : (s : List ℕ) (at n i h : ℕ) → PlainRun s at (record { at = i; key = h }) → i + n ≤ length s → (k : ℕ)
    → then_some (all_at plain_byte n s i) (key_from 16777619 h (take n (drop i s))) ≡ Some k
    → PlainRun s at (record { at = i + n; key = k })
run_block s at n i h p l k e = go (all_at plain_byte n s i) refl e where
  go : (t : Bool) → all_at plain_byte n s i ≡ t → then_some t (key_from 16777619 h (take n (drop i s))) ≡ Some k
      → PlainRun s at (record { at = i + n; key = k })
  go true q f = let z : key_from 16777619 h (take n (drop i s)) ≡ k = cc in rw (← z) (run_bytes s at n i h p l q)
  go false q f = let z : ◌≡◌ {A = ℕ} 0 1 = cc in absurd (omega arith)

-- ---- a run that ends
module _ (s : List ℕ) (at : ℕ) (r : Run) (p : PlainRun s at r) where
  pub run_quote : byte s r.at ≡ 0x22 → Some ((record { at = r.at + 1 }), r.key) ≡ keyed (string_at s at) (key_of (decoded_from s at))
  run_quote e =
      let f = string_close s r.at 0x22 (sym e) refl ∙ p.string in
      let g = key_end 16777619 r.key (decoded_from s r.at) (from_end s r.at (ends_quote s r.at (inside s r.at 0x22 (sym e) (omega arith)) e)) ∙ p.key in
      rw (← f, ← g)

-- ---- the same bytes in two strings, each for itself
ordinary_from : (s : List ℕ) (i : ℕ) → i < length s → ordinary_byte (byte s i) ≡ true → decoded_from s i ≡ byte s i ∷ decoded_from s (i + 1)
ordinary_from s i l h =
    let o = ordinary_is (byte s i) h in
    from_unit s i None (ends_not s i l o.quote) (unit_plain s i o.slash)

module _ (s t : List ℕ) where
  one_alike : (i j : ℕ) → i < length s → j < length t → (eqb (byte s i) (byte t j) && ordinary_byte (byte s i)) ≡ true
      → same (decoded_from s (i + 1)) (decoded_from t (j + 1)) ≡ same (decoded_from s i) (decoded_from t j)
  unfolding same
  one_alike i j l m h =
      let e : byte s i ≡ byte t j = eqb-true _ _ (and_left _ (ordinary_byte (byte s i)) h) in
      let o : ordinary_byte (byte s i) ≡ true = and_right (eqb (byte s i) (byte t j)) _ h in
      rw (ordinary_from s i l o, ordinary_from t j m (rw e at o), eq-eqb (byte s i) (byte t j) e)

  pub all_alike : (n i j : ℕ) → i + n ≤ length s → j + n ≤ length t → alike n s i t j ≡ true
      → same (decoded_from s (i + n)) (decoded_from t (j + n)) ≡ same (decoded_from s i) (decoded_from t j)
  unfolding alike
  all_alike zero i j l m h =
      let p : i + 0 ≡ i = omega arith in
      let q : j + 0 ≡ j = omega arith in
      rw (p, q)
  all_alike (suc n) i j l m h =
      let p : i + suc n ≡ i + 1 + n = omega arith in
      let q : j + suc n ≡ j + 1 + n = omega arith in
      let a = and_left (eqb (byte s i) (byte t j) && ordinary_byte (byte s i)) _ h in
      let b = and_right (eqb (byte s i) (byte t j) && ordinary_byte (byte s i)) _ h in
      rw (p, q) (all_alike n (i + 1) (j + 1) (omega arith) (omega arith) b ∙ one_alike i j (omega arith) (omega arith) a)

  -- one byte more, k of the n being compared
  pub alike_on : (i j n k : ℕ) → k < n → (ok next : Bool) → next ≡ (ok && (eqb (byte s (i + k)) (byte t (j + k)) && ordinary_byte (byte s (i + k))))
      → (next && alike (n - (k + 1)) s (i + (k + 1)) t (j + (k + 1))) ≡ (ok && alike (n - k) s (i + k) t (j + k))
  unfolding alike
  alike_on i j n k l ok next e =
      let m : n - k ≡ suc (n - (k + 1)) = omega arith in
      let p : i + (k + 1) ≡ i + k + 1 = omega arith in
      let q : j + (k + 1) ≡ j + k + 1 = omega arith in
      rw (m, p, q, e) (and_assoc ok _ _)

  pub alike_end : (i j n k : ℕ) → n ≤ k → (ok : Bool) → ok ≡ (ok && alike (n - k) s (i + k) t (j + k))
  unfolding alike
  alike_end i j n k l ok = let m : n - k ≡ 0 = omega arith in rw m (and_true ok)
