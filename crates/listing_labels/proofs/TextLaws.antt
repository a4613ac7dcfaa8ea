-- Laws of text places.
use Prim.Native.Nat.{ℕ, ◌+◌, ◌-◌, ◌≤◌, ◌<◌}
use mathlib.Core.Path.{◌≡◌, sym}
use mathlib.Core.Bool.{true, ◌&&◌}
use mathlib.Core.List.{List}
use native.Mathlib.Omega.{arith}
use lib.ListN.{length, take, drop}
use lib.Dec.{leb, eqb}
use borrow.Author.Tests.{leb-true, eqb-true}
use Rattle.json_blocks.specs.TextBytes.{byte}
use Rattle.json_blocks.proofs.ByteLaws.{inside}
use Rattle.json_strings.specs.Decode.{is_body}
use Rattle.table.specs.declared.Place.{Place}
use Rattle.table.proofs.Bools.{and_left, and_right}
use Rattle.listing_labels.specs.Text.{part, place_from, stands}

-- ---- the part at a place
module _ (s : List ℕ) (p : Place) where
  pub part_in : take (p.at + p.len - p.at) (drop p.at s) ≡ part s p
  part_in =
      let e : p.at + p.len - p.at ≡ p.len = omega arith in
      rw e

-- ---- a text that stands
pub record Stands (s : List ℕ) (p : Place) : Type 0 where
  pub some : 1 ≤ p.at
  pub before : byte s (p.at - 1) ≡ 0x22
  pub after : byte s (p.at + p.len) ≡ 0x22
  pub body : is_body (part s p) ≡ true

module _ (s : List ℕ) (p : Place) where
  pub stands_is : stands s p ≡ true → Stands s p
  unfolding stands
  stands_is h =
      let t3 = and_left _ (is_body (part s p)) h in
      let t2 = and_left _ (eqb (byte s (p.at + p.len)) 0x22) t3 in
      record {
        some = leb-true _ _ (and_left (leb 1 p.at) (eqb (byte s (p.at - 1)) 0x22) t2);
        before = eqb-true _ _ (and_right (leb 1 p.at) (eqb (byte s (p.at - 1)) 0x22) t2);
        after = eqb-true _ _ (and_right (leb 1 p.at && eqb (byte s (p.at - 1)) 0x22) (eqb (byte s (p.at + p.len)) 0x22) t3);
        body = and_right (leb 1 p.at && eqb (byte s (p.at - 1)) 0x22 && eqb (byte s (p.at + p.len)) 0x22) (is_body (part s p)) h;
      }

  -- a byte after it is in the text
  pub stands_inside : Stands s p → p.at + p.len < length s
  stands_inside S = inside s (p.at + p.len) 0x22 (sym S.after) (omega arith)

  -- its part begins at its place
  pub stands_from : stands s p ≡ true → place_from s p ≡ p.at
  stands_from h = omega (arith, stands_inside (stands_is h))
