-- The writer's test of a sample rate is the grammar's number.
use Rattle.json_blocks.specs.declared.Cursor.{Cursor}
use Rattle.std.specs.Prelude.{None, Option, Some}
use mathlib.Core.Path.{◌≡◌, refl, sym, ap, subst, ◌∙◌}
use mathlib.Core.Logic.{◌↔◌}
use mathlib.Core.Bool.{true, false≢true}
use mathlib.Core.List.{List, [], append-nil}
use Prim.Native.Nat.{ℕ, ◌-◌}
use native.Mathlib.Omega.{arith}
use lib.ListN.{length, take, get_or-eq_default}
use lib.Seq.{take_at}
use borrow.Author.Tests.{eqb-true, eq-eqb}
use Rattle.json_blocks.specs.TextBytes.{byte}
use Rattle.json_tokens.specs.Number.{number_at}
use Rattle.json_grammar.specs.Grammar.{Number}
use Rattle.json_grammar.proofs.Derived.{Derived, derived, Got, got_is, stands_all}
use Rattle.json_grammar.proofs.Numbers.{number_sound, ends_below, number_complete}
use Rattle.json_strings.proofs.Theorem.{stands_part}
use Rattle.sigmf_values.specs.Values.{part_of}
use Rattle.writer.specs.Writer.{is_number, got_to}

pub is_number_lem : (x : List ℕ) → is_number x ≡ true → Number x
unfolding is_number
is_number_lem x e = go (number_at x 0) (number_sound x 0) e where
  whole : {j : ℕ} → j ≡ length x → Derived Number x 0 j → Number x
  whole {j} q (derived {xs} p z) =
      subst Number (sym (stands_part z) ∙ ap (λ (k : ℕ). part_of x 0 k) q ∙ all_of x) p where
        all_of : (l : List ℕ) → part_of l 0 (length l) ≡ l
        all_of l = ap (take (length l - 0)) (sym (append-nil l)) ∙ take_at l [] (length l - 0) (omega arith)

  go : (r : Option Cursor) → Got (Derived Number x 0) r → got_to (length x) r ≡ true → Number x
  go (Some c) g h = whole (eqb-true c.at (length x) h) (got_is g)
  go None g h = absurd (false≢true h)

pub number_is : {x : List ℕ} → Number x → is_number x ≡ true
unfolding is_number
number_is {x} p =
    let z : byte x (length x) ≡ 0 = get_or-eq_default x 0 (omega arith) in
    rw (number_complete p (stands_all x) (ends_below (byte x (length x)) (omega (arith, z)))) (eq-eqb (length x) (length x) refl)

pub number_grammar : (x : List ℕ) → (is_number x ≡ true) ↔ Number x
number_grammar x = (is_number_lem x, number_is)
