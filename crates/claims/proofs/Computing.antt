-- The walks over members and elements with each place computed before it is used. They are the definitions' walks, and a statement
-- about a text evaluates in few steps.
use Rattle.json_blocks.specs.declared.Cursor.{Cursor}
use Rattle.std.specs.Prelude.{Option, None, Some}
use mathlib.Core.Path.{◌≡◌, refl, sym, ap, ◌∙◌}
use mathlib.Core.Bool.{Bool, true, false, cond, not, ◌&&◌}
use mathlib.Core.List.{List, [], map}
use mathlib.Core.Option.{Option as Maybe, none}
use Prim.Native.Nat.{ℕ, zero, suc, ◌+◌, ◌-◌}
use Prim.Native.String.{String}
use lib.ListN.{length}
use lib.Dec.{eqb, leb, ltb}
use Rattle.json_blocks.specs.TextBytes.{byte, ascii, skip_blanks, skip_while}
use Rattle.json_blocks.specs.Group.{colon_at}
use Rattle.json_grammar.specs.Skip.{skip_string, opens, closes, skip_open_steps, skip_open, token_byte, skip_value}
use Rattle.json_walk.specs.declared.Member.{Member}
use Rattle.json_walk.specs.declared.Element.{Element}
use Rattle.json_walk.specs.Gather.{GatherStep, found, stop, gather}
use Rattle.json_walk.specs.Members.{next_item, member_to, member_step, element_step, member_found, element_found, members_at, elements_at}
use Rattle.json_judge.specs.MemberNames.{bad_array, bad_object, bad_members_at}
use Rattle.sigmf_objects.specs.Fields.{Value, Field, field_of, given}
use Rattle.reader.specs.File.{top_at, named_from, is_object, is_array, all_objects, File, file_of}
use Rattle.reader.specs.Reading.{misshapen}

-- n is computed first
unfoldable pub strictly : {A : Type 0} → ℕ → (ℕ → A) → A
strictly zero f = f zero
strictly (suc n) f = f (suc n)

strictly_is : {A : Type 0} (n : ℕ) (f : ℕ → A) → strictly n f ≡ f n
unfolding strictly
strictly_is zero f = refl
strictly_is (suc n) f = refl

-- ---- past a value
abbrev open_step : (ℕ → ℕ → ℕ) → List ℕ → ℕ → ℕ → ℕ
open_step go s n at =
    cond (leb (length s) at) at
    (cond (eqb (byte s at) 0x22) (go n (skip_string s (at + 1)))
    (cond (opens (byte s at)) (go (n + 1) (at + 1))
    (cond (closes (byte s at)) (cond (leb n 1) (at + 1) (go (n - 1) (at + 1)))
    (go n (at + 1)))))

unfoldable pub open_steps : ℕ → List ℕ → ℕ → ℕ → ℕ
open_steps zero s n at = at
open_steps (suc fuel) s n at = strictly at (λ i. strictly n (λ k. open_step (open_steps fuel s) s k i))

open_is : (fuel : ℕ) (s : List ℕ) (n at : ℕ) → open_steps fuel s n at ≡ skip_open_steps fuel s n at
unfolding open_steps skip_open_steps
open_is zero s n at = refl
open_is (suc fuel) s n at = strictly_is at _ ∙ strictly_is n _ ∙ ap (λ (go : ℕ → ℕ → ℕ). open_step go s n at) (λ i k j. open_is fuel s k j i)

unfoldable pub value_end : List ℕ → ℕ → ℕ
value_end s at =
    cond (eqb (byte s at) 0x22) (skip_string s (at + 1))
    (cond (opens (byte s at)) (open_steps (suc (length s)) s 1 (at + 1)) (skip_while token_byte s at))

value_is : (s : List ℕ) (at : ℕ) → value_end s at ≡ skip_value s at
unfolding value_end skip_value skip_open
value_is s at = rw (open_is (suc (length s)) s 1 (at + 1))

-- ---- members
abbrev value_to : List ℕ → ℕ → ℕ → Option Cursor → GatherStep Member
value_to s at e (Some v) = strictly v.at (λ v. strictly (value_end s v) (λ w. strictly (next_item s w) (λ j. found (record { name = at + 1; quote = e - 1; value = v; end = w }) j)))
value_to s at e None = stop

unfoldable pub next_member : List ℕ → ℕ → GatherStep Member
next_member s at = strictly at (λ i. cond (eqb (byte s i) 0x22) (strictly (skip_string s (i + 1)) (λ e. value_to s i e (colon_at s e))) stop)

value_to_lem : (s : List ℕ) (at e : ℕ) (r : Option Cursor) → value_to s at e r ≡ member_found (member_to s at e r)
value_to_lem s at e (Some v) =
    strictly_is v.at _ ∙ strictly_is (value_end s v.at) _ ∙ strictly_is (next_item s (value_end s v.at)) _ ∙ rw (value_is s v.at)
value_to_lem s at e None = refl

member_is : (s : List ℕ) (at : ℕ) → next_member s at ≡ member_found (member_step s at)
unfolding next_member member_step
member_is s at = strictly_is at _ ∙ go (eqb (byte s at) 0x22)
  where
    go : (b : Bool) → cond b (strictly (skip_string s (at + 1)) (λ e. value_to s at e (colon_at s e))) stop
        ≡ member_found (cond b (member_to s at (skip_string s (at + 1)) (colon_at s (skip_string s (at + 1)))) None)
    go true = strictly_is (skip_string s (at + 1)) _ ∙ value_to_lem s at (skip_string s (at + 1)) (colon_at s (skip_string s (at + 1)))
    go false = refl

-- ---- elements
unfoldable pub next_element : List ℕ → ℕ → GatherStep Element
next_element s at = strictly at (λ i. strictly (value_end s i) (λ e. cond (ltb i e) (strictly (next_item s e) (λ j. found (record { at = i; end = e }) j)) stop))

element_is : (s : List ℕ) (at : ℕ) → next_element s at ≡ element_found (element_step s at)
unfolding next_element element_step
element_is s at = strictly_is at _ ∙ strictly_is (value_end s at) _ ∙ rw (value_is s at) (go (ltb at (skip_value s at)))
  where
    go : (b : Bool) → cond b (strictly (next_item s (skip_value s at)) (λ j. found (record { at = at; end = skip_value s at }) j)) stop
        ≡ element_found (cond b (Some ((record { at = at; end = skip_value s at }), (next_item s (skip_value s at)))) None)
    go true = strictly_is (next_item s (skip_value s at)) _
    go false = refl

-- ---- the walks
unfoldable pub members_of : List ℕ → ℕ → List Member
members_of s at = gather s (next_member s) (skip_blanks s (at + 1))

unfoldable pub elements_of : List ℕ → ℕ → List Element
elements_of s at = gather s (next_element s) (skip_blanks s (at + 1))

members_are : (s : List ℕ) (at : ℕ) → members_at s at ≡ members_of s at
unfolding members_of
members_are s at = ap (λ (f : ℕ → GatherStep Member). gather s f (skip_blanks s (at + 1))) (λ i k. sym (member_is s k) i)

elements_are : (s : List ℕ) (at : ℕ) → elements_at s at ≡ elements_of s at
unfolding elements_of
elements_are s at = ap (λ (f : ℕ → GatherStep Element). gather s f (skip_blanks s (at + 1))) (λ i k. sym (element_is s k) i)

-- ---- what the definitions say of a text s, with given walks
module _ (s : List ℕ) (ms : ℕ → List Member) (es : ℕ → List Element) where
  unfoldable pub bad_by : ℕ → ℕ → Bool
  bad_by zero at = false
  bad_by (suc d) at =
      cond (eqb (byte s at) 0x5B) (bad_array (bad_by d) (es at))
      (cond (eqb (byte s at) 0x7B) (bad_object (bad_by d) s (ms at)) false)

  abbrev named_by : String → Maybe Value
  named_by n = named_from (ascii n) none (map (field_of s) (ms (top_at s)))

  abbrev elements_by : Maybe Value → List Element
  elements_by v = given [] (λ v. es v.at) v

  abbrev listing_by : Maybe Value → Bool
  listing_by v = given false (λ v. is_array s v.at) v && all_objects s (elements_by v)

  unfoldable pub misshapen_by : Bool
  misshapen_by =
      not (is_object s (top_at s) && (given false (λ v. is_object s v.at) (named_by "global")
      && (listing_by (named_by "captures") && listing_by (named_by "annotations"))))

  abbrev objects_by : Maybe Value → List (List Field)
  objects_by v = map (λ e. map (field_of s) (ms e.at)) (elements_by v)

  unfoldable pub file_by : File
  file_by = record {
    global = given [] (λ v. map (field_of s) (ms v.at)) (named_by "global");
    captures = objects_by (named_by "captures");
    annotations = objects_by (named_by "annotations");
  }

module _ (s : List ℕ) where
  bad_by_lem : (d at : ℕ) → bad_members_at d s at ≡ bad_by s (members_at s) (elements_at s) d at
  unfolding bad_members_at bad_by
  bad_by_lem zero at = refl
  bad_by_lem (suc d) at =
      ap (λ (f : ℕ → Bool). cond (eqb (byte s at) 0x5B) (bad_array f (elements_at s at)) (cond (eqb (byte s at) 0x7B) (bad_object f s (members_at s at)) false))
      (λ i k. bad_by_lem d k i)

  -- what depends on both walks is the same with these
  by_walks : {A : Type 0} (f : (ℕ → List Member) → (ℕ → List Element) → A) → f (members_at s) (elements_at s) ≡ f (members_of s) (elements_of s)
  by_walks f = λ i. f (λ k. members_are s k i) (λ k. elements_are s k i)

  pub bad_is : (d at : ℕ) → bad_members_at d s at ≡ bad_by s (members_of s) (elements_of s) d at
  bad_is d at = bad_by_lem d at ∙ by_walks (λ m e. bad_by s m e d at)

  pub misshapen_is : misshapen s ≡ misshapen_by s (members_of s) (elements_of s)
  misshapen_is =
      let e : misshapen s ≡ misshapen_by s (members_at s) (elements_at s) = unfold misshapen misshapen_by in refl in
      e ∙ by_walks (λ m e. misshapen_by s m e)

  pub file_is : file_of s ≡ file_by s (members_of s) (elements_of s)
  file_is =
      let e : file_of s ≡ file_by s (members_at s) (elements_at s) = unfold file_of file_by in refl in
      e ∙ by_walks (λ m e. file_by s m e)
