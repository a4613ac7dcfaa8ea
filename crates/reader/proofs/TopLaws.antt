-- The members of the top level, sought in one walk.
use Rattle.std.specs.Prelude.{None, Some}
use mathlib.Core.Path.{◌≡◌, refl, sym, ap, subst, ◌∙◌}
use mathlib.Core.Bool.{Bool, true, false, cond}
use mathlib.Core.List.{List, map}
use mathlib.Core.Option.{Option, none, some}
use Prim.Native.Nat.{ℕ, ◌<◌, ◌+◌}
use native.Mathlib.Omega.{arith}
use lib.ListN.{length}
use lib.Dec.{eqb}
use borrow.Author.Tests.{eq-eqb, ne_eqb, eqb-true}
use Rattle.json_blocks.specs.TextBytes.{byte, ascii, skip_blanks}
use Rattle.json_blocks.proofs.ByteLaws.{cond_elim}
use Rattle.json_grammar.specs.ByPlace.{is_json}
use Rattle.json_grammar.specs.Skip.{skip_value}
use Rattle.json_names.specs.Same.{same}
use Rattle.json_names.proofs.SameLaws.{same_is}
use Rattle.json_walk.specs.declared.Member.{Member}
use Rattle.json_walk.specs.declared.MemberName.{MemberName}
use Rattle.json_walk.specs.Members.{next_item, name_step, member_step, member_found}
use Rattle.json_walk.proofs.WalkLaws.{member_unnamed, member_named}
use Rattle.json_walk.proofs.StepLaws.{member_steps}
use Rattle.json_walk.proofs.EndLaws.{members_found, members_over, member_places}
use Rattle.json_walk.proofs.ReadLaws.{Members, MemberRead, member_read, members_start, json_read}
use Rattle.sigmf_texts.specs.Texts.{name_text}
use Rattle.sigmf_values.specs.Values.{part_of}
use Rattle.sigmf_extensions.specs.Extensions.{member_name}
use Rattle.sigmf_objects.specs.Fields.{Value, field_of, fields_at, last_where, given}
use Rattle.sigmf_objects.proofs.WalkLaws.{fields_from}
use Rattle.reader.specs.declared.TopName.{TopName}
use Rattle.reader.specs.declared.TopName.TheVariants as N
use Rattle.reader.specs.declared.TopPlaces.{TopPlaces}
use Rattle.reader.specs.File.{top_at, named_from, is_object}
use Rattle.reader.specs.Parts.{top_levels, WasPassed, top_name, no_places, places_with, MemberPlace, absent, present, TopFound, begins}

-- ---- one name, sought from j on; p is the place of the value found so far
pub record Sought (s n : List ℕ) (start j p : ℕ) : Type 0 where
  pub value : Option Value
  pub placed : MemberPlace s p value
  pub left : named_from n value (fields_from s j) ≡ named_from n none (fields_from s start)

module _ (s n : List ℕ) (start : ℕ) where
  sought_begin : Sought s n start start 0
  sought_begin = record { value = none; placed = absent refl; left = refl }

  module _ (j p : ℕ) (x : Sought s n start j p) where
    sought_on : (m : Member) (k end : ℕ) → member_step s j ≡ Some (m, k) → MemberRead top_levels s end m k
        → (t : Bool) → t ≡ same (member_name s m) n → (q : ℕ) → q ≡ cond t m.value p → Sought s n start k q
    unfolding last_where
    sought_on m k end e r t h q g = rw g (go t h) where
      next : named_from n (cond (same (member_name s m) n) (some (field_of s m).value) x.value) (fields_from s k) ≡ named_from n none (fields_from s start)
      next = ap (named_from n x.value) (sym (ap (map (field_of s)) (members_found s j m k e))) ∙ x.left

      go : (t : Bool) → t ≡ same (member_name s m) n → Sought s n start k (cond t m.value p)
      go true h = record {
        value = some (field_of s m).value;
        placed = present refl (omega (arith, (member_places s j m k e).value)) (m.end, r.value);
        left = ap (λ (b : Bool). named_from n (cond b (some (field_of s m).value) x.value) (fields_from s k)) h ∙ next;
      }
      go false h = record {
        value = x.value;
        placed = x.placed;
        left = ap (λ (b : Bool). named_from n (cond b (some (field_of s m).value) x.value) (fields_from s k)) h ∙ next;
      }

    sought_end : member_step s j ≡ None → MemberPlace s p (named_from n none (fields_from s start))
    unfolding last_where
    sought_end e = subst (MemberPlace s p) (ap (named_from n x.value) (sym (ap (map (field_of s)) (members_over s j e))) ∙ x.left) x.placed

-- ---- the three names
pub record Finding (s : List ℕ) (start j : ℕ) (t : TopPlaces) : Type 0 where
  pub end : ℕ
  pub walk : Members top_levels s end j
  pub global : Sought s (ascii "global") start j t.global
  pub captures : Sought s (ascii "captures") start j t.captures
  pub annotations : Sought s (ascii "annotations") start j t.annotations

module _ (s : List ℕ) (at start : ℕ) (ea : at ≡ top_at s) (es : start ≡ skip_blanks s (at + 1)) where
  pub find_begin : is_json s ≡ true → byte s at ≡ 0x7B → Finding s start start no_places
  find_begin h b =
      let r = json_read s h in
      record {
        end = r.0;
        walk = rw (es, ea) (members_start top_levels s (top_at s) r.0 r.1 (ap (byte s) (sym ea) ∙ b));
        global = sought_begin s (ascii "global") start;
        captures = sought_begin s (ascii "captures") start;
        annotations = sought_begin s (ascii "annotations") start;
      }

  pub find_end : (j : ℕ) (t : TopPlaces) → Finding s start j t → name_step s j ≡ None → TopFound s t
  find_end j t x e =
      let f : fields_from s start ≡ fields_at s (top_at s) = ap (fields_from s) es ∙ ap (λ (i : ℕ). fields_at s i) ea in
      let o = sym (member_unnamed s j e) in
      record {
        global = rw f at (sought_end s (ascii "global") start j t.global x.global o);
        captures = rw f at (sought_end s (ascii "captures") start j t.captures x.captures o);
        annotations = rw f at (sought_end s (ascii "annotations") start j t.annotations x.annotations o);
      }

-- a name is at most one of the three
apart : (w k l : List ℕ) → same k l ≡ false → same w k ≡ true → same w l ≡ false
apart w k l f e = rw (same_is w k e) f

places_told : (w : List ℕ) (at : ℕ) (t : TopPlaces) → places_with (top_name w) at t
    ≡ record {
      global = cond (same w (ascii "global")) at t.global;
      captures = cond (same w (ascii "captures")) at t.captures;
      annotations = cond (same w (ascii "annotations")) at t.annotations;
    }
unfolding top_name same
places_told w at t =
    go (same w (ascii "global")) (same w (ascii "captures")) (same w (ascii "annotations"))
    (λ e. (apart w (ascii "global") (ascii "captures") refl e, apart w (ascii "global") (ascii "annotations") refl e))
    (λ e. apart w (ascii "captures") (ascii "annotations") refl e)
  where
    go : (a b c : Bool) → (a ≡ true → (b ≡ false) × (c ≡ false)) → (b ≡ true → c ≡ false)
        → places_with (cond a N.Global (cond b N.Captures (cond c N.Annotations N.Other))) at t
        ≡ record { global = cond a at t.global; captures = cond b at t.captures; annotations = cond c at t.annotations }
    go true b c f g = rw ((f refl).0, (f refl).1)
    go false true c f g = rw (g refl)
    go false false true f g = refl
    go false false false f g = refl

module _ (s : List ℕ) (start j : ℕ) (t : TopPlaces) (x : Finding s start j t) (n : MemberName) (e : name_step s j ≡ Some n) where
  abbrev found : Member
  found = record { name = n.name; quote = n.quote; value = n.value; end = skip_value s n.value }

  abbrev next : ℕ
  next = next_item s (skip_value s n.value)

  step : member_step s j ≡ Some (found, next)
  step = sym (member_named s j n e (skip_value s n.value) next refl refl)

  pub find_read : WasPassed s n.value
  find_read = (member_read top_levels s x.end j x.walk found next step).value

  module _ (k end : ℕ) (ek : k ≡ next_item s end) (ee : end ≡ skip_value s n.value) where
    pub find_past : (j < k) × (j < length s)
    find_past = rw (ek, ee) (member_steps s j found next (ap member_found step))

    pub find_on : (name : List ℕ) → name ≡ part_of s n.name n.quote → (which : TopName) → which ≡ top_name (name_text name)
        → (t' : TopPlaces) → t' ≡ places_with which n.value t → Finding s start k t'
    find_on name en which ew t' et =
        let r = member_read top_levels s x.end j x.walk found next step in
        rw (ek, ee, et, ew, en, places_told (member_name s found) n.value t) (record {
          end = x.end;
          walk = r.rest;
          global = sought_on s (ascii "global") start j t.global x.global found next x.end step r _ refl _ refl;
          captures = sought_on s (ascii "captures") start j t.captures x.captures found next x.end step r _ refl _ refl;
          annotations = sought_on s (ascii "annotations") start j t.annotations x.annotations found next x.end step r _ refl _ refl;
        })

-- ---- what a place tells
module _ (s : List ℕ) (b p : ℕ) where
  pub begins_none : p ≡ 0 → false ≡ begins s b p
  unfolding begins
  begins_none h = rw (eq-eqb p 0 h)

  pub begins_at : (p ≡ 0 → ⊥) → eqb (byte s p) b ≡ begins s b p
  unfolding begins
  begins_at f = rw (ne_eqb p 0 f)

  pub placed_begins : {v : Option Value} → MemberPlace s p v → given false (λ v. eqb (byte s v.at) b) v ≡ begins s b p
  placed_begins (absent h) = begins_none h
  placed_begins (present h l r) = ap (λ (i : ℕ). eqb (byte s i) b) (sym h) ∙ begins_at (λ z. omega arith)

  module _ (e : begins s b p ≡ true) where
    pub placed_is : {A : Type 0} {v : Option Value} (z : A) (f : ℕ → A) → MemberPlace s p v → given z (λ v. f v.at) v ≡ f p
    placed_is z f (absent h) = let k : false ≡ true = begins_none h ∙ e in let n : ◌≡◌ {A = ℕ} 0 1 = cc in absurd (omega arith)
    placed_is z f (present h l r) = ap f (sym h)

  pub begins_other : (byte s p ≡ b → ⊥) → begins s b p ≡ true → ⊥
  unfolding begins
  begins_other f =
      cond_elim (λ (t : Bool). t ≡ true → ⊥) (eqb p 0) _ _
      (λ _ h. cc) (λ _ h. f (eqb-true (byte s p) b h))

pub top_object : (s : List ℕ) (at : ℕ) → at ≡ top_at s → byte s at ≡ 0x7B → is_object s (top_at s) ≡ true
top_object s at e b = eq-eqb (byte s (top_at s)) 0x7B (ap (byte s) (sym e) ∙ b)
