-- What reading the members of the top level keeps.
use mathlib.Core.Path.{◌≡◌, refl, sym, ap, ◌∙◌}
use mathlib.Core.Bool.{true, false}
use mathlib.Core.List.{List}
use Prim.Native.Nat.{ℕ, ◌≤◌, ◌+◌}
use lib.ListN.{length}
use Rattle.json_blocks.specs.TextBytes.{byte, to}
use Rattle.json_blocks.specs.declared.Cursor.{Cursor}
use Rattle.json_grammar.specs.ByPlace.{value_at}
use Rattle.json_grammar.specs.Skip.{skip_value}
use Rattle.sigmf_objects.specs.declared.GlobalFound.{GlobalFound}
use Rattle.sigmf_objects.specs.Global.{read_global}
use Rattle.reader.specs.Kind as K
use Rattle.reader.specs.declared.TopName.TheVariants as N
use Rattle.reader.specs.declared.TopPlaces.{TopPlaces}
use Rattle.reader.specs.declared.TopRead.{TopRead}
use Rattle.reader.specs.declared.GlobalRead.{GlobalRead}
use Rattle.reader.specs.declared.ArrayRead.{ArrayRead}
use Rattle.reader.specs.Parts.{top_levels, array_levels, WasPassed, no_places, places_with, begins, EntriesRoom, GlobalIs, ArrayIs, PartsRead}
use Rattle.reader.proofs.TopLaws.{Finding, begins_none}
use Rattle.reader.proofs.ArrayLaws.{close_ends, close_fits}

-- ---- the value of global
module _ (s : List ℕ) (at : ℕ) where
  module _ (b : byte s at ≡ 0x7B) (r : WasPassed s at) (g : GlobalFound) (e : g ≡ read_global s at) where
    pub global_end : g.close + 1 ≡ skip_value s at
    unfolding read_global
    global_end = rw e (close_ends array_levels s at b (skip_value s at, r))

    pub global_fits : g.close + 1 ≤ length s
    unfolding read_global
    global_fits = rw e (close_fits array_levels s at b (skip_value s at, r))

    pub global_is : (g.low ≡ (read_global s at).low) × (g.globals ≡ (read_global s at).globals)
    global_is = (rw e, rw e)

-- ---- the value of captures or annotations
pub array_end : (s : List ℕ) (at end : ℕ) → WasPassed s at → value_at top_levels s at ≡ to end → end ≡ skip_value s at
array_end s at end r e =
    let h : to end ≡ to (skip_value s at) = sym e ∙ r in
    let c : ◌≡◌ {A = Cursor} (record { at = end }) (record { at = skip_value s at }) = cc in
    ap (λ (x : Cursor). x.at) c

-- ---- the three
parts_begin : (s : List ℕ) (top : TopRead) (caps notes : List ℕ) → top.places ≡ no_places → PartsRead s top caps notes
parts_begin s top caps notes e = record {
  global = λ h. absurd (none 0x7B top.places.global (ap (λ (t : TopPlaces). t.global) e) h);
  captures = λ h. absurd (none 0x5B top.places.captures (ap (λ (t : TopPlaces). t.captures) e) h);
  annotations = λ h. absurd (none 0x5B top.places.annotations (ap (λ (t : TopPlaces). t.annotations) e) h);
}
  where
    none : (b p : ℕ) → p ≡ 0 → begins s b p ≡ true → ⊥
    none b p e h = let k : false ≡ true = begins_none s b p e ∙ h in cc

-- after one member more
module _ (s : List ℕ) (at : ℕ) (top : TopRead) (caps notes : List ℕ) (x : PartsRead s top caps notes) where
  pub global_on : (g : GlobalRead) → GlobalIs s at g
      → PartsRead s
      (record { places = places_with N.Global at top.places; global = g; captures = top.captures; annotations = top.annotations }) caps notes
  global_on g h = record { global = h; captures = x.captures; annotations = x.annotations }

  pub captures_on : (c : ArrayRead) (m : List ℕ) → ArrayIs K.Capture s at c m
      → PartsRead s
      (record { places = places_with N.Captures at top.places; global = top.global; captures = c; annotations = top.annotations }) m notes
  captures_on c m h = record { global = x.global; captures = h; annotations = x.annotations }

  pub annotations_on : (a : ArrayRead) (m : List ℕ) → ArrayIs K.Annotation s at a m
      → PartsRead s
      (record { places = places_with N.Annotations at top.places; global = top.global; captures = top.captures; annotations = a }) caps m
  annotations_on a m h = record { global = x.global; captures = x.captures; annotations = h }

-- ---- the walk over the top level stands at j, with what it has read
pub record Reading (s : List ℕ) (start j : ℕ) (top : TopRead) (caps₀ notes₀ caps notes : List ℕ) : Type 0 where
  pub finding : Finding s start j top.places
  pub parts : PartsRead s top caps notes
  pub caps_long : length caps ≡ length caps₀
  pub notes_long : length notes ≡ length notes₀

pub reading_begin : (s : List ℕ) (start : ℕ) (top : TopRead) (caps notes : List ℕ) → top.places ≡ no_places → Finding s start start no_places
    → Reading s start start top caps notes caps notes
reading_begin s start top caps notes e x = record {
  finding = rw e x;
  parts = parts_begin s top caps notes e;
  caps_long = refl;
  notes_long = refl;
}

pub reading_room : (s : List ℕ) (start j : ℕ) (top : TopRead) (caps₀ notes₀ caps notes : List ℕ) → Reading s start j top caps₀ notes₀ caps notes
    → EntriesRoom s caps₀ notes₀ → EntriesRoom s caps notes
reading_room s start j top caps₀ notes₀ caps notes x r = rw (x.caps_long, x.notes_long) r
