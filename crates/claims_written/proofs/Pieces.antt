-- Derivations of written pieces beside their bytes, and what is said of them.
use mathlib.Core.Path.{◌≡◌, refl, ap}
use mathlib.Core.Bool.{true}
use mathlib.Core.List.{List, [], ◌∷◌, ◌++◌, map, append-nil}
use Prim.Native.Nat.{ℕ, suc, ◌+◌}
use Rattle.json_blocks.specs.Lists.{all}
use Rattle.json_grammar.specs.Grammar.{Number, Characters, string, no_blanks, empty, full, Member, member, an_object, an_array, a_number, a_string, Value}
use Rattle.claims_derived.specs.Derived.{Kind, object, array, number, text, whole_of, meant, group_from, Node, node_at, entry_from, entries_in, nodes_in, kind_in, kind, node_members, node_elements}
use Rattle.writer.specs.Metadata.{commas, object_text, array_text}
use Rattle.claims_written.proofs.Derivations.{ordinary, joined, in_row, row_from, row_placed}
use Rattle.claims_written.proofs.Derivations as W

-- bytes with what they are
abbrev pub Some : (List ℕ → Type 0) → Type 0
Some P = (x : List ℕ) × P x

-- ---- values
module _ (d : ℕ) where
  unfoldable pub number_of : {x : List ℕ} → Number x → Value (suc d) x
  unfolding Value
  number_of p = a_number p

  unfoldable pub string_of : {cs : List ℕ} → Characters cs → Value (suc d) (0x22 ∷ (cs ++ (0x22 ∷ [])))
  unfolding Value
  string_of p = a_string (string p)

  unfoldable pub object_of : Some (Member (Value d)) → List (Some (Member (Value d))) → Some (Value (suc d))
  unfolding Value
  object_of a l = (0x7B ∷ ([] ++ (joined a l ++ (0x7D ∷ []))), an_object (full no_blanks (in_row a l)))

  unfoldable pub array_of : List (Some (Value d)) → Some (Value (suc d))
  unfolding Value
  array_of [] = (0x5B ∷ ([] ++ (0x5D ∷ [])), an_array (empty no_blanks))
  array_of (a ∷ l) = (0x5B ∷ ([] ++ (joined a l ++ (0x5D ∷ []))), an_array (full no_blanks (in_row a l)))

  abbrev pub field : (n : List ℕ) → all ordinary n ≡ true → (x : List ℕ) → Value d x → Some (Member (Value d))
  field n e x v = ((0x22 ∷ (n ++ (0x22 ∷ []))) ++ ([] ++ (0x3A ∷ ([] ++ x))), member (W.quoted n e) no_blanks no_blanks v)

  unfoldable pub row_of : ℕ → List (Some (Value d)) → List Node
  row_of i [] = []
  row_of i (a ∷ l) = row_from (node_at d) i a l

  abbrev pub node : ℕ → Some (Value d) → Node
  node i a = node_at d i a.0 a.1

-- a value without members and elements
pub record Scalar (k : Kind) (n : Node) : Type 0 where
  pub is : kind n ≡ k
  pub no_members_lem : node_members n ≡ []
  pub no_elements : node_elements n ≡ []

module _ (d i : ℕ) where
  pub number_said : {x : List ℕ} (p : Number x) → Scalar (number (whole_of p)) (node_at (suc d) i x (number_of d p))
  unfolding number_of kind_in entries_in nodes_in
  number_said p = record { is = refl; no_members_lem = refl; no_elements = refl }

  pub string_said : {cs : List ℕ} (p : Characters cs) → Scalar (text (meant p)) (node_at (suc d) i (0x22 ∷ (cs ++ (0x22 ∷ []))) (string_of d p))
  unfolding string_of kind_in entries_in nodes_in
  string_said p = record { is = refl; no_members_lem = refl; no_elements = refl }

  module _ (a : Some (Member (Value d))) (l : List (Some (Member (Value d)))) where
    pub object_kind : kind (node (suc d) i (object_of d a l)) ≡ object
    unfolding object_of kind_in
    object_kind = refl

    pub object_members : node_members (node (suc d) i (object_of d a l)) ≡ row_from (entry_from d) (i + 1 + 0) a l
    unfolding object_of entries_in group_from
    object_members = row_placed (entry_from d) (i + 1 + 0) a l

    pub object_elements : node_elements (node (suc d) i (object_of d a l)) ≡ []
    unfolding object_of nodes_in
    object_elements = refl

  pub array_kind : (l : List (Some (Value d))) → kind (node (suc d) i (array_of d l)) ≡ array
  unfolding array_of kind_in
  array_kind [] = refl
  array_kind (a ∷ l) = refl

  pub array_members : (l : List (Some (Value d))) → node_members (node (suc d) i (array_of d l)) ≡ []
  unfolding array_of entries_in
  array_members [] = refl
  array_members (a ∷ l) = refl

  pub array_elements : (l : List (Some (Value d))) → node_elements (node (suc d) i (array_of d l)) ≡ row_of d (i + 1 + 0) l
  unfolding array_of nodes_in group_from row_of
  array_elements [] = refl
  array_elements (a ∷ l) = row_placed (node_at d) (i + 1 + 0) a l

-- ---- their bytes
pub joined_text : {P : List ℕ → Type 0} (a : Some P) (l : List (Some P)) → joined a l ≡ commas (map (λ b. b.0) (a ∷ l))
unfolding joined commas
joined_text a [] = append-nil a.0
joined_text a (b ∷ l) = ap (λ (k : List ℕ). a.0 ++ (0x2C ∷ k)) (joined_text b l)

pub object_text_lem : (d : ℕ) (a : Some (Member (Value d))) (l : List (Some (Member (Value d)))) → (object_of d a l).0 ≡ object_text (map (λ b. b.0) (a ∷ l))
unfolding object_of
object_text_lem d a l = ap (λ (k : List ℕ). 0x7B ∷ (k ++ (0x7D ∷ []))) (joined_text a l)

pub array_text_lem : (d : ℕ) (l : List (Some (Value d))) → (array_of d l).0 ≡ array_text (map (λ b. b.0) l)
unfolding array_of commas
array_text_lem d [] = refl
array_text_lem d (a ∷ l) = ap (λ (k : List ℕ). 0x5B ∷ (k ++ (0x5D ∷ []))) (joined_text a l)
