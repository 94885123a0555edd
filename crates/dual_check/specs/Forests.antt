-- Sets that refer to earlier ones, as trees: their vertices in one list, in which each set is a
-- stretch.
use Rattle.std.specs.Prelude.{◌≡◌, ℕ, zero, suc, ◌+◌, ◌-◌, ◌%◌, ◌<◌}
use Rattle.std.specs.Prelude.{◌≤◌, nat_lt, nat_le, ◌==◌, ◌&&◌, ◌↔◌, ℤ, pos, ◌+ℤ◌}
use Rattle.std.specs.Prelude.{Bool, true, false}
use Rattle.std.specs.Prelude.{List, [], ◌++◌, length, map, flat_map, take, drop}
use Rattle.std.specs.Prelude.{slice_index_or, if◌then◌else◌, Option, None, Some}
use Rattle.std.specs.List.Sorted.{IsStrictlyIncreasing}
use Rattle.graph_theory.specs.Sums.{int_sum_to}
use Rattle.graph_theory.specs.declared.odd_set.OddSet.{OddSet}
use Rattle.graph_theory.specs.declared.edge.Edge.{Edge}
use Rattle.graph_theory.specs.Graph.{Multigraph, IsEdgeNumber, edge_of}
use Rattle.graph_theory.specs.Parts.{crosses, holds}
use Rattle.graph_theory.specs.OddSets.{given_at, items_with, members_in}
use Rattle.graph_parts.specs.Marks.{is_marked}
use Rattle.dual_check.specs.Crossed.{total_at}
use Rattle.dual_check.specs.declared.forest.Place.{Place}
use Rattle.dual_check.specs.declared.forest.Forest.{Forest}

-- what one set has to keep for itself and towards the sets that earlier ones refer to: all of its
-- form but that its items have no member in common
pub record IsItemList (sets : List OddSet) (j : ℕ) : Type 0 where
  pub three : 3 ≤ length (given_at sets j).vertices + length (given_at sets j).references
  pub odd : (length (given_at sets j).vertices + length (given_at sets j).references) % 2 ≡ 1
  pub vertices : IsStrictlyIncreasing (given_at sets j).vertices
  pub references : IsStrictlyIncreasing (given_at sets j).references
  pub free : (i r : ℕ) → i < j → holds (given_at sets i).references r ≡ true
      → holds (given_at sets j).references r ≡ false

-- the same of each of the first n sets
abbrev pub AreItemLists : List OddSet → ℕ → Type 0
AreItemLists sets n = (j : ℕ) → j < n → IsItemList sets j

-- no two items of the set at place j have a member in common
abbrev pub IsApart : List OddSet → ℕ → Type 0
IsApart sets j = (v : ℕ) → items_with sets j v ≤ 1

-- the first of n places that lacks something
pub record IsFirstPlace (Has : ℕ → Type 0) (n : ℕ) (k : ℕ) : Type 0 where
  pub in_range : k < n
  pub lacks : ¬ Has k
  pub before : (j : ℕ) → j < k → Has j

-- ---- the vertices of a tree

abbrev pub place_of : ℕ → ℕ → Place
place_of j v = record { vertex = v; set = j }

-- the vertices of the set at place j, if that is one of the first n, each with the set that names
-- it: its own, then those of the sets that it refers to, in their order
abbrev pub named_below : List OddSet → ℕ → ℕ → List Place
named_below sets zero j = []
named_below sets (suc n) j =
    if j == n then map (place_of n) (given_at sets n).vertices
    ++ flat_map (λ r. named_below sets n (r - 1)) (given_at sets n).references
    else named_below sets n j

abbrev pub named : List OddSet → ℕ → List Place
named sets j = named_below sets (suc j) j

-- ---- stretches

abbrev pub begin_of : Forest → ℕ → ℕ
begin_of f j = slice_index_or f.begins.items j 0

abbrev pub end_of : Forest → ℕ → ℕ
end_of f j = slice_index_or f.ends.items j 0

abbrev pub no_place : Place
no_place = record { vertex = 0; set = 0 }

-- the vertex at position q
abbrev pub vertex_at : Forest → ℕ → ℕ
vertex_at f q = (slice_index_or f.places.items q no_place).vertex

-- position q lies in the stretch of set j
abbrev pub spans : Forest → ℕ → ℕ → Bool
spans f j q = nat_le (begin_of f j) q && nat_lt q (end_of f j)

-- The trees of the first n sets: each set is a stretch of the list, which has just the vertices
-- that it and the sets inside name.
pub record IsForest (sets : List OddSet) (n : ℕ) (f : Forest) : Type 0 where
  pub begins : length f.begins.items ≡ n
  pub ends : length f.ends.items ≡ n
  pub ordered : (j : ℕ) → j < n → (begin_of f j ≤ end_of f j) × (end_of f j ≤ length f.places.items)
  pub laid : (j : ℕ) → j < n → take (end_of f j - begin_of f j) (drop (begin_of f j) f.places.items)
      ≡ named sets j

-- the innermost of the first n sets that spans both positions, which has the least place of them
pub record IsInnermost (n : ℕ) (f : Forest) (p q x : ℕ) : Type 0 where
  pub in_range : x < n
  pub first : spans f x p ≡ true
  pub second : spans f x q ≡ true
  pub least : (j : ℕ) → j < n → spans f j p ≡ true → spans f j q ≡ true → x ≤ j

abbrev pub MayBeInnermost : ℕ → Forest → ℕ → ℕ → Option ℕ → Type 0
MayBeInnermost n f p q None = (j : ℕ) → j < n → spans f j p ≡ true → spans f j q ≡ false
MayBeInnermost n f p q (Some x) = IsInnermost n f p q x

-- the duals of those of the first n sets that span both positions, added up
abbrev pub shared_dual : List OddSet → ℕ → Forest → ℕ → ℕ → ℤ
shared_dual sets n f p q =
    int_sum_to (λ j. if spans f j p && spans f j q then (given_at sets j).dual else pos 0) n

-- ---- sets that are a tree by themselves

-- the set at place j refers to no other, and none refers to it
pub record IsAlone (sets : List OddSet) (j : ℕ) : Type 0 where
  pub no_references : (given_at sets j).references ≡ []
  pub none_refers : (i : ℕ) → i < length sets → holds (given_at sets i).references (j + 1) ≡ false

-- a flag for each set
pub record AreAlone (sets : List OddSet) (flags : List Bool) : Type 0 where
  pub one_each : length flags ≡ length sets
  pub alone : (j : ℕ) → j < length sets → (is_marked flags j ≡ true) ↔ IsAlone sets j

-- the dual of the set at place j, if it isn't alone and e crosses it, in a graph with n vertices
abbrev pub nested_dual : ℕ → List OddSet → List Bool → Edge → ℕ → ℤ
nested_dual n sets flags e j = if is_marked flags j then pos 0
    else (if crosses (members_in n sets j) e then (given_at sets j).dual else pos 0)

-- at each edge the duals of the sets that it crosses and that aren't alone are added
pub record AddsNested (g : Multigraph) (sets : List OddSet) (flags : List Bool)
    (old new : List ℤ) : Type 0 where
  pub size : length new ≡ length old
  pub exact : (e : ℕ) → IsEdgeNumber g e → total_at new e
      ≡ (total_at old e +ℤ int_sum_to (nested_dual g.vertices sets flags (edge_of g e))
      (length sets))
