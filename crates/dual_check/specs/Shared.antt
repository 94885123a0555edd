-- What sets share: the duals of those that hold two vertices, and of those that are taken out of
-- all.
use Rattle.std.specs.Prelude.{◌≡◌, ℕ, ◌+◌, ◌<◌, ℤ, pos, ◌+ℤ◌, ◌-ℤ◌, Bool, ◌&&◌, List, [], length}
use Rattle.std.specs.Prelude.{All, slice_index_or, if◌then◌else◌}
use Rattle.graph_theory.specs.Sums.{int_sum_to}
use Rattle.graph_theory.specs.declared.edge.Edge.{Edge}
use Rattle.graph_theory.specs.declared.odd_set.OddSet.{OddSet}
use Rattle.graph_theory.specs.Graph.{Multigraph, IsEdgeNumber, edge_of, other_end}
use Rattle.graph_theory.specs.Parts.{crosses, holds}
use Rattle.graph_theory.specs.OddSets.{given_at}
use Rattle.graph_parts.specs.Marks.{is_marked}
use Rattle.dual_check.specs.Crossed.{total_at}
use Rattle.dual_check.specs.declared.shares.Shares.{Shares}

-- numbers for the items of a list, added up
abbrev pub sum_over : (ℕ → ℤ) → List ℕ → ℤ
sum_over f xs = int_sum_to (λ a. f (slice_index_or xs a 0)) (length xs)

-- the dual of set j
abbrev pub set_dual : List OddSet → ℕ → ℤ
set_dual sets j = (given_at sets j).dual

-- the dual of set j where v is one of its vertices
abbrev pub dual_with : List OddSet → ℕ → ℕ → ℤ
dual_with sets v j = if holds (given_at sets j).vertices v then (given_at sets j).dual else pos 0

-- the dual of set j where it is taken
abbrev pub taken_dual : List OddSet → List Bool → ℕ → ℤ
taken_dual sets taken j = if is_marked taken j then (given_at sets j).dual else pos 0

-- the dual of set j where it isn't
abbrev pub other_dual : List OddSet → List Bool → ℕ → ℤ
other_dual sets taken j = if is_marked taken j then pos 0 else (given_at sets j).dual

-- set j is taken, and v is one of its vertices
abbrev pub is_held : List OddSet → List Bool → ℕ → ℕ → Bool
is_held sets taken v j = is_marked taken j && holds (given_at sets j).vertices v

-- the numbers d of those of the first n sets whose vertices are exactly one end of e, added up
abbrev pub crossed_at : List OddSet → (ℕ → ℤ) → ℕ → Edge → ℤ
crossed_at sets d n e =
    int_sum_to (λ j. if crosses (given_at sets j).vertices e then d j else pos 0) n

-- the numbers of those of the first n sets that are taken and hold v
pub record HoldsTaken (sets : List OddSet) (taken : List Bool) (v n : ℕ)
    (list : List ℕ) : Type 0 where
  pub numbers : All (λ j. j < n) list
  pub exact : (f : ℕ → ℤ) → sum_over f list
      ≡ int_sum_to (λ j. if is_held sets taken v j then f j else pos 0) n

-- for each vertex from 1 to n the numbers of the taken sets that hold it
pub record IsHolders (n : ℕ) (sets : List OddSet) (taken : List Bool)
    (lists : List (List ℕ)) : Type 0 where
  pub size : length lists ≡ n + 1
  pub numbers : (v : ℕ) → All (λ j. j < length sets) (slice_index_or lists v [])
  pub exact : (v : ℕ) (f : ℕ → ℤ) → sum_over f (slice_index_or lists v [])
      ≡ int_sum_to (λ j. if is_held sets taken v j then f j else pos 0) (length sets)

-- the duals of the sets of a list, and at each vertex those of the sets that hold it
pub record AreShares (n : ℕ) (sets : List OddSet) (list : List ℕ) (s : Shares) : Type 0 where
  pub size : length s.with_vertex.items ≡ n + 1
  pub whole : s.whole ≡ sum_over (set_dual sets) list
  pub exact : (v : ℕ) → total_at s.with_vertex.items v ≡ sum_over (dual_with sets v) list

-- the duals of the sets that don't hold the end of edge e that isn't v
abbrev pub unshared_at : Multigraph → Shares → ℕ → ℕ → ℤ
unshared_at g s v e = s.whole -ℤ total_at s.with_vertex.items (other_end (edge_of g e) v)

-- at each edge the numbers d of the sets that it crosses are added
pub record AddsCrossed (g : Multigraph) (sets : List OddSet) (d : ℕ
    → ℤ) (old new : List ℤ) : Type 0 where
  pub size : length new ≡ length old
  pub exact : (e : ℕ) → IsEdgeNumber g e → total_at new e
      ≡ (total_at old e +ℤ crossed_at sets d (length sets) (edge_of g e))
