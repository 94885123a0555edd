-- What is added up at each edge, by its number, in a pass over the sets.
use Rattle.std.specs.Prelude.{◌≡◌, ℕ, ◌+◌, ◌*◌, ◌^◌, ℤ, pos, neg_ℤ, ◌+ℤ◌, ◌*ℤ◌, ◌≤ℤ◌, Bool}
use Rattle.std.specs.Prelude.{List, length, slice_index_or, if◌then◌else◌}
use Rattle.graph_theory.specs.declared.limits.TheConstants.{NUMBER_LIMIT}
use Rattle.graph_theory.specs.declared.odd_set.OddSet.{OddSet}
use Rattle.graph_theory.specs.Graph.{Multigraph, IsEdgeNumber, edge_of, touches, other_end}
use Rattle.graph_theory.specs.Parts.{crosses}
use Rattle.graph_theory.specs.Duals.{crossed_by}
use Rattle.graph_theory.specs.OddSets.{listed_sets}
use Rattle.graph_parts.specs.Marks.{is_marked}

-- the total at the edge of a number
abbrev pub total_at : List ℤ → ℕ → ℤ
total_at totals e = slice_index_or totals e (pos 0)

-- at each edge of v what is given there is added
pub record AddsAt (g : Multigraph) (v : ℕ) (given : ℕ → ℤ) (old new : List ℤ) : Type 0 where
  pub size : length new ≡ length old
  pub exact : (e : ℕ) → IsEdgeNumber g e → total_at new e
      ≡ (total_at old e +ℤ (if touches (edge_of g e) v then given e else pos 0))

-- what is given at an edge that leads from v out of the marks
abbrev pub given_out : Multigraph → List Bool → ℕ → ℤ → ℕ → ℤ
given_out g marks v dual e = if is_marked marks (other_end (edge_of g e) v) then pos 0 else dual

-- at each edge that crosses the set its dual is added
pub record AddsSet (g : Multigraph) (s : OddSet) (old new : List ℤ) : Type 0 where
  pub size : length new ≡ length old
  pub exact : (e : ℕ) → IsEdgeNumber g e → total_at new e
      ≡ (total_at old e +ℤ (if crosses s.vertices (edge_of g e) then s.dual else pos 0))

-- at each edge the duals of the sets that it crosses
pub record AreCrossed (g : Multigraph) (sets : List OddSet) (totals : List ℤ) : Type 0 where
  pub size : length totals ≡ length g.edges + 1
  pub exact : (e : ℕ) → IsEdgeNumber g e → total_at totals e
      ≡ crossed_by (listed_sets g.vertices sets) (length sets) (edge_of g e)

-- a number that n times 2 ^ 64 duals can add up to
abbrev pub IsWithin : ℕ → ℤ → Type 0
IsWithin n a = ((neg_ℤ NUMBER_LIMIT *ℤ pos (n * 2 ^ 64)) ≤ℤ a)
    × (a ≤ℤ (NUMBER_LIMIT *ℤ pos (n * 2 ^ 64)))
