-- Duals on vertices and on odd sets of vertices (chapters 25 and 26), in doubled units.
use Rattle.std.specs.Prelude.{◌≡◌, ℕ, ◌%◌, ◌-◌, neg_ℤ, ◌≤◌, ℤ, pos, ◌+ℤ◌, ◌-ℤ◌, ◌*ℤ◌, ◌≤ℤ◌, List}
use Rattle.std.specs.Prelude.{[], length, All, slice_index_or, if◌then◌else◌}
use Rattle.std.specs.List.Sorted.{IsStrictlyIncreasing}
use Rattle.graph_theory.specs.Sums.{int_sum_to}
use Rattle.graph_theory.specs.declared.edge.Edge.{Edge}
use Rattle.graph_theory.specs.declared.limits.TheConstants.{NUMBER_LIMIT}
use Rattle.graph_theory.specs.Graph.{Multigraph}
use Rattle.graph_theory.specs.Parts.{crosses}

-- a set of vertices with its dual
pub record DualSet : Type 0 where
  pub dual : ℤ
  pub members : List ℕ

abbrev pub no_set : DualSet
no_set = record { dual = pos 0; members = [] }

abbrev pub set_at : List DualSet → ℕ → DualSet
set_at sets j = slice_index_or sets j no_set

-- the dual of vertex v
abbrev pub dual_of : List ℤ → ℕ → ℤ
dual_of y v = slice_index_or y (v - 1) (pos 0)

-- the duals of those of the first n sets that hold exactly one end of e, added up
abbrev pub crossed_by : List DualSet → ℕ → Edge → ℤ
crossed_by sets n e = int_sum_to (λ j. if crosses (set_at sets j).members e then
    (set_at sets j).dual else pos 0) n

-- the slack of an edge: twice its weight, without the duals of its ends and of the sets that it
-- crosses
abbrev pub slack : List ℤ → List DualSet → Edge → ℤ
slack y sets e = pos 2 *ℤ e.w -ℤ dual_of y e.u -ℤ dual_of y e.v -ℤ crossed_by sets (length sets) e

-- at least three members, an odd number of them, strictly ascending
pub record HasForm (set : List ℕ) : Type 0 where
  pub three : 3 ≤ length set
  pub odd : length set % 2 ≡ 1
  pub ascending : IsStrictlyIncreasing set

-- the duals of all vertices and of all sets, added up
abbrev pub dual_value : List ℤ → List DualSet → ℤ
dual_value y sets = int_sum_to (λ k. slice_index_or y k (pos 0)) (length y) +ℤ int_sum_to
    (λ j. (set_at sets j).dual) (length sets)

-- a dual of at least 1, and members among the vertices 1 to n
pub record IsSetWithin (n : ℕ) (s : DualSet) : Type 0 where
  pub positive : pos 1 ≤ℤ s.dual
  pub in_range : All (λ m. (1 ≤ m) × (m ≤ n)) s.members

-- feasible duals of a graph: one for each vertex, and odd sets with theirs, such that no slack is
-- negative
pub record AreDuals (g : Multigraph) (y : List ℤ) (sets : List DualSet) : Type 0 where
  pub one_each : length y ≡ g.vertices
  pub sets_within : All (IsSetWithin g.vertices) sets
  pub forms : All (λ s. HasForm s.members) sets
  pub slacks : All (λ e. pos 0 ≤ℤ slack y sets e) g.edges

-- a number of a document: no farther from 0 than the limit
abbrev pub IsNumber : ℤ → Type 0
IsNumber a = (neg_ℤ NUMBER_LIMIT ≤ℤ a) × (a ≤ℤ NUMBER_LIMIT)
