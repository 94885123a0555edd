-- Which answers are feasible, and which are best, for each kind (Schrijver, volume A,
-- chapters 24 and 26 for matchings, 29 for joins, walks and paths, 31 for b-matchings, 32 for
-- capacities, 33 for factors, 35 for degrees between two bounds).
use Rattle.std.specs.Prelude.{◌≡◌, ℕ, ◌%◌, ◌≤◌, ◌<◌, ℤ, pos, ◌≤ℤ◌, ◌==◌, Bool, true, false}
use Rattle.std.specs.Prelude.{List, length, All}
use Rattle.std.specs.Prelude.{slice_index, IfSome, ◌↔◌, ◌⊎◌}
use Rattle.graph_theory.specs.Graph.{degree, weight, IsPerfect}
use Rattle.graph_theory.specs.Parts.{holds}
use Rattle.graph_theory.specs.Walk.{IsWalk, walk_end, walk_vertices, walk_weight, IsClosedWalk}
use Rattle.graph_theory.specs.Walk.{AllDiffer}
use Rattle.gallai_theory.specs.Matchings.{edges_used}
use Rattle.mb_problem.specs.declared.kind.Kind.{Kind}
use Rattle.mb_problem.specs.declared.kind.Kind.TheVariants.{Perfect, Match, BMatch, CapMatch}
use Rattle.mb_problem.specs.declared.kind.Kind.TheVariants.{FFactor, TJoin, Postman, Path}
use Rattle.mb_problem.specs.declared.kind.Kind.TheVariants.{Interval, OddPath, EvenPath}
use Rattle.mb_problem.specs.declared.kind.Kind.TheVariants.{Bottleneck, Gallai}
use Rattle.mb_problem.specs.declared.kind.Cost.{Cost}
use Rattle.mb_problem.specs.declared.kind.Cost.TheVariants.{Total, Heaviest, Size}
use Rattle.mb_problem.specs.declared.kind.Objective.{Objective}
use Rattle.mb_problem.specs.declared.kind.Objective.TheVariants.{Least, Greatest}
use Rattle.mb_problem.specs.declared.answer.Answer.{Answer}
use Rattle.mb_problem.specs.declared.answer.Answer.TheVariants.{Counts, Walk, Nothing}
use Rattle.mb_problem.specs.Network.{Network, vertices, graph_of, value_of, low_of, high_of}
use Rattle.mb_problem.specs.Network.{instance_edge_at}
use Rattle.mb_problem.specs.Kinds.{sense_of, measure_of}
use Rattle.mb_problem.specs.Heaviest.{heaviest, heaviest_step}

-- one count for each edge
abbrev pub HasCounts : Network → List ℕ → Type 0
HasCounts i counts = length counts ≡ length i.edges

abbrev pub AtMostOnce : List ℕ → Type 0
AtMostOnce counts = All (λ c. c ≤ 1) counts

-- a fact holds of each vertex and its degree
abbrev pub DegreesMeet : Network → List ℕ → (ℕ → ℕ → Type 0) → Type 0
DegreesMeet i counts P = (v : ℕ) → 1 ≤ v → v ≤ vertices i → P v (degree (graph_of i) counts v)

-- counts with the value of each vertex as its degree
pub record IsBMatching (i : Network) (counts : List ℕ) : Type 0 where
  pub one_each : HasCounts i counts
  pub degrees : DegreesMeet i counts (λ v d. d ≡ value_of i v)

-- counts with a degree between the two bounds of each vertex
pub record IsBetweenBounds (i : Network) (counts : List ℕ) : Type 0 where
  pub one_each : HasCounts i counts
  pub degrees : DegreesMeet i counts (λ v d. (low_of i v ≤ d) × (d ≤ high_of i v))

-- no count passes the capacity of its edge
abbrev pub WithinCapacities : Network → List ℕ → Type 0
WithinCapacities i counts = (k : ℕ) → k < length i.edges → IfSome (instance_edge_at i k).capacity
    (λ c. slice_index counts k ≤ c)

-- counts 0 or 1, with degree at most 1 at each vertex
pub record IsMatching (i : Network) (counts : List ℕ) : Type 0 where
  pub one_each : HasCounts i counts
  pub at_most_once : AtMostOnce counts
  pub degrees : DegreesMeet i counts (λ v d. d ≤ 1)

-- counts 0 or 1, with an odd degree exactly at the vertices of odd value
pub record IsJoin (i : Network) (counts : List ℕ) : Type 0 where
  pub one_each : HasCounts i counts
  pub at_most_once : AtMostOnce counts
  pub degrees : DegreesMeet i counts (λ v d. d % 2 ≡ value_of i v % 2)

-- a closed walk of at least one edge that uses each edge
pub record IsTour (i : Network) (start : ℕ) (edges : List ℕ) : Type 0 where
  pub closed : IsClosedWalk (graph_of i) start edges
  pub some : 1 ≤ length edges
  pub all : (e : ℕ) → 1 ≤ e → e ≤ length i.edges → holds edges e ≡ true

-- s and t are the two vertices of odd value, s the lesser
pub record AreEnds (i : Network) (s t : ℕ) : Type 0 where
  pub order : s < t
  pub exact : (v : ℕ) → ((1 ≤ v) × (v ≤ vertices i) × (value_of i v % 2 ≡ 1)) ↔ ((v ≡ s) ⊎ (v ≡ t))

-- a walk of at least one edge from s to t that comes to no vertex twice
pub record IsPath (i : Network) (start : ℕ) (edges : List ℕ) : Type 0 where
  pub finish : ℕ
  pub ends : AreEnds i start finish
  pub walk : IsWalk (graph_of i) start edges
  pub arrives : walk_end (graph_of i) start edges ≡ finish
  pub some : 1 ≤ length edges
  pub no_vertex_twice : AllDiffer (walk_vertices (graph_of i) start edges)

-- such a path of an odd number of edges, or of an even one
pub record IsPathOf (odd : Bool) (i : Network) (start : ℕ) (edges : List ℕ) : Type 0 where
  pub path : IsPath i start edges
  pub parity : (length edges % 2 == 1) ≡ odd

-- the answer is counts, and this holds of them
abbrev pub AreCounts : (List ℕ → Type 0) → Answer → Type 0
AreCounts P (Counts counts) = P counts
AreCounts P (Walk start edges) = ⊥
AreCounts P Nothing = ⊥

-- the answer is a walk, and the one holds of its start and its edges; or the empty walk, and the
-- other holds
abbrev pub IsWalkWith : (ℕ → List ℕ → Type 0) → Type 0 → Answer → Type 0
IsWalkWith P E (Counts counts) = ⊥
IsWalkWith P E (Walk start edges) = P start edges
IsWalkWith P E Nothing = E

-- the answer is feasible for the kind
abbrev pub IsFeasible : Kind → Network → Answer → Type 0
IsFeasible Perfect i answer = AreCounts (IsPerfect (graph_of i)) answer
IsFeasible Match i answer = AreCounts (IsMatching i) answer
IsFeasible BMatch i answer = AreCounts (IsBMatching i) answer
IsFeasible CapMatch i answer = AreCounts (λ counts. IsBMatching i counts
    × WithinCapacities i counts) answer
IsFeasible FFactor i answer = AreCounts (λ counts. IsBMatching i counts × AtMostOnce counts) answer
IsFeasible TJoin i answer = AreCounts (IsJoin i) answer
IsFeasible Postman i answer = IsWalkWith (IsTour i) (length i.edges ≡ 0) answer
IsFeasible Path i answer = IsWalkWith (IsPath i) ⊥ answer
IsFeasible Interval i answer = AreCounts (λ counts. IsBetweenBounds i counts
    × WithinCapacities i counts) answer
IsFeasible OddPath i answer = IsWalkWith (IsPathOf true i) ⊥ answer
IsFeasible EvenPath i answer = IsWalkWith (IsPathOf false i) ⊥ answer
IsFeasible Bottleneck i answer = AreCounts (IsPerfect (graph_of i)) answer
IsFeasible Gallai i answer = AreCounts (IsMatching i) answer

-- the weights of the edges, each as often as the answer uses it, added up; or the greatest of them;
-- or how many edges are used, of a walk each as often as it is
abbrev pub weight_by : Cost → Network → Answer → ℤ
weight_by Total i (Counts counts) = weight (graph_of i) counts
weight_by Total i (Walk start edges) = walk_weight (graph_of i) edges
weight_by Total i Nothing = pos 0
weight_by Heaviest i (Counts counts) = heaviest (graph_of i) counts
weight_by Heaviest i (Walk start edges) = heaviest_step (graph_of i) edges
weight_by Heaviest i Nothing = pos 0
weight_by Size i (Counts counts) = pos (edges_used (graph_of i) counts)
weight_by Size i (Walk start edges) = pos (length edges)
weight_by Size i Nothing = pos 0

-- what an answer of the kind weighs
abbrev pub weight_of : Kind → Network → Answer → ℤ
weight_of kind i answer = weight_by (measure_of kind) i answer

-- the one weight is at least as good as the other
abbrev pub IsAsGoodBy : Objective → ℤ → ℤ → Type 0
IsAsGoodBy Least one other = one ≤ℤ other
IsAsGoodBy Greatest one other = other ≤ℤ one

abbrev pub IsAsGood : Kind → ℤ → ℤ → Type 0
IsAsGood kind one other = IsAsGoodBy (sense_of kind) one other

-- a best answer: feasible, and as good as every feasible one
pub record IsBest (kind : Kind) (i : Network) (answer : Answer) : Type 0 where
  pub feasible : IsFeasible kind i answer
  pub best : (other : Answer) → IsFeasible kind i other → IsAsGood kind (weight_of kind i answer)
      (weight_of kind i other)
