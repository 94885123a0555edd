-- What the parts of a document have to be for it to prove its answer, one fact a rule.
use Rattle.std.specs.Prelude.{◌≡◌, ◌≢◌, ℕ, ◌<◌, ◌≤◌, ◌%◌, pos, ◌≤ℤ◌, ◌<ℤ◌}
use Rattle.std.specs.Prelude.{◌==◌, Bool, true, List, [], ◌∷◌, length, slice_index_or, All, ⊤}
use Rattle.std.specs.Prelude.{MatchOption, nat_abs}
use Rattle.graph_theory.specs.Barrier.{IsBarrier}
use Rattle.gallai_theory.specs.Decomposition.{IsEvenPath, IsDecomposed}
use Rattle.graph_theory.specs.Duals.{DualSet, slack, dual_value}
use Rattle.graph_theory.specs.OddSets.{HasItemForm, listed_sets}
use Rattle.graph_theory.specs.Parts.{holds, IsOddPart, IsSplitPart}
use Rattle.graph_theory.specs.Walk.{IsCircuit, walk_weight}
use Rattle.mb_problem.specs.declared.kind.Kind.{Kind}
use Rattle.mb_problem.specs.declared.kind.Obstruction.{Obstruction}
use Rattle.mb_problem.specs.declared.kind.Obstruction.TheVariants.{Barrier, OddPart, SplitPart}
use Rattle.mb_problem.specs.declared.kind.Obstruction.TheVariants.{Never}
use Rattle.mb_problem.specs.declared.kind.BestProof.{BestProof}
use Rattle.mb_problem.specs.declared.kind.BestProof.TheVariants.{Duals, LighterBarrier, OuterPaths}
use Rattle.mb_problem.specs.Kinds.{obstruction_of, proof_of}
use Rattle.mb_problem.specs.Network.{Network, vertices, graph_of, value_of}
use Rattle.mb_problem.specs.Feasible.{IsFeasible, weight_of}
use Rattle.mb_problem.specs.Values.{value_for}
use Rattle.gadget_base.specs.Certified.{gadget_graph}
use Rattle.gadget_base.specs.Lighter.{lighter_than}
use Rattle.doc_format.specs.declared.document.Document.{Document}
use Rattle.doc_format.specs.declared.status.DocStatus.{DocStatus}
use Rattle.doc_format.specs.declared.status.DocStatus.TheVariants.{Optimal, Infeasible}
use Rattle.doc_format.specs.declared.status.DocStatus.TheVariants.{NonConservative}
use Rattle.doc_format.specs.declared.part.PathLine.{PathLine}
use Rattle.doc_format.specs.declared.part.SetItem.{SetItem}
use Rattle.doc_format.specs.declared.part.SetItem.TheVariants.{Vertex, Reference}
use Rattle.doc_format.specs.declared.part.SetLine.{SetLine}
use Rattle.certificates.specs.Claims.{answer_of, duals_of, HasDual, vertices_in, sets_of, numbers}
use Rattle.certificates.specs.Claims.{members_of, stated_counts, path_starts}

abbrev pub HasFeasibleAnswer : Kind → Network → Document → Type 0
HasFeasibleAnswer kind i d = IsFeasible kind i (answer_of kind i d)

abbrev pub HasStatedWeight : Kind → Network → Document → Type 0
HasStatedWeight kind i d = weight_of kind i (answer_of kind i d) ≡ d.weight

-- every vertex of the certificate graph has a y line
abbrev pub HasDuals : Kind → Network → Document → Type 0
HasDuals kind i d = (v : ℕ) → 1 ≤ v → v ≤ (gadget_graph kind i).vertices → HasDual d v

-- no vertex comes after a reference
abbrev pub vertices_first : List SetItem → Bool
vertices_first [] = true
vertices_first (Vertex v ∷ items) = vertices_first items
vertices_first (Reference j ∷ items) = length (vertices_in items) == 0

-- The z line at a place, from 0: an odd number of at least three items, vertices before references,
-- both ascending; no earlier line refers to a set that it refers to, and no two of its items have a
-- member in common.
pub record HasLineForm (d : Document) (k : ℕ) : Type 0 where
  pub sorted : (z : SetLine) → z ≡ slice_index_or d.sets k z → vertices_first z.items ≡ true
  pub items : HasItemForm (sets_of d) k

-- every z line has form
abbrev pub HaveForm : Document → Type 0
HaveForm d = (k : ℕ) → k < length d.sets → HasLineForm d k

-- the odd sets with all their members listed, among the vertices of the certificate graph
abbrev pub listed : Kind → Network → Document → List DualSet
listed kind i d = listed_sets (gadget_graph kind i).vertices (sets_of d)

-- no edge of the certificate graph has a negative slack
abbrev pub HaveSlack : Kind → Network → Document → Type 0
HaveSlack kind i d =
    All (λ e. pos 0 ≤ℤ slack (duals_of d) (listed kind i d) e) (gadget_graph kind i).edges

-- the value of the duals is the one that the stated weight asks for
abbrev pub HasValue : Kind → Network → Document → Type 0
HasValue kind i d = dual_value (duals_of d) (listed kind i d) ≡ value_for kind i d.weight

-- the same where duals prove an answer best; else nothing is asked of duals
abbrev pub HasDualsBy : BestProof → Kind → Network → Document → Type 0
HasDualsBy (Duals value) kind i d = HasDuals kind i d
HasDualsBy LighterBarrier kind i d = ⊤
HasDualsBy OuterPaths kind i d = ⊤

abbrev pub HaveSlackBy : BestProof → Kind → Network → Document → Type 0
HaveSlackBy (Duals value) kind i d = HaveSlack kind i d
HaveSlackBy LighterBarrier kind i d = ⊤
HaveSlackBy OuterPaths kind i d = ⊤

abbrev pub HasValueBy : BestProof → Kind → Network → Document → Type 0
HasValueBy (Duals value) kind i d = HasValue kind i d
HasValueBy LighterBarrier kind i d = ⊤
HasValueBy OuterPaths kind i d = ⊤

abbrev pub HasWantedDuals : Kind → Network → Document → Type 0
HasWantedDuals kind i d = HasDualsBy (proof_of kind) kind i d

abbrev pub HaveWantedSlack : Kind → Network → Document → Type 0
HaveWantedSlack kind i d = HaveSlackBy (proof_of kind) kind i d

abbrev pub HasWantedValue : Kind → Network → Document → Type 0
HasWantedValue kind i d = HasValueBy (proof_of kind) kind i d

-- there are no vertices; or there is a u line, and its set is a barrier of the certificate graph
-- with the edges alone that weigh less than what is stated (chapter 24)
abbrev pub HasLighterBarrier : Kind → Network → Document → Type 0
HasLighterBarrier kind i d = vertices i ≢ 0
    → MatchOption d.barrier ⊥
    (λ u. IsBarrier (lighter_than d.weight (gadget_graph kind i)) (numbers u.members))

-- An r line is a path from a member of the d line, in the graph of the instance with its loops:
-- along the stated matching in turn, to a vertex that it misses (chapter 24).
pub record IsStatedPath (i : Network) (d : Document) (r : PathLine) : Type 0 where
  pub member : holds (members_of d.outer) (nat_abs r.vertex) ≡ true
  pub path : IsEvenPath (graph_of i) (stated_counts i d) (nat_abs r.vertex) (numbers r.edges)

-- every r line is one
abbrev pub HavePathForm : Network → Document → Type 0
HavePathForm i d = All (IsStatedPath i d) d.paths

-- there is a d line, and each of its members has an r line
abbrev pub HasAllPaths : Document → Type 0
HasAllPaths d = MatchOption d.outer ⊥ (λ line. (v : ℕ) → holds (numbers line.members) v ≡ true
    → holds (path_starts d) v ≡ true)

-- there is a u line, and its set is the border of the d line's, without which the certificate graph
-- has as many odd components as it has to, each within the d line's
abbrev pub HasDecomposition : Kind → Network → Document → Type 0
HasDecomposition kind i d = MatchOption d.barrier ⊥ (λ u. IsDecomposed (gadget_graph kind i)
    (nat_abs d.weight) (members_of d.outer) (numbers u.members))

-- what is asked of paths, if they are what proves an answer best
abbrev pub HavePathsBy : BestProof → Network → Document → Type 0
HavePathsBy (Duals value) i d = ⊤
HavePathsBy LighterBarrier i d = ⊤
HavePathsBy OuterPaths i d = HavePathForm i d

abbrev pub HasAllPathsBy : BestProof → Document → Type 0
HasAllPathsBy (Duals value) d = ⊤
HasAllPathsBy LighterBarrier d = ⊤
HasAllPathsBy OuterPaths d = HasAllPaths d

abbrev pub HaveWantedPaths : Kind → Network → Document → Type 0
HaveWantedPaths kind i d = HavePathsBy (proof_of kind) i d

abbrev pub HasAllWantedPaths : Kind → Document → Type 0
HasAllWantedPaths kind d = HasAllPathsBy (proof_of kind) d

-- the barrier or border that stands beside a best answer, if that is what proves it
abbrev pub HasBarrierBeside : BestProof → Kind → Network → Document → Type 0
HasBarrierBeside (Duals value) kind i d = ⊤
HasBarrierBeside LighterBarrier kind i d = HasLighterBarrier kind i d
HasBarrierBeside OuterPaths kind i d = HasDecomposition kind i d

-- there is a u line, and its set is a barrier of the certificate graph
abbrev pub HasBarrier : Kind → Network → Document → Type 0
HasBarrier kind i d = MatchOption d.barrier ⊥
    (λ u. IsBarrier (gadget_graph kind i) (numbers u.members))

-- there is a t line, and its set is an odd part
abbrev pub HasOddPart : Network → Document → Type 0
HasOddPart i d = MatchOption d.odd ⊥
    (λ t. IsOddPart (graph_of i) (λ v. value_of i v % 2 == 1) (numbers t.members))

-- there is a q line, and its set is a split part
abbrev pub HasSplitPart : Network → Document → Type 0
HasSplitPart i d = MatchOption d.split ⊥ (λ q. IsSplitPart (graph_of i) (numbers q.members))

-- there is a w line, and its walk is a circuit that weighs less than 0
abbrev pub HasNegativeCircuit : Network → Document → Type 0
HasNegativeCircuit i d = MatchOption d.walk ⊥
    (λ w. IsCircuit (graph_of i) (nat_abs w.start) (numbers w.edges)
    × (walk_weight (graph_of i) (numbers w.edges) <ℤ pos 0))

-- the barrier, if that is what excludes all answers; a kind that always has an answer has no
-- infeasible document
abbrev pub HasBarrierFor : Obstruction → Kind → Network → Document → Type 0
HasBarrierFor Barrier kind i d = HasBarrier kind i d
HasBarrierFor OddPart kind i d = ⊤
HasBarrierFor SplitPart kind i d = ⊤
HasBarrierFor Never kind i d = ⊥

-- the part that no edge leaves, if that is what excludes all answers
abbrev pub HasPartFor : Obstruction → Network → Document → Type 0
HasPartFor Barrier i d = ⊤
HasPartFor OddPart i d = HasOddPart i d
HasPartFor SplitPart i d = HasSplitPart i d
HasPartFor Never i d = ⊤

-- the barrier that an infeasible document of a kind with u lines needs
abbrev pub HasWantedBarrier : Kind → Network → Document → Type 0
HasWantedBarrier kind i d = HasBarrierFor (obstruction_of kind) kind i d

-- the barrier that a document needs, by its status
abbrev pub HasBarrierByStatus : DocStatus → Kind → Network → Document → Type 0
HasBarrierByStatus Optimal kind i d = HasBarrierBeside (proof_of kind) kind i d
HasBarrierByStatus Infeasible kind i d = HasWantedBarrier kind i d
HasBarrierByStatus NonConservative kind i d = ⊤

-- the closed part that an infeasible document of a kind with t or q lines needs
abbrev pub HasWantedPart : Kind → Network → Document → Type 0
HasWantedPart kind i d = HasPartFor (obstruction_of kind) i d
