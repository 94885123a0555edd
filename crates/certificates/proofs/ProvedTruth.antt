-- What a document proves is true.
use Rattle.mb_problem.proofs.Common.{◌≡◌, ℕ, List, Option, None, Some, MatchOption, refl, ap, IsBarrier, dual_value, Multigraph, IsGraph, IsPerfect, barrier_excludes, weak_duality}
use Rattle.mb_problem.proofs.Common.{PathsDecompose, LoopsMatterNot, obstruction_of, proof_of, are_duals, Network, IsNetwork}
use Rattle.mb_problem.specs.declared.kind.Kind.{Kind}
use Rattle.mb_problem.specs.declared.kind.Obstruction.{Obstruction}
use Rattle.mb_problem.specs.declared.kind.Obstruction.TheVariants.{Barrier, OddPart, SplitPart, Never}
use Rattle.mb_problem.specs.declared.kind.BestProof.{BestProof}
use Rattle.mb_problem.specs.declared.kind.BestProof.TheVariants.{Duals, LighterBarrier, OuterPaths}
use Rattle.gadget_base.specs.Certified.{gadget_graph, ReachesAll}
use Rattle.doc_format.specs.declared.document.Document.{Document}
use Rattle.doc_format.specs.declared.part.MemberLine.{MemberLine}
use Rattle.doc_format.specs.declared.status.DocStatus.{DocStatus}
use Rattle.doc_format.specs.declared.status.DocStatus.TheVariants.{Optimal, Infeasible, NonConservative}
use Rattle.certificates.specs.Claims.{numbers, duals_of}
use Rattle.certificates.specs.Certificates.{HasFeasibleAnswer, HasStatedWeight, HasBarrierFor, listed}
use Rattle.certificates.specs.Excluded.{IsExcludedFor}
use Rattle.certificates.specs.Proved.{ProvesBest, ProvesByStatus, IsProved, StatesTruthBy, StatesTruth}
use Rattle.certificates.specs.Laws.{ProvedIsTrue}
use Rattle.certificates.specs.Within.{AreWithin}
use Rattle.certificates.proofs.KindLemmas.{excluded}
use Rattle.certificates.proofs.OuterLemmas.{best-by_paths}
use Rattle.certificates.proofs.WithinLemmas.{are-within}
use Rattle.certificates.proofs.TruthLemmas.{best-by_value, best-by_barrier, no_answer, not_conservative}

-- a barrier leaves no perfect matching
none_perfect : (g : Multigraph) (line : Option MemberLine) → IsGraph g → MatchOption line ⊥ (λ u. IsBarrier g (numbers u.members)) → (counts : List ℕ) → IsPerfect g counts → ⊥
none_perfect g None ok barrier counts perfect = barrier
none_perfect g (Some u) ok barrier counts perfect = barrier_excludes g (numbers u.members) counts ok barrier perfect

by_barrier : (obstruction : Obstruction) (kind : Kind) (i : Network) (d : Document) → obstruction_of kind ≡ obstruction → IsGraph (gadget_graph kind i) → ReachesAll kind i →
    HasBarrierFor obstruction kind i d →
    IsExcludedFor obstruction kind i
by_barrier Barrier kind i d is graph reached barrier = no_answer kind i is reached (none_perfect (gadget_graph kind i) d.barrier graph barrier)
by_barrier OddPart kind i d is graph reached barrier = tt
by_barrier SplitPart kind i d is graph reached barrier = tt
by_barrier Never kind i d is graph reached barrier = barrier

-- by what proves an answer best; where even paths do, by the theorems on them

by_proof : (proof : BestProof) (kind : Kind) (i : Network) (d : Document) → proof_of kind ≡ proof → (proof ≡ OuterPaths → PathsDecompose × LoopsMatterNot) → IsNetwork i →
    AreWithin kind i d →
    IsGraph (gadget_graph kind i) → ReachesAll kind i → HasFeasibleAnswer kind i d → HasStatedWeight kind i d → ProvesBest proof kind i d → StatesTruthBy Optimal kind i d
by_proof (Duals rule) kind i d is theorems ok within graph reached feasible weighs p =
    best-by_value kind i d (dual_value (duals_of d) (listed kind i d)) (ap are_duals is) feasible weighs p.value
    (λ counts perfect. weak_duality (gadget_graph kind i) (duals_of d) (listed kind i d) counts graph p.duals perfect)
    reached
by_proof LighterBarrier kind i d is theorems ok within graph reached feasible weighs p = best-by_barrier kind i d is ok feasible weighs p
by_proof OuterPaths kind i d is theorems ok within graph reached feasible weighs p = (let both = theorems refl in best-by_paths both.0 both.1 kind i d is ok within feasible weighs p)

-- by the status that the document has
truth_of : (status : DocStatus) (kind : Kind) (i : Network) (d : Document) → (proof_of kind ≡ OuterPaths → PathsDecompose × LoopsMatterNot) → IsNetwork i → AreWithin kind i d →
    IsGraph (gadget_graph kind i) → ReachesAll kind i → ProvesByStatus status kind i d → StatesTruthBy status kind i d
truth_of Optimal kind i d theorems ok within graph reached p = by_proof (proof_of kind) kind i d refl theorems ok within graph reached p.feasible p.weighs p.best
truth_of Infeasible kind i d theorems ok within graph reached p = excluded kind i d ok (by_barrier (obstruction_of kind) kind i d refl graph reached p.0) p.1
truth_of NonConservative kind i d theorems ok within graph reached p = not_conservative i d p

pub proved_true : PathsDecompose → LoopsMatterNot → ProvedIsTrue
proved_true paths loops kind i d ok graph reached p = truth_of d.status kind i d (λ _. (paths, loops)) ok (are-within kind i d p.in_range) graph reached p.proves

-- the same of a kind whose answers are proved best by something else
pub proved_true-pathless : (kind : Kind) (i : Network) (d : Document) → (proof_of kind ≡ OuterPaths → ⊥) → IsNetwork i → IsGraph (gadget_graph kind i) →
    ReachesAll kind i → IsProved kind i d →
    StatesTruth kind i d
proved_true-pathless kind i d other ok graph reached p =
    truth_of d.status kind i d (λ paths. absurd (other paths)) ok (are-within kind i d p.in_range) graph reached p.proves
