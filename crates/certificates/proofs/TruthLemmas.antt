-- What accepted documents state is true.
use Rattle.mb_problem.proofs.Common.{◌≡◌, ℕ, ℤ, pos, ◌*ℤ◌, ◌≤ℤ◌, ◌<ℤ◌, true, List, length, Option, None, Some, MatchOption, nat_abs, refl, sym, ap, subst}
use Rattle.mb_problem.proofs.Common.{arith, dec_lt, ints, IsBarrier, IsPerfect, weight, IsCircuit, IsConservative, walk_weight, proof_of, obstruction_of, are_duals, Network, IsNetwork}
use Rattle.mb_problem.proofs.Common.{vertices, graph_of, plain_graph, IsFeasible, IsAsGood, weight_of, heaviest, value_for, value-order, only-bottleneck, only-gallai}
use Rattle.mb_problem.specs.declared.kind.Kind.{Kind}
use Rattle.mb_problem.specs.declared.answer.Answer.TheVariants.{Counts, Walk, Nothing}
use Rattle.gadget_base.proofs.Common.{gadget_graph, ReachesAll, IsReached, IsReachedBy, IsMatchable, lighter_than}
use Rattle.mb_problem.specs.declared.kind.Kind.TheVariants.{Bottleneck}
use Rattle.mb_problem.specs.declared.kind.Obstruction.TheVariants.{Barrier}
use Rattle.mb_problem.specs.declared.kind.BestProof.{BestProof}
use Rattle.mb_problem.specs.declared.kind.BestProof.TheVariants.{Duals, LighterBarrier, OuterPaths}
use Rattle.mb_problem.specs.declared.answer.Answer.{Answer}
use Rattle.doc_format.specs.declared.document.Document.{Document}
use Rattle.doc_format.specs.declared.part.MemberLine.{MemberLine}
use Rattle.doc_format.specs.declared.part.WalkLine.{WalkLine}
use Rattle.doc_format.specs.declared.status.DocStatus.TheVariants.{Optimal}
use Rattle.certificates.specs.Claims.{numbers, counts_of}
use Rattle.certificates.specs.Certificates.{HasFeasibleAnswer, HasStatedWeight, HasLighterBarrier, HasNegativeCircuit}
use Rattle.certificates.specs.Excluded.{HasNoAnswer}
use Rattle.certificates.specs.Proved.{StatesSetsBy, StatesTruthBy}
use Rattle.certificates.proofs.Lighter.{heaviest-no_less, heaviest-none}

-- what each answer reaches, by what proves an answer best

pub reached-weighs : (proof : BestProof) (kind : Kind) (i : Network) (answer : Answer) → are_duals proof ≡ true → IsReachedBy proof kind i answer → IsReached kind i answer
reached-weighs (Duals value) kind i answer duals r = r
reached-weighs LighterBarrier kind i answer duals r = absurd (cc)
reached-weighs OuterPaths kind i answer duals r = absurd (cc)

reached-matchable : (proof : BestProof) (kind : Kind) (i : Network) (answer : Answer) → (proof ≡ OuterPaths → ⊥) → IsReachedBy proof kind i answer →
    IsMatchable (gadget_graph kind i)
reached-matchable (Duals value) kind i answer other r = (r.counts, r.perfect)
reached-matchable LighterBarrier kind i answer other r = r
reached-matchable OuterPaths kind i answer other r = absurd (other refl)

-- a kind whose answers barriers exclude isn't the one whose answers paths prove best
barred-other : (kind : Kind) → obstruction_of kind ≡ Barrier → proof_of kind ≡ OuterPaths → ⊥
barred-other kind excluded paths = (let same = ap obstruction_of (only-gallai kind paths) in absurd (cc))

-- no sets are asked for but beside paths
no_sets : (proof : BestProof) (i : Network) (d : Document) → (proof ≡ OuterPaths → ⊥) → StatesSetsBy proof i d
no_sets (Duals value) i d other = tt
no_sets LighterBarrier i d other = tt
no_sets OuterPaths i d other = absurd (other refl)

-- no perfect matching of the graph weighs less than half the value, and each answer has one: so the stated answer is best
pub best-by_value : (kind : Kind) (i : Network) (d : Document) (value : ℤ) → are_duals (proof_of kind) ≡ true → HasFeasibleAnswer kind i d → HasStatedWeight kind i d →
    value ≡ value_for kind i d.weight → ((counts : List ℕ) → IsPerfect (gadget_graph kind i) counts → value ≤ℤ (pos 2 *ℤ weight (gadget_graph kind i) counts))
    → ReachesAll kind i
    → StatesTruthBy Optimal kind i d
best-by_value kind i d value duals feasible weighs is below reached = (
  record {
    feasible = feasible;
    best = λ other allowed.
        (let r = reached-weighs (proof_of kind) kind i other duals (reached other allowed) in
        let least : value ≤ℤ (pos 2 *ℤ weight (gadget_graph kind i) r.counts) = below r.counts r.perfect in
        let most : (pos 2 *ℤ weight (gadget_graph kind i) r.counts) ≤ℤ value_for kind i (weight_of kind i other) = r.weighs in
        let order : value_for kind i d.weight ≤ℤ value_for kind i (weight_of kind i other) = omega (arith, ints) in
        subst (λ (w : ℤ). IsAsGood kind w (weight_of kind i other)) (sym weighs) (value-order kind i d.weight (weight_of kind i other) order));
  },
  weighs,
  no_sets (proof_of kind) i d (λ paths. (let none = ap are_duals paths in absurd (cc))),
)

-- a barrier of the edges below w: no perfect matching weighs less
by_line : (i : Network) (w : ℤ) (counts : List ℕ) (line : Option MemberLine) → IsNetwork i → IsPerfect (graph_of i) counts →
    MatchOption line ⊥ (λ u. IsBarrier (lighter_than w (plain_graph i)) (numbers u.members)) → w ≤ℤ heaviest (graph_of i) counts
by_line i w counts None ok perfect barrier = absurd barrier
by_line i w counts (Some u) ok perfect barrier = heaviest-no_less i w (numbers u.members) counts ok perfect barrier

none_lighter : (i : Network) (d : Document) (other : Answer) → IsNetwork i → HasStatedWeight Bottleneck i d → HasLighterBarrier Bottleneck i d → IsFeasible Bottleneck i other →
    d.weight ≤ℤ weight_of Bottleneck i other
none_lighter i d (Walk start edges) ok weighs barrier allowed = absurd allowed
none_lighter i d Nothing ok weighs barrier allowed = absurd allowed
none_lighter i d (Counts counts) ok weighs barrier allowed = elim (dec_lt 0 (vertices i)) [
  | yes some ↦ by_line i d.weight counts d.barrier ok allowed (barrier (λ none. omega (arith, some, none)))
  | no empty ↦
      (let none : vertices i ≡ 0 = omega arith in
      omega (arith, ints, heaviest-none i (counts_of d.counts (length i.edges)) ok none, heaviest-none i counts ok none, weighs))
]

pub best-by_barrier : (kind : Kind) (i : Network) (d : Document) → proof_of kind ≡ LighterBarrier → IsNetwork i → HasFeasibleAnswer kind i d → HasStatedWeight kind i d →
    HasLighterBarrier kind i d → StatesTruthBy Optimal kind i d
best-by_barrier kind i d is ok =
    subst (λ (k : Kind). HasFeasibleAnswer k i d → HasStatedWeight k i d → HasLighterBarrier k i d → StatesTruthBy Optimal k i d) (only-bottleneck kind is)
    (λ feasible weighs barrier. (
      record {
        feasible = feasible;
        best = λ other allowed. subst (λ (w : ℤ). w ≤ℤ weight_of Bottleneck i other) (sym weighs) (none_lighter i d other ok weighs barrier allowed);
      },
      weighs,
      tt,
    ))

-- each answer of a kind that barriers exclude has a perfect matching: where there is none, there is no answer
pub no_answer : (kind : Kind) (i : Network) → obstruction_of kind ≡ Barrier → ReachesAll kind i → ((counts : List ℕ) → IsPerfect (gadget_graph kind i) counts → ⊥) →
    HasNoAnswer kind i
no_answer kind i excluded reached none answer feasible = (let r = reached-matchable (proof_of kind) kind i answer (barred-other kind excluded) (reached answer feasible) in none r.0 r.1)

-- a circuit that weighs less than 0 makes weights that aren't conservative
negative : (i : Network) (line : Option WalkLine) →
    MatchOption line ⊥ (λ w. IsCircuit (graph_of i) (nat_abs w.start) (numbers w.edges) × (walk_weight (graph_of i) (numbers w.edges) <ℤ pos 0)) → IsConservative (graph_of i) → ⊥
negative i None circuit conservative = circuit
negative i (Some w) circuit conservative =
    let low : pos 0 ≤ℤ walk_weight (graph_of i) (numbers w.edges) = conservative (nat_abs w.start) (numbers w.edges) circuit.0 in
    let high : walk_weight (graph_of i) (numbers w.edges) <ℤ pos 0 = circuit.1 in
    absurd (omega (arith, ints))

pub not_conservative : (i : Network) (d : Document) → HasNegativeCircuit i d → IsConservative (graph_of i) → ⊥
not_conservative i d circuit = negative i d.walk circuit
