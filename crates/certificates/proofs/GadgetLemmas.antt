-- The graphs of certificates within their limits, and what their perfect matchings reach.
use Rattle.mb_problem.proofs.Common.{◌≡◌, ℕ, ◌+◌, ◌-◌, ◌≤◌, ℤ, pos, ◌*ℤ◌, ◌≤ℤ◌, Bool, true, false, List, refl, sym, ◌∙◌, subst, ap, arith, GRAPH_VERTEX_LIMIT, IsWithinLimits, sum_to}
use Rattle.mb_problem.proofs.Common.{gadget_of, proof_of, Network, vertices, size_of, certified_size, ports_size, port_count, odd_at, HasWeightsBy, HasWeightsFromZero}
use Rattle.mb_problem.proofs.Common.{IsPerfect, weight, IsFeasible, weight_of, value_for, certified-no-larger, IsLikeBy, ReachesLike, first_with, like-with}
use Rattle.mb_problem.specs.Ready.{HasNeededWeights}
use Rattle.mb_problem.specs.Size.{certified_by}
use Rattle.mb_problem.specs.declared.kind.Kind.{Kind}
use Rattle.mb_problem.specs.declared.kind.Kind.TheVariants.{TJoin, Postman}
use Rattle.mb_problem.specs.declared.kind.Precondition.{Precondition}
use Rattle.mb_problem.specs.declared.kind.BestProof.{BestProof}
use Rattle.mb_problem.specs.declared.kind.BestProof.TheVariants.{Duals, LighterBarrier, OuterPaths}
use Rattle.mb_problem.specs.declared.answer.Answer.{Answer}
use Rattle.mb_problem.specs.declared.answer.Parity.{Parity}
use Rattle.mb_problem.specs.declared.answer.Parity.TheVariants.{Empty, Values, OddDegrees}
use Rattle.gadget_base.proofs.Common.{ports_graph, graph_by, gadget_graph, IsReached, IsReachedBy, ReachesAll, ReachesAllBy}
use Rattle.gadget_parity.specs.Sides.{path_kind}
use Rattle.certificates.proofs.TruthLemmas.{reached-weighs}
use Rattle.mb_problem.specs.declared.gadget.GadgetForm.{GadgetForm}
use Rattle.mb_problem.specs.declared.gadget.GadgetForm.TheVariants.{Ports, PathPorts, Sides, Unweighted}

ports-vertices : (i : Network) (odd : ℕ → ℕ) → (ports_graph i odd).vertices ≡ (ports_size i odd).vertices
ports-vertices i odd = let last : vertices i + 1 - 1 ≡ vertices i = omega arith in ap (λ (n : ℕ). sum_to (λ k. port_count i odd (k + 1)) n) last

-- the graph has the vertices of its size
certified_count : (gadget : GadgetForm) (i : Network) → (certified_by gadget i).vertices ≡ (graph_by gadget i).vertices
certified_count (Ports parity) i = sym (ports-vertices i (odd_at parity i))
certified_count PathPorts i = sym (ports-vertices i (odd_at Values i))
certified_count gadget i = refl

pub certified_vertices : (kind : Kind) (i : Network) → (certified_size kind i).vertices ≡ (gadget_graph kind i).vertices
certified_vertices kind i = certified_count (gadget_of kind) i

pub few_vertices : (kind : Kind) (i : Network) → IsWithinLimits (size_of kind i) → (gadget_graph kind i).vertices ≤ GRAPH_VERTEX_LIMIT
few_vertices kind i limits = omega (arith, certified_vertices kind i, (certified-no-larger kind i).vertices, limits.vertices)

-- ---- what perfect matchings the graph has, from the first kind with it

module _ (kind first : Kind) (i : Network) (answer : Answer) (same : gadget_of first ≡ gadget_of kind) (weights : HasNeededWeights kind i) where
  reached_first : ReachesLike kind first → (HasNeededWeights first i → ReachesAll first i) → IsFeasible kind i answer → IsReached first i answer
  reached_first like reached feasible =
      let needed = subst (λ (n : Precondition). HasWeightsBy n i) (sym like.need) weights in
      reached-weighs (proof_of first) first i answer like.duals (reached needed answer (like.feasible i answer feasible))

  perfect_too : (counts : List ℕ) → IsPerfect (gadget_graph first i) counts → IsPerfect (gadget_graph kind i) counts
  perfect_too counts perfect = subst (λ (g : GadgetForm). IsPerfect (graph_by g i) counts) same perfect

  weighs_too : (counts : List ℕ) (v w : ℤ) → v ≡ w → (pos 2 *ℤ weight (gadget_graph first i) counts) ≤ℤ v → (pos 2 *ℤ weight (gadget_graph kind i) counts) ≤ℤ w
  weighs_too counts v w value weighs =
      let here : (pos 2 *ℤ weight (gadget_graph kind i) counts) ≤ℤ v = subst (λ (g : GadgetForm). (pos 2 *ℤ weight (graph_by g i) counts) ≤ℤ v) same weighs in
      subst (λ (x : ℤ). (pos 2 *ℤ weight (gadget_graph kind i) counts) ≤ℤ x) value here

  reached_like : (proof : BestProof) → IsLikeBy proof kind first → (HasNeededWeights first i → ReachesAll first i) → IsFeasible kind i answer → IsReachedBy proof kind i answer
  reached_like (Duals value) like reached feasible =
      let r = reached_first like.reaches reached feasible in
      record {
        counts = r.counts;
        perfect = perfect_too r.counts r.perfect;
        weighs = weighs_too r.counts (value_for first i (weight_of first i answer)) (value_for kind i (weight_of kind i answer)) (like.value i answer) r.weighs;
      }
  reached_like LighterBarrier like reached feasible = (let r = reached_first like reached feasible in (r.counts, perfect_too r.counts r.perfect))
  reached_like OuterPaths like reached feasible = tt

pub reaches-with : (gadget : GadgetForm) (i : Network) → (HasNeededWeights (first_with gadget) i → ReachesAll (first_with gadget) i) → ReachesAllBy gadget i
reaches-with gadget i reached = λ kind is weights answer feasible.
    (let like = like-with kind gadget is in
    reached_like kind (first_with gadget) i answer like.gadget weights (proof_of kind) like.answers reached feasible)

pub reaches-sides : (odd : Bool) (i : Network) → ReachesAll (path_kind odd) i → ReachesAllBy (Sides odd) i
reaches-sides true i reached = reaches-with (Sides true) i (λ weights. reached)
reaches-sides false i reached = reaches-with (Sides false) i (λ weights. reached)

pub reaches-ports : (parity : Parity) (i : Network) → (parity ≡ Values → ReachesAll TJoin i) → (parity ≡ OddDegrees → HasWeightsFromZero i → ReachesAll Postman i)
    → ReachesAllBy (Ports parity) i
reaches-ports Empty i joins tours = λ kind is weights. (let same = (like-with kind (Ports Empty) is).gadget ∙ is in absurd (cc))
reaches-ports Values i joins tours = reaches-with (Ports Values) i (λ weights. joins refl)
reaches-ports OddDegrees i joins tours = reaches-with (Ports OddDegrees) i (λ weights. tours refl weights)

pub reaches-unweighted : (i : Network) → ReachesAllBy Unweighted i
reaches-unweighted i = reaches-with Unweighted i (λ weights answer feasible. tt)
