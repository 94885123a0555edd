use Rattle.alt_forest.proofs.Common.{◌≡◌, ◌≢◌, ◌∙◌, ℕ, ◌+◌, length, edges_around, sum_to, ◌≤ℤ◌, true, refl, sym, ap, subst, arith, rules, Multigraph, IsStart}
use Rattle.alt_forest.proofs.Common.{edge_of, is_given, is_vertex, state_of}
use Rattle.alt_forest.specs.declared.search.Search.{Search}
use Rattle.alt_forest.specs.declared.weights.Weights.{Weights}
use Rattle.alt_forest.specs.declared.weights.Weights.TheVariants.{Given, Zero}
use Rattle.search_start.specs.Starts.{IsLifted}
use Rattle.search_start.proofs.StartPass.{round_looks}
use Rattle.search_start.proofs.raising.lift_all.Goals as goal

pub lift-requires-clause-start : goal.lift-requires-clause-start
lift-requires-clause-start g c =
    let given : c.args.search.now.weights ≡ Given = search rules in
    let here = subst (λ (w : Weights). IsStart c.args.search.now.graph w c.args.search.now.start) given c.requires.start in
    let graph : c.args.search.now.graph ≡ c.loop-place.search.graph = sym (ap (λ (x : Search). x.graph) c.loop-place.invariant.frame) in
    subst (λ (k : Multigraph). IsStart k Given c.loop-place.search.start) graph
    (subst (IsStart c.args.search.now.graph Given) (sym (ap (λ (x : Search). x.start) c.loop-place.invariant.frame)) here)

pub loop-place-init : goal.loop-place-init
loop-place-init g c =
    let s = c.args.search.now in let given : s.weights ≡ Given = search rules in
    let start = subst (λ (w : Weights). IsStart s.graph w s.start) given c.requires.start in
    let dual : (v : ℕ) → is_vertex s.graph.vertices v ≡ true → (state_of s).dual v ≡ s.start =
    λ v vertex. c.requires.duals v vertex in
    let lifted : IsLifted (state_of s) s.start 0 = record {
      weighted = ap is_given given;
      started = c.requires.started;
      below = λ v e vertex is at. subst (λ x. x ≤ℤ (edge_of s.graph e).w) (sym (dual v vertex)) (start.1 e is);
      waiting = λ v vertex later. dual v vertex;
      unmated = c.requires.mates;
    } in
    record { sound = c.requires.sound; lifted = lifted; frame = refl; inspections = omega arith }

pub returns : goal.returns
returns g c =
    let i = c.loop-place.invariant in
    let good = c.requires.sound.shape.graph.graph in
    let looks = round_looks c.args.search.now.graph c.loop-place.place c.vertices-place-end.result c.args.steps.now c.loop-place.steps good c.vertices-place-end.ensures.count
    c.loop-place-test.false c.loop-place.auto.place-end (omega (arith, i.inspections)) in
    let all : c.loop-place.place ≡ c.args.search.now.graph.vertices = omega (arith, c.vertices-place-end.ensures.count, c.loop-place-test.false, c.loop-place.auto.place-end) in
    let some : c.args.search.now.weights ≢ Zero = search rules in
    record {
      sound = i.sound;
      started = i.lifted.started;
      frame = i.frame;
      inspections = looks;
      exact = λ _. i.inspections ∙ ap (λ k. c.args.steps.now + sum_to (λ i. length (edges_around c.args.search.now.graph (i + 1))) k) all;
      flat = λ zero. absurd (some zero);
    }
