use Rattle.alt_forest.proofs.Common.{◌≡◌, ◌∙◌, ℕ, ◌+◌, ◌*◌, ◌≤◌, true, Some, refl, ap, sym, subst, vec_capacity, vec_len}
use Rattle.alt_forest.proofs.Common.{Multigraph, most_blossoms, AllByRecursion, is_node}
use Rattle.alt_forest.specs.declared.search.Search.{Search}
use Rattle.mwpm_engine.specs.declared.outcome.Outcome.{Outcome}
use Rattle.mwpm_engine.specs.declared.outcome.Outcome.TheVariants.{Matched, Barrier}
use Rattle.mwpm_engine.specs.Solutions.{AllWeigh, Solution, close_steps, most_steps, size_of_graph}
use Rattle.mwpm_engine.specs.Passes.{Concludes, IsEnough, IsParted}
use Rattle.mwpm_engine.proofs.RunCounts.{close_enough, halved, most_enough}
use Rattle.mwpm_engine.proofs.Concluded.{ends}
use Rattle.mwpm_engine.proofs.engine.Engine.solve.Goals as goal

-- a run that found a barrier has ended with a stuck forest
parted_of : (s : Search) (o : Outcome) → Concludes s o → Some o ≡ Some Barrier → IsParted s
parted_of s Matched h q = absurd (cc)
parted_of s Barrier h q = h

-- what is enough for a run on the graph that the engine was made for
allowed : (g k : Multigraph) (most : Multigraph → ℕ) (old new : ℕ) → ((m : ℕ) → IsEnough g m → new ≤ old + m) → g ≡ k → IsEnough k (most k) → new ≤ old + most k
allowed g k most old new within same enough = within (most k) (subst (λ (h : Multigraph). IsEnough h (most k)) (sym same) enough)

pub solve-outcome-requires : goal.solve-outcome-requires
solve-outcome-requires g c =
    let i = c.self.invariant in
    record { shape = i.shape; places = i.places }

pub list_sets-requires : goal.list_sets-requires
list_sets-requires g c =
    let e = c.solve-outcome.ensures in
    let size = e.shape.arena ∙ ap (λ (k : Multigraph). k.vertices) e.graph in
    record { room = subst (λ n. most_blossoms n ≤ vec_capacity c.self.inside.sets) (sym size) c.self.invariant.room }

pub invariant_of-self : goal.invariant_of-self
invariant_of-self g c =
    let s : Search = c.solve-outcome.new.search in let e = c.solve-outcome.ensures in
    let l = c.list_sets.ensures in let list = c.list_sets.new.sets in
    let nodes = subst (λ n. AllByRecursion (λ b. is_node n s.arena.blossoms b ≡ true) list.items) e.shape.arena l.nodes in
    let few = subst (λ n. vec_len list ≤ most_blossoms n) e.shape.arena l.size_limit in
    let had = subst (λ (k : Multigraph). most_blossoms k.vertices ≤ vec_capacity c.self.inside.sets) (sym e.graph) c.self.invariant.room in
    let room = subst (λ n. most_blossoms s.graph.vertices ≤ n) (sym l.capacity) had in
    record { shape = e.shape; places = e.places; nodes = nodes; size_limit = few; room = room; parted = λ q. parted_of s c.solve-outcome.result e.concludes q }

pub returns : goal.returns
returns g c =
    let good = c.self.invariant.shape.graph in let same = ap (λ (t : Solution). t.graph) c.self.view_is in
    let e = c.solve-outcome.ensures in
    let done = ends c.solve-outcome.new.search c.solve-outcome.result c.list_sets.new.sets.items e.concludes c.list_sets.ensures.proving in
    let steps = subst (λ (k : Multigraph). c.solve-outcome.new.steps ≤ c.args.steps.now + most_steps (size_of_graph k)) same
    (allowed c.self.inside.search.graph _ (λ k. most_steps (size_of_graph k)) _ _ e.steps refl (most_enough _ good.graph good.loopless)) in
    let close = subst (λ (k : Multigraph). c.solve-outcome.new.steps ≤ c.args.steps.now + close_steps (size_of_graph k)) same
    (allowed c.self.inside.search.graph _ (λ k. close_steps (size_of_graph k)) _ _ e.steps refl (close_enough _ good.graph good.loopless)) in
    record {
      outcome = refl;
      graph = e.graph ∙ same;
      ends = done;
      steps = steps;
      close_bound = close;
      alike = λ is w all. subst (λ (k : Multigraph). 2 * c.solve-outcome.new.steps ≤ 2 * c.args.steps.now + most_steps (size_of_graph k)) same
          (halved c.self.inside.search.graph _ (λ k. most_steps (size_of_graph k)) _ _ (e.alike is w (subst (λ (k : Multigraph). AllWeigh k w) (sym same) all)) refl
          (most_enough _ good.graph good.loopless));
    }
