use Rattle.alt_forest.proofs.Common.{◌≡◌, ◌∙◌, ◌+◌, ◌*◌, ◌≤◌, true, Some, refl, ap, sym, subst, vec_capacity, vec_len}
use Rattle.alt_forest.proofs.Common.{Multigraph, most_blossoms, AllByRecursion, is_node}
use Rattle.alt_forest.specs.declared.search.Search.{Search}
use Rattle.mwpm_engine.specs.declared.outcome.Outcome.TheVariants.{Matched, Barrier}
use Rattle.mwpm_engine.specs.Solutions.{HasPerfect, Solution, close_steps, most_steps, size_of_graph}
use Rattle.mwpm_engine.proofs.RunCounts.{close_enough, halved, most_enough}
use Rattle.mwpm_engine.proofs.Concluded.{ends}
use Rattle.mwpm_engine.proofs.engine.Engine.solve_matched.Goals as goal

pub solve_matched-requires : goal.solve_matched-requires
solve_matched-requires g c =
    let i = c.self.invariant in
    record { shape = i.shape; places = i.places; perfect = subst HasPerfect (sym (ap (λ (t : Solution). t.graph) c.self.view_is)) c.requires.perfect }

pub list_sets-requires : goal.list_sets-requires
list_sets-requires g c =
    let e = c.solve_matched.ensures in
    let size = e.shape.arena ∙ ap (λ (k : Multigraph). k.vertices) e.graph in
    record { room = subst (λ n. most_blossoms n ≤ vec_capacity c.self.inside.sets) (sym size) c.self.invariant.room }

pub invariant_of-self : goal.invariant_of-self
invariant_of-self g c =
    let s : Search = c.solve_matched.new.search in let e = c.solve_matched.ensures in
    let l = c.list_sets.ensures in let list = c.list_sets.new.sets in
    let nodes = subst (λ n. AllByRecursion (λ b. is_node n s.arena.blossoms b ≡ true) list.items) e.shape.arena l.nodes in
    let few = subst (λ n. vec_len list ≤ most_blossoms n) e.shape.arena l.size_limit in
    let had = subst (λ (k : Multigraph). most_blossoms k.vertices ≤ vec_capacity c.self.inside.sets) (sym e.graph) c.self.invariant.room in
    let room = subst (λ n. most_blossoms s.graph.vertices ≤ n) (sym l.capacity) had in
    record { shape = e.shape; places = e.places; nodes = nodes; size_limit = few; room = room; parted = λ q. absurd (let same : Some Matched ≡ Some Barrier = q in cc) }

pub returns : goal.returns
returns g c =
    let good = c.self.invariant.shape.graph in let same = ap (λ (t : Solution). t.graph) c.self.view_is in
    let e = c.solve_matched.ensures in
    let done = ends c.solve_matched.new.search Matched c.list_sets.new.sets.items e.concludes c.list_sets.ensures.proving in
    let steps = subst (λ (k : Multigraph). 2 * c.solve_matched.new.steps ≤ 2 * c.args.steps.now + most_steps (size_of_graph k)) same
    (halved c.self.inside.search.graph _ (λ k. most_steps (size_of_graph k)) _ _ e.steps refl (most_enough _ good.graph good.loopless)) in
    let close = subst (λ (k : Multigraph). 2 * c.solve_matched.new.steps ≤ 2 * c.args.steps.now + close_steps (size_of_graph k)) same
    (halved c.self.inside.search.graph _ (λ k. close_steps (size_of_graph k)) _ _ e.steps refl (close_enough _ good.graph good.loopless)) in
    record { outcome = refl; graph = e.graph ∙ same; ends = done; steps = steps; close_bound = close }
