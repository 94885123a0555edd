use Rattle.mb_problem.proofs.Common.{◌≡◌, ℕ, ◌-◌, ◌∙◌, List, map, slice_index, ap, sym, subst, refl, arith, Multigraph, IsVertexSet, graph_of}
use Rattle.gadget_base.specs.Listed.{times_each}
use Rattle.gadget_base.specs.Links.{with_loops}
use Rattle.mwpm_engine.specs.Solutions.{matching_of}
use Rattle.gallai.specs.Decompositions.{ArePathsFrom}
use Rattle.gallai.specs.Finders.{Finds}
use Rattle.gallai.proofs.Engines.{in_numbers, parted-found, counted-edges}
use Rattle.gallai.proofs.decomposing.parted.Goals as goal

pub numbers_of-requires : goal.numbers_of-requires
numbers_of-requires c =
    let all = in_numbers c.args.instance.now c.args.graph.now c.in_ok-numbers.numbers.items c.requires.graph c.in_ok-numbers.ensures c.in_ok-edges.edges.items
    c.in_ok-edges.ensures.counts.numbers in
    record { edges = rw (c.deref-2.ensures.value, c.deref.ensures.value) all }

pub returns : goal.returns
returns c =
    let i = c.args.instance.now in
    let s = c.args.engine.now in
    let counts = with_loops i (matching_of s.graph s.mates) in
    let numbers = c.in_ok-numbers.numbers.items in
    let es = c.in_ok-edges.edges.items in
    let paths = c.in_ok-paths.paths in
    let listed = c.from_vec.ensures ∙ c.in_ok-all.ensures ∙ rw (c.deref-2.ensures.value, c.deref.ensures.value) refl in
    let from : ArePathsFrom i counts c.from_vec-2.result paths =
    subst (λ (starts : List ℕ). ArePathsFrom i counts starts paths) (c.deref-5.ensures.value ∙ sym c.from_vec-2.ensures) c.in_ok-paths.ensures in
    parted-found i s c.args.graph.now numbers es c.from_vec.result c.from_vec-2.result c.from_vec-3.result paths c.requires.network c.laws.ensures.paths c.laws.ensures.loops
    c.requires.graph c.requires.same_graph c.in_ok-numbers.ensures c.requires.ends c.in_ok-edges.ensures.counts c.in_ok-edges.ensures.ascending listed
    (c.from_vec-2.ensures ∙ c.in_ok-outer.ensures) (c.from_vec-3.ensures ∙ c.in_ok-border.ensures) from

pub outer_vertices-requires-clause-set : goal.outer_vertices-requires-clause-set
outer_vertices-requires-clause-set c = subst (λ (h : Multigraph). IsVertexSet h.vertices c.args.engine.now.outer) c.requires.same_graph c.requires.ends.beside.outer_set

pub barrier_vertices-requires-clause-set : goal.barrier_vertices-requires-clause-set
barrier_vertices-requires-clause-set c = subst (λ (h : Multigraph). IsVertexSet h.vertices c.args.engine.now.barrier) c.requires.same_graph c.requires.ends.vertex_set

pub finder_of-requires : goal.finder_of-requires
finder_of-requires c =
    let i = c.args.instance.now in
    let numbers = c.in_ok-numbers.numbers.items in
    let es = c.in_ok-edges.edges.items in
    let all = c.in_ok-all.all.items in
    let listed : all ≡ map (λ e. slice_index numbers (e - 1)) es = c.in_ok-all.ensures ∙ rw (c.deref-2.ensures.value, c.deref.ensures.value) refl in
    let counted = counted-edges i c.args.engine.now c.args.graph.now numbers es all c.requires.graph c.requires.same_graph c.in_ok-numbers.ensures c.in_ok-edges.ensures.counts
    c.in_ok-edges.ensures.ascending listed in
    let few = counted.size_limit in
    let edges = c.requires.network.few_edges in
    rw c.deref-3.ensures.value (record { numbers = counted.numbers; size_limit = omega (arith, few, edges) })

pub paths_from-requires-clause-finder : goal.paths_from-requires-clause-finder
paths_from-requires-clause-finder c =
    let i = c.args.instance.now in
    let numbers = c.in_ok-numbers.numbers.items in
    let es = c.in_ok-edges.edges.items in
    let all = c.in_ok-all.all.items in
    let listed : all ≡ map (λ e. slice_index numbers (e - 1)) es = c.in_ok-all.ensures ∙ rw (c.deref-2.ensures.value, c.deref.ensures.value) refl in
    let counted = counted-edges i c.args.engine.now c.args.graph.now numbers es all c.requires.graph c.requires.same_graph c.in_ok-numbers.ensures c.in_ok-edges.ensures.counts
    c.in_ok-edges.ensures.ascending listed in
    subst (λ (counts : List ℕ). Finds i counts c.in_ok-finder.finder) (ap (times_each (graph_of i)) c.deref-3.ensures.value ∙ counted.counts) c.in_ok-finder.ensures
