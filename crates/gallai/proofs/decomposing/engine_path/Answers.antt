use Rattle.mb_problem.proofs.Common.{◌≡◌, ◌-◌, ◌≤◌, ap, ◌∙◌, map, slice_index, IfOk-weaker, holds_all, walk-numbers, IsEvenPath, graph_of}
use Rattle.gadget_base.specs.Links.{with_loops}
use Rattle.mwpm_engine.specs.Solutions.{matching_of}
use Rattle.gallai.proofs.Engines.{in_numbers, path-given}
use Rattle.gallai.proofs.decomposing.engine_path.Goals as goal

pub even_path-requires-clause-low : goal.even_path-requires-clause-low
even_path-requires-clause-low c =
    let s = c.args.engine.now in
    (holds_all (λ v. (1 ≤ v) × (v ≤ s.graph.vertices)) s.outer c.args.vertex c.requires.ends.beside.outer_set.in_range c.requires.outer).0

pub even_path-requires-clause-high : goal.even_path-requires-clause-high
even_path-requires-clause-high c =
    let s = c.args.engine.now in
    (holds_all (λ v. (1 ≤ v) × (v ≤ s.graph.vertices)) s.outer c.args.vertex c.requires.ends.beside.outer_set.in_range c.requires.outer).1

pub numbers_of-requires : goal.numbers_of-requires
numbers_of-requires c =
    let s = c.args.engine.now in
    let all = walk-numbers s.graph c.args.vertex c.in_ok-edges.edges.items c.in_ok-edges.ensures.walk in
    record { edges = rw c.deref.ensures.value (in_numbers c.args.instance.now s.graph c.args.numbers.now c.requires.graph c.requires.links c.in_ok-edges.edges.items all) }

pub returns : goal.returns
returns c =
    let i = c.args.instance.now in
    let s = c.args.engine.now in
    let numbers = c.args.numbers.now in
    let counts = matching_of s.graph s.mates in
    let es = c.in_ok-edges.edges.items in
    IfOk-weaker c.numbers_of.result (λ v. v.items ≡ map (λ e. slice_index numbers (e - 1)) c.deref.result.now) (λ v. IsEvenPath (graph_of i) (with_loops i counts) c.args.vertex v.items)
    (λ v is. path-given i s.graph numbers c.requires.graph c.requires.links counts c.args.vertex es v.items c.requires.ends.beside.matched.one_each c.in_ok-edges.ensures
    (is ∙ ap (map (λ e. slice_index numbers (e - 1))) c.deref.ensures.value))
    c.numbers_of.ensures
