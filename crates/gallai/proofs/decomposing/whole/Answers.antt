use Rattle.graph_theory.proofs.Common.{◌∙◌, refl}
use Rattle.gallai.proofs.Engines.{in_numbers, matched-found}
use Rattle.gallai.proofs.decomposing.whole.Goals as goal

pub numbers_of-requires : goal.numbers_of-requires
numbers_of-requires c =
    let all = in_numbers c.args.instance.now c.args.graph.now c.in_ok-numbers.numbers.items c.requires.graph c.in_ok-numbers.ensures c.in_ok-edges.edges.items
    c.in_ok-edges.ensures.counts.numbers in
    record { edges = rw (c.deref-2.ensures.value, c.deref.ensures.value) all }

pub returns : goal.returns
returns c =
    let numbers = c.in_ok-numbers.numbers.items in
    let es = c.in_ok-edges.edges.items in
    let listed = c.from_vec.ensures ∙ c.in_ok-all.ensures ∙ rw (c.deref-2.ensures.value, c.deref.ensures.value) refl in
    matched-found c.args.instance.now c.args.engine.now c.args.graph.now numbers es c.from_vec.result c.new.result c.new-2.result c.new-3.result c.requires.network c.laws.ensures.paths
    c.laws.ensures.loops c.requires.graph c.requires.same_graph c.in_ok-numbers.ensures c.requires.ends c.in_ok-edges.ensures.counts c.in_ok-edges.ensures.ascending listed
    c.new.ensures c.new-2.ensures c.new-3.ensures
