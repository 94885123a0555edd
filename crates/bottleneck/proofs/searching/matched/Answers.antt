use Rattle.graph_theory.proofs.Common.{ap, ◌∙◌, subst, Multigraph, IsPerfect}
use Rattle.gadget_base.proofs.Listed.{list_from_perfect}
use Rattle.mwpm_engine.specs.Solutions.{matching_of}
use Rattle.bottleneck.specs.Halving.{numbers_in}
use Rattle.bottleneck.proofs.searching.matched.Goals as goal

pub returns : goal.returns
returns c =
    let h = c.args.part.now in
    let s = c.args.engine.now in
    let edges = c.in_ok-edges.edges.items in
    let found : IsPerfect h (matching_of h s.mates) = subst (λ (k : Multigraph). IsPerfect k (matching_of k s.mates)) c.requires.same_graph c.requires.ends.perfect in (
      edges,
      list_from_perfect h (matching_of h s.mates) edges c.requires.loopless found c.in_ok-edges.ensures.counts,
      c.in_ok-all.ensures ∙ ap (numbers_in c.args.numbers.now) c.deref.ensures.value,
    )
