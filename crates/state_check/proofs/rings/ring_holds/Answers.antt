use Rattle.alt_forest.proofs.Common.{◌∙◌, false, refl, both_ways, state_of, nested_of}
use Rattle.state_check.proofs.RingLinks.{ring_start, link_holds}
use Rattle.state_check.proofs.rings.ring_holds.Goals as goal

pub loop-link-init : goal.loop-link-init
loop-link-init c =
    let a = ring_start (state_of c.args.search.now) c.args.b c.node_or-first.result c.next.result c.into_iter-link-iterator.result c.ring-following.result c.next.new.self
    (nested_of c.args.search.now c.requires.shape) c.requires.blossom
    (c.into_iter-link-iterator.ensures.into_iter_gives ∙ c.ring-link-items.ensures.ring) c.ring-following.ensures.ring c.next.ensures.steps c.node_or-first.ensures in
    record { following = a.following; inside = a.inside; first_inside = a.first_inside; rest = a.rest }

pub returns-then-not-link_holds : goal.returns-then-not-link_holds
returns-then-not-link_holds c = (
  λ e. absurd (both_ways false refl e),
  λ r.
      let left = c.loop-link.invariant.rest.0 r in
      absurd (both_ways c.link_holds.result c.if-not-link_holds.true
      (c.link_holds.ensures.1
      (link_holds (state_of c.args.search.now) c.args.b c.node_or-first.result c.node_or.result c.in-Some.link c.next-in-loop-link-2.result c.loop-link.link-iterator _
      c.loop-link.following _ c.requires.shape.graph.graph (nested_of c.args.search.now c.requires.shape) c.requires.blossom
      c.in-Some.ensures.steps c.loop-link.invariant.following c.next-in-loop-link-2.ensures.steps c.node_or.ensures c.loop-link.invariant.inside c.loop-link.invariant.first_inside left.0
      left.1))),
)
