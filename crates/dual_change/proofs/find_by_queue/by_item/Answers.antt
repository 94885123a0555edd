use Rattle.alt_forest.proofs.Common.{◌≡◌, ◌∙◌, ℤ, ◌+ℤ◌, Option, Some, sym, ap, subst, arith, to_z, of_z, w128, Multigraph, IsEdgeNumber, moment_of, IsItem}
use Rattle.alt_forest.proofs.Common.{only_items_have, state_of, NeedsMoment}
use Rattle.graph_theory.proofs.Common.{to_z-of_z}
use Rattle.alt_forest.specs.declared.search.Search.{Search}
use Rattle.dual_change.specs.Candidates.{item_looks}
use Rattle.dual_change.proofs.Due.{comes_at, due}
use Rattle.dual_change.proofs.find_by_queue.by_item.Goals as goal

pub by_edge-requires-clause-entered : goal.by_edge-requires-clause-entered
by_edge-requires-clause-entered g c =
    let s : Search = c.args.search.now in
    let back : to_z w128 (of_z w128 c.args.moment) ≡ c.args.moment = to_z-of_z w128 c.args.moment c.ranges.moment in
    let place : IsItem s.queue c.args.item.now = only_items_have s.queue c.args.item.now c.args.moment c.requires.has in
    let there = subst (IsItem s.queue) c.in-Edge.is place in
    let number : IsEdgeNumber s.graph c.in-Edge.e = (there.0, omega (arith, there.1, c.requires.sound.shape.room.edges)) in
    subst (NeedsMoment (state_of s) s.clock c.in-Edge.e)
    (sym (ap (moment_of s.queue) c.in-Edge.is) ∙ c.requires.has ∙ sym (ap (λ (x : ℤ). let o : Option ℤ = Some x in o) back))
    (c.requires.event_times.edges c.in-Edge.e number)

pub by_edge-requires-clause-edge : goal.by_edge-requires-clause-edge
by_edge-requires-clause-edge g c =
    let s : Search = c.args.search.now in
    let place : IsItem s.queue c.args.item.now = only_items_have s.queue c.args.item.now c.args.moment c.requires.has in
    let there = subst (IsItem s.queue) c.in-Edge.is place in
    let number : IsEdgeNumber s.graph c.in-Edge.e = (there.0, omega (arith, there.1, c.requires.sound.shape.room.edges)) in
    subst (λ (k : Multigraph). IsEdgeNumber k c.in-Edge.e) (sym c.requires.same_graph) number

pub returns-in-Blossom : goal.returns-in-Blossom
returns-in-Blossom g c =
    let s : Search = c.args.search.now in let e = c.by_blossom.ensures in
    let none = ap item_looks c.in-Blossom.is in
    let comes = e.comes c.args.moment (λ name is lab. due c.args.moment (s.clock +ℤ (state_of s).dual c.in-Blossom.b)
    (sym (sym (ap (moment_of s.queue) c.in-Blossom.is) ∙ c.requires.has) ∙ c.requires.event_times.blossoms c.in-Blossom.b name is lab)) in
    record { candidate = e.candidate; comes = comes; stale = λ stuck. rw c.in-Blossom.is (e.stale stuck); inspections = λ there. e.inspections ∙ sym none; step = omega (arith, none) }

pub returns-in-Edge : goal.returns-in-Edge
returns-in-Edge g c =
    let e = c.by_edge.ensures in let one = ap item_looks c.in-Edge.is in
    let comes = comes_at _ _ _ _ (to_z-of_z w128 c.args.moment c.ranges.moment) e.comes in
    record {
      candidate = e.candidate;
      comes = comes;
      stale = λ stuck. rw c.in-Edge.is (e.stale stuck);
      inspections = λ there. e.inspections there ∙ sym one;
      step = omega (arith, one, e.step);
    }
