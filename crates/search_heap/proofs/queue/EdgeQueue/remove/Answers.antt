use Rattle.std.proofs.Common.{None, set, subst, sym, ap, ◌∙◌}
use Rattle.search_heap.specs.Moments.{with_moment, IsItem}
use Rattle.search_heap.specs.Slots.{by_item}
use Rattle.search_heap.proofs.Items.{numbered, by_item_set}
use Rattle.search_heap.proofs.queue.EdgeQueue.remove.Goals as goal

pub returns : goal.returns
returns c =
    let a = c.self.inside in
    let is = numbered a.edges a.nodes a.heap c.args.item c.self.invariant.0 (subst (λ q. IsItem q c.args.item) (sym c.self.view_is) c.requires) in
    ap (by_item a.edges) (c.remove.ensures ∙ ap (λ s. set a.heap s None) c.slot_of-slot.ensures)
    ∙ by_item_set a.edges a.nodes a.heap c.args.item None c.self.invariant.0 is
    ∙ ap (λ q. with_moment q c.args.item None) c.self.view_is
