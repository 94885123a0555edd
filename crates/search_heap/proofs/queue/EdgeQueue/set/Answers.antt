use Rattle.std.proofs.Common.{◌≡◌, Option, Some, set, subst, sym, ap, ◌∙◌, ℤ}
use Rattle.std.proofs.lemmas.Int.{to_z-of_z}
use mir.Syntax.{w128}
use Rattle.search_heap.specs.Moments.{with_moment, IsItem}
use Rattle.search_heap.specs.Slots.{by_item}
use Rattle.search_heap.proofs.Items.{numbered, by_item_set}
use Rattle.search_heap.proofs.queue.EdgeQueue.set.Goals as goal

pub returns : goal.returns
returns c =
    let a = c.self.inside in
    let m : Option ℤ = (Some c.args.moment) in
    let written : c.set.new.self ≡ set a.heap c.slot_of-slot.result m = c.set.ensures
    ∙ ap (λ (z : ℤ). set a.heap c.slot_of-slot.result (Some z)) (to_z-of_z w128 c.args.moment c.ranges.moment) in
    let is = numbered a.edges a.nodes a.heap c.args.item c.self.invariant.0 (subst (λ q. IsItem q c.args.item) (sym c.self.view_is) c.requires) in
    ap (by_item a.edges) (written ∙ ap (λ s. set a.heap s m) c.slot_of-slot.ensures)
    ∙ by_item_set a.edges a.nodes a.heap c.args.item m c.self.invariant.0 is
    ∙ ap (λ q. with_moment q c.args.item m) c.self.view_is
