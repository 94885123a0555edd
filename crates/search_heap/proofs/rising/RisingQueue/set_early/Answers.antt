use Rattle.std.proofs.Common.{◌≡◌, ℤ, Option, Some, slice_set, rules, to_z, of_z, ap, ◌∙◌}
use mir.Syntax.{w64}
use Rattle.search_heap.specs.Rising.{moments_of}
use Rattle.search_heap.proofs.Nodes.{item_within, with_node}
use Rattle.search_heap.proofs.rising.RisingQueue.set_early.Goals as goal

pub set-requires : goal.set-requires
set-requires c = record { filed = c.self.invariant; slot = item_within c.self.inside.buckets _ c.args.node c.slot_of-slot.result c.self.view_is c.requires c.slot_of-slot.ensures }

pub returns : goal.returns
returns c =
    let kept : to_z w64 (of_z w64 c.args.moment) ≡ c.args.moment = search rules in
    with_node c.self.inside.buckets c.set.new.self _ c.args.node c.slot_of-slot.result (Some c.args.moment) c.self.view_is c.requires c.slot_of-slot.ensures
    (c.set.ensures.moments ∙ ap (λ (z : ℤ). slice_set (moments_of c.self.inside.buckets) c.slot_of-slot.result (let o : Option ℤ = Some z in o)) kept)
