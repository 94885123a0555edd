use Rattle.std.proofs.Common.{◌≡◌, ◌∙◌, ap, sym, subst, arith, rules, to_z, of_z, Some}
use mir.Syntax.{w64}
use Rattle.search_heap.specs.Moments.{IsLeast}
use Rattle.search_heap.specs.Rising.{moments_of}
use Rattle.search_heap.specs.Slots.{by_item}
use Rattle.search_heap.proofs.Items.{least_some}
use Rattle.search_heap.proofs.Homes.{slot_within}
use Rattle.search_heap.proofs.rising.RisingQueue.least.Goals as goal

pub item_of-requires : goal.item_of-requires
item_of-requires c =
    let b = c.self.inside.buckets in
    omega (arith, slot_within b c.in_ok-slot.slot c.in_ok-slot.moment c.in_ok-slot.ensures.least.0, c.self.invariant.homed.links.size_limit)

pub returns-clause-least : goal.returns-clause-least
returns-clause-least c =
    let b = c.self.inside.buckets in let found = c.in_ok-slot in
    let kept : to_z w64 (of_z w64 found.moment) ≡ found.moment = search rules in
    let by_result = subst (λ i. IsLeast (by_item 0 (moments_of b)) (Some (i, found.moment))) (sym c.item_of.ensures)
    (least_some 0 (moments_of b) found.slot found.moment (omega arith) found.ensures.least) in
    let written = subst (λ z. IsLeast (by_item 0 (moments_of b)) (Some (c.item_of.result, z))) (sym kept) by_result in
    subst (λ q. IsLeast q (Some (c.item_of.result, to_z w64 (of_z w64 found.moment)))) c.self.view_is written

pub returns-clause-same : goal.returns-clause-same
returns-clause-same c = ap (by_item 0) c.in_ok-slot.ensures.moments ∙ c.self.view_is
