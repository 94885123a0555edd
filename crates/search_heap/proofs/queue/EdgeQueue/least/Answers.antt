use Rattle.std.proofs.Common.{◌≤◌, length, sym, subst, arith, rules, Some}
use Rattle.std.proofs.lemmas.Int.{to_z-of_z}
use mir.Val.{SFits, to_z, of_z}
use mir.Syntax.{w128}
use Rattle.search_heap.specs.Moments.{IsLeast}
use Rattle.search_heap.specs.Slots.{by_item}
use Rattle.search_heap.proofs.Items.{least_some}
use Rattle.search_heap.proofs.queue.EdgeQueue.least.Goals as goal

pub returns : goal.returns
returns c =
    let a = c.self.inside in
    let found = c.in_ok-slot in
    let few : a.edges ≤ length a.heap = omega (arith, c.self.invariant.0) in
    let fits : SFits w128 found.moment = search rules in
    let by_result = subst (λ i. IsLeast (by_item a.edges a.heap) (Some (i, found.moment))) (sym c.item_of.ensures) (least_some a.edges a.heap found.slot found.moment few found.ensures) in
    let written = subst (λ z. IsLeast (by_item a.edges a.heap) (Some (c.item_of.result, z))) (sym (to_z-of_z w128 found.moment fits)) by_result in
    subst (λ q. IsLeast q (Some (c.item_of.result, to_z w128 (of_z w128 found.moment)))) c.self.view_is written
