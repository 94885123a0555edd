use Rattle.certificates.proofs.Common.{rules, ◌≡◌, true, get_or, pos, is_item, item_number}
use Rattle.array_call.proofs.SetItems.{made-more, all-more}
use Rattle.array_call.proofs.building.items_of.Goals as goal

-- src/building.rt:114:5
pub loop-k-preserved : goal.loop-k-preserved
loop-k-preserved c =
    let more = c.in_ok-push.ensures.items in
    let i = c.loop-k.invariant in
    let is : item_number c.item_of.result ≡ get_or c.args.numbers.now c.loop-k.k (pos 0) = search rules in
    record {
      numbers = made-more item_number _ _ _ c.args.numbers.now c.loop-k.k (pos 0) c.loop-k-test.true more i.numbers is;
      items = all-more (λ x. is_item x ≡ true) _ _ _ more i.items c.item_of.ensures.item;
    }
