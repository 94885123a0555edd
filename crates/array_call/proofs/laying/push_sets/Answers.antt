use Rattle.certificates.proofs.Common.{◌≡◌, ℤ, pos, List, [], ◌∷◌, ◌++◌, length, map, take, get_or, ap, subst, ◌∙◌, rules, SetLine, SetItem, item_number}
use Rattle.array_call.specs.declared.laying.Items.{Items}
use Rattle.array_call.specs.Layout.{set_list}
use Rattle.array_call.specs.Laid.{HasItemsOf}
use Rattle.array_call.proofs.Layouts.{laid-more, lists-more}
use Rattle.array_call.proofs.laying.push_sets.Goals as goal

pub loop-z-preserved : goal.loop-z-preserved
loop-z-preserved c = λ before has.
    let sets = c.args.sets.now in
    let k = c.loop-z.z-index in
    let z : SetLine = c.z-item.result in
    let new : Items = record { offsets = c.push.new.self; all = c.push_items.new.numbers } in
    let old = c.loop-z.invariant before has in
    let begins : new.offsets.items ≡ c.loop-z.items.offsets.items ++ pos (length c.loop-z.items.all.items) ∷ [] = search rules in
    let items = c.in_ok-push_items.ensures ∙ ap (λ (xs : List SetItem). c.loop-z.items.all.items ++ map item_number xs) c.as_slice.ensures
    ∙ ap (λ (d : SetLine). c.loop-z.items.all.items ++ set_list d) c.z-item.is in
    subst (λ (xss : List (List ℤ)). HasItemsOf xss new) (lists-more set_list before sets k z c.loop-z-test.true)
    (laid-more (before ++ map set_list (take k sets)) (set_list (get_or sets k z)) c.loop-z.items new old begins items)
