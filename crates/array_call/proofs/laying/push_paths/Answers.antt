use Rattle.certificates.proofs.Common.{◌≡◌, ℤ, pos, List, [], ◌∷◌, ◌++◌, length, map, take, get_or, ap, subst, ◌∙◌, rules, PathLine}
use Rattle.array_call.specs.declared.laying.Items.{Items}
use Rattle.array_call.specs.Laid.{HasItemsOf}
use Rattle.array_call.proofs.Layouts.{laid-more, lists-more}
use Rattle.array_call.proofs.laying.push_paths.Goals as goal

pub loop-r-preserved : goal.loop-r-preserved
loop-r-preserved c = λ before has.
    let edges : PathLine → List ℤ = λ r. r.edges in
    let paths = c.args.paths.now in
    let k = c.loop-r.r-index in
    let r : PathLine = c.r-item.result in
    let new : Items = record { offsets = c.push.new.self; all = c.extend_from_slice.new.self } in
    let old = c.loop-r.invariant before has in
    let begins : new.offsets.items ≡ c.loop-r.items.offsets.items ++ pos (length c.loop-r.items.all.items) ∷ [] = search rules in
    let items = c.in_ok-extend_from_slice.ensures.items ∙ ap (λ (xs : List ℤ). c.loop-r.items.all.items ++ xs) c.as_slice.ensures
    ∙ ap (λ (d : PathLine). c.loop-r.items.all.items ++ edges d) c.r-item.is in
    subst (λ (xss : List (List ℤ)). HasItemsOf xss new) (lists-more edges before paths k r c.loop-r-test.true)
    (laid-more (before ++ map edges (take k paths)) (edges (get_or paths k r)) c.loop-r.items new old begins items)
