use Rattle.mb_problem.proofs.Common.{ℕ, ◌<◌, ◌^◌, sym, subst, List, length, slice_index, sum_to, odd_at}
use Rattle.gadget_base.specs.Starts.{AreStarts}
use Rattle.gadget_tjoin.specs.Groups.{AreGroups}
use Rattle.gadget_tjoin.proofs.Steps.{sizes-fit, groups-are}
use Rattle.gadget_tjoin.proofs.build.build.Goals as goal

pub starts-requires : goal.starts-requires
starts-requires c =
    let i = c.args.instance.now in
    let sizes = c.in_ok-sizes.sizes.items in
    subst (λ (xs : List ℕ). sum_to (λ k. slice_index xs k) (length xs) < 2 ^ 32) (sym c.deref.ensures.value)
    (sizes-fit i (odd_at c.args.parity i) sizes c.requires.limits c.in_ok-sizes.ensures.size c.in_ok-sizes.ensures.each)

pub fill-requires-clause-groups : goal.fill-requires-clause-groups
fill-requires-clause-groups c =
    let i = c.args.instance.now in
    let odd = odd_at c.args.parity i in
    let sizes = c.in_ok-sizes.sizes.items in
    let before = c.in_ok-before.before.items in
    let starts = subst (λ (xs : List ℕ). AreStarts (λ k. slice_index xs k) (length xs) before) c.deref.ensures.value c.in_ok-before.ensures in
    let groups = groups-are i odd before sizes c.in_ok-sizes.ensures.size c.in_ok-sizes.ensures.each starts in
    subst (λ (xs : List ℕ). AreGroups i odd xs c.deref-4.result.now) (sym c.deref-3.ensures.value) (subst (AreGroups i odd before) (sym c.deref-4.ensures.value) groups)
