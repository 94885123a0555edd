use Rattle.graph_theory.proofs.Common.{IsStrictlyIncreasing, ap, arith, get_or_read, given_at, length, no_given, subst, sym, ◌+◌, ◌-◌, ◌<◌, ◌∙◌, ◌≡◌}
use Rattle.graph_theory.specs.declared.odd_set.OddSet.{OddSet}
use Rattle.dual_check.specs.Trees.{IsSpreadFrom, number_at, roots_to, whole_size}
use Rattle.dual_check.proofs.TreeLemmas.{root_next}
use Rattle.dual_check.proofs.StepLemmas.{begun, begun_long, begun_next, range_of}
use Rattle.dual_check.proofs.stretches.begins_of.Goals as goal

pub begin_root-end-requires-clause-room : goal.begin_root-end-requires-clause-room
begin_root-end-requires-clause-room c = λ root.
    let n = c.args.count in
    let down = ap (λ z. roots_to n c.args.parents.now c.args.sizes.now z) (let e : n - c.loop-k.k ≡ (n - 1 - c.loop-k.k) + 1 = omega (arith, c.loop-k-test.true) in e) in
    omega (arith, c.loop-k.invariant.end, down, root_next n c.args.parents.now (number_at c.args.sizes.now) (n - 1 - c.loop-k.k) root, c.requires.room)

pub begin_inner-requires-clause-room : goal.begin_inner-requires-clause-room
begin_inner-requires-clause-room c =
    let sets = c.args.sets.now in
    let n = c.args.count in
    let j = n - 1 - c.loop-k.k in
    let mid = c.begin_root-end.new.begins.items in
    let within : j < n = omega (arith, c.loop-k-test.true) in
    let so = begun sets n c.args.parents.now c.args.sizes.now j (n - c.loop-k.k) c.loop-k.end c.loop-k.begins.items mid (omega (arith, c.loop-k-test.true)) within
    c.loop-k.invariant.end (λ t. (c.begin_root-end.ensures.root t).1) (λ t. (c.begin_root-end.ensures.inner t).1) c.loop-k.invariant.begins in
    let here : c.index-sets-set.result ≡ given_at sets j = get_or_read sets j c.index-sets-set.result (omega (arith, within, c.requires.count)) c.index-sets-set.is no_given in
    let whole = ap (whole_size c.args.sizes.now) here in
    let each = c.requires.sizes.each j within in
    omega (arith, get_or_read mid j c.index-begin.result.now (omega (arith, so.later.begins_are.size, within)) c.index-begin.ensures 0, whole, each, so.fits_in, c.requires.room)

pub loop-k-preserved : goal.loop-k-preserved
loop-k-preserved c =
    let begun = begun_next c.args.sets.now c.args.count c.args.parents.now c.args.sizes.now c.loop-k.k c.loop-k.end c.begin_root-end.result c.index-begin.result.now c.loop-k.begins.items
    c.begin_root-end.new.begins.items c.begin_inner.new.begins.items c.index-sets-set.result c.loop-k-test.true c.requires.count c.loop-k.invariant.begins c.loop-k.invariant.end
    c.begin_root-end.ensures.root c.begin_root-end.ensures.inner c.index-begin.ensures c.index-sets-set.is c.begin_inner.ensures.size c.begin_inner.ensures.inner
    c.begin_inner.ensures.others in
    record { begins = begun.begins; end = begun.end }

pub begin_root-end-requires-clause-begins : goal.begin_root-end-requires-clause-begins
begin_root-end-requires-clause-begins c = c.loop-k.invariant.begins.begins_are.size

pub begin_root-end-requires-clause-parents : goal.begin_root-end-requires-clause-parents
begin_root-end-requires-clause-parents c = c.requires.parents.size

pub begin_root-end-requires-clause-sizes : goal.begin_root-end-requires-clause-sizes
begin_root-end-requires-clause-sizes c = c.requires.sizes.size

pub index-begin-requires : goal.index-begin-requires
index-begin-requires c =
    let long : length c.begin_root-end.new.begins.items ≡ c.args.count = begun_long c.args.count c.args.parents.now c.loop-k.begins.items c.begin_root-end.new.begins.items
    (c.args.count - 1 - c.loop-k.k) c.loop-k.end _ _ c.loop-k.invariant.begins.begins_are.size c.begin_root-end.ensures.root c.begin_root-end.ensures.inner in
    omega (arith, long, c.loop-k-test.true)

pub begin_inner-requires-clause-sizes : goal.begin_inner-requires-clause-sizes
begin_inner-requires-clause-sizes c = c.requires.sizes.size ∙ sym
    (begun_long c.args.count c.args.parents.now c.loop-k.begins.items c.begin_root-end.new.begins.items (c.args.count - 1 - c.loop-k.k) c.loop-k.end _ _
    c.loop-k.invariant.begins.begins_are.size c.begin_root-end.ensures.root c.begin_root-end.ensures.inner)

pub begin_inner-requires-clause-in_range : goal.begin_inner-requires-clause-in_range
begin_inner-requires-clause-in_range c =
    let j = c.args.count - 1 - c.loop-k.k in
    let long : length c.begin_root-end.new.begins.items ≡ c.args.count = begun_long c.args.count c.args.parents.now c.loop-k.begins.items c.begin_root-end.new.begins.items
    (c.args.count - 1 - c.loop-k.k) c.loop-k.end _ _ c.loop-k.invariant.begins.begins_are.size c.begin_root-end.ensures.root c.begin_root-end.ensures.inner in
    let there : j < length c.args.sets.now = omega (arith, c.loop-k-test.true, c.requires.count) in
    let here : c.index-sets-set.result ≡ given_at c.args.sets.now j = get_or_read c.args.sets.now j c.index-sets-set.result there c.index-sets-set.is no_given in
    range_of c.args.sets.now c.index-sets-set.result j (length c.begin_root-end.new.begins.items) c.requires.earlier there here (omega (arith, long, c.loop-k-test.true))

pub begin_inner-requires-clause-ascending : goal.begin_inner-requires-clause-ascending
begin_inner-requires-clause-ascending c =
    let j = c.args.count - 1 - c.loop-k.k in
    let there : j < length c.args.sets.now = omega (arith, c.loop-k-test.true, c.requires.count) in
    let here : c.index-sets-set.result ≡ given_at c.args.sets.now j = get_or_read c.args.sets.now j c.index-sets-set.result there c.index-sets-set.is no_given in
    subst (λ (s : OddSet). IsStrictlyIncreasing s.references) (sym here) (c.requires.lists j (omega (arith, c.loop-k-test.true))).references

pub returns : goal.returns
returns c =
    let all : c.args.count - c.loop-k.k ≡ 0 = omega (arith, c.loop-k-test.false) in
    subst (λ z. IsSpreadFrom c.args.sets.now c.args.count c.args.parents.now c.args.sizes.now z c.loop-k.begins.items) all c.loop-k.invariant.begins
