use Rattle.graph_theory.proofs.Common.{arith, refl, ap, ◌≡◌, ◌∙◌, ◌+◌, ◌-◌, ◌<◌, ◌+ℤ◌, ℤ, length, List, set, subst, sym, to_z, of_z, ints, get_or_read}
use Rattle.graph_theory.proofs.Common.{IsNumber, given_at, no_given}
use Rattle.graph_theory.specs.declared.odd_set.OddSet.{OddSet}
use Rattle.std.specs.Int.{w128}
use Rattle.dual_check.specs.Trees.{from_parent}
use Rattle.dual_check.proofs.EnclosingLemmas.{AreEnclosingFrom, from_small, enclosing_next}
use Rattle.dual_check.proofs.climbing.enclosing_of.Goals as goal

pub overflow_add-from : goal.overflow_add-from
overflow_add-from c =
    let sets = c.args.sets.now in
    let n = c.args.count in
    let parents = c.args.parents.now in
    let j = n - 1 - c.loop-k.k in
    let down : n - c.loop-k.k ≡ j + 1 = omega (arith, c.loop-k-test.true) in
    let within : j < n = omega (arith, c.loop-k-test.true) in
    let b : j < length sets = omega (arith, within, c.requires.count) in
    let here : c.index-sets-set.result ≡ given_at sets j = get_or_read sets j c.index-sets-set.result b c.index-sets-set.is no_given in
    let number : IsNumber c.index-sets-set.result.dual = subst (λ (z : OddSet). IsNumber z.dual) (sym here) (c.requires.numbers j no_given b) in
    let small = from_small sets n parents j c.loop-k.enclosing.items c.requires.parents within
    (subst (λ z. AreEnclosingFrom sets n parents z c.loop-k.enclosing.items) down c.loop-k.invariant) in
    let given = c.given_enclosing-given.ensures ∙ ap (λ (l : List ℤ). from_parent n parents l j) c.deref.ensures.value in
    omega (arith, ints, number.0, number.1, small.0, small.1, given, c.from.ensures, within, c.ranges.count.fits)

pub loop-k-preserved : goal.loop-k-preserved
loop-k-preserved c =
    let sets = c.args.sets.now in
    let n = c.args.count in
    let parents = c.args.parents.now in
    let old = c.loop-k.enclosing.items in
    let j = n - 1 - c.loop-k.k in
    let down : n - c.loop-k.k ≡ j + 1 = omega (arith, c.loop-k-test.true) in
    let past : n - (c.loop-k.k + 1) ≡ j = omega (arith, c.loop-k-test.true) in
    let within : j < n = omega (arith, c.loop-k-test.true) in
    let b : j < length sets = omega (arith, within, c.requires.count) in
    let here : c.index-sets-set.result ≡ given_at sets j = get_or_read sets j c.index-sets-set.result b c.index-sets-set.is no_given in
    let dual = ap (λ (z : OddSet). z.dual) here in
    let read = ap (λ (z : OddSet). z.dual) c.index-sets-set.is in
    let number : IsNumber (given_at sets j).dual = c.requires.numbers j no_given b in
    let so = subst (λ z. AreEnclosingFrom sets n parents z old) down c.loop-k.invariant in
    let small = from_small sets n parents j old c.requires.parents within so in
    let given = c.given_enclosing-given.ensures ∙ ap (λ (l : List ℤ). from_parent n parents l j) c.deref.ensures.value in
    let value : to_z w128 (of_z w128 (to_z w128 (of_z w128 c.from.result) +ℤ to_z w128 (of_z w128 c.given_enclosing-given.result)))
    ≡ ((given_at sets j).dual +ℤ from_parent n parents old j)
    = omega (arith, ints, number.0, number.1, dual, read, small.0, small.1, given, c.from.ensures, within, c.ranges.count.fits) in
    let new = to_z w128 (of_z w128 (to_z w128 (of_z w128 c.from.result) +ℤ to_z w128 (of_z w128 c.given_enclosing-given.result))) in
    subst (λ z. AreEnclosingFrom sets n parents z (set old j new)) (sym past) (enclosing_next sets n parents j old (set old j new) new c.requires.parents within number refl value so)

pub returns : goal.returns
returns c = record { size = c.loop-k.invariant.size; each = λ k b. c.loop-k.invariant.each k (omega (arith, c.loop-k-test.false)) b }
