use Rattle.graph_theory.proofs.Common.{arith, ◌≡◌, ◌∙◌, ap₂, ◌<◌, length, List, ℕ, get_or_read, given_at, no_given, subst}
use Rattle.graph_theory.specs.declared.odd_set.OddSet.{OddSet}
use Rattle.dual_check.specs.Trees.{whole_size, AreSizes}
use Rattle.dual_check.proofs.StepLemmas.{range_of, sizes_next}
use Rattle.dual_check.proofs.stretches.sizes_of.Goals as goal

pub size_of-requires : goal.size_of-requires
size_of-requires c =
    let sets = c.args.sets.now in
    let j = c.loop-set.set in
    let b : j < length sets = omega (arith, c.loop-set-test.true, c.requires.count) in
    let here : c.index-sets-set.result ≡ given_at sets j = get_or_read sets j c.index-sets-set.result b c.index-sets-set.is no_given in
    record { in_range = range_of sets c.index-sets-set.result j (length c.deref.result.now) c.requires.earlier b here (omega (arith, c.deref.ensures.len, c.loop-set.invariant.size)) }

pub loop-set-preserved : goal.loop-set-preserved
loop-set-preserved c =
    let sets = c.args.sets.now in
    let j = c.loop-set.set in
    let b : j < length sets = omega (arith, c.loop-set-test.true, c.requires.count) in
    let here : c.index-sets-set.result ≡ given_at sets j = get_or_read sets j c.index-sets-set.result b c.index-sets-set.is no_given in
    sizes_next sets j c.loop-set.sizes.items c.push.new.self.items c.in_ok-size.size c.requires.earlier b c.in_ok-push.ensures.items
    (c.in_ok-size.ensures ∙ ap₂ (λ (l : List ℕ) (z : OddSet). whole_size l z) c.deref.ensures.value here) c.loop-set.invariant

pub returns : goal.returns
returns c =
    let all : c.loop-set.set ≡ c.args.count = omega (arith, c.loop-set-test.false, c.loop-set.auto.set-end) in
    subst (λ (n : ℕ). AreSizes c.args.sets.now n c.loop-set.sizes.items) all c.loop-set.invariant
