use Rattle.graph_theory.proofs.Common.{arith, ap, ◌≡◌, ◌∙◌, ◌+◌, ◌<◌, ◌≤◌, length, slice_index_or, List, ℕ, subst, get_or_default, given_at, no_given}
use Rattle.graph_theory.specs.declared.odd_set.OddSet.{OddSet}
use Rattle.dual_check.specs.Forests.{place_of, no_place}
use Rattle.dual_check.specs.Trees.{number_at}
use Rattle.dual_check.proofs.TreeLemmas.{fits}
use Rattle.dual_check.proofs.SpreadLemmas.{own_next}
use Rattle.dual_check.proofs.named.places_of.Goals as goal

pub put_vertices-requires : goal.put_vertices-requires
put_vertices-requires c =
    let sets = c.args.sets.now in
    let sp = c.requires.spread in
    let j = c.loop-set.set in
    let b : j < length sets = omega (arith, c.loop-set-test.true, sp.size_limit) in
    let here : slice_index_or sets j c.index-sets-set.result ≡ given_at sets j = get_or_default sets j c.index-sets-set.result no_given b in
    let own = ap (λ (l : List ℕ). length l) c.as_slice.ensures ∙ ap (λ (z : OddSet). length z.vertices) here in
    let f = fits sets c.args.count c.args.parents.now c.args.sizes.now 0 c.args.begins.now sp j (omega arith) c.loop-set-test.true in
    record { room = omega (arith, f, sp.sizes_are.each j c.loop-set-test.true, own, c.requires.total, c.loop-set.invariant.size) }

pub loop-set-preserved : goal.loop-set-preserved
loop-set-preserved c =
    let sets = c.args.sets.now in
    let j = c.loop-set.set in
    let b : j < length sets = omega (arith, c.loop-set-test.true, c.requires.spread.size_limit) in
    let here : slice_index_or sets j c.index-sets-set.result ≡ given_at sets j = get_or_default sets j c.index-sets-set.result no_given b in
    let list : c.as_slice.result.now ≡ (given_at sets j).vertices = c.as_slice.ensures ∙ ap (λ (z : OddSet). z.vertices) here in
    let new = c.put_vertices.new.places.items in
    let old = c.loop-set.places.items in
    let begin = number_at c.args.begins.now j in
    record {
      size = c.put_vertices.ensures.size ∙ c.loop-set.invariant.size;
      own = own_next sets c.args.count c.args.parents.now c.args.sizes.now c.args.begins.now c.requires.spread old new j c.loop-set-test.true c.loop-set.invariant.own
          (subst (λ (l : List ℕ). (t : ℕ) → t < length l → slice_index_or new (begin + t) no_place ≡ place_of j (number_at l t)) list c.put_vertices.ensures.inside)
          c.put_vertices.ensures.before
          (subst (λ (l : List ℕ). (x : ℕ) → begin + length l ≤ x → slice_index_or new x no_place ≡ slice_index_or old x no_place) list c.put_vertices.ensures.after);
    }

pub returns-clause-size : goal.returns-clause-size
returns-clause-size c = c.loop-set.invariant.size

pub returns-clause-own : goal.returns-clause-own
returns-clause-own c = λ j t b. c.loop-set.invariant.own j t (omega (arith, b, c.loop-set-test.false))
