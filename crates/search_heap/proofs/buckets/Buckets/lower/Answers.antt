use Rattle.graph_theory.proofs.Common.{◌≡◌, ◌∙◌, ℤ, pos, List, set, ap, refl, arith, ints, rules, get_or-set_same, to_z, of_z, w64}
use Rattle.search_heap.specs.declared.buckets.Buckets.{Buckets}
use Rattle.search_heap.specs.Rising.{end_at}
use Rattle.search_heap.proofs.Settings.{lower_ends}
use Rattle.search_heap.proofs.buckets.Buckets.lower.Goals as goal

pub returns-clause-filed : goal.returns-clause-filed
returns-clause-filed c =
    let l = c.loop-slot in let w = l.invariant.lowering in
    let slots : l.self.slots ≡ c.args.self.now.slots = ap (λ (y : Buckets). y.slots) l.invariant.frame in
    let kept : to_z w64 (of_z w64 c.index-last.result.now) ≡ c.index-last.result.now = search rules in
    let whole : to_z w64 (of_z w64 c.args.moment) ≡ c.args.moment = search rules in
    lower_ends l.self (record l.self { ends = c.set_end.new.ends }) _ c.args.moment l.slot w (omega (arith, slots, c.loop-slot-test.false)) refl
    (c.set_end.ensures ∙ ap (λ (z : ℤ). set l.self.ends.items 0 z) whole) (omega (arith, ints, kept, whole, c.if-last-moment.false))

pub returns-clause-low : goal.returns-clause-low
returns-clause-low c =
    let l = c.loop-slot in let whole : to_z w64 (of_z w64 c.args.moment) ≡ c.args.moment = search rules in
    let first = ap (λ (es : List ℤ). end_at es 0) c.set_end.ensures
    ∙ get_or-set_same l.self.ends.items 0 (to_z w64 (of_z w64 c.args.moment)) (pos 0) (omega (arith, l.invariant.lowering.ends.size)) in
    omega (arith, ints, whole, first)
