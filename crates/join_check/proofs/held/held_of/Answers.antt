use Rattle.mb_problem.proofs.Common.{ℕ, ap, sym, ◌∙◌, subst, List, length, slice_index, with_items_is}
use Rattle.join_check.specs.Checks.{AreHeld}
use Rattle.join_check.proofs.held.held_of.Goals as goal

pub add_before-requires-clause-counts : goal.add_before-requires-clause-counts
add_before-requires-clause-counts c = λ x. ap (λ (xs : List ℕ). slice_index xs x) c.deref_mut.ensures.value ∙ c.in_ok-held.ensures.each x

pub returns : goal.returns
returns c =
    let size = ap length c.deref_mut.ensures.value in
    let long = c.add_before.auto.held ∙ size ∙ sym c.in_ok-held.held.ok.0 in
    let held = subst (λ (n : ℕ). AreHeld c.args.odd.now c.args.nodes.now n c.add_before.new.held) (size ∙ c.in_ok-held.ensures.size) c.add_before.ensures in
    subst (AreHeld c.args.odd.now c.args.nodes.now c.args.count) (sym (with_items_is c.in_ok-held.held c.add_before.new.held long)) held
