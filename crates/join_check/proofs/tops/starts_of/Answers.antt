use Rattle.mb_problem.proofs.Common.{ℤ, pos, ap, sym, ◌∙◌, subst, List, length, length-replicate, with_items_is}
use Rattle.graph_theory.proofs.Members.{everywhere}
use Rattle.join_check.specs.Checks.{at, AreStarts}
use Rattle.join_check.proofs.tops.starts_of.Goals as goal

pub add_lengths-requires-clause-size : goal.add_lengths-requires-clause-size
add_lengths-requires-clause-size c = ap length (c.deref_mut.ensures.value ∙ c.in_ok-starts.ensures.items_if_clones_equal (λ y h. h)) ∙ length-replicate _ _

pub add_lengths-requires-clause-zeros : goal.add_lengths-requires-clause-zeros
add_lengths-requires-clause-zeros c = λ x. ap (λ (zs : List ℤ). at zs x) (c.deref_mut.ensures.value ∙ c.in_ok-starts.ensures.items_if_clones_equal (λ y h. h)) ∙ everywhere (pos 0) _ x

pub returns : goal.returns
returns c =
    let long = c.add_lengths.auto.starts ∙ ap length c.deref_mut.ensures.value ∙ sym c.in_ok-starts.starts.ok.0 in
    subst (AreStarts c.args.lengths.now c.args.befores.now) (sym (with_items_is c.in_ok-starts.starts c.add_lengths.new.starts long)) c.add_lengths.ensures
