use Rattle.mb_problem.proofs.Common.{ap, sym, ◌∙◌, subst, length, length-replicate, with_items_is}
use Rattle.join_check.specs.Checks.{AreStarts, AreTops}
use Rattle.join_check.proofs.tops.tops_of.Goals as goal

pub fill_tops-requires-clause-size : goal.fill_tops-requires-clause-size
fill_tops-requires-clause-size c = ap length (c.deref_mut.ensures.value ∙ c.in_ok-tops.ensures.items_if_clones_equal (λ y h. h)) ∙ length-replicate _ _

pub fill_tops-requires-clause-starts : goal.fill_tops-requires-clause-starts
fill_tops-requires-clause-starts c = subst (AreStarts c.args.lengths.now c.args.befores.now) (sym c.deref.ensures.value) c.in_ok-starts.ensures

pub returns : goal.returns
returns c =
    let long = c.fill_tops.auto.tops ∙ ap length c.deref_mut.ensures.value ∙ sym c.in_ok-tops.tops.ok.0 in
    subst (AreTops c.args.lengths.now c.args.befores.now) (sym (with_items_is c.in_ok-tops.tops c.fill_tops.new.tops long)) c.fill_tops.ensures
