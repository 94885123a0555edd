use Rattle.mb_problem.proofs.Common.{ap, sym, ◌∙◌, subst, length, length-replicate, with_items_is}
use Rattle.join_check.specs.Checks.{AreDepths}
use Rattle.join_check.proofs.places.depths_of.Goals as goal

pub fill_depths-requires-clause-size : goal.fill_depths-requires-clause-size
fill_depths-requires-clause-size c = ap length (c.deref_mut.ensures.value ∙ c.in_ok-depths.ensures.items_if_clones_equal (λ y h. h)) ∙ length-replicate _ _

pub returns : goal.returns
returns c =
    let long = c.fill_depths.auto.depths ∙ ap length c.deref_mut.ensures.value ∙ sym c.in_ok-depths.depths.ok.0 in
    subst (AreDepths c.args.lengths.now c.args.tops.now c.args.nodes.now c.args.heights.now) (sym (with_items_is c.in_ok-depths.depths c.fill_depths.new.depths long)) c.fill_depths.ensures
