use Rattle.graph_theory.proofs.Common.{◌<◌, ℕ, List, length, slice_index, get_or-replicate, length-replicate, with_items_is, ap, sym, subst, ◌∙◌}
use Rattle.mb_problem.specs.Degrees.{AreDegrees}
use Rattle.mb_problem.proofs.degrees.degrees_of.Goals as goal

pub add_counts-requires-clause-start : goal.add_counts-requires-clause-start
add_counts-requires-clause-start c = λ k b.
    let are = c.deref_mut.ensures.value ∙ c.in_ok-degrees.ensures.items_if_clones_equal (λ y h. h) in
    ap (λ (m : List ℕ). slice_index m k) are ∙ get_or-replicate _ k 0 0 (subst (λ (n : ℕ). k < n) (ap length are ∙ length-replicate _ _) b)

pub returns : goal.returns
returns c =
    let long = c.add_counts.auto.degrees ∙ ap length c.deref_mut.ensures.value ∙ sym c.in_ok-degrees.degrees.ok.0 in
    subst (AreDegrees c.args.instance.now c.args.counts.now) (sym (with_items_is c.in_ok-degrees.degrees c.add_counts.new.degrees long)) c.add_counts.ensures
