use Rattle.graph_theory.proofs.Common.{ℕ, List, length, slice_index, ap, ◌∙◌, arith, length-replicate, get_or-replicate}
use Rattle.gadget_base.proofs.plain.count_numbers.Goals as goal

pub add_listed-requires-clause-start : goal.add_listed-requires-clause-start
add_listed-requires-clause-start c = λ k b. let is = c.deref_mut.ensures.value ∙ c.in_ok-counts.ensures.items_if_clones_equal (λ y h. h) in
    ap (λ (xs : List ℕ). slice_index xs k) is ∙ get_or-replicate c.args.count k 0 0 (omega (arith, b, ap length is ∙ length-replicate c.args.count 0))
