use Rattle.mb_problem.proofs.Common.{ℕ, ap, sym, ◌∙◌, arith, List, length, slice_index, length-replicate, with_items_is}
use Rattle.graph_theory.proofs.Members.{everywhere}
use Rattle.join_check.proofs.held.held_each.Goals as goal

pub count_held-requires-clause-nodes : goal.count_held-requires-clause-nodes
count_held-requires-clause-nodes c = λ j b.
    let size = ap length (c.deref_mut.ensures.value ∙ c.in_ok-held.ensures.items_if_clones_equal (λ y h. h)) ∙ length-replicate _ _ in
    omega (arith, size, c.requires.nodes j b)

pub count_held-requires-clause-zeros : goal.count_held-requires-clause-zeros
count_held-requires-clause-zeros c = λ x. ap (λ (xs : List ℕ). slice_index xs x) (c.deref_mut.ensures.value ∙ c.in_ok-held.ensures.items_if_clones_equal (λ y h. h)) ∙ everywhere 0 _ x

pub returns : goal.returns
returns c =
    let size = c.count_held.ensures.size ∙ ap length c.deref_mut.ensures.value in
    let is = with_items_is c.in_ok-held.held c.count_held.new.held (size ∙ sym c.in_ok-held.held.ok.0) in
    record {
      size = ap length is ∙ size ∙ ap length (c.in_ok-held.ensures.items_if_clones_equal (λ y h. h)) ∙ length-replicate _ _;
      each = λ x. ap (λ (xs : List ℕ). slice_index xs x) is ∙ c.count_held.ensures.each x;
    }
