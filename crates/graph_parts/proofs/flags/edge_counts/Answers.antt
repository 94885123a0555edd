use Rattle.graph_theory.proofs.Common.{◌<◌, ℕ, List, length, slice_index, get_or-replicate, length-replicate, with_items_is, ap, sym, subst, ◌∙◌}
use Rattle.graph_parts.proofs.flags.edge_counts.Goals as goal

pub count_edges-requires-clause-start : goal.count_edges-requires-clause-start
count_edges-requires-clause-start c = λ k b.
    let are = c.deref_mut.ensures.value ∙ c.in_ok-counts.ensures.items_if_clones_equal (λ y h. h) in
    ap (λ (m : List ℕ). slice_index m k) are ∙ get_or-replicate _ k 0 0 (subst (λ (n : ℕ). k < n) (ap length are ∙ length-replicate _ _) b)

pub returns-clause-size : goal.returns-clause-size
returns-clause-size c =
    let are = c.in_ok-counts.ensures.items_if_clones_equal (λ y h. h) in
    let size = c.count_edges.ensures.size ∙ ap length c.deref_mut.ensures.value in
    ap length (with_items_is c.in_ok-counts.counts c.count_edges.new.degrees (size ∙ sym c.in_ok-counts.counts.ok.0)) ∙ size ∙ ap length are
    ∙ length-replicate _ _ ∙ c.vertices.ensures.count

pub returns-clause-each : goal.returns-clause-each
returns-clause-each c = λ k b.
    let long = c.count_edges.ensures.size ∙ ap length c.deref_mut.ensures.value ∙ sym c.in_ok-counts.counts.ok.0 in
    ap (λ (m : List ℕ). slice_index m k) (with_items_is c.in_ok-counts.counts c.count_edges.new.degrees long) ∙ c.count_edges.ensures.counts k b
