use Rattle.mb_problem.proofs.Common.{◌≡◌, ℕ, List, length, slice_index, ap, sym, ◌∙◌, arith, length-replicate, get_or-replicate, with_items_is}
use Rattle.gadget_tjoin.proofs.groups.edge_counts.Goals as goal

pub count_edges-requires-clause-start : goal.count_edges-requires-clause-start
count_edges-requires-clause-start c = λ k b. let is = c.deref_mut.ensures.value ∙ c.in_ok-counts.ensures.items_if_clones_equal (λ y h. h) in
    ap (λ (xs : List ℕ). slice_index xs k) is ∙ get_or-replicate c.vertices.result k 0 0 (omega (arith, b, ap length is ∙ length-replicate c.vertices.result 0))

pub returns : goal.returns
returns c =
    let v = c.in_ok-counts.counts in
    let zeros = c.in_ok-counts.ensures.items_if_clones_equal (λ y h. h) in
    let same : length c.count_edges.new.degrees ≡ length v.items = c.count_edges.ensures.size ∙ ap length c.deref_mut.ensures.value in
    let is = with_items_is v c.count_edges.new.degrees (same ∙ sym v.ok.0) in
    record {
      size = ap length is ∙ same ∙ ap length zeros ∙ length-replicate c.vertices.result 0 ∙ c.vertices.ensures.count;
      each = λ k b. ap (λ (xs : List ℕ). slice_index xs k) is ∙ c.count_edges.ensures.counts k b;
      value_limit = λ k b. let at = ap (λ (xs : List ℕ). slice_index xs k) is in omega (arith, at, c.count_edges.ensures.value_limit k b);
      network = c.vertices.ensures.network;
    }
