use Rattle.mb_problem.proofs.Common.{◌≡◌, ℕ, List, length, replicate, slice_index, ap, sym, ◌∙◌, arith, length-replicate, get_or-replicate, with_items_is}
use Rattle.gadget_base.proofs.Common.{tabled-length}
use Rattle.gadget_match.specs.Extracted.{listed_pairs}
use Rattle.gadget_match.proofs.gathering.count_pairs.Goals as goal

pub add_pairs-requires-clause-start : goal.add_pairs-requires-clause-start
add_pairs-requires-clause-start c = λ k b.
    let n = c.edges.result in
    let zeros : c.deref_mut.result.now ≡ replicate n 0 = c.deref_mut.ensures.value ∙ c.in_ok-counts.ensures.items_if_clones_equal (λ y h. h) in
    ap (λ (xs : List ℕ). slice_index xs k) zeros ∙ get_or-replicate n k 0 0 (omega (arith, b, ap length zeros ∙ length-replicate n 0))

pub returns : goal.returns
returns c =
    let i = c.args.instance.now in
    let v = c.in_ok-counts.counts in
    let zeros : v.items ≡ replicate c.edges.result 0 = c.in_ok-counts.ensures.items_if_clones_equal (λ y h. h) in
    let long : length v.items ≡ length i.edges = ap length zeros ∙ length-replicate c.edges.result 0 ∙ c.edges.ensures.count in
    let same = ap length c.add_pairs.ensures ∙ tabled-length (listed_pairs i c.args.edges.now) (length i.edges) ∙ sym long in
    record { counts = with_items_is v c.add_pairs.new.counts (same ∙ sym v.ok.0) ∙ c.add_pairs.ensures }
