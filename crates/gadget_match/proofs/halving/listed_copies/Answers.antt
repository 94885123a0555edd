use Rattle.mb_problem.proofs.Common.{◌≡◌, ℕ, ◌+◌, ◌*◌, List, length, replicate, slice_index, ap, sym, ◌∙◌, arith, length-replicate, get_or-replicate, with_items_is}
use Rattle.gadget_base.proofs.Common.{tabled, tabled-length, times}
use Rattle.gadget_match.proofs.halving.listed_copies.Goals as goal

pub add_copies-requires-clause-start : goal.add_copies-requires-clause-start
add_copies-requires-clause-start c = λ k b.
    let n = c.args.count in
    let zeros : c.deref_mut.result.now ≡ replicate n 0 = c.deref_mut.ensures.value ∙ c.in_ok-counts.ensures.items_if_clones_equal (λ y h. h) in
    ap (λ (xs : List ℕ). slice_index xs k) zeros ∙ get_or-replicate n k 0 0 (omega (arith, b, ap length zeros ∙ length-replicate n 0))

pub returns : goal.returns
returns c =
    let v = c.in_ok-counts.counts in
    let f : ℕ → ℕ = λ k. times c.args.edges.now (2 * k + c.args.copy) in
    let old : c.deref_mut.result.now ≡ v.items = c.deref_mut.ensures.value in
    let zeros : v.items ≡ replicate c.args.count 0 = c.in_ok-counts.ensures.items_if_clones_equal (λ y h. h) in
    let same = ap length c.add_copies.ensures ∙ tabled-length f (length c.deref_mut.result.now) ∙ ap length old in
    with_items_is v c.add_copies.new.counts (same ∙ sym v.ok.0) ∙ c.add_copies.ensures ∙ ap (tabled f) (ap length old ∙ ap length zeros ∙ length-replicate c.args.count 0)
