use Rattle.mb_problem.proofs.Common.{List, ℤ, ◌∙◌, subst, ℕ, ◌<◌, length, slice_index, edge_at, graph_of}
use Rattle.mb_problem.proofs.Common.{ap, sym, arith, ints}
use Rattle.join_check.specs.Checks.{at, AreDepths, AreLengths, ArePostorder, IsWideBy}
use Rattle.join_check.proofs.Totals.{order-of, top-above}
use Rattle.join_check.proofs.Assembled.{wide-by}
use Rattle.join_check.proofs.proved.is_wide.Goals as goal

pub depths_of-requires-clause-above : goal.depths_of-requires-clause-above
depths_of-requires-clause-above c = λ x b.
    let ls = c.as_slice-lengths.result.now in
    let bs = c.as_slice-befores.result.now in
    let value = ap (λ (zs : List ℤ). at zs x) c.deref.ensures.value in
    let lengths = subst AreLengths (sym c.as_slice-lengths.ensures) c.requires.forest.lengths in
    let begin = subst (λ (ys : List ℕ). ArePostorder ys (length ys)) (sym c.as_slice-befores.ensures) c.requires.forest.postorder in
    let order = order-of ls bs (ap length c.as_slice-befores.ensures ∙ c.requires.forest.one_each ∙ sym (ap length c.as_slice-lengths.ensures)) begin in
    omega (arith, ints, value, c.in_ok-tops.ensures.each x b, top-above ls bs x lengths order b)

pub returns : goal.returns
returns c = λ t.
    let i = c.args.instance.now in
    let tops = c.in_ok-tops.tops.items in
    let depths = c.in_ok-depths.depths.items in
    let ls = c.as_slice-lengths.result.now in
    let bs = c.as_slice-befores.result.now in
    let ns = c.as_slice-nodes.result.now in
    let hs = c.as_slice-heights.result.now in
    let ms = c.as_slice-meets.result.now in
    wide-by i c.args.levels.now ls bs ns hs ms tops depths c.as_slice-lengths.ensures c.as_slice-befores.ensures c.as_slice-nodes.ensures c.as_slice-heights.ensures c.as_slice-meets.ensures
    c.in_ok-tops.ensures (subst (λ (xs : List ℤ). AreDepths ls xs ns hs depths) c.deref.ensures.value c.in_ok-depths.ensures)
    (subst (λ (xs : List ℤ). (k : ℕ) → k < length i.edges → IsWideBy tops bs ns xs (edge_at (graph_of i) k) (slice_index ms k)) c.deref-3.ensures.value
    (subst (λ (xs : List ℤ). (k : ℕ) → k < length i.edges
    → IsWideBy xs bs ns c.deref-3.result.now (edge_at (graph_of i) k) (slice_index ms k)) c.deref-2.ensures.value (c.are_wide.ensures t)))
