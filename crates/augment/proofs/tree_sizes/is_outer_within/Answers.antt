use Rattle.alt_forest.proofs.Common.{◌≡◌, ◌∙◌, ap, ◌+◌, ◌<◌, ◌≤◌, length, get_or, subst, arith, get_or_read, ends_around}
use Rattle.alt_forest.specs.declared.search.Search.{Search}
use Rattle.augment.specs.Sides.{outer_part}
use Rattle.augment.proofs.OuterLists.{ends_more}
use Rattle.augment.proofs.tree_sizes.is_outer_within.Goals as goal

pub loop-place-preserved : goal.loop-place-preserved
loop-place-preserved c =
    let s : Search = c.args.search.now in
    let low : c.loop-place.place < length s.tree_nodes.nodes = subst (λ xs. c.loop-place.place < length xs) c.nodes-place-end.ensures c.loop-place-test.true in
    let at : c.index-nodes-place.result ≡ get_or s.tree_nodes.nodes c.loop-place.place 0 =
    get_or_read s.tree_nodes.nodes c.loop-place.place c.index-nodes-place.result low
    (c.index-nodes-place.is ∙ ap (λ xs. get_or xs c.loop-place.place c.index-nodes-place.result) c.nodes.ensures) 0 in
    let fewer : c.in-Some.fewer + ends_around s.graph (outer_part s (get_or s.tree_nodes.nodes c.loop-place.place 0)) ≤ c.loop-place.left =
    subst (λ a. c.in-Some.fewer + ends_around s.graph (outer_part s a) ≤ c.loop-place.left) at (c.left_after.ensures c.in-Some.fewer c.in-Some.is) in
    omega (arith, fewer, c.loop-place.invariant, ends_more s.graph (outer_part s) s.tree_nodes.nodes c.loop-place.place low)
