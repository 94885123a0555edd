use Rattle.alt_forest.proofs.Common.{◌≡◌, ◌∙◌, true, sym, subst, AllByRecursion, and_parts, is_outermost, is_vertex, Outer, label_at, is_label, nested_of}
use Rattle.augment.proofs.OuterLists.{members_within}
use Rattle.augment.proofs.tree_sizes.left_after.Goals as goal

pub left_of-requires-clause-vertices : goal.left_of-requires-clause-vertices
left_of-requires-clause-vertices c =
    let s = c.args.search.now in
    let outer = and_parts (is_outermost s.graph.vertices s.arena.blossoms c.args.node) (is_label (label_at s.labels.items c.args.node) Outer)
    (sym c.is_outer.ensures ∙ c.if-not-is_outer.false) in
    subst (AllByRecursion (λ v. is_vertex s.graph.vertices v ≡ true)) (sym c.members.ensures.members) (members_within s (nested_of s c.requires.shape) c.args.node outer.0)
