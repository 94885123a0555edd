use Rattle.graph_theory.proofs.Common.{◌≡◌, ◌∙◌, ◌≤◌, true, None, sym, ap, subst, arith, length, length-set, length_permutation, holds, holds_all}
use Rattle.blossom_arena.specs.Family.{Family}
use Rattle.alt_forest.specs.declared.search.Search.{Search}
use Rattle.alt_forest.specs.Trees.{node_limit}
use Rattle.alt_forest.specs.TreeNodes.{AreListed, tree_id_at}
use Rattle.search_tables.proofs.Kept.{put_tree_id, seeded_within}
use Rattle.alt_forest.proofs.Listed.{listed_less}
use Rattle.alt_forest.proofs.search.Search.remove_node.Goals as goal

pub halt-requires-clause-within : goal.halt-requires-clause-within
halt-requires-clause-within c =
    let s = c.args.self.now in
    let listed : holds s.tree_nodes.nodes c.args.node ≡ true = sym (c.requires.listed.seeded c.args.node) ∙ c.requires.in_tree in
    let range = holds_all (λ a. (1 ≤ a) × (a ≤ node_limit s.graph.vertices)) s.tree_nodes.nodes c.args.node c.requires.listed.in_range listed in
    omega (arith, range.1, c.requires.shape.family.motions.one_each, ap node_limit c.requires.shape.arena)

pub returns : goal.returns
returns c =
    let s = c.args.self.now in let h = c.requires.shape in
    let low = seeded_within s.tree_nodes.tree_ids c.args.node c.requires.in_tree in
    let places = ap length c.remove_node.ensures.tree_ids ∙ length-set s.tree_nodes.tree_ids c.args.node _ ∙ h.room.tree_ids in
    record {
      frame = ap (λ (f : Family). let x : Search = record s { arena = f; tree_nodes = c.remove_node.new.self } in x) c.halt.ensures.frame;
      shape = assumption (c.halt.ensures.is_family, ap (λ (f : Family). f.vertex_count) c.halt.ensures.frame ∙ h.arena, places, h.room, h);
      listed = subst (AreListed s.graph.vertices c.remove_node.new.self.nodes) (sym c.remove_node.ensures.tree_ids)
          (listed_less s.graph.vertices s.tree_nodes.nodes c.remove_node.new.self.nodes s.tree_nodes.tree_ids c.args.node c.requires.listed c.remove_node.ensures.nodes low);
      tree_ids = ap tree_id_at c.remove_node.ensures.tree_ids ∙ put_tree_id s.tree_nodes.tree_ids c.args.node None low;
      motions = c.halt.ensures.motions;
      fewer = omega (arith, length_permutation _ _ c.remove_node.ensures.nodes);
    }
