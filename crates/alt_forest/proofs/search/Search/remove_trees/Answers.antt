use Rattle.graph_theory.proofs.Common.{◌∙◌, ℕ, List, ap, sym, subst}
use Rattle.blossom_arena.specs.Family.{Family}
use Rattle.alt_forest.specs.declared.search.Search.{Search}
use Rattle.alt_forest.specs.TreeNodes.{AreListed}
use Rattle.alt_forest.proofs.Listed.{none_listed}
use Rattle.alt_forest.proofs.search.Search.remove_trees.Goals as goal

pub returns : goal.returns
returns c =
    let n : ℕ = c.args.self.now.graph.vertices in let h = c.requires.shape in
    record {
      frame = ap (λ (f : Family). let x : Search = record c.args.self.now { arena = f; tree_nodes = c.clear.new.self } in x) c.rest.ensures.frame;
      shape = assumption (c.rest.ensures.is_family, ap (λ (f : Family). f.vertex_count) c.rest.ensures.frame ∙ h.arena, c.clear.ensures.places ∙ h.room.tree_ids, h.room, h);
      none = c.clear.ensures.nodes;
      motions = c.rest.ensures.motions;
      listed = subst (λ (xs : List ℕ). AreListed n xs c.clear.new.self.tree_ids) (sym c.clear.ensures.nodes) (none_listed n c.clear.new.self.tree_ids c.clear.ensures.tree_ids);
    }
