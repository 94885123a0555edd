use Rattle.graph_theory.proofs.Common.{◌≡◌, ◌∙◌, ℕ, ◌<◌, false, length, Option, Some, None, is_some, ap, arith, length-set}
use Rattle.alt_forest.specs.TreeNodes.{tree_id_at}
use Rattle.blossom_arena.specs.Family.{Family}
use Rattle.alt_forest.specs.declared.search.Search.{Search}
use Rattle.alt_forest.specs.Searches.{label_at, put}
use Rattle.search_tables.proofs.Kept.{put_tree_id}
use Rattle.alt_forest.proofs.Listed.{room_left, listed_more}
use Rattle.search_tables.proofs.Updates.{put_here, put_twice}
use Rattle.alt_forest.proofs.search.Search.stand.Goals.{After-forget}
use Rattle.alt_forest.proofs.search.Search.stand.Goals as goal

-- the node isn't listed any more
none_at : (c : After-forget) → tree_id_at c.forget.new.tree_nodes.tree_ids c.args.node ≡ None
none_at c = ap (λ (f : ℕ → Option ℕ). f c.args.node) c.forget.ensures.tree_ids ∙ put_here (tree_id_at c.args.self.now.tree_nodes.tree_ids) c.args.node None

free : (c : After-forget) → is_some (tree_id_at c.forget.new.tree_nodes.tree_ids c.args.node) ≡ false
free c = ap (λ (o : Option ℕ). is_some o) (none_at c)

pub list-requires-clause-room : goal.list-requires-clause-room
list-requires-clause-room c =
    omega (
      arith,
      c.requires.shape.room.tree_ids,
      c.forget.ensures.places,
      room_left c.args.self.now.graph.vertices c.forget.new.tree_nodes.nodes c.forget.new.tree_nodes.tree_ids c.args.node
          (c.forget.ensures.listed c.args.self.now.graph.vertices c.requires.listed) c.requires.low c.requires.high (free (goal.at.list-requires-clause-room c).After-forget),
    )

pub list-requires-clause-new : goal.list-requires-clause-new
list-requires-clause-new c = none_at (goal.at.list-requires-clause-new c).After-forget

pub returns : goal.returns
returns c =
    let s = c.args.self.now in let h = c.requires.shape in let n : ℕ = s.graph.vertices in
    let r = c.forget.new.tree_nodes in
    let low : c.args.node < length r.tree_ids = omega (arith, c.requires.high, h.room.tree_ids, c.forget.ensures.places) in
    let w : Option ℕ = Some c.args.tree_id in
    let places = ap length c.list.ensures.tree_ids ∙ length-set r.tree_ids c.args.node w ∙ c.forget.ensures.places ∙ h.room.tree_ids in
    record {
      frame = ap (λ (f : Family). let x : Search = record s { arena = f; tree_nodes = c.list.new.self } in x) c.set_motion.ensures.frame;
      shape = assumption (c.set_motion.ensures.is_family, ap (λ (f : Family). f.vertex_count) c.set_motion.ensures.frame ∙ h.arena, places, h.room, h);
      listed = rw (c.list.ensures.nodes, c.list.ensures.tree_ids) (listed_more n r.nodes r.tree_ids c.args.node c.args.tree_id (c.forget.ensures.listed n c.requires.listed)
          c.requires.low c.requires.high low (free (goal.at.returns c).After-forget));
      tree_ids = ap tree_id_at c.list.ensures.tree_ids ∙ put_tree_id r.tree_ids c.args.node w low ∙ ap (λ (f : ℕ → Option ℕ). put f c.args.node w) c.forget.ensures.tree_ids
          ∙ put_twice (tree_id_at s.tree_nodes.tree_ids) c.args.node None w;
      motions = c.set_motion.ensures.motions ∙ ap (put (label_at s.arena.motions) c.args.node) c.label-label.ensures.label;
    }
