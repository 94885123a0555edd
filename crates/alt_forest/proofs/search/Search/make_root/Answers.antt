use Rattle.graph_theory.proofs.Common.{◌≡◌, ◌∙◌, ◌⊎◌, ◌↔◌, ◌≤◌, ℕ, true, List, ◌++◌, length, sym, ap, subst, arith, Some, holds}
use Rattle.std.specs.Vec.{vec_capacity}
use Rattle.blossom_arena.specs.Family.{is_node, is_vertex, members_of, outermost}
use Rattle.blossom_arena.specs.declared.label.Label.{Label}
use Rattle.blossom_arena.proofs.Nested.{outermost_parts}
use Rattle.blossom_arena.proofs.Sets.{outermost_by_member}
use Rattle.blossom_arena.specs.declared.label.Label.TheVariants.{Outer}
use Rattle.alt_forest.specs.declared.search.Search.{Search}
use Rattle.search_tables.specs.Listing.{Listing}
use Rattle.alt_forest.specs.State.{State, IsOutermost, IsSearchState}
use Rattle.alt_forest.specs.Counts.{exposed_count, is_outside, tree_count}
use Rattle.alt_forest.specs.Trees.{IsRoot, node_limit}
use Rattle.alt_forest.specs.Searches.{HasShape, label_at, state_of, put}
use Rattle.alt_forest.specs.Entries.{ends_around, outside_ends}
use Rattle.alt_forest.specs.TreeNodes.{AreListed, HasTreeNodes, tree_id_at}
use Rattle.alt_forest.proofs.Places.{nested_of, outer_range}
use Rattle.alt_forest.proofs.Planted.{members_fit, whole, planted_state, planted_tree_nodes, root_ends, root_inside}
use Rattle.alt_forest.proofs.Relabelled.{with_labels}
use Rattle.alt_forest.proofs.search.Search.make_root.Goals.{After-scan}
use Rattle.alt_forest.proofs.search.Search.make_root.Goals as goal

pub stand-requires : goal.stand-requires
stand-requires c =
    let back = sym c.label_root.ensures.frame in let shape = c.label_root.ensures.sound.shape in
    let range = outer_range c.args.self.now c.args.v c.requires.sound.shape c.requires.exposed.0 in
    record {
      shape = shape;
      listed = subst (λ (x : Search). AreListed x.graph.vertices x.tree_nodes.nodes x.tree_nodes.tree_ids) back c.requires.listed.listed;
      low = range.0;
      high = subst (λ (x : Search). c.args.v ≤ node_limit x.graph.vertices) back range.1;
      outermost = subst (λ (x : Search). IsOutermost (state_of x) c.args.v) back c.requires.exposed.0;
      vertex = ap (λ (n : ℕ). is_vertex n c.vertex_within-tree_id.result) (sym shape.arena) ∙ c.vertex_within-tree_id.ensures.vertex;
    }

pub scan-requires : goal.scan-requires
scan-requires c =
    let s : Search = c.args.self.now in
    let same : c.stand.new.self ≡ record s {
      arena = record s.arena { motions = c.stand.new.self.arena.motions };
      labels = c.label_root.new.search.labels;
      tree_nodes = c.stand.new.self.tree_nodes;
    } =
    c.stand.ensures.frame
    ∙ ap (λ (x : Search). let y : Search = record x { arena = record x.arena { motions = c.stand.new.self.arena.motions }; tree_nodes = c.stand.new.self.tree_nodes } in y)
    c.label_root.ensures.frame in
    let node = (outermost_parts s.graph.vertices s.arena.blossoms c.args.v c.requires.exposed.0).0 in
    let fit = members_fit s.graph.vertices s.arena.blossoms c.args.v (nested_of s c.requires.sound.shape) node in
    let members = ap (λ (x : Search). length (members_of x.arena.blossoms c.args.v)) same in
    let h = c.stand.ensures.shape in
    let room : c.stand.new.self.graph.vertices ≤ vec_capacity c.clear.new.self = omega (arith, h.room.scanned, c.clear.ensures.capacity) in
    record {
      shape = assumption (room, h.room, h);
      node = subst (λ (x : Search). is_node x.graph.vertices x.arena.blossoms c.args.v ≡ true) (sym same) node;
      room = omega (arith, fit, members, ap (λ (x : Search). x.graph.vertices) same, room, c.clear.ensures.len);
    }

-- what is left as it was, and the labels
rest : (c : After-scan) → c.scan.new.self ≡ record c.args.self.now {
  arena = record c.args.self.now.arena { motions = c.scan.new.self.arena.motions };
  labels = c.scan.new.self.labels;
  tree_nodes = c.scan.new.self.tree_nodes;
  scanned = c.scan.new.self.scanned;
}
rest c = whole c.args.self.now c.label_root.new.search c.stand.new.self c.scan.new.self c.label_root.ensures.frame c.stand.ensures.frame c.scan.ensures.frame

labels : (c : After-scan) → label_at c.scan.new.self.labels.items ≡ put (label_at c.args.self.now.labels.items) c.args.v Outer
labels c = ap (λ (x : Search). label_at x.labels.items) (c.scan.ensures.frame) ∙ ap (λ (x : Search). label_at x.labels.items) c.stand.ensures.frame ∙ c.label_root.ensures.labels

planted : (c : After-scan) → state_of c.scan.new.self ≡ with_labels (state_of c.args.self.now) (put (label_at c.args.self.now.labels.items) c.args.v Outer)
planted c = planted_state c.args.self.now c.scan.new.self c.args.v (rest c) (labels c) c.requires.sound c.requires.exposed c.requires.out

same : (c : After-scan) → state_of c.scan.new.self ≡ state_of c.label_root.new.search
same c = ap state_of c.scan.ensures.frame ∙ ap state_of c.stand.ensures.frame

stands : (c : After-scan) → HasTreeNodes c.scan.new.self
stands c =
    let s : Search = c.args.self.now in let l : Search = c.label_root.new.search in let t : Search = c.scan.new.self in
    let w : ℕ = c.vertex_within-tree_id.result in let one = c.label_root.ensures.frame in
    let three = c.scan.ensures.frame in
    let listing : t.tree_nodes ≡ c.stand.new.self.tree_nodes = ap (λ (x : Search). x.tree_nodes) three in
    let listed : AreListed s.graph.vertices t.tree_nodes.nodes t.tree_nodes.tree_ids = rw (listing, ← (ap (λ (x : Search). x.graph.vertices) one)) c.stand.ensures.listed in
    let count : l.arena.vertex_count ≡ s.graph.vertices = ap (λ (x : Search). x.arena.vertex_count) one ∙ c.requires.sound.shape.arena in
    let vertex : is_vertex s.graph.vertices w ≡ true = ap (λ (k : ℕ). is_vertex k w) (sym count) ∙ c.vertex_within-tree_id.ensures.vertex in
    let member : holds (members_of s.arena.blossoms c.args.v) w ≡ true = sym (ap (λ (x : Search). holds (members_of x.arena.blossoms c.args.v) w) one)
    ∙ c.vertex_within-tree_id.ensures.member in
    let within : outermost s.arena.blossoms w ≡ c.args.v = outermost_by_member s.graph.vertices s.arena.blossoms c.args.v w (nested_of s c.requires.sound.shape)
    c.requires.exposed.0 member in
    let tree_ids = ap (λ (x : Listing). tree_id_at x.tree_ids) listing ∙ c.stand.ensures.tree_ids ∙ ap (λ (x : Search). put (tree_id_at x.tree_nodes.tree_ids) c.args.v (Some w)) one in
    let kept : l.labels.items ≡ t.labels.items = sym (ap (λ (x : Search). x.labels.items) three ∙ ap (λ (x : Search). x.labels.items) c.stand.ensures.frame) in
    let motions : label_at t.arena.motions ≡ put (label_at s.arena.motions) c.args.v (label_at t.labels.items c.args.v) =
    ap (λ (x : Search). label_at x.arena.motions) three ∙ c.stand.ensures.motions
    ∙ ap (λ (x : Search). put (label_at x.arena.motions) c.args.v (label_at l.labels.items c.args.v)) one
    ∙ ap (λ (ls : List Label). put (label_at s.arena.motions) c.args.v (label_at ls c.args.v)) kept in
    planted_tree_nodes s t c.args.v (rest c) (labels c) c.requires.sound c.requires.exposed c.requires.out w vertex within listed tree_ids motions c.requires.listed

pub returns : goal.returns
returns c =
    let s : Search = c.args.self.now in let v : ℕ = c.args.v in let h = c.stand.ensures.shape in
    let sound = c.label_root.ensures.sound in let nested = nested_of s c.requires.sound.shape in
    let room : c.stand.new.self.graph.vertices ≤ vec_capacity c.scan.new.self.scanned = omega (arith, h.room.scanned, c.clear.ensures.capacity, c.scan.ensures.capacity) in
    let items = c.scan.ensures.scanned ∙ ap (λ (xs : List ℕ). xs ++ members_of c.stand.new.self.arena.blossoms v) c.clear.ensures.items
    ∙ ap (λ (x : Search). members_of x.arena.blossoms v) c.stand.ensures.frame ∙ ap (λ (x : Search). members_of x.arena.blossoms v) c.label_root.ensures.frame in
    record {
      labels = labels c;
      scanned = items;
      frame = rest c;
      roots = λ a. subst (λ (x : State). IsRoot x a ↔ (IsRoot (state_of s) a ⊎ (a ≡ v))) (sym (same c)) (c.label_root.ensures.roots a);
      trees = ap tree_count (same c) ∙ c.label_root.ensures.trees;
      exposed = ap exposed_count (same c) ∙ c.label_root.ensures.exposed;
      sound = record {
        shape = subst HasShape (sym c.scan.ensures.frame) (assumption (room, h.room, h));
        depth = sound.depth;
        state = subst (λ (x : State). IsSearchState x sound.depth) (sym (same c)) sound.state;
      };
      listed = stands c;
      inside = λ w e. root_inside (state_of s) v nested c.requires.exposed.0 c.requires.out w (sym (ap (λ (x : State). is_outside x w) (planted c)) ∙ e);
      ends = omega (arith, root_ends (state_of s) v nested c.requires.exposed.0 c.requires.out, ap (ends_around s.graph) items, ap outside_ends (planted c));
    }
