use Rattle.graph_theory.proofs.Common.{◌≡◌, ℕ, None, arith, rules}
use Rattle.search_tables.specs.Listing.{tree_id_at}
use Rattle.circular_lists.specs.Linked.{link_at}
use Rattle.search_tables.proofs.KeptSteps.{none_owned, none_placed}
use Rattle.search_tables.proofs.tree_nodes.TreeNodes.new.Goals as goal

pub invariant_of-result : goal.invariant_of-result
invariant_of-result c =
    let none : (a : ℕ) → tree_id_at c.in_ok-tree_ids.tree_ids.items a ≡ None = c.in_ok-tree_ids.ensures.none in
    record {
      room = omega (arith, c.in_ok-nodes.ensures.room, c.in_ok-tree_ids.ensures.len);
      places = search rules;
      links = search rules;
      placed = none_placed c.in_ok-nodes.nodes.items c.in_ok-places.places.items c.in_ok-tree_ids.tree_ids.items c.in_ok-nodes.ensures.empty none;
      owned = none_owned c.in_ok-tree_ids.tree_ids.items (link_at c.in_ok-lists.lists.next.items) (link_at c.in_ok-lists.lists.previous.items) none c.in_ok-lists.ensures.alone;
    }
