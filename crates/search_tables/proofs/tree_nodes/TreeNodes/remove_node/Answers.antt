use Rattle.graph_theory.proofs.Common.{◌≡◌, ◌∙◌, ◌+◌, length, is_some, sym, ap, subst, arith, rules, length-set}
use Rattle.search_tables.specs.Listing.{Listing, tree_id_at}
use Rattle.circular_lists.specs.Linked.{HasLinks, link_at}
use Rattle.search_tables.proofs.Kept.{seeded_within}
use Rattle.search_tables.proofs.KeptSteps.{owned_less}
use Rattle.search_tables.proofs.tree_nodes.TreeNodes.remove_node.Goals as goal

pub invariant_of-self : goal.invariant_of-self
invariant_of-self c =
    let s = c.self.inside in let k = c.self.invariant in
    let tree_ids : s.tree_ids.items ≡ c.args.self.now.tree_ids = ap (λ (l : Listing). l.tree_ids) c.self.view_is in
    let count : length c.take_placed.new.tree_ids.items ≡ length s.tree_ids.items = ap length c.take_placed.ensures.tree_ids ∙ length-set s.tree_ids.items c.args.node _ in
    record {
      room = omega (arith, k.room, count, c.take_placed.ensures.capacity);
      places = omega (arith, k.places, count, c.take_placed.ensures.places);
      links = subst (HasLinks c.take_off.new.lists)
          (k.links.nexts ∙ (let e : length s.tree_ids.items + length s.tree_ids.items ≡ length c.take_placed.new.tree_ids.items
          + length c.take_placed.new.tree_ids.items = omega (arith, count) in
          e)) c.take_off.ensures.links;
      placed = c.take_placed.ensures.placed;
      owned = owned_less s.tree_ids.items c.take_placed.new.tree_ids.items (link_at s.lists.next.items)
          (link_at s.lists.previous.items) c.take_off.new.lists.next.items c.take_off.new.lists.previous.items
          c.args.node _ k.links.linked k.owned (ap (λ (xs : _). is_some (tree_id_at xs c.args.node)) tree_ids ∙ c.requires)
          (search rules) c.take_placed.ensures.tree_ids c.take_off.ensures.next c.take_off.ensures.previous;
    }

pub take_off-requires : goal.take_off-requires
take_off-requires c =
    let k = c.self.invariant.links in let low = seeded_within c.args.self.now.tree_ids c.args.node c.requires in
    let tree_ids = ap (λ (l : Listing). length l.tree_ids) c.self.view_is in
    record { links = subst (HasLinks c.self.inside.lists) (sym k.nexts) k; place = omega (arith, low, tree_ids, k.nexts, c.number.ensures) }
