use Rattle.graph_theory.proofs.Common.{◌≡◌, ◌∙◌, ◌+◌, ◌<◌, length, ap, subst, arith, rules, length-set}
use Rattle.search_tables.specs.Listing.{Listing, tree_id_at}
use Rattle.circular_lists.specs.Linked.{HasLinks, link_at}
use Rattle.search_tables.proofs.KeptSteps.{owned_more}
use Rattle.search_tables.proofs.tree_nodes.TreeNodes.list.Goals as goal

pub invariant_of-self : goal.invariant_of-self
invariant_of-self c =
    let s = c.self.inside in let k = c.self.invariant in
    let tree_ids : s.tree_ids.items ≡ c.args.self.now.tree_ids = ap (λ (l : Listing). l.tree_ids) c.self.view_is in
    let count : length c.put_last.new.tree_ids.items ≡ length s.tree_ids.items = ap length c.put_last.ensures.tree_ids ∙ length-set s.tree_ids.items c.args.node _ in
    let low : c.args.node < length s.tree_ids.items = omega (arith, c.requires.node, ap length tree_ids) in
    record {
      room = omega (arith, k.room, count, c.put_last.ensures.capacity);
      places = omega (arith, k.places, count, c.put_last.ensures.places);
      links = subst (HasLinks c.put_behind.new.lists)
          (k.links.nexts ∙ (let e : length s.tree_ids.items + length s.tree_ids.items ≡ length c.put_last.new.tree_ids.items + length c.put_last.new.tree_ids.items = omega (arith, count) in
          e)) c.put_behind.ensures.links;
      placed = c.put_last.ensures.placed;
      owned = owned_more s.tree_ids.items c.put_last.new.tree_ids.items (link_at s.lists.next.items)
          (link_at s.lists.previous.items) c.put_behind.new.lists.next.items c.put_behind.new.lists.previous.items
          c.args.node c.args.tree_id _ _ k.links.linked k.owned low (ap (λ (xs : _). tree_id_at xs c.args.node) tree_ids ∙ c.requires.new) (search rules)
          (search rules) c.put_last.ensures.tree_ids c.put_behind.ensures.next c.put_behind.ensures.previous;
    }
