use Rattle.graph_theory.proofs.Common.{◌≡◌, ◌∙◌, ◌+◌, ap, arith, rules, get_or_read}
use Rattle.circular_lists.specs.Linked.{link_at}
use Rattle.circular_lists.proofs.Owners.{last_found, none_last}
use Rattle.search_heap.proofs.buckets.Buckets.oldest.Goals.{After-index-slot}
use Rattle.search_heap.proofs.buckets.Buckets.oldest.Goals as goal

slot_is : (c : After-index-slot) → c.index-slot.result.now ≡ link_at c.args.self.now.lists.previous.items (c.args.self.now.slots + c.args.list)
slot_is c =
    let b = c.args.self.now in
    get_or_read b.lists.previous.items (b.slots + c.args.list) c.index-slot.result.now (omega (arith, c.requires.list, c.requires.links.previouses)) (search rules)
    (b.slots + c.args.list)

pub returns-then-slot-self-clause-none : goal.returns-then-slot-self-clause-none
returns-then-slot-self-clause-none c = λ home h s on.
    let b = c.args.self.now in
    none_last b.slots home (link_at b.lists.next.items) (link_at b.lists.previous.items) c.args.list c.requires.links.linked h.owned
    (omega (arith, slot_is (goal.at.returns-then-slot-self-clause-none c).After-index-slot, c.if-slot-self.true)) s (h.within s c.args.list on) on

pub returns-clause-some : goal.returns-clause-some
returns-clause-some c = λ home h.
    let b = c.args.self.now in let at = slot_is (goal.at.returns-clause-some c).After-index-slot in (
      c.if-slot-self.false,
      ap home at ∙ last_found b.slots home (link_at b.lists.next.items) (link_at b.lists.previous.items) c.args.list c.requires.links.linked h.owned
          (omega (arith, at, c.if-slot-self.false)),
    )
