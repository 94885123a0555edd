use Rattle.graph_theory.proofs.Common.{refl, rules, subst}
use Rattle.circular_lists.specs.Linked.{HasLinks}
use Rattle.search_heap.proofs.Homes.{homed_with}
use Rattle.search_heap.proofs.buckets.Buckets.file.Goals as goal

pub returns-clause-homed : goal.returns-clause-homed
returns-clause-homed c = λ home h none.
    let b = c.args.self.now in
    homed_with b (record b { lists = c.put_behind.new.lists }) c.args.slot c.args.list _ refl (subst (HasLinks c.put_behind.new.lists) c.requires.links.nexts c.put_behind.ensures.links)
    c.requires.slot (search rules) c.put_behind.ensures.next c.put_behind.ensures.previous home h none
