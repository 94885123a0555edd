use Rattle.graph_theory.proofs.Common.{◌∙◌, ℕ, ap, refl, subst}
use Rattle.circular_lists.specs.Linked.{HasLinks, link_at}
use Rattle.circular_lists.specs.Updates.{put}
use Rattle.circular_lists.proofs.Updates.{put_here}
use Rattle.search_heap.proofs.Homes.{homed_without}
use Rattle.search_heap.proofs.buckets.Buckets.take.Goals as goal

pub returns-clause-homed : goal.returns-clause-homed
returns-clause-homed c = λ home h some.
    let b = c.args.self.now in
    homed_without b (record b { lists = c.take_off.new.lists }) c.args.slot refl (subst (HasLinks c.take_off.new.lists) c.requires.links.nexts c.take_off.ensures.links)
    c.take_off.ensures.next c.take_off.ensures.previous home h some

pub returns-clause-alone : goal.returns-clause-alone
returns-clause-alone c =
    let n : ℕ → ℕ = link_at c.args.self.now.lists.next.items in let p : ℕ → ℕ = link_at c.args.self.now.lists.previous.items in let a : ℕ = c.args.slot in
    ap (λ (f : ℕ → ℕ). f a) c.take_off.ensures.next ∙ put_here (put n (p a) (n a)) a a
