use Rattle.graph_theory.proofs.Common.{◌∙◌, ap, subst, Some, None}
use Rattle.circular_lists.specs.Updates.{put}
use Rattle.circular_lists.proofs.Updates.{put_here, put_twice}
use Rattle.search_heap.specs.declared.buckets.Buckets.{Buckets}
use Rattle.search_heap.specs.Rising.{IsHomed}
use Rattle.search_heap.proofs.Homes.{moved_moments}
use Rattle.search_heap.proofs.buckets.Buckets.shift.Goals as goal

pub returns-clause-homed : goal.returns-clause-homed
returns-clause-homed c = λ home h some.
    subst (IsHomed c.file.new.self) (put_twice home c.args.slot None (Some c.args.list))
    (c.file.ensures.homed (put home c.args.slot None) (c.take.ensures.homed home h some) (put_here home c.args.slot None))

pub returns-clause-moments : goal.returns-clause-moments
returns-clause-moments c = λ home h some.
    moved_moments c.args.self.now c.file.new.self c.args.slot c.args.list home
    (c.file.ensures.frame ∙ ap (λ (x : Buckets). let y : Buckets = record x { lists = c.file.new.self.lists } in y) c.take.ensures.frame) h some
    (subst (IsHomed c.file.new.self) (put_twice home c.args.slot None (Some c.args.list))
    (c.file.ensures.homed (put home c.args.slot None) (c.take.ensures.homed home h some) (put_here home c.args.slot None)))
