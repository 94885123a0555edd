use Rattle.blossom_arena.proofs.Parents.{climb_step}
use Rattle.blossom_arena.proofs.chain.ChainIterator.next.Goals as goal

pub invariant_of-self : goal.invariant_of-self
invariant_of-self c = (climb_step _ _ c.self.invariant c.if-self-eq0.false).next
