use Rattle.alt_forest.proofs.Common.{◌≡◌, holds, members_of}
use Rattle.state_check.proofs.rings.has_member.Given as goal

abbrev pub invariant-loop-member : goal.invariant-loop-member
invariant-loop-member l = holds l.member-iterator l.v ≡ holds (members_of l.arena.blossoms l.fn.node) l.v
