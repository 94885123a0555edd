use Rattle.graph_theory.proofs.Common.{◌≡◌, ◌+◌, ℕ, length}
use Rattle.graph_parts.specs.Flags.{IsBalanced}
use Rattle.graph_parts.proofs.FlagLemmas.{IsCarried}
use Rattle.graph_parts.proofs.carrying.carry_all.Given as goal

abbrev pub invariant-loop-link : goal.invariant-loop-link
invariant-loop-link l = record {
  flags : length l.flags ≡ l.graph.vertices + 1;
  taken : length l.taken ≡ length l.graph.edges + 1;
  carried : IsCarried l.graph l.left.items l.flags;
  balanced : (odd : ℕ → ℕ) → IsBalanced l.graph odd l.initial.taken l.initial.flags → IsBalanced l.graph odd l.taken l.flags;
}

abbrev pub decreases-loop-link : goal.decreases-loop-link
decreases-loop-link l = length l.left.items
