use Rattle.graph_theory.proofs.Common.{◌≡◌, ℕ, length}
use Rattle.circular_lists.specs.Linked.{link_at}
use Rattle.circular_lists.proofs.lists.alone.Given as goal

abbrev pub invariant-loop-place : goal.invariant-loop-place
invariant-loop-place l = record { alone : (a : ℕ) → link_at l.links.items a ≡ a; len : length l.links.items ≡ l.place }
