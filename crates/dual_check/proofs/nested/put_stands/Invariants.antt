use Rattle.graph_theory.proofs.Common.{◌≡◌, ℕ, length}
use Rattle.dual_check.specs.NestedTotals.{IsStand, stand_of}
use Rattle.dual_check.proofs.nested.put_stands.Given as goal

abbrev pub invariant-loop-q : goal.invariant-loop-q
invariant-loop-q l = record { size : length l.stands ≡ length l.initial.stands; stands : (w : ℕ) → IsStand l.forest l.fn.begin l.q w (stand_of l.stands w) }
