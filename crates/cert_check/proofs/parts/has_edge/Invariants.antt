use Rattle.mb_problem.proofs.Common.{◌≡◌, ℕ, ◌<◌, instance_edge_at}
use Rattle.cert_check.specs.Marked.{mark_of}
use Rattle.cert_check.proofs.parts.has_edge.Given as goal

abbrev pub invariant-loop-edge : goal.invariant-loop-edge
invariant-loop-edge l = (k : ℕ) → k < l.edge-index → mark_of l.marks (instance_edge_at l.instance k).u ≡ l.wanted → ⊥
