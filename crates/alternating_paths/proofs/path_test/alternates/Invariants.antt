use Rattle.mb_problem.proofs.Common.{◌↔◌, ◌≤◌, drop, Alternates}
use Rattle.alternating_paths.proofs.PathLemmas.{AlternateFrom}
use Rattle.alternating_paths.proofs.path_test.alternates.Given as goal

abbrev pub invariant-loop-edge : goal.invariant-loop-edge
invariant-loop-edge l = record { one_or_none : l.wanted ≤ 1; rest : AlternateFrom l.counts l.wanted (drop l.edge-index l.edges) ↔ Alternates l.counts l.edges }
