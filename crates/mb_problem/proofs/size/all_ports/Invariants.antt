use Rattle.graph_theory.proofs.Common.{◌≡◌, ◌+◌, ◌-◌, ◌*◌, ◌/◌, ◌≤◌, sum_to}
use Rattle.mb_problem.specs.Size.{port_count, odd_at}
use Rattle.mb_problem.proofs.size.all_ports.Given as goal

abbrev pub invariant-loop-k : goal.invariant-loop-k
invariant-loop-k l = record {
  ports : l.ports ≡ sum_to (λ j. port_count l.instance (odd_at l.parity l.instance) (j + 1)) l.k;
  few_ports : l.ports ≤ 131073 * l.k;
  pairs : l.pairs ≡ sum_to (λ j. port_count l.instance (odd_at l.parity l.instance) (j + 1) * (port_count l.instance (odd_at l.parity l.instance) (j + 1) - 1) / 2) l.k;
  few_pairs : l.pairs ≤ 131073 * 131073 * l.k;
}
