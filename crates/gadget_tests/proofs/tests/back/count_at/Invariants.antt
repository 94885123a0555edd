use Rattle.graph_theory.proofs.Common.{◌≡◌, take, count_by, edge_of, touches}
use Rattle.gadget_tests.proofs.tests.back.count_at.Given as goal

abbrev pub invariant-loop-e : goal.invariant-loop-e
invariant-loop-e l = l.count ≡ count_by (λ e. touches (edge_of l.graph e) l.v) (take l.e-index l.edges)
