use Rattle.graph_theory.proofs.Common.{◌≡◌}
use Rattle.gadget_base.specs.Blocks.{tabled}
use Rattle.inst_gen.specs.Draws.{state_after}
use Rattle.inst_gen.specs.Made.{edge_draws, edge_at}
use Rattle.inst_gen.proofs.edges.make_edges.Given as goal

abbrev pub invariant-loop-k : goal.invariant-loop-k
invariant-loop-k l = record {
  edges : l.edges.items ≡ tabled (λ k. edge_at l.kind (state_after l.initial.draws.state (edge_draws l.kind l.n k)) l.n k) l.k;
  state : l.draws.state ≡ state_after l.initial.draws.state (edge_draws l.kind l.n l.k);
}
