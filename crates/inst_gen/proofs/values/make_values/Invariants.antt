use Rattle.graph_theory.proofs.Common.{◌≡◌}
use Rattle.gadget_base.specs.Blocks.{tabled}
use Rattle.inst_gen.specs.Draws.{state_after}
use Rattle.inst_gen.specs.Made.{value_draws, value_at}
use Rattle.inst_gen.proofs.values.make_values.Given as goal

abbrev pub invariant-loop-k : goal.invariant-loop-k
invariant-loop-k l = record {
  values : l.values.items ≡ tabled (λ k. value_at l.kind (state_after l.initial.draws.state (value_draws l.kind k)) l.n k) l.k;
  state : l.draws.state ≡ state_after l.initial.draws.state (value_draws l.kind l.k);
}
