use Rattle.mb_problem.proofs.Common.{◌≡◌, ℕ, ◌+◌, ◌<◌, length, slice_index, vertices, odd_at}
use Rattle.gadget_base.proofs.Common.{tabled, ports_below, met_below, between_ports}
use Rattle.gadget_tjoin.proofs.port_links.add_links.Given as goal

abbrev pub invariant-loop-edge : goal.invariant-loop-edge
invariant-loop-edge l = record {
  graph : l.graph ≡ record l.initial.graph { edges = tabled (between_ports l.instance (odd_at l.fn.parity l.instance)) l.edge-index };
  size : length l.next ≡ length l.fn.next;
  each : (k : ℕ) → k < vertices l.instance → slice_index l.next k ≡ ports_below l.instance (odd_at l.fn.parity l.instance) (k + 1) + met_below l.instance (k + 1) l.edge-index;
}
