use Rattle.mb_problem.proofs.Common.{◌≡◌, ◌≤◌, slice_index, cond, is_loop_at}
use Rattle.gadget_base.specs.Blocks.{tabled}
use Rattle.gadget_base.specs.Links.{links_below}
use Rattle.gadget_base.proofs.plain.with_loops.Given as goal

abbrev pub invariant-loop-edge : goal.invariant-loop-edge
invariant-loop-edge l = record {
  so_far : l.all.items ≡ tabled (λ k. cond (is_loop_at l.instance k) 0 (slice_index l.counts (links_below l.instance k))) l.edge-index;
  size_limit : l.place ≤ l.edge-index;
  place : l.place ≡ links_below l.instance l.edge-index;
}
