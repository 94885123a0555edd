use Rattle.graph_theory.proofs.Common.{◌≡◌, ◌*◌, ◌≤◌}
use Rattle.gadget_base.specs.Blocks.{tabled}
use Rattle.gadget_parity.specs.Copies.{first_place, takes_one}
use Rattle.gadget_parity.specs.Numbers.{is_marked}
use Rattle.gadget_parity.proofs.path.singles.Given as goal

abbrev pub invariant-loop-edge : goal.invariant-loop-edge
invariant-loop-edge l = record {
  so_far : l.marks.items ≡ tabled (takes_one (is_marked l.first) (is_marked l.second) l.instance (is_marked l.listed)) l.edge-index;
  place : l.place ≡ first_place (is_marked l.first) (is_marked l.second) l.instance l.edge-index;
  size_limit : l.place ≤ 2 * l.edge-index;
}
