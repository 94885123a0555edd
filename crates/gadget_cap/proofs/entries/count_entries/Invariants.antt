use Rattle.graph_theory.proofs.Common.{◌≡◌, take}
use Rattle.gadget_cap.specs.Capped.{capped_room}
use Rattle.gadget_cap.specs.Places.{entry_counts}
use Rattle.gadget_cap.proofs.entries.count_entries.Given as goal

abbrev pub invariant-loop-edge : goal.invariant-loop-edge
invariant-loop-edge l = record { counts : l.counts.items ≡ entry_counts l.instance (capped_room l.unit l.instance) (take l.edge-index l.edges) }
