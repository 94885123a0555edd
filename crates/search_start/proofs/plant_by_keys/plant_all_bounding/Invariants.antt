use Rattle.graph_theory.proofs.Common.{◌≤◌}
use Rattle.search_keys.specs.Bounds.{IsBounding}
use Rattle.search_keys.specs.Looks.{stale_ends}
use Rattle.search_start.proofs.PlantedNodes.{IsPlanting}
use Rattle.search_start.proofs.plant_by_keys.plant_all_bounding.Given as goal

abbrev pub invariant-loop-place : goal.invariant-loop-place
invariant-loop-place g l = record {
  planting : IsPlanting l.fn.search l.search l.place l.some l.fn.steps l.steps;
  vertex_keys : IsBounding l.search l.bounds;
  stale : stale_ends l.search l.bounds ≤ stale_ends l.fn.search l.fn.bounds;
}
