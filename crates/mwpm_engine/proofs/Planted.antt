-- What is so once every exposed node is planted.
use Rattle.alt_forest.proofs.Common.{◌≡◌, ◌≢◌, ◌∙◌, ℕ, ap, sym, subst, IsExposed, IsSound, state_of, IsPlanted, tree_count, HasTreeNodes, nested_of}
use Rattle.alt_forest.specs.declared.search.Search.{Search}
use Rattle.augment.proofs.Fewer.{root_counted}
use Rattle.search_start.proofs.PlantedNodes.{IsPlantedFrom}
use Rattle.mwpm_engine.specs.Passes.{IsSamePass, IsReady, IsForest, IsComplete}
use Rattle.mwpm_engine.proofs.BoundedEvents.{still_bounded}
use Rattle.mwpm_engine.proofs.Forest.{exposed_root, none_left}
use Rattle.mwpm_engine.proofs.Timed.{timed_first}

-- where there is a tree by then
pub planted_pass : (s t : Search) → IsPlantedFrom s t → IsSamePass s t
planted_pass s t rest = record { graph = ap (λ (x : Search). x.graph) rest; weights = ap (λ (x : Search). x.weights) rest; start = ap (λ (x : Search). x.start) rest }

pub planted_on : (s t : Search) → IsPlantedFrom s t → IsReady s → IsSound t → HasTreeNodes t → IsPlanted (state_of t) → tree_count (state_of t) ≢ 0 → IsForest t
planted_on s t rest ready sound tree_nodes planted some =
    let bounded = still_bounded s t (ap (λ (x : Search). x.arena) rest) (planted_pass s t rest) ready.bounded in
    let timed = timed_first (state_of t) t.start t.clock (ap (λ (x : Search). x.clock) rest ∙ ready.event_times.idle_clock (λ a is. ready.labels a)) bounded in
    record { sound = sound; listed = tree_nodes; all_rooted = planted; trees = some; bounded = bounded; timed = timed }

-- where some node is exposed there is one
pub exposed_planted : (s t : Search) (a : ℕ) → IsPlantedFrom s t → IsSound t → IsPlanted (state_of t) → IsExposed (state_of s) a → tree_count (state_of t) ≢ 0
exposed_planted s t a rest sound planted x = root_counted (state_of t) a (nested_of t sound.shape) (exposed_root (state_of t) sound.depth a sound.state planted
    (subst (λ (y : Search). IsExposed (state_of y) a) (sym rest) x))

-- and where there is none no node is exposed
pub planted_none_left : (s t : Search) → IsPlantedFrom s t → IsReady s → IsSound t → IsPlanted (state_of t) → tree_count (state_of t) ≡ 0 → IsComplete t
planted_none_left s t rest ready sound planted none = record {
  sound = sound;
  matched = none_left (state_of t) sound.depth (nested_of t sound.shape) sound.state planted none;
  bounded = still_bounded s t (ap (λ (x : Search). x.arena) rest) (planted_pass s t rest) ready.bounded;
}
