-- The duals stay bounded when an event happens.
use Rattle.alt_forest.proofs.Common.{◌≡◌, ◌≢◌, ◌∙◌, ℤ, sym, ap, subst, Multigraph, Family, dual_at, IsSound, state_of, is_given, tree_count, IsPlanted, HasTreeNodes}
use Rattle.alt_forest.specs.declared.search.Search.{Search}
use Rattle.alt_forest.specs.declared.weights.Weights.{Weights}
use Rattle.search_start.specs.Bounds.{IsBounded}
use Rattle.mwpm_engine.specs.Passes.{IsSamePass, IsTimed, IsForest}
use Rattle.mwpm_engine.proofs.BoundedSteps.{KeepsDuals, bounded_kept, same_duals}
use Rattle.mwpm_engine.proofs.Timed.{timed_same}

abbrev pub pass_of : Search → Multigraph × Weights × ℤ
pass_of s = (s.graph, s.weights, s.start)

pub same_pass : (s t : Search) → pass_of t ≡ pass_of s → IsSamePass s t
same_pass s t is = record {
  graph = ap (λ (p : Multigraph × Weights × ℤ). p.0) is;
  weights = ap (λ (p : Multigraph × Weights × ℤ). p.1) is;
  start = ap (λ (p : Multigraph × Weights × ℤ). p.2) is;
}

-- what stays in two steps one after the other
pub same_through : (s t u : Search) → IsSamePass s t → IsSamePass t u → IsSamePass s u
same_through s t u one other = record { graph = other.graph ∙ one.graph; weights = other.weights ∙ one.weights; start = other.start ∙ one.start }

-- where blossoms and duals stay
pub arena_duals : (s t : Search) → t.arena ≡ record s.arena { motions = t.arena.motions } → IsSamePass s t → KeepsDuals (state_of s) (state_of t)
arena_duals s t arena same =
    same_duals (state_of s) (state_of t) same.graph (ap is_given same.weights) (ap (λ (f : Family). f.blossoms) arena) (ap (λ (f : Family). dual_at f.duals) arena)

duals_bounded : (s t : Search) → KeepsDuals (state_of s) (state_of t) → IsSamePass s t → IsBounded (state_of s) s.start → IsBounded (state_of t) t.start
duals_bounded s t duals same h = subst (λ y. IsBounded (state_of t) y) (sym same.start) (bounded_kept (state_of s) (state_of t) s.start duals h)

pub still_bounded : (s t : Search) → t.arena ≡ record s.arena { motions = t.arena.motions } → IsSamePass s t → IsBounded (state_of s) s.start → IsBounded (state_of t) t.start
still_bounded s t arena same = duals_bounded s t (arena_duals s t arena same) same

-- where a step keeps the duals and some tree, the forest grows on
pub grows_still : (s t : Search) → IsForest s → IsSound t → HasTreeNodes t → (IsPlanted (state_of s) → IsPlanted (state_of t)) → tree_count (state_of t) ≢ 0
    → KeepsDuals (state_of s) (state_of t) → IsSamePass s t → t.clock ≡ s.clock → IsForest t
grows_still s t h sound tree_nodes planted some duals same clock = record {
  sound = sound;
  listed = tree_nodes;
  all_rooted = planted h.all_rooted;
  trees = some;
  bounded = duals_bounded s t duals same h.bounded;
  timed = subst (λ y. IsTimed (state_of t) y t.clock) (sym same.start)
      (subst (λ y. IsTimed (state_of t) s.start y) (sym clock) (timed_same (state_of s) (state_of t) s.start s.clock same.graph (ap is_given same.weights) duals.total h.timed));
}

-- and so where it keeps the number of trees
pub grows_same : (s t : Search) → IsForest s → IsSound t → HasTreeNodes t → (IsPlanted (state_of s) → IsPlanted (state_of t)) → tree_count (state_of t) ≡ tree_count (state_of s)
    → KeepsDuals (state_of s) (state_of t) → IsSamePass s t → t.clock ≡ s.clock → IsForest t
grows_same s t h sound tree_nodes planted trees = grows_still s t h sound tree_nodes planted (λ none. h.trees (sym trees ∙ none))
