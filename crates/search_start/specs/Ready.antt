-- What holds of a pass before any tree stands (chapters 24 and 26).
use Rattle.std.specs.Prelude.{◌≡◌, ℕ}
use Rattle.blossom_arena.specs.declared.label.Label.TheVariants.{Out}
use Rattle.alt_forest.specs.declared.search.Search.{Search}
use Rattle.alt_forest.specs.Searches.{IsSound, state_of, label_at}
use Rattle.alt_forest.specs.Entries.{IsQueued}
use Rattle.alt_forest.specs.TreeNodes.{HasTreeNodes}
use Rattle.search_start.specs.Bounds.{IsBounded}

-- no tree, and the duals are bounded
pub record IsReady (s : Search) : Type 0 where
  pub sound : IsSound s
  pub event_times : IsQueued s
  pub listed : HasTreeNodes s
  pub labels : (a : ℕ) → label_at s.labels.items a ≡ Out
  pub bounded : IsBounded (state_of s) s.start
