-- What a step leaves of the vertices that it doesn't note.
use Rattle.std.specs.Prelude.{◌≡◌, ◌⊎◌, ◌+◌, ◌≤◌, ◌<◌, ℕ, true, false, All, List}
use Rattle.graph_theory.specs.Graph.{IsEdgeNumber}
use Rattle.graph_theory.specs.Parts.{holds}
use Rattle.blossom_arena.specs.Family.{is_vertex, outermost}
use Rattle.blossom_arena.specs.declared.label.Label.TheVariants.{Inner}
use Rattle.alt_forest.specs.State.{State, dual_sum, slack_of}
use Rattle.alt_forest.specs.Counts.{is_outside, outside_among, tree_count, exposed_count, measure}
use Rattle.alt_forest.specs.Counts.{IsPlanted}
use Rattle.alt_forest.specs.Entries.{ends_around, outside_ends}

-- Slacks and dual sums stay. A vertex that isn't noted has the label of its node that it had, or
-- lies in an inner node now, and vertices of one node stay together with it.
pub record Leaves (s t : State) (noted : List ℕ) : Type 0 where
  pub graph : t.graph ≡ s.graph
  pub slack : (e : ℕ) → IsEdgeNumber s.graph e → slack_of t e ≡ slack_of s e
  pub sum : (v : ℕ) → is_vertex s.graph.vertices v ≡ true → dual_sum t v ≡ dual_sum s v
  pub ends : (v : ℕ) → is_vertex s.graph.vertices v ≡ true → holds noted v ≡ false
      → (t.label (outermost t.blossoms v) ≡ Inner)
      ⊎ (t.label (outermost t.blossoms v) ≡ s.label (outermost s.blossoms v))
  pub together : (u v : ℕ) → is_vertex s.graph.vertices u ≡ true
      → is_vertex s.graph.vertices v ≡ true → holds noted v ≡ false
      → outermost s.blossoms u ≡ outermost s.blossoms v
      → outermost t.blossoms u ≡ outermost t.blossoms v

-- What a grow or a shrink keeps and lowers, if these vertices are noted: as many trees and exposed
-- nodes, no exposed node outside the trees if there was none before, no vertex that was in an outer
-- node and isn't any more, no more blossoms outside them, and fewer ends of edges by those at the
-- noted vertices.
pub record IsStep (s t : State) (noted : List ℕ) : Type 0 where
  pub trees : tree_count t ≡ tree_count s
  pub exposed : exposed_count t ≡ exposed_count s
  pub all_rooted : IsPlanted s → IsPlanted t
  pub falls : measure t < measure s
  pub inside : (v : ℕ) → is_vertex s.graph.vertices v ≡ true → is_outside t v ≡ true
      → is_outside s v ≡ true
  pub blossoms : outside_among t t.blossoms ≤ outside_among s s.blossoms
  pub vertices : All (λ v. is_vertex s.graph.vertices v ≡ true) noted
  pub ends : outside_ends t + ends_around s.graph noted ≤ outside_ends s
  pub leaves : Leaves s t noted
