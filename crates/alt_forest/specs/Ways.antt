-- The way up from an outer node, by two edges (chapter 24).
use Rattle.std.specs.Prelude.{◌≡◌, ℕ, Some}
use Rattle.graph_theory.specs.Graph.{IsEdgeNumber}
use Rattle.alt_forest.specs.declared.grandparent.GrandparentLink.{GrandparentLink}
use Rattle.alt_forest.specs.State.{State}
use Rattle.alt_forest.specs.Trees.{other_node}

-- a node has a mate, and that mate a parent
pub record HasGrandparentLink (s : State) (a : ℕ) : Type 0 where
  pub mate : ℕ
  pub mate_is : IsEdgeNumber s.graph mate
  pub mate_kept : s.mate a ≡ Some mate
  pub parent : ℕ
  pub parent_is : IsEdgeNumber s.graph parent
  pub parent_kept : s.parent (other_node s.graph s.blossoms mate a) ≡ Some parent

-- what is read on the way from a node by its mate to the mate's parent
pub record IsRead (s : State) (a : ℕ) (h : GrandparentLink) : Type 0 where
  pub mate : s.mate a ≡ Some h.mate
  pub inner : h.inner ≡ other_node s.graph s.blossoms h.mate a
  pub parent : s.parent h.inner ≡ Some h.parent
  pub outer : h.outer ≡ other_node s.graph s.blossoms h.parent h.inner
