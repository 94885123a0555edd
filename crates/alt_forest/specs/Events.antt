-- What can happen to a state next (chapters 24 and 26): a tree grows, a blossom is shrunk or
-- expanded, or the matching is augmented.
use Rattle.std.specs.Prelude.{◌≡◌, ◌≢◌, ℕ, pos, true, Some}
use Rattle.graph_theory.specs.Parts.{holds}
use Rattle.blossom_arena.specs.Family.{names_of}
use Rattle.blossom_arena.specs.declared.label.Label.TheVariants.{Outer, Inner, Out}
use Rattle.alt_forest.specs.State.{State, IsOutermost, IsTight, Joins}
use Rattle.alt_forest.specs.Trees.{root_of}

-- a tight edge from an outer node to a node labelled out that has a mate
pub record CanGrow (s : State) (e : ℕ) : Type 0 where
  pub near : ℕ
  pub far : ℕ
  pub tight : IsTight s e
  pub joins : Joins s.graph s.blossoms e near far
  pub near_is : IsOutermost s near
  pub far_is : IsOutermost s far
  pub near_outer : s.label near ≡ Outer
  pub far_out : s.label far ≡ Out
  pub mate_edge : ℕ
  pub has_mate : s.mate far ≡ Some mate_edge

-- a tight edge between two different outer nodes of one tree
pub record CanShrink (s : State) (e : ℕ) : Type 0 where
  pub one : ℕ
  pub other : ℕ
  pub tight : IsTight s e
  pub joins : Joins s.graph s.blossoms e one other
  pub different : one ≢ other
  pub one_is : IsOutermost s one
  pub other_is : IsOutermost s other
  pub one_outer : s.label one ≡ Outer
  pub other_outer : s.label other ≡ Outer
  pub one_tree : root_of s one ≡ root_of s other

-- a tight edge between outer nodes of two trees
pub record CanAugment (s : State) (e : ℕ) : Type 0 where
  pub one : ℕ
  pub other : ℕ
  pub tight : IsTight s e
  pub joins : Joins s.graph s.blossoms e one other
  pub one_is : IsOutermost s one
  pub other_is : IsOutermost s other
  pub one_outer : s.label one ≡ Outer
  pub other_outer : s.label other ≡ Outer
  pub two_trees : root_of s one ≢ root_of s other

-- an inner blossom of dual 0
pub record CanExpand (s : State) (a : ℕ) : Type 0 where
  pub blossom : holds (names_of s.blossoms) a ≡ true
  pub outermost : IsOutermost s a
  pub inner : s.label a ≡ Inner
  pub empty : s.dual a ≡ pos 0
