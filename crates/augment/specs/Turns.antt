-- A path that is flipped, and two trees that are taken away. Only clauses of private calls cite
-- this module.
use Rattle.std.specs.Prelude.{◌≡◌, ◌≢◌, ◌⊎◌, ℕ, ◌<◌, ◌≤◌, pos, true, false, if◌then◌else◌}
use Rattle.std.specs.Prelude.{Option, Some, None, is_some}
use Rattle.graph_theory.specs.Graph.{IsEdgeNumber}
use Rattle.graph_theory.specs.Parts.{holds}
use Rattle.blossom_arena.specs.Family.{IsNested}
use Rattle.blossom_arena.specs.declared.label.Label.{Label}
use Rattle.blossom_arena.specs.declared.label.Label.TheVariants.{Outer, Inner, Out}
use Rattle.alt_forest.specs.State.{State, IsOutermost, IsTight, Joins, IsMate, slack_of}
use Rattle.alt_forest.specs.State.{IsSearchState}
use Rattle.alt_forest.specs.Trees.{path_of, root_of, is_label, IsRoot}

-- mates pair outermost nodes
abbrev pub HasMates : State → Type 0
HasMates s = (a e : ℕ) → IsOutermost s a → s.mate a ≡ Some e → (b : ℕ) × IsMate s a e b

-- the state with other mates
abbrev pub with_mates : State → (ℕ → Option ℕ) → State
with_mates s m = record s { mate = m }

-- the edge is tight and joins outer nodes of two trees
pub record JoinsTwoTrees (s : State) (e near far : ℕ) : Type 0 where
  pub tight : IsTight s e
  pub joins : Joins s.graph s.blossoms e near far
  pub near_is : IsOutermost s near
  pub far_is : IsOutermost s far
  pub near_outer : s.label near ≡ Outer
  pub far_outer : s.label far ≡ Outer
  pub two_trees : root_of s near ≢ root_of s far

-- The node `low` has taken `high` as its mate, by the edge e, but `high` has its old mate still.
-- All other mates are mutual; `high`, and what isn't deeper in its tree, is as in s; and it's as by
-- `base` which nodes have a mate.
pub record IsLoose (s : State) (depth : ℕ → ℕ) (base m : ℕ → Option ℕ) (low e high : ℕ) : Type 0
  where
    pub edge : IsEdgeNumber s.graph e
    pub joins : Joins s.graph s.blossoms e low high
    pub different : low ≢ high
    pub tight : slack_of s e ≡ pos 0
    pub low_is : IsOutermost s low
    pub high_is : IsOutermost s high
    pub high_outer : s.label high ≡ Outer
    pub taken : m low ≡ Some e
    pub untouched : (c : ℕ) → IsOutermost s c → root_of s c ≡ root_of s high → depth c ≤ depth high
        → m c ≡ s.mate c
    pub below : (s.label low ≢ Inner) ⊎ (depth high < depth low)
    pub mates : (a f : ℕ) → IsOutermost s a → a ≢ low → m a ≡ Some f
        → (b : ℕ) × IsMate (with_mates s m) a f b
    pub seen : (c : ℕ) → is_some (m c) ≡ is_some (base c)

-- the mates are those of the state of a search but for a flip that has come to this node, which is
-- to take the edge e
pub record CanClimb (t : State) (e start : ℕ) : Type 0 where
  pub was : State
  pub depth : ℕ → ℕ
  pub nested : IsNested was.graph.vertices was.blossoms
  pub state : IsSearchState was depth
  pub base : ℕ → Option ℕ
  pub low : ℕ
  pub is : t ≡ with_mates was t.mate
  pub loose : IsLoose was depth base t.mate low e start

-- the mates m, where they were `before`, once the flip has come to the root: it and this node have
-- mates, and what is off the way is as it was
pub record IsClimbed (s : State) (base before m : ℕ → Option ℕ) (e start : ℕ) : Type 0 where
  pub mates : HasMates (with_mates s m)
  pub has : m start ≡ Some e
  pub root_has : is_some (m (root_of s start)) ≡ true
  pub keeps : (a : ℕ) → holds (path_of s start) a ≡ false → m a ≡ before a
  pub seen : (a : ℕ) → a ≢ root_of s start → is_some (m a) ≡ is_some (base a)

-- the mates m once a node has no mate and the root of its tree has one
pub record IsUprooted (s : State) (m : ℕ → Option ℕ) (far : ℕ) : Type 0 where
  pub mates : HasMates (with_mates s m)
  pub free : m far ≡ None
  pub keeps : (a : ℕ) → holds (path_of s far) a ≡ false → m a ≡ s.mate a
  pub root_has : root_of s far ≢ far → is_some (m (root_of s far)) ≡ true
  pub seen : (c : ℕ) → c ≢ far → c ≢ root_of s far → is_some (m c) ≡ is_some (s.mate c)

-- the mates m once both ways to the roots are flipped: the two nodes are mates by the edge e, both
-- roots have mates, and what is off the ways is as it was
pub record IsTurned (s : State) (m : ℕ → Option ℕ) (e near far : ℕ) : Type 0 where
  pub mates : HasMates (with_mates s m)
  pub near_has : m near ≡ Some e
  pub far_has : m far ≡ Some e
  pub near_root_has : is_some (m (root_of s near)) ≡ true
  pub far_root_has : is_some (m (root_of s far)) ≡ true
  pub keeps : (a : ℕ) → holds (path_of s near) a ≡ false → holds (path_of s far) a ≡ false
      → m a ≡ s.mate a
  pub seen : (c : ℕ) → c ≢ root_of s near → c ≢ root_of s far → is_some (m c) ≡ is_some (s.mate c)

-- the edge that a node takes on the way up: an inner one its parent, another one what was taken
-- last
abbrev pub edge_up : State → Option ℕ → ℕ → Option ℕ
edge_up s edge a = if is_label (s.label a) Inner then s.parent a else edge

-- a node of neither of the trees of these two roots
pub record IsElsewhere (s : State) (one other a : ℕ) : Type 0 where
  pub not_one : root_of s a ≢ one
  pub not_other : root_of s a ≢ other

-- The mates m and labels l take away the trees of these two roots, which get mates; of all other
-- nodes it's as before whether they have one.
pub record IsRemoved (s : State) (m : ℕ → Option ℕ) (l : ℕ → Label) (one other : ℕ) : Type 0 where
  pub mates : HasMates (with_mates s m)
  pub kept : (a : ℕ) → IsOutermost s a → IsElsewhere s one other a → m a ≡ s.mate a
  pub stays : (a : ℕ) → IsOutermost s a → IsElsewhere s one other a → l a ≡ s.label a
  pub gone : (a : ℕ) → IsOutermost s a → (root_of s a ≡ one) ⊎ (root_of s a ≡ other) → l a ≡ Out
  pub one_is : IsRoot s one
  pub other_is : IsRoot s other
  pub differ : one ≢ other
  pub one_has : is_some (m one) ≡ true
  pub other_has : is_some (m other) ≡ true
  pub seen : (c : ℕ) → c ≢ one → c ≢ other → is_some (m c) ≡ is_some (s.mate c)
