-- What a shrink asks of its circuit, and what it makes of it (chapter 24).
use Rattle.std.specs.Prelude.{◌≡◌, ◌≢◌, ℕ, ◌≤◌, true, false, List, Some}
use Rattle.std.specs.List.{AllByRecursion}
use Rattle.blossom_arena.specs.declared.links.Link.{Link}
use Rattle.blossom_arena.specs.Family.{in_ring, IsCircuit, made_of}
use Rattle.blossom_arena.specs.declared.label.Label.TheVariants.{Outer}
use Rattle.alt_forest.specs.Trees.{root_of}
use Rattle.alt_forest.specs.State.{State, IsOutermost, IsTight, IsRing, IsMate, IsSearchState}
use Rattle.alt_forest.specs.State.{node_u, node_v}
use Rattle.tree_steps.specs.Circuits.{base_of, closed_by}
use Rattle.tree_steps.specs.Shrunk.{shrunk_state}

-- a circuit of tight edges: its base is outer and nearest to the root, and its other nodes are
-- mated inside
pub record IsShrinkable (s : State) (depth : ℕ → ℕ) (links : List Link) (base : ℕ) : Type 0 where
  pub circuit : IsCircuit s.graph.vertices s.blossoms links
  pub ring : IsRing s.graph s.blossoms links
  pub tight : AllByRecursion (λ (l : Link). IsTight s l.edge) links
  pub base_in : in_ring links base ≡ true
  pub base_outer : s.label base ≡ Outer
  pub base_least : (c : ℕ) → in_ring links c ≡ true → depth base ≤ depth c
  pub mated : (c : ℕ) → in_ring links c ≡ true → c ≢ base → (f : ℕ) × (s.mate c ≡ Some f)
  pub mated_inside : (c f d : ℕ) → in_ring links c ≡ true → c ≢ base → s.mate c ≡ Some f
      → IsMate s c f d → in_ring links d ≡ true
  pub base_mated_outside : (f d : ℕ) → s.mate base ≡ Some f → IsMate s base f d
      → in_ring links d ≡ false

-- a circuit that can be shrunk in a state of a search
pub record CanClose (s : State) (links : List Link) (base : ℕ) : Type 0 where
  pub depth : ℕ → ℕ
  pub state : IsSearchState s depth
  pub shrinkable : IsShrinkable s depth links base

-- the state after a shrink: a circuit has become one node
pub record IsShrunk (before after : State) (node : ℕ) : Type 0 where
  pub ring : List Link
  pub base : ℕ
  pub possible : CanClose before ring base
  pub state : after ≡ shrunk_state before (made_of before.blossoms ring node) base

-- two different outer nodes of one tree
pub record AreInOneTree (s : State) (a b : ℕ) : Type 0 where
  pub different : a ≢ b
  pub a_is : IsOutermost s a
  pub b_is : IsOutermost s b
  pub a_outer : s.label a ≡ Outer
  pub b_outer : s.label b ≡ Outer
  pub one_tree : root_of s a ≡ root_of s b

-- the circuit that an edge closes can be shrunk, has the nodes of the edge's two ends, and lies in
-- their tree
pub record Closes (s : State) (e : ℕ) : Type 0 where
  pub possible : CanClose s (closed_by s e) (base_of s e)
  pub u_on : in_ring (closed_by s e) (node_u s.graph s.blossoms e) ≡ true
  pub v_on : in_ring (closed_by s e) (node_v s.graph s.blossoms e) ≡ true
  pub one_tree : (a : ℕ) → in_ring (closed_by s e) a ≡ true
      → root_of s a ≡ root_of s (node_u s.graph s.blossoms e)
