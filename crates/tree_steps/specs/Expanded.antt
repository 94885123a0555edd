-- What an expand changes (chapter 24): the circuit of the blossom is opened at its base, the node
-- that holds the end of the blossom's mate. The others are mates two by two, and the even way
-- between the base and the node that holds the end of the blossom's parent comes into the tree.
use Rattle.std.specs.Prelude.{ℤ, None, ◌≡◌, ◌≢◌, ℕ, ◌<◌, ◌≤◌, ◌+◌, true, false, All, ◌==◌}
use Rattle.std.specs.Prelude.{if◌then◌else◌, List, [], ◌∷◌, ◌++◌, Option, Some}
use Rattle.graph_theory.specs.Graph.{Multigraph, edge_of}
use Rattle.graph_theory.specs.Parts.{holds}
use Rattle.search_heap.specs.declared.item.Item.TheVariants.{Blossom as OfBlossom}
use Rattle.search_heap.specs.Moments.{Moments, moment_of, with_moment, IsItem}
use Rattle.blossom_arena.specs.declared.links.Link.{Link}
use Rattle.blossom_arena.specs.Family.{Blossom, is_vertex, in_ring, names_of, outermost, ring_of}
use Rattle.blossom_arena.specs.Family.{without, child_holding}
use Rattle.blossom_arena.specs.declared.label.Label.{Label}
use Rattle.blossom_arena.specs.declared.label.Label.TheVariants.{Outer, Inner, Out}
use Rattle.alt_forest.specs.State.{State, IsOutermost, node_u}
use Rattle.alt_forest.specs.Trees.{root_of}
use Rattle.alt_forest.specs.Counts.{outside_among, tree_count, exposed_count, measure, IsPlanted}
use Rattle.alt_forest.specs.Entries.{IsBlossomEntered, HasNoTree, ends_around, ends_looked}
use Rattle.alt_forest.specs.Entries.{outside_ends, out_ends, looks_left}
use Rattle.alt_forest.specs.Searches.{put}
use Rattle.tree_steps.specs.Left.{Leaves}

-- the node of a blossom's circuit that holds the end of an edge that leaves the blossom
abbrev pub child_at : Multigraph → List Blossom → ℕ → ℕ → ℕ
child_at g bs a e = child_holding bs a (if node_u g bs e == a then (edge_of g e).u
    else (edge_of g e).v)

-- neighbours become mates two by two
abbrev pub mated : (ℕ → Option ℕ) → List Link → ℕ → Option ℕ
mated m [] = m
mated m (a ∷ []) = m
mated m (a ∷ (b ∷ rest)) = mated (put (put m a.node (Some a.edge)) b.node (Some a.edge)) rest

-- all are labelled out
abbrev pub labelled_out : (ℕ → Label) → List Link → ℕ → Label
labelled_out l [] = l
labelled_out l (a ∷ rest) = labelled_out (put l a.node Out) rest

-- the links of a circuit from behind that of its base round to it, where the base has this edge
pub record IsRound (ring : List Link) (base edge : ℕ) (round : List Link) : Type 0 where
  pub front : List Link
  pub behind : List Link
  pub split : ring ≡ front ++ (record { node = base; edge = edge } ∷ behind)
  pub is : round ≡ behind ++ front

-- the blossom of this node is open: its base has its mate and is inner, the rest of the circuit is
-- labelled out
abbrev pub opened : State → ℕ → ℕ → List Link → ℕ → State
opened s node base rest edge = record s {
  blossoms = without s.blossoms node;
  label = put (labelled_out s.label rest) base Inner;
  mate =
      put (mated s.mate rest) base (Some edge);
}

-- the way up from an inner node, by pairs: the first of each is outer, the second one inner
abbrev pub labels_up : (ℕ → Label) → List Link → ℕ → Label
labels_up l [] = l
labels_up l (a ∷ []) = l
labels_up l (a ∷ (b ∷ rest)) = labels_up (put (put l a.node Outer) b.node Inner) rest

-- the inner node x hangs by an edge under the first pair, the second one of each pair by its own
-- under the next one, and the last by the edge `parent`
abbrev pub parents_up : (ℕ → Option ℕ) → ℕ → ℕ → ℕ → List Link → ℕ → Option ℕ
parents_up p x edge parent [] = put p x (Some parent)
parents_up p x edge parent (a ∷ []) = p
parents_up p x edge parent (a ∷ (b ∷ rest)) = parents_up (put p x (Some edge)) b.node b.edge parent
    rest

-- the way comes into the tree, up from the base
abbrev pub hung_up : State → ℕ → ℕ → ℕ → List Link → State
hung_up s base edge parent ls = record s
    { label = labels_up s.label ls; parent = parents_up s.parent base edge parent ls }

-- The state after an expand: the blossom of this node is gone, its circuit lies open, and what is
-- not on the circuit stays as it was.
pub record IsExpanded (before after : State) (node : ℕ) : Type 0 where
  pub graph : after.graph ≡ before.graph
  pub weighted : after.weighted ≡ before.weighted
  pub blossoms : after.blossoms ≡ without before.blossoms node
  pub dual : after.dual ≡ before.dual
  pub labels : (a : ℕ) → in_ring (ring_of before.blossoms node) a ≡ false
      → after.label a ≡ before.label a
  pub parents : (a : ℕ) → in_ring (ring_of before.blossoms node) a ≡ false
      → after.parent a ≡ before.parent a
  pub mates : (a : ℕ) → in_ring (ring_of before.blossoms node) a ≡ false
      → after.mate a ≡ before.mate a
  -- each node of the circuit has a mate, and what was outer stays so
  pub mated : (a : ℕ) → in_ring (ring_of before.blossoms node) a ≡ true
      → (e : ℕ) × (after.mate a ≡ Some e)
  pub outer : (a : ℕ) → IsOutermost before a → before.label a ≡ Outer → after.label a ≡ Outer

-- what is in a tree has the root that it had, and what came into one from the circuit has that of
-- the blossom
abbrev pub AreRootsOpened : State → State → ℕ → Type 0
AreRootsOpened before after node = (a : ℕ) → IsOutermost after a → after.label a ≢ Out
    → root_of after a ≡ root_of before (if in_ring (ring_of before.blossoms node) a then node
    else a)

-- What an expand of this node keeps and lowers, if these vertices are noted, those of the blossom:
-- as many trees and exposed nodes, no exposed node outside the trees if there was none before, no
-- vertex that was in an outer node and isn't any more, and a blossom outside them fewer. Some tree
-- stands.
pub record IsOpening (s t : State) (node : ℕ) (noted : List ℕ) : Type 0 where
  pub trees : tree_count t ≡ tree_count s
  pub exposed : exposed_count t ≡ exposed_count s
  pub all_rooted : IsPlanted s → IsPlanted t
  pub falls : measure t < measure s
  pub outer : (v : ℕ) → is_vertex s.graph.vertices v ≡ true
      → s.label (outermost s.blossoms v) ≡ Outer → t.label (outermost t.blossoms v) ≡ Outer
  pub apart : (v u : ℕ) → is_vertex s.graph.vertices v ≡ true → is_vertex s.graph.vertices u ≡ true
      → s.label (outermost s.blossoms v) ≡ Outer
      → outermost s.blossoms v ≢ outermost s.blossoms u
      → outermost t.blossoms v ≢ outermost t.blossoms u
  pub blossoms : outside_among t t.blossoms < outside_among s s.blossoms
  pub vertices : All (λ v. is_vertex s.graph.vertices v ≡ true) noted
  pub ends : ends_around s.graph noted + looks_left t ≤ looks_left s
  pub edge_ends : ends_looked t noted + outside_ends t + out_ends s ≡ outside_ends s + out_ends t
  pub leaves : Leaves s t noted
  pub tree : HasNoTree t → ⊥
  -- once the inner blossoms of the circuit have got their moments and the blossom has none any
  -- more, all have theirs
  pub entered : (clock : ℤ) (q r w : Moments) → IsItem r (OfBlossom node)
      → w ≡ with_moment r (OfBlossom node) None
      → ((a : ℕ) → holds (names_of s.blossoms) a ≡ true → IsBlossomEntered s clock q a)
      → ((a : ℕ) → in_ring (ring_of s.blossoms node) a ≡ true → holds (names_of t.blossoms) a ≡ true
      → IsBlossomEntered t clock r a)
      → ((a : ℕ) → in_ring (ring_of s.blossoms node) a ≡ false
      → moment_of r (OfBlossom a) ≡ moment_of q (OfBlossom a))
      → (a : ℕ) → holds (names_of t.blossoms) a ≡ true → IsBlossomEntered t clock w a
