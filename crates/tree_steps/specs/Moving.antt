-- How the nodes that a step took into a tree are listed, and how they get their moments.
use Rattle.std.specs.Prelude.{◌≡◌, ◌≢◌, ℕ, ℤ, true, false, List, Some}
use Rattle.graph_theory.specs.Parts.{holds}
use Rattle.blossom_arena.specs.declared.links.Link.{Link}
use Rattle.blossom_arena.specs.declared.label.Label.TheVariants.{Out}
use Rattle.blossom_arena.specs.Family.{in_ring, names_of}
use Rattle.search_heap.specs.declared.item.Item.TheVariants.{Blossom as OfBlossom}
use Rattle.search_heap.specs.Moments.{Moments, moment_of}
use Rattle.alt_forest.specs.declared.search.Search.{Search}
use Rattle.alt_forest.specs.State.{State}
use Rattle.alt_forest.specs.Entries.{IsBlossomEntered}
use Rattle.alt_forest.specs.Searches.{IsSound, label_at}
use Rattle.alt_forest.specs.TreeNodes.{AreListed, tree_id_at}

-- a node moves as its label says
abbrev pub IsMoving : Search → ℕ → Type 0
IsMoving s a = label_at s.arena.motions a ≡ label_at s.labels.items a

-- what has become of the search f once those of these nodes that are in trees are listed, with this
-- tree id
pub record AreInserted (f k : Search) (ring : List Link) (tree_id : ℕ) : Type 0 where
  pub frame : k
      ≡ record f { arena = record f.arena { motions = k.arena.motions }; tree_nodes = k.tree_nodes }
  pub sound : IsSound k
  pub listed : AreListed f.graph.vertices k.tree_nodes.nodes k.tree_nodes.tree_ids
  pub in_tree : (a : ℕ) → in_ring ring a ≡ true → label_at f.labels.items a ≢ Out
      → tree_id_at k.tree_nodes.tree_ids a ≡ Some tree_id
  pub moves : (a : ℕ) → in_ring ring a ≡ true → label_at f.labels.items a ≢ Out → IsMoving k a
  pub keeps_moving : (a : ℕ) → IsMoving f a → IsMoving k a
  pub keeps : (a : ℕ) → in_ring ring a ≡ false
      → tree_id_at k.tree_nodes.tree_ids a ≡ tree_id_at f.tree_nodes.tree_ids a

-- the inner blossoms among these nodes have got their moments, and all other nodes and those that
-- are no blossoms have theirs
pub record AreEntered (s : State) (clock : ℤ) (ring : List Link) (q r : Moments) : Type 0 where
  pub entered : (a : ℕ) → in_ring ring a ≡ true → holds (names_of s.blossoms) a ≡ true
      → IsBlossomEntered s clock r a
  pub others : (a : ℕ) → in_ring ring a ≡ false
      → moment_of r (OfBlossom a) ≡ moment_of q (OfBlossom a)
  pub vertices : (a : ℕ) → holds (names_of s.blossoms) a ≡ false
      → moment_of r (OfBlossom a) ≡ moment_of q (OfBlossom a)
