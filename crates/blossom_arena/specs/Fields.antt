-- How an arena keeps its family. No public clause cites this module.
use Rattle.std.specs.Prelude.{◌≡◌, ℕ, zero, suc, ◌+◌, ◌-◌, ◌<◌, ◌≤◌, ℤ, ◌+ℤ◌, ◌-ℤ◌, true, ◌==◌}
use Rattle.std.specs.Prelude.{nat_le, if◌then◌else◌}
use Rattle.std.specs.Prelude.{List, [], ◌∷◌, length, map, Option, Some, None, IsSome, slice_index}
use Rattle.std.specs.Prelude.{slice_set}
use Rattle.std.specs.Int.{w64, int_wrap}
use Rattle.std.specs.List.{AllByRecursion}
use Rattle.slab.specs.Slab.{Slab, get, slab_len}
use Rattle.graph_theory.specs.Parts.{holds}
use Rattle.blossom_arena.specs.declared.links.Link.{Link}
use Rattle.blossom_arena.specs.declared.runs.Run.{Run}
use Rattle.blossom_arena.specs.declared.runs.Kept.{Kept}
use Rattle.blossom_arena.specs.declared.arena.Arena.TheInside.{Inside}
use Rattle.blossom_arena.specs.Tables.{last_of, walk, links_of}
use Rattle.blossom_arena.specs.Placement.{Placement, placement_of}
use Rattle.graph_theory.specs.Nested.{most_blossoms}
use Rattle.blossom_arena.specs.Family.{Blossom, Family, IsFamily, is_vertex, is_node, outermost}
use Rattle.blossom_arena.specs.Family.{made_of, in_ring, members_of, dual_at}
use Rattle.blossom_arena.specs.Slack.{held_by}

-- the key of a blossom's node
abbrev pub key_of : ℕ → ℕ → ℕ
key_of n node = node - (n + 1)

-- the run of no vertex
abbrev pub empty_run : Run
empty_run = record { head = 0; tail = 0; size = 0; core = 0 }

abbrev pub kept_or_none : Option Kept → Kept
kept_or_none None = record { first = 0; links = 0; run = empty_run }
kept_or_none (Some k) = k

abbrev pub kept_of : ℕ → Slab Kept → ℕ → Kept
kept_of n kept node = kept_or_none (get kept (key_of n node))

-- the run of a vertex
abbrev pub own_run : ℕ → Run
own_run v = record { head = v; tail = v; size = 1; core = v }

-- where the vertices of a node stand
abbrev pub run_of : ℕ → Slab Kept → ℕ → Run
run_of n kept node = if nat_le node n then own_run node else (kept_of n kept node).run

-- the vertices of a run
abbrev pub vertices_of : List ℕ → Run → List ℕ
vertices_of followers r = walk r.size followers r.head

-- a run gives these vertices, and names their set by one of them
pub record IsRun (followers : List ℕ) (r : Run) (xs : List ℕ) : Type 0 where
  pub vertices : vertices_of followers r ≡ xs
  pub tail : last_of 0 xs ≡ r.tail
  pub core : holds xs r.core ≡ true

-- the runs of the nodes of a circuit
abbrev pub runs_of : ℕ → Slab Kept → List Link → List Run
runs_of n kept circuit = map (λ (l : Link). run_of n kept l.node) circuit

-- the followers once runs are joined to one, after this vertex
abbrev pub joined : List ℕ → ℕ → List Run → List ℕ
joined followers tail [] = followers
joined followers tail (r ∷ rest) = joined (slice_set followers tail r.head) r.tail rest

abbrev pub joined_tail : ℕ → List Run → ℕ
joined_tail tail [] = tail
joined_tail tail (r ∷ rest) = joined_tail r.tail rest

abbrev pub joined_size : List Run → ℕ
joined_size [] = 0
joined_size (r ∷ rest) = r.size + joined_size rest

-- the longer of two runs, and the longest of some
abbrev pub longer_of : Run → Run → Run
longer_of r s = if nat_le s.size r.size then r else s

abbrev pub longest_of : Run → List Run → Run
longest_of r [] = r
longest_of r (s ∷ rest) = longest_of (longer_of r s) rest

-- the duals of the nodes that hold v without its outermost one, added up
abbrev pub inner_of : (ℕ → ℤ) → List Blossom → ℕ → ℤ
inner_of y bs v = (y v +ℤ held_by y bs v) -ℤ y (outermost bs v)

-- the vertices of a node, and the one that names their set while the node is outermost
abbrev pub vertices_at : List ℕ → ℕ → Slab Kept → ℕ → List ℕ
vertices_at followers n kept node = vertices_of followers (run_of n kept node)

abbrev pub core_at : ℕ → Slab Kept → ℕ → ℕ
core_at n kept node = (run_of n kept node).core

-- each vertex has its outermost node and, modulo 2^64, the sum of the duals of all other nodes that
-- hold it; the vertices of an outermost node form a set
pub record IsPlacement (n : ℕ) (core_of : ℕ → ℕ) (bs : List Blossom) (y : ℕ
    → ℤ) (p : Placement) : Type 0 where
  pub tops : (v : ℕ) → is_vertex n v ≡ true → p.top (p.set v) ≡ outermost bs v
  pub inner : (v : ℕ) → is_vertex n v ≡ true → p.inner v ≡ int_wrap w64 (inner_of y bs v)
  pub sets : (v : ℕ) → is_vertex n v ≡ true → p.set v ≡ core_of (outermost bs v)

-- up by a table of parents, at most so many numbers, until there is none
abbrev pub climb : ℕ → List ℕ → ℕ → List ℕ
climb zero parents x = []
climb (suc k) parents x = if x == 0 then [] else x ∷ climb k parents (slice_index parents x)

-- the way up ends, and comes to numbers of the table alone
pub record CanClimb (parents : List ℕ) (x : ℕ) : Type 0 where
  pub ends : climb (suc (length parents)) parents x ≡ climb (length parents) parents x
  pub within : AllByRecursion (λ a. a < length parents) (climb (length parents) parents x)

-- up by a table of parents until the parent is this one, at most so many steps
abbrev pub climb_to : ℕ → List ℕ → ℕ → ℕ → ℕ
climb_to zero parents stop x = x
climb_to (suc k) parents stop x = if slice_index parents x == stop then x
    else climb_to k parents stop (slice_index parents x)

-- the nodes form one circle with 0 between the oldest and the newest: each has the next older and
-- the next newer one
abbrev pub IsOrder : List ℕ → List ℕ → ℕ → List ℕ → Type 0
IsOrder older newer before [] = (slice_index older before ≡ 0) × (slice_index newer 0 ≡ before)
IsOrder older newer before (x ∷ xs) = (slice_index older before ≡ x)
    × (slice_index newer x ≡ before) × IsOrder older newer x xs

-- the blossoms of these nodes, newest first
abbrev pub build : (ℕ → List Link) → List ℕ → List Blossom
build ring [] = []
build ring (x ∷ xs) = made_of (build ring xs) (ring x) x ∷ build ring xs

-- the ring of a blossom's node
abbrev pub ring_at : ℕ → Slab Kept → List ℕ → List ℕ → ℕ → List Link
ring_at n kept nexts edges node = links_of edges
    (walk (kept_of n kept node).links nexts (kept_of n kept node).first)

-- the node in whose ring this one lies, or 0
abbrev pub parent_of : List Blossom → ℕ → ℕ
parent_of [] a = 0
parent_of (b ∷ older) a = if in_ring b.ring a then b.node else parent_of older a

-- what the table of parents has for a number: 1 where no node has got it
abbrev pub parent_entry : ℕ → List Blossom → ℕ → ℕ
parent_entry n bs x = if is_node n bs x then parent_of bs x else 1

abbrev pub order_of : Inside → List ℕ
order_of a = walk (slab_len a.kept) a.older.items (slice_index a.older.items 0)

abbrev pub blossoms_of : Inside → List Blossom
blossoms_of a = build (ring_at a.vertex_count a.kept a.nexts.items a.edges.items) (order_of a)

abbrev pub family_of : Inside → Family
family_of a = record {
  vertex_count = a.vertex_count;
  duals = a.duals.values;
  motions = a.duals.motions;
  blossoms =
      blossoms_of a;
}

-- each table has a place for each of the numbers
pub record HasPlaces (a : Inside) : Type 0 where
  pub parents : length a.parents.items ≡ a.vertex_count + most_blossoms a.vertex_count + 1
  pub nexts : length a.nexts.items ≡ a.vertex_count + most_blossoms a.vertex_count + 1
  pub edges : length a.edges.items ≡ a.vertex_count + most_blossoms a.vertex_count + 1
  pub older : length a.older.items ≡ a.vertex_count + most_blossoms a.vertex_count + 1
  pub newer : length a.newer.items ≡ a.vertex_count + most_blossoms a.vertex_count + 1
  pub partition : length a.partition.sets ≡ a.vertex_count + 1
  pub followers : length a.followers.items ≡ a.vertex_count + 1

pub record IsSound (a : Inside) : Type 0 where
  pub family : IsFamily (family_of a)
  pub places : HasPlaces a
  pub partition : IsPlacement a.vertex_count (core_at a.vertex_count a.kept) (blossoms_of a)
      (dual_at a.duals.values) (placement_of a.partition)
  pub parents : (x : ℕ) → x ≤ a.vertex_count + most_blossoms a.vertex_count
      → slice_index a.parents.items x ≡ parent_entry a.vertex_count (blossoms_of a) x
  pub order : IsOrder a.older.items a.newer.items 0 (order_of a)
  pub runs : (x : ℕ) → holds (order_of a) x ≡ true
      → IsRun a.followers.items (kept_of a.vertex_count a.kept x).run (members_of (blossoms_of a) x)
  pub kept : AllByRecursion (λ x. IsSome (get a.kept (key_of a.vertex_count x))) (order_of a)
  pub only : (x : ℕ) → a.vertex_count < x → IsSome (get a.kept (key_of a.vertex_count x))
      → holds (order_of a) x ≡ true
  pub room : a.kept.capacity ≡ most_blossoms a.vertex_count
