-- What the steps of a shrink need, and what they have written.
use Rattle.graph_theory.proofs.Common.{nat_tests, ◌≡◌, ℕ, ◌+◌, ◌≤◌, ◌<◌, true, List, length, refl, sym, ap, ap₂, ◌∙◌, subst, arith, Some, None, slice_index}
use Rattle.graph_theory.proofs.Common.{AllByRecursion, most_blossoms}
use Rattle.slab.specs.Slab.{Slab, slab_len, get, Updates}
use Rattle.graph_theory.specs.declared.limits.TheConstants.{GRAPH_VERTEX_LIMIT}
use Rattle.blossom_arena.proofs.Orders.{first_of, first_within, order_first}
use Rattle.blossom_arena.specs.declared.links.Link.{Link}
use Rattle.blossom_arena.specs.declared.runs.Run.{Run}
use Rattle.blossom_arena.specs.declared.runs.Kept.{Kept}
use Rattle.blossom_arena.specs.declared.arena.Arena.TheInside.{Inside}
use Rattle.blossom_arena.specs.Tables.{next_node}
use Rattle.blossom_arena.specs.Family.{Blossom, is_node, is_vertex, members_of, outermost, IsCircuit, Family}
use Rattle.blossom_arena.specs.Fields.{IsSound, blossoms_of, empty_run, joined, joined_size, joined_tail, longest_of, order_of, run_of, runs_of, vertices_of, family_of}
use Rattle.blossom_arena.proofs.Lists.{each_from}
use Rattle.blossom_arena.proofs.Nested.{vertex_range, node_range, circuit_node, room_for_circuit}
use Rattle.blossom_arena.proofs.Sound.{blossoms_len, circuit_joins, core_in, joined_run, order_range, union_few}
use Rattle.blossom_arena.proofs.Sets.{member_vertex, outermost_node}
use Rattle.blossom_arena.proofs.Shrunk.{circuit_places}
use Rattle.blossom_arena.specs.Placement.{placement_of}
use Rattle.blossom_arena.proofs.LinkLists.{each_link}
use Rattle.blossom_arena.proofs.Stays.{AddsKept, node_stays}

same_run : (r : Run) (h t z k : ℕ) → r.head ≡ h → r.tail ≡ t → r.size ≡ z → r.core ≡ k → r ≡ record { head = h; tail = t; size = z; core = k }
same_run r h t z k eh et ez ek = λ i. record { head = eh i; tail = et i; size = ez i; core = ek i }

module _ (a : Inside) (f : Family) (ring : List Link) (s : IsSound a) (view : family_of a ≡ f) (seen : IsCircuit f.vertex_count f.blossoms ring) where
  pub c : IsCircuit a.vertex_count (blossoms_of a) ring
  c = subst (λ (g : Family). IsCircuit g.vertex_count g.blossoms ring) (sym view) seen

  abbrev n : ℕ
  n = a.vertex_count

  abbrev bs : List Blossom
  bs = blossoms_of a

  -- there is room
  pub room_left : slab_len a.kept + 1 ≤ a.kept.capacity
  room_left = omega (arith, (room_for_circuit n bs ring s.family.nested c).0, blossoms_len a, s.room)

  pub circuit_few : length ring ≤ GRAPH_VERTEX_LIMIT
  circuit_few = omega (arith, (room_for_circuit n bs ring s.family.nested c).1, s.family.size_limit)

  pub sizes_few : joined_size (runs_of n a.kept ring) ≤ GRAPH_VERTEX_LIMIT
  sizes_few = omega (arith, (circuit_joins a ring s c).1, union_few n bs ring s.family.nested c, s.family.size_limit)

  pub nodes_within : (m : ℕ) → n + most_blossoms n < m → AllByRecursion (λ (l : Link). l.node < m) ring
  nodes_within m enough = circuit_places n m bs ring s.family.nested c enough

  pub newest_within : slice_index a.older.items 0 < length a.newer.items
  newest_within =
      grind (arith, nat_tests, (order_first a.older.items a.newer.items 0 (order_of a) s.order).0, first_within (order_of a), order_range a s (first_of (order_of a)), s.places.newer)

  -- the run that is joined, and the blossom that is kept
  module _ (fs : List ℕ) (r : Run) (items : fs ≡ joined a.followers.items 0 (runs_of n a.kept ring)) (head : r.head ≡ slice_index fs 0)
      (tail : r.tail ≡ joined_tail 0 (runs_of n a.kept ring)) (size : r.size ≡ joined_size (runs_of n a.kept ring))
      (core : r.core ≡ (longest_of empty_run (runs_of n a.kept ring)).core) where
    run_is : r ≡ joined_run a ring
    run_is = same_run r _ _ _ _ (head ∙ ap (λ (t : List ℕ). slice_index t 0) items) tail size core

    pub adds : (kept : Slab Kept) (gs : List ℕ) (key first : ℕ) → get a.kept key ≡ None → Updates a.kept kept key (Some (record { first = first; links = length ring; run = r }))
        → first ≡ next_node ring 0 → gs ≡ fs → AddsKept a ring kept gs (n + 1 + key) key
    adds kept gs key first vacant updates at same = record {
      number = refl;
      vacant = vacant;
      updates = subst (λ (k : Kept). Updates a.kept kept key (Some k)) (ap₂ (λ (x : ℕ) (q : Run). record { first = x; links = length ring; run = q }) at run_is) updates;
      joins = same ∙ items;
    }

  -- its core, and the outermost node of that
  core_vertex : is_vertex n (joined_run a ring).core ≡ true
  core_vertex = let core = core_in a ring s c in member_vertex n bs core.node (joined_run a ring).core s.family.nested (circuit_node n bs ring core.node c core.within) core.has

  pub core_low : (joined_run a ring).core < n + 1
  core_low = omega (arith, (vertex_range n (joined_run a ring).core core_vertex).1)

  pub top_low : (m : ℕ) → n + most_blossoms n < m → (placement_of a.partition).top ((placement_of a.partition).set (joined_run a ring).core) < m
  top_low m enough =
      let core = (joined_run a ring).core in
      omega (arith, enough, s.partition.tops core core_vertex, (node_range n bs (outermost bs core) s.family.nested (outermost_node n bs core core_vertex)).1)

  -- the circuit's runs once they are joined
  pub runs_then : (kept : Slab Kept) (fs : List ℕ) (node key : ℕ) → AddsKept a ring kept fs node key → length fs ≡ n + 1
      → AllByRecursion (λ (l : Link). AllByRecursion (λ v. v < length fs) (vertices_of fs (run_of n kept l.node))) ring
  runs_then kept fs node key h len =
      each_link (λ x. AllByRecursion (λ v. v < length fs) (vertices_of fs (run_of n kept x))) ring
      (λ x r.
      let k : is_node n bs x ≡ true = circuit_node n bs ring x c r in
      subst (AllByRecursion (λ v. v < length fs)) (sym (node_stays a ring kept fs node key s c h x k).vertices)
      (each_from (λ v. v < length fs) (members_of bs x) (λ v e. omega (arith, len, (vertex_range n v (member_vertex n bs x v s.family.nested k e)).1))))
