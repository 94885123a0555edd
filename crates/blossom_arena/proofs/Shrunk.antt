-- What a shrink leaves: one blossom more before those that stood.
use Rattle.graph_theory.proofs.Common.{◌≡◌, ℕ, ◌+◌, ◌≤◌, ◌<◌, true, false, eqb, leb, List, [], ◌∷◌, length, refl, sym, ap, ◌∙◌, subst, arith, Some}
use Rattle.graph_theory.proofs.Common.{slice_set, slice_index, IsSome, is_some, ℤ, pos, AllByRecursion, Vec, eqb-true, eqb-false, or_from, or_left, both_ways, false_from_ne_true}
use Rattle.graph_theory.proofs.Common.{lt-leb, and_right, cond_both, ints, get_or-set_other, get_or-set_same, length-set, All-set, holds, most_blossoms, IsNumber}
use Rattle.slab.specs.Slab.{Slab, get, slab_len}
use Rattle.blossom_arena.proofs.LinkLists.{each_link}
use Rattle.blossom_arena.proofs.Held.{each_low}
use Rattle.blossom_arena.specs.declared.links.Link.{Link}
use Rattle.blossom_arena.specs.declared.runs.Run.{Run}
use Rattle.blossom_arena.specs.declared.runs.Kept.{Kept}
use Rattle.blossom_arena.specs.declared.arena.Arena.TheInside.{Inside}
use Rattle.blossom_arena.specs.Tables.{walk, links_of, filled, next_node, threaded, noted}
use Rattle.blossom_arena.specs.Family.{Blossom, nodes_of, in_ring, names_of, is_vertex, is_node, is_child, members_of, union_of, made_of, dual_at, rested, HasDuals, HasMotions, IsCircuit}
use Rattle.blossom_arena.specs.Family.{IsNext, IsNested}
use Rattle.blossom_arena.specs.declared.label.Label.TheVariants.{Out}
use Rattle.blossom_arena.specs.Moving.{DualTable}
use Rattle.blossom_arena.proofs.Rested.{motions_shrunk}
use Rattle.blossom_arena.specs.Fields.{IsOrder, IsPlacement, IsRun, IsSound, blossoms_of, build, core_at, kept_of, kept_or_none, key_of, order_of, parent_entry, run_of, runs_of, vertices_of}
use Rattle.blossom_arena.specs.Placement.{Placement, SetTables, absorbed, given, placement_of, taking_in}
use Rattle.blossom_arena.proofs.Lists.{by_test, AllNew, new_from_distinct, later_in, each_from}
use Rattle.blossom_arena.proofs.Nested.{circuit_outer, circuit_node, outermost_parts, node_range, not_new, name_is_node}
use Rattle.blossom_arena.proofs.Writes.{length-filled, length-threaded, threaded_out, threaded_walk, length-noted, noted_out, noted_links, walk_same, links_same}
use Rattle.blossom_arena.proofs.Orders.{put_first_order, walk_order}
use Rattle.blossom_arena.proofs.Builds.{build-same}
use Rattle.blossom_arena.proofs.Joins.{length-joined}
use Rattle.blossom_arena.proofs.Sound.{rings, order_names, order_len, order_new, order_range, order_no_zero, node_run, ring_walk_child, circuit_joins, core_in, joined_run}
use Rattle.blossom_arena.proofs.Marks.{shrunk_entry}
use Rattle.blossom_arena.proofs.TakenIn.{placement_shrunk}
use Rattle.blossom_arena.proofs.Spreads.{spread_places}
use Rattle.blossom_arena.proofs.Stays.{AddsKept, each_some, kept_stays, kept_there, new_kept, node_stays, not_there, run_new, run_same, run_stays}

-- the sets once the new node has taken over its circuit's
abbrev pub with_circuit : Inside → List Link → Slab Kept → List ℕ → ℕ → ℕ → Placement
with_circuit a ring kept followers core node =
    absorbed (λ x. vertices_of followers (run_of a.vertex_count kept x)) (core_at a.vertex_count kept) (dual_at a.duals.values) core node
    (given (placement_of a.partition) core node (dual_at a.duals.values ((placement_of a.partition).top ((placement_of a.partition).set core)))) (nodes_of ring)

-- how the fields change in a shrink
pub record Shrinks (a b : Inside) (ring : List Link) (node key : ℕ) : Type 0 where
  pub adds : AddsKept a ring b.kept b.followers.items node key
  pub duals : b.duals.values ≡ slice_set a.duals.values node (pos 0)
  pub motions : b.duals.motions ≡ slice_set (rested a.duals.motions (nodes_of ring)) node Out
  pub len : slab_len b.kept ≡ slab_len a.kept + 1
  pub capacity : b.kept.capacity ≡ a.kept.capacity
  pub in_range : key < b.kept.capacity
  pub nexts : b.nexts.items ≡ threaded a.nexts.items ring (next_node ring 0)
  pub edges : b.edges.items ≡ noted a.edges.items ring
  pub parents : b.parents.items ≡ slice_set (filled a.parents.items (nodes_of ring) node) node 0
  pub partition : placement_of b.partition ≡ with_circuit a ring b.kept b.followers.items (joined_run a ring).core node
  pub older : b.older.items ≡ slice_set (slice_set a.older.items node (slice_index a.older.items 0)) 0 node
  pub newer : b.newer.items ≡ slice_set (slice_set a.newer.items (slice_index a.older.items 0) node) node 0

-- the places of a circuit's nodes
pub circuit_places : (n m : ℕ) (bs : List Blossom) (ring : List Link) → IsNested n bs → IsCircuit n bs ring → n + most_blossoms n < m
    → AllByRecursion (λ (l : Link). l.node < m) ring
circuit_places n m bs ring h c enough = each_link (λ x. x < m) ring (λ x r. omega (arith, (node_range n bs x h (circuit_node n bs ring x c r)).1, enough))

-- the ring as it is written
pub ring_written : (nexts edges : List ℕ) (ring : List Link) → AllNew (nodes_of ring) → AllByRecursion (λ (l : Link). l.node < length nexts) ring
    → AllByRecursion (λ (l : Link). l.node < length edges) ring
    → links_of (noted edges ring) (walk (length ring) (threaded nexts ring (next_node ring 0)) (next_node ring 0)) ≡ ring
ring_written nexts edges [] new in_nexts in_edges = refl
ring_written nexts edges (l ∷ rest) new in_nexts in_edges =
    ap (links_of (noted edges (l ∷ rest))) (threaded_walk nexts (l ∷ rest) l.node new in_nexts) ∙ noted_links edges (l ∷ rest) new in_edges

module _ (a : Inside) (duals : DualTable) (partition : SetTables) (parents nexts edges followers older newer : Vec ℕ) (kept : Slab Kept) (ring : List Link) (node key : ℕ) where
  abbrev pub after : Inside
  after =
      record {
        vertex_count = a.vertex_count;
        duals = duals;
        partition = partition;
        parents = parents;
        nexts = nexts;
        edges = edges;
        followers = followers;
        older = older;
        newer = newer;
        kept = kept;
      }

  module _ (s : IsSound a) (c : IsCircuit a.vertex_count (blossoms_of a) ring) (h : Shrinks a after ring node key) where
    abbrev n : ℕ
    n = a.vertex_count

    abbrev bs : List Blossom
    bs = blossoms_of a

    abbrev xs : List ℕ
    xs = order_of a

    -- the new node is none that was
    above : n < node
    above = omega (arith, h.adds.number)

    within : node ≤ n + most_blossoms n
    within = omega (arith, h.adds.number, h.in_range, h.capacity, s.room)

    not_in_order : holds xs node ≡ false
    not_in_order = not_there a ring kept followers.items node key s c h.adds

    pub fresh : is_node n bs node ≡ false
    fresh = or_from (is_vertex n node) (holds (names_of bs) node) (and_right (leb 1 node) (leb node n) (lt-leb node n above)) (ap (λ ys. holds ys node) (order_names a) ∙ not_in_order)

    same_kept : (x : ℕ) → holds xs x ≡ true → get kept (key_of n x) ≡ get a.kept (key_of n x)
    same_kept = kept_stays a ring kept followers.items node key s c h.adds

    kept_same : (x : ℕ) → holds xs x ≡ true → kept_of n kept x ≡ kept_of n a.kept x
    kept_same x e = ap kept_or_none (same_kept x e)

    at_new : get kept (key_of n node) ≡ Some (new_kept a ring)
    at_new = kept_there a ring kept followers.items node key s c h.adds

    kept_new : kept_of n kept node ≡ new_kept a ring
    kept_new = ap kept_or_none at_new

    new : AllNew (nodes_of ring)
    new = new_from_distinct (nodes_of ring) c.different

    -- the order
    order : IsOrder older.items newer.items 0 (node ∷ xs)
    order = subst (λ o. IsOrder o newer.items 0 (node ∷ xs)) (sym h.older)
        (subst (λ w. IsOrder (slice_set (slice_set a.older.items node (slice_index a.older.items 0)) 0 node) w 0 (node ∷ xs)) (sym h.newer)
        (put_first_order a.older.items a.newer.items node xs s.order (order_new a s) not_in_order (order_no_zero a s) (λ z. absurd (omega (arith, z, above)))
        (omega (arith, within, s.places.older)) (omega (arith, within, s.places.newer)) (λ x e. omega (arith, (order_range a s x e).1, s.places.newer))))

    order_after : order_of after ≡ node ∷ xs
    order_after = ap (λ k. walk k older.items (slice_index older.items 0)) many ∙ walk_order older.items newer.items 0 (node ∷ xs) order
      where
        many : slab_len kept ≡ length (node ∷ xs)
        many = omega (arith, h.len, order_len a)

    -- the rings
    ring_same : (x : ℕ) → holds xs x ≡ true → rings after x ≡ rings a x
    ring_same x e =
        let old : Kept = kept_of n a.kept x in
        let apart : (y : ℕ) → holds (walk old.links a.nexts.items old.first) y ≡ true → holds (nodes_of ring) y ≡ false = λ y m.
        false_from_ne_true (in_ring ring y) (λ r. both_ways (is_child bs y) (outermost_parts n bs y (circuit_outer n bs ring y c r)).1 (ring_walk_child a x y e m)) in
        let walked : walk old.links nexts.items old.first ≡ walk old.links a.nexts.items old.first =
        ap (λ t. walk old.links t old.first) h.nexts ∙ walk_same old.links a.nexts.items (threaded a.nexts.items ring (next_node ring 0)) old.first
        (λ y m. threaded_out a.nexts.items ring (next_node ring 0) y (apart y m)) in
        ap (λ (k : Kept). links_of edges.items (walk k.links nexts.items k.first)) (kept_same x e)
        ∙ ap (links_of edges.items) walked
        ∙ ap (λ t. links_of t (walk old.links a.nexts.items old.first)) h.edges
        ∙ links_same a.edges.items (noted a.edges.items ring) (walk old.links a.nexts.items old.first) (λ y m. noted_out a.edges.items ring y (apart y m))

    ring_new : rings after node ≡ ring
    ring_new =
        ap (λ (k : Kept). links_of edges.items (walk k.links nexts.items k.first)) kept_new
        ∙ ap (λ t. links_of t (walk (length ring) nexts.items (next_node ring 0))) h.edges
        ∙ ap (λ t. links_of (noted a.edges.items ring) (walk (length ring) t (next_node ring 0))) h.nexts
        ∙ ring_written a.nexts.items a.edges.items ring new
        (circuit_places n (length a.nexts.items) bs ring s.family.nested c (omega (arith, s.places.nexts)))
        (circuit_places n (length a.edges.items) bs ring s.family.nested c (omega (arith, s.places.edges)))

    -- the blossoms
    pub blossoms_after : blossoms_of after ≡ made_of bs ring node ∷ bs
    blossoms_after =
        ap (build (rings after)) order_after
        ∙ ap (λ r. made_of (build (rings after) xs) r node ∷ build (rings after) xs) ring_new
        ∙ ap (λ us. made_of us ring node ∷ us) (build-same (rings a) (rings after) xs ring_same)

    top : Blossom
    top = made_of bs ring node

    next : IsNext n bs (made_of bs ring node)
    next = record { after_vertices = above; within_room = within; fresh = fresh; circuit = c; union = refl }

    -- the duals
    duals_after : HasDuals n duals.values (made_of bs ring node ∷ bs)
    duals_after = subst (λ ys. HasDuals n ys (made_of bs ring node ∷ bs)) (sym h.duals) (record {
      one_each = length-set a.duals.values node (pos 0) ∙ s.family.duals.one_each;
      in_range = All-set IsNumber a.duals.values node (pos 0) (omega (arith, ints), omega (arith, ints)) s.family.duals.in_range;
      blossoms = (
        rw (get_or-set_same a.duals.values node (pos 0) (pos 0) (omega (arith, within, s.family.duals.one_each))) (omega (arith, ints)),
        each_low (dual_at a.duals.values) (dual_at (slice_set a.duals.values node (pos 0))) bs s.family.duals.blossoms
            (λ x m low. rw (get_or-set_other a.duals.values node x (pos 0) (pos 0) (not_new n bs node x fresh (name_is_node n bs x m))) low),
      );
    })

    -- the motions: those of the circuit's nodes rest
    motions_after : HasMotions n duals.motions (made_of bs ring node ∷ bs)
    motions_after = subst (λ ms. HasMotions n ms (made_of bs ring node ∷ bs)) (sym h.motions) (motions_shrunk n bs a.duals.motions ring node fresh s.family.motions)

    -- the runs
    runs_after : (x : ℕ) → holds (node ∷ xs) x ≡ true → IsRun followers.items (kept_of n kept x).run (members_of (made_of bs ring node ∷ bs) x)
    runs_after x e = cond_both (eqb node x) (union_of bs ring) (members_of bs x) (λ ms. IsRun followers.items (kept_of n kept x).run ms)
        (λ same. subst (λ (k : Kept). IsRun followers.items k.run (union_of bs ring)) (sym (ap (kept_of n kept) (sym (eqb-true node x same)) ∙ kept_new))
        (subst (λ f. IsRun f (joined_run a ring) (union_of bs ring)) (sym h.adds.joins) (circuit_joins a ring s c).0))
        (λ other. subst (λ (k : Kept). IsRun followers.items k.run (members_of bs x)) (sym (kept_same x (grind arith)))
        (run_stays a ring kept followers.items node key s c h.adds x (grind arith)))

    -- the sets
    placement_after : IsPlacement n (core_at n kept) (made_of bs ring node ∷ bs) (dual_at duals.values) (placement_of partition)
    placement_after =
        let core = core_in a ring s c in
        subst (λ (ys : List ℤ). IsPlacement n (core_at n kept) (made_of bs ring node ∷ bs) (dual_at ys) (placement_of partition)) (sym h.duals)
        (subst (IsPlacement n (core_at n kept) (made_of bs ring node ∷ bs) (dual_at (slice_set a.duals.values node (pos 0)))) (sym h.partition)
        (placement_shrunk n bs (core_at n a.kept) (core_at n kept) a.duals.values (placement_of a.partition) ring node core.node (joined_run a ring).core
        (λ x. vertices_of followers.items (run_of n kept x)) (next, s.family.nested) (λ x is. (node_run a s x is).core)
        (omega (arith, within, s.family.duals.one_each)) s.partition
        (λ x r. (node_stays a ring kept followers.items node key s c h.adds x (circuit_node n bs ring x c r)).vertices)
        (λ x is. ap (λ (r : Run). r.core) (run_same a ring kept followers.items node key s c h.adds x is))
        (ap (λ (r : Run). r.core) (run_new a ring kept followers.items node key s c h.adds)) core.within core.is))

    pub sound_after : IsSound after
    sound_after = record {
      family = record {
        size_limit = s.family.size_limit;
        nested = subst (IsNested n) (sym blossoms_after) (next, s.family.nested);
        duals = subst (HasDuals n duals.values) (sym blossoms_after) duals_after;
        motions = subst (HasMotions n duals.motions) (sym blossoms_after) motions_after;
      };
      places = record {
        parents = ap length h.parents ∙ simp (length-set, length-filled) s.places.parents;
        nexts = ap length h.nexts ∙ length-threaded a.nexts.items ring (next_node ring 0) ∙ s.places.nexts;
        edges = ap length h.edges ∙ length-noted a.edges.items ring ∙ s.places.edges;
        older = ap length h.older ∙ simp length-set s.places.older;
        newer = ap length h.newer ∙ simp length-set s.places.newer;
        partition = ap (λ (p : Placement). p.places) h.partition ∙ spread_places
            (taking_in (λ x. vertices_of followers.items (run_of n kept x)) (core_at n kept) (dual_at a.duals.values) (joined_run a ring).core node)
            (given (placement_of a.partition) (joined_run a ring).core node
            (dual_at a.duals.values ((placement_of a.partition).top ((placement_of a.partition).set (joined_run a ring).core))))
            (nodes_of ring) ∙ s.places.partition;
        followers = ap length h.adds.joins ∙ length-joined a.followers.items 0 (runs_of n a.kept ring) ∙ s.places.followers;
      };
      partition = subst (λ (us : List Blossom). IsPlacement n (core_at n kept) us (dual_at duals.values) (placement_of partition)) (sym blossoms_after) placement_after;
      parents = λ x high.
          ap (λ t. slice_index t x) h.parents
          ∙ shrunk_entry n bs ring node a.parents.items x (next, s.family.nested) (omega (arith, within, s.places.parents)) (omega (arith, high, s.places.parents)) (s.parents x high)
          ∙ ap (λ us. parent_entry n us x) (sym blossoms_after);
      order = subst (IsOrder older.items newer.items 0) (sym order_after) order;
      runs = λ x e. subst (λ us. IsRun followers.items (kept_of n kept x).run (members_of us x)) (sym blossoms_after) (runs_after x (ap (λ ys. holds ys x) (sym order_after) ∙ e));
      kept = subst (AllByRecursion (λ x. IsSome (get kept (key_of n x)))) (sym order_after)
          (ap (λ o. is_some o) at_new, each_from (λ x. IsSome (get kept (key_of n x))) xs (λ x e. ap (λ o. is_some o) (same_kept x e) ∙ each_some n a.kept xs x s.kept e));
      only = λ x low some. ap (λ ys. holds ys x) order_after ∙ by_test (eqb node x)
          (λ same. or_left (eqb node x) (holds xs x) same)
          (λ other. later_in node xs x
          (s.only x low (ap (λ o. is_some o) (sym (h.adds.updates.others (key_of n x) (λ e. eqb-false node x other (omega (arith, e, h.adds.number, low))))) ∙ some)));
      room = h.capacity ∙ s.room;
    }
