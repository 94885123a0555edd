-- What a dissolve leaves: the blossoms that stood, without one.
use Rattle.graph_theory.proofs.Common.{◌≡◌, ℕ, ◌+◌, ◌<◌, true, false, eqb, cond, List, length, sym, ap, ◌∙◌, subst, arith, ⊎_elim, None, slice_set, slice_index}
use Rattle.graph_theory.proofs.Common.{IsSome, is_some, pos, ◌-ℤ◌, ◌≤ℤ◌, AllByRecursion, Vec, eqb-true, eqb-false, or_cases, lt-leb, nat_tests, length-set, holds}
use Rattle.slab.specs.Slab.{Slab, get, Updates, slab_len}
use Rattle.blossom_arena.specs.declared.runs.Kept.{Kept}
use Rattle.blossom_arena.specs.declared.arena.Arena.TheInside.{Inside}
use Rattle.blossom_arena.specs.Tables.{walk, links_of, filled}
use Rattle.blossom_arena.specs.Family.{Blossom, nodes_of, names_of, is_node, is_child, members_of, ring_of, without, dual_at, HasDuals, HasMotions, IsNested}
use Rattle.blossom_arena.specs.declared.label.Label.TheVariants.{Out}
use Rattle.blossom_arena.specs.Moving.{DualTable}
use Rattle.blossom_arena.proofs.Rested.{motions_dissolved}
use Rattle.blossom_arena.specs.declared.links.Link.{Link}
use Rattle.blossom_arena.specs.declared.runs.Run.{Run}
use Rattle.blossom_arena.specs.Fields.{IsOrder, IsPlacement, IsRun, IsSound, blossoms_of, build, core_at, kept_of, kept_or_none, key_of, order_of, own_run, parent_entry, run_of, vertices_of}
use Rattle.blossom_arena.specs.Placement.{Placement, SetTables, given, heir_of, letting_out, placement_of, released}
use Rattle.blossom_arena.proofs.Lists.{each_from}
use Rattle.blossom_arena.proofs.Nested.{child_is_node, name_is_node}
use Rattle.blossom_arena.proofs.Parents.{ring_child}
use Rattle.blossom_arena.proofs.Taken.{members_without, nested_without, each_without}
use Rattle.blossom_arena.proofs.Opened.{ring_other}
use Rattle.blossom_arena.proofs.Writes.{length-filled}
use Rattle.blossom_arena.proofs.Marks.{dissolved_entry}
use Rattle.blossom_arena.proofs.Orders.{removed, length-removed, removed_sub, removed_has, removed_not, take_out_order, walk_order}
use Rattle.blossom_arena.proofs.Builds.{build-same, build-without}
use Rattle.blossom_arena.proofs.Sound.{rings, order_names, order_len, order_new, order_range, order_no_zero, node_run}
use Rattle.blossom_arena.proofs.Stays.{each_some}
use Rattle.blossom_arena.proofs.GivenBack.{placement_dissolved}
use Rattle.blossom_arena.proofs.Spreads.{spread_places}

-- the sets once the nodes of a ring have got theirs back
abbrev pub without_ring : Inside → Slab Kept → List ℕ → List Link → ℕ → Placement
without_ring a kept followers ring core =
    given
    (released (λ x. vertices_of followers (run_of a.vertex_count kept x)) (core_at a.vertex_count kept) (dual_at a.duals.values) core (placement_of a.partition) (nodes_of ring))
    core (heir_of (core_at a.vertex_count kept) core 0 (nodes_of ring)) (pos 0 -ℤ dual_at a.duals.values (heir_of (core_at a.vertex_count kept) core 0 (nodes_of ring)))

-- how the fields change in a dissolve
pub record Dissolves (a b : Inside) (node : ℕ) : Type 0 where
  pub updates : Updates a.kept b.kept (key_of a.vertex_count node) None
  pub len : slab_len b.kept + 1 ≡ slab_len a.kept
  pub capacity : b.kept.capacity ≡ a.kept.capacity
  pub older : b.older.items ≡ slice_set a.older.items (slice_index a.newer.items node) (slice_index a.older.items node)
  pub newer : b.newer.items ≡ slice_set a.newer.items (slice_index a.older.items node) (slice_index a.newer.items node)
  pub parents : b.parents.items ≡ slice_set (filled a.parents.items (nodes_of (ring_of (blossoms_of a) node)) 0) node 1
  pub partition : placement_of b.partition ≡ without_ring a b.kept a.followers.items (ring_of (blossoms_of a) node) (kept_of a.vertex_count a.kept node).run.core
  pub none : dual_at a.duals.values node ≡ pos 0
  pub duals : b.duals ≡ record { values = a.duals.values; motions = slice_set a.duals.motions node Out }

-- the kept of another node
pub other_kept : (n : ℕ) (kept kept' : Slab Kept) (node x : ℕ) → Updates kept kept' (key_of n node) None → n < node → n < x → eqb node x ≡ false
    → get kept' (key_of n x) ≡ get kept (key_of n x)
other_kept n kept kept' node x updates low_node low ne = updates.others (key_of n x) (λ s. eqb-false node x ne (omega (arith, s)))

-- and its run
pub other_run : (n : ℕ) (kept kept' : Slab Kept) (node x : ℕ) → Updates kept kept' (key_of n node) None → n < node → eqb node x ≡ false → run_of n kept' x ≡ run_of n kept x
other_run n kept kept' node x updates low_node ne = grind (arith, nat_tests, other_kept n kept kept' node x updates low_node)

module _ (a : Inside) (duals : DualTable) (partition : SetTables) (parents older newer : Vec ℕ) (kept : Slab Kept) (node : ℕ) where
  abbrev pub after : Inside
  after =
      record {
        vertex_count = a.vertex_count;
        duals = duals;
        partition = partition;
        parents = parents;
        nexts = a.nexts;
        edges = a.edges;
        followers = a.followers;
        older = older;
        newer = newer;
        kept = kept;
      }

  module _ (s : IsSound a) (there : holds (order_of a) node ≡ true) (free : is_child (blossoms_of a) node ≡ false) (h : Dissolves a after node) where
    abbrev n : ℕ
    n = a.vertex_count

    abbrev bs : List Blossom
    bs = blossoms_of a

    abbrev xs : List ℕ
    xs = order_of a

    above : n < node
    above = (order_range a s node there).0

    is : is_node n bs node ≡ true
    is = name_is_node n bs node (ap (λ ys. holds ys node) (order_names a) ∙ there)

    -- the others
    other : (x : ℕ) → holds (removed xs node) x ≡ true → eqb node x ≡ false
    other x e = grind (arith, nat_tests, removed_not xs node (order_new a s))

    same_kept : (x : ℕ) → holds (removed xs node) x ≡ true → get kept (key_of n x) ≡ get a.kept (key_of n x)
    same_kept x e = other_kept n a.kept kept node x h.updates above (order_range a s x (removed_sub xs node x e)).0 (other x e)

    -- the order
    order : IsOrder older.items newer.items 0 (removed xs node)
    order = subst (λ o. IsOrder o newer.items 0 (removed xs node)) (sym h.older)
        (subst (λ w. IsOrder (slice_set a.older.items (slice_index a.newer.items node) (slice_index a.older.items node)) w 0 (removed xs node)) (sym h.newer)
        (take_out_order a.older.items a.newer.items 0 node xs s.order (order_no_zero a s, order_new a s) there (order_no_zero a s)
        (λ x e. ⊎_elim (λ z. let is_zero : 0 ≡ x = eqb-true 0 x z in omega (arith, is_zero, s.places.older))
        (λ m. omega (arith, (order_range a s x m).1, s.places.older)) (or_cases (eqb 0 x) (holds xs x) e))
        (λ x e. omega (arith, (order_range a s x e).1, s.places.newer)) (omega (arith, s.places.newer))))

    order_after : order_of after ≡ removed xs node
    order_after = ap (λ k. walk k older.items (slice_index older.items 0)) many ∙ walk_order older.items newer.items 0 (removed xs node) order
      where
        many : slab_len kept ≡ length (removed xs node)
        many = omega (arith, h.len, order_len a, length-removed xs node there)

    -- the blossoms
    pub blossoms_after : blossoms_of after ≡ without bs node
    blossoms_after =
        ap (build (rings after)) order_after
        ∙ build-same (rings a) (rings after) (removed xs node)
        (λ x e. ap (λ o. links_of a.edges.items (walk (kept_or_none o).links a.nexts.items (kept_or_none o).first)) (same_kept x e))
        ∙ build-without (rings a) xs node free

    nested_after : IsNested n (without bs node)
    nested_after = nested_without n bs node s.family.nested free

    -- the sets
    named : holds (names_of bs) node ≡ true
    named = ap (λ ys. holds ys node) (order_names a) ∙ there

    placement_after : IsPlacement n (core_at n kept) (without bs node) (dual_at a.duals.values) (placement_of partition)
    placement_after =
        subst (IsPlacement n (core_at n kept) (without bs node) (dual_at a.duals.values)) (sym h.partition)
        (placement_dissolved n bs (core_at n a.kept) (core_at n kept) a.duals.values (placement_of a.partition) node (kept_of n a.kept node).run.core
        (λ x. vertices_of a.followers.items (run_of n kept x)) s.family.nested (λ x is. (node_run a s x is).core) named free s.partition
        (λ x r.
        ap (vertices_of a.followers.items) (other_run n a.kept kept node x h.updates above (ring_other bs node x free r))
        ∙ (node_run a s x (child_is_node n bs x s.family.nested (ring_child bs node x r))).vertices)
        (λ x ne. ap (λ (r : Run). r.core) (other_run n a.kept kept node x h.updates above ne))
        (sym (ap (λ q. (cond q (own_run node) (kept_of n a.kept node).run).core) (lt-leb node n above))) h.none)

    pub sound_after : IsSound after
    sound_after = record {
      family = record {
        size_limit = s.family.size_limit;
        nested = subst (IsNested n) (sym blossoms_after) nested_after;
        duals = subst (λ (t : DualTable). HasDuals n t.values (blossoms_of after)) (sym h.duals) (subst (HasDuals n a.duals.values) (sym blossoms_after) (record {
          one_each = s.family.duals.one_each;
          in_range = s.family.duals.in_range;
          blossoms = each_without (λ (b : Blossom). pos 0 ≤ℤ dual_at a.duals.values b.node) bs node s.family.duals.blossoms;
        }));
        motions = subst (λ (t : DualTable). HasMotions n t.motions (blossoms_of after)) (sym h.duals)
            (subst (HasMotions n (slice_set a.duals.motions node Out)) (sym blossoms_after) (motions_dissolved n bs a.duals.motions node s.family.motions));
      };
      places = record {
        parents = ap length h.parents ∙ simp (length-set, length-filled) s.places.parents;
        nexts = s.places.nexts;
        edges = s.places.edges;
        older = ap length h.older ∙ simp length-set s.places.older;
        newer = ap length h.newer ∙ simp length-set s.places.newer;
        partition = ap (λ (p : Placement). p.places) h.partition ∙ spread_places
            (letting_out (λ x. vertices_of a.followers.items (run_of n kept x)) (core_at n kept) (dual_at a.duals.values) (kept_of n a.kept node).run.core)
            (placement_of a.partition) (nodes_of (ring_of bs node)) ∙ s.places.partition;
        followers = s.places.followers;
      };
      partition = subst (λ (t : DualTable). IsPlacement n (core_at n kept) (blossoms_of after) (dual_at t.values) (placement_of partition)) (sym h.duals)
          (subst (λ (us : List Blossom). IsPlacement n (core_at n kept) us (dual_at a.duals.values) (placement_of partition)) (sym blossoms_after) placement_after);
      parents = λ x high.
          ap (λ t. slice_index t x) h.parents
          ∙ dissolved_entry n bs node a.parents.items x s.family.nested (ap (λ ys. holds ys node) (order_names a) ∙ there)
          (omega (arith, (order_range a s node there).1, s.places.parents)) (omega (arith, high, s.places.parents)) (s.parents x high)
          ∙ ap (λ us. parent_entry n us x) (sym blossoms_after);
      order = subst (IsOrder older.items newer.items 0) (sym order_after) order;
      runs = λ x e.
          let m : holds (removed xs node) x ≡ true = ap (λ ys. holds ys x) (sym order_after) ∙ e in
          subst (λ us. IsRun a.followers.items (kept_of n kept x).run (members_of us x)) (sym blossoms_after)
          (subst (λ ms. IsRun a.followers.items (kept_of n kept x).run ms) (sym (members_without bs node x (other x m)))
          (subst (λ (k : Kept). IsRun a.followers.items k.run (members_of bs x)) (sym (ap kept_or_none (same_kept x m))) (s.runs x (removed_sub xs node x m))));
      kept = subst (AllByRecursion (λ x. IsSome (get kept (key_of n x)))) (sym order_after)
          (each_from (λ x. IsSome (get kept (key_of n x))) (removed xs node) (λ x e. ap (λ o. is_some o) (same_kept x e) ∙ each_some n a.kept xs x s.kept (removed_sub xs node x e)));
      only = λ x low some. ap (λ ys. holds ys x) order_after
          ∙ grind (arith, nat_tests, s.only x low, other_kept n a.kept kept node x h.updates above low, removed_has xs node x, h.updates.changed);
      room = h.capacity ∙ s.room;
    }
