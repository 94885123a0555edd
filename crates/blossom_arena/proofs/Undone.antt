-- What the steps of a dissolve need.
use Rattle.graph_theory.proofs.Common.{◌≡◌, ℕ, ◌+◌, ◌<◌, true, false, List, length, sym, ap, ap₂, ◌∙◌, subst, arith, None, ◌≤◌, slice_index, AllByRecursion}
use Rattle.graph_theory.proofs.Common.{holds, most_blossoms}
use Rattle.slab.specs.Slab.{Slab, Updates}
use Rattle.blossom_arena.specs.declared.links.Link.{Link}
use Rattle.blossom_arena.specs.declared.runs.Run.{Run}
use Rattle.blossom_arena.specs.declared.runs.Kept.{Kept}
use Rattle.blossom_arena.specs.declared.arena.Arena.TheInside.{Inside}
use Rattle.blossom_arena.specs.Tables.{walk, links_of}
use Rattle.blossom_arena.specs.Family.{in_ring, is_child, is_node, ring_of, Family, names_of}
use Rattle.blossom_arena.specs.Fields.{IsSound, blossoms_of, kept_of, key_of, order_of, run_of, vertices_of, family_of}
use Rattle.blossom_arena.proofs.Nested.{child_is_node, name_is_node, node_range, vertex_range}
use Rattle.blossom_arena.proofs.Sets.{member_vertex}
use Rattle.blossom_arena.proofs.Parents.{ring_child}
use Rattle.blossom_arena.proofs.Opened.{ring_other}
use Rattle.blossom_arena.proofs.Orders.{neighbours_within}
use Rattle.blossom_arena.proofs.Sound.{order_names, order_range, node_run, ring_within, ring_is, members_within}
use Rattle.blossom_arena.proofs.Dissolved.{other_run}
use Rattle.blossom_arena.proofs.LinkLists.{each_link}

module _ (a : Inside) (f : Family) (b node : ℕ) (s : IsSound a) (view : family_of a ≡ f) (named : holds (names_of f.blossoms) b ≡ true) (same_node : node ≡ b) where
  abbrev n : ℕ
  n = a.vertex_count

  -- the node stands in the order
  pub there : holds (order_of a) node ≡ true
  there = ap (holds (order_of a)) same_node ∙ sym (ap (λ xs. holds xs b) (order_names a)) ∙ ap (λ (g : Family). holds (names_of g.blossoms) b) view ∙ named

  pub range : (n < node) × (node ≤ n + most_blossoms n)
  range = order_range a s node there

  child_node : (x : ℕ) → in_ring (ring_of (blossoms_of a) node) x ≡ true → is_node n (blossoms_of a) x ≡ true
  child_node x r = child_is_node n (blossoms_of a) x s.family.nested (ring_child (blossoms_of a) node x r)

  -- and so do its neighbours
  pub neighbours : (slice_index a.older.items node < n + most_blossoms n + 1) × (slice_index a.newer.items node < n + most_blossoms n + 1)
  neighbours = neighbours_within a.older.items a.newer.items node (n + most_blossoms n + 1) (order_of a) s.order there (λ x e. omega (arith, (order_range a s x e).1)) (omega arith)

  module _ (k : Kept) (kept_is : kept_of n a.kept node ≡ k) where
    pub walk_kept : (ns es : List ℕ) → ns ≡ a.nexts.items → es ≡ a.edges.items → AllByRecursion (λ y. (y < length ns) × (y < length es)) (walk k.links ns k.first)
    walk_kept ns es nexts edges =
        subst (λ (t : List ℕ). AllByRecursion (λ y. (y < length t) × (y < length es)) (walk k.links t k.first)) (sym nexts)
        (subst (λ (u : List ℕ). AllByRecursion (λ y. (y < length a.nexts.items) × (y < length u)) (walk k.links a.nexts.items k.first)) (sym edges)
        (subst (λ (q : Kept). AllByRecursion (λ y. (y < length a.nexts.items) × (y < length a.edges.items)) (walk q.links a.nexts.items q.first)) kept_is (ring_within a s node there)))

    pub ring_kept : (ns es : List ℕ) → ns ≡ a.nexts.items → es ≡ a.edges.items → links_of es (walk k.links ns k.first) ≡ ring_of (blossoms_of a) node
    ring_kept ns es nexts edges =
        ap₂ (λ (t u : List ℕ). links_of u (walk k.links t k.first)) nexts edges
        ∙ ap (λ (q : Kept). links_of a.edges.items (walk q.links a.nexts.items q.first)) (sym kept_is) ∙ sym (ring_is a node there)

  is : is_node n (blossoms_of a) node ≡ true
  is = name_is_node n (blossoms_of a) node (ap (λ ys. holds ys node) (order_names a) ∙ there)

  pub children_within : (m : ℕ) → n + most_blossoms n < m → AllByRecursion (λ (l : Link). l.node < m) (ring_of (blossoms_of a) node)
  children_within m enough = each_link (λ x. x < m) (ring_of (blossoms_of a) node) (λ x r. omega (arith, (node_range n (blossoms_of a) x s.family.nested (child_node x r)).1, enough))

  -- what a release needs
  pub core_low : (kept_of n a.kept node).run.core < n + 1
  core_low =
      omega (arith, (vertex_range n (kept_of n a.kept node).run.core (member_vertex n (blossoms_of a) node (kept_of n a.kept node).run.core s.family.nested is (s.runs node there).core)).1)

  pub runs_within : (kept : Slab Kept) (fs : List ℕ) → is_child (blossoms_of a) node ≡ false → Updates a.kept kept (key_of n node) None → fs ≡ a.followers.items
      → AllByRecursion (λ (l : Link). AllByRecursion (λ v. v < length fs) (vertices_of fs (run_of n kept l.node)) × ((run_of n kept l.node).core < length fs))
      (ring_of (blossoms_of a) node)
  runs_within kept fs free updates same =
      each_link (λ x. AllByRecursion (λ v. v < length fs) (vertices_of fs (run_of n kept x)) × ((run_of n kept x).core < length fs)) (ring_of (blossoms_of a) node)
      (λ x r.
      subst (λ (t : List ℕ). AllByRecursion (λ v. v < length t) (vertices_of t (run_of n kept x)) × ((run_of n kept x).core < length t)) (sym same)
      (subst (λ (q : Run). AllByRecursion (λ v. v < length a.followers.items) (vertices_of a.followers.items q) × (q.core < length a.followers.items))
      (sym (other_run n a.kept kept node x updates range.0 (ring_other (blossoms_of a) node x free r))) (
        members_within a s x (child_node x r),
        omega (
          arith,
          s.places.followers,
          (vertex_range n (run_of n a.kept x).core (member_vertex n (blossoms_of a) x (run_of n a.kept x).core s.family.nested (child_node x r) (node_run a s x (child_node x r)).core)).1,
        ),
      )))
