-- The vertices of the outer nodes that are listed: none stands there twice, and looks at their edges will do.
use Rattle.alt_forest.proofs.Common.{nat_tests, ◌≡◌, ◌≢◌, ◌⊎◌, ℕ, ◌+◌, ◌<◌, ◌≤◌, true, false, List, [], ◌∷◌, ◌++◌, length, take, get_or, Option}
use Rattle.alt_forest.proofs.Common.{sym, ap, ◌∙◌, subst, arith, ⊎_elim, All, is_some, nat_eq, AllByRecursion, IsDistinct, flat_map, both_ways, or_cases, false_from_ne_true}
use Rattle.alt_forest.proofs.Common.{take_more, append-nil, flat_map-append, length-flat_map-take, Multigraph, IsEdgeNumber, edge_of, holds, holds-append, all_holds, IsNested, is_vertex}
use Rattle.alt_forest.proofs.Common.{members_of, outermost, u_vertex, v_vertex, by_test, AllNew, new_from_distinct, new-append, length-within, vertices, holds-vertices, length-vertices}
use Rattle.alt_forest.proofs.Common.{first_in, later_in, each_from, outermost_parts, member_vertex, members_new, outermost_has, outermost_by_member, Outer, IsOutermost, Joins, IsQueuedBut}
use Rattle.alt_forest.proofs.Common.{touches_any, ends_around, IsSound, state_of, label_at, HasTreeNodes, nested_of, outer_not_out}
use Rattle.alt_forest.specs.declared.search.Search.{Search}
use Rattle.augment.specs.Sides.{is_outer, outer_part, outer_vertices}

-- lists put behind one another have just what one of them has
flat_part : (f : ℕ → List ℕ) (xs : List ℕ) (w : ℕ) → holds (flat_map f xs) w ≡ true → (a : ℕ) × (holds xs a ≡ true) × (holds (f a) w ≡ true)
flat_part f [] w e = absurd (grind (arith, nat_tests))
flat_part f (x ∷ xs) w e = ⊎_elim
    (λ t. (x, first_in x xs, t))
    (λ t. let r = flat_part f xs w t in (r.0, later_in x xs r.0 r.1, r.2)) (or_cases (holds (f x) w) (holds (flat_map f xs) w) (sym (holds-append (f x) (flat_map f xs) w) ∙ e))

flat_has : (f : ℕ → List ℕ) (xs : List ℕ) (a w : ℕ) → holds xs a ≡ true → holds (f a) w ≡ true → holds (flat_map f xs) w ≡ true
flat_has f [] a w on e = grind (arith, nat_tests)
flat_has f (x ∷ xs) a w on e = grind (arith, nat_tests, holds-append (f x) (flat_map f xs) w, flat_has f xs a w)

-- none stands there twice where none stands in two of them
flat_new : (f : ℕ → List ℕ) (xs : List ℕ) → AllNew xs → ((a : ℕ) → holds xs a ≡ true → AllNew (f a))
    → ((a b w : ℕ) → holds xs a ≡ true → holds xs b ≡ true → holds (f a) w ≡ true → holds (f b) w ≡ true → a ≡ b) → AllNew (flat_map f xs)
flat_new f [] new each apart = tt
flat_new f (x ∷ xs) new each apart =
    new-append (f x) (flat_map f xs) (each x (first_in x xs))
    (flat_new f xs new.1 (λ a on. each a (later_in x xs a on)) (λ a b w p q. apart a b w (later_in x xs a p) (later_in x xs b q)))
    (λ w e. false_from_ne_true (holds (flat_map f xs) w) (λ t.
    let r = flat_part f xs w t in
    both_ways (holds xs x) new.0 (ap (holds xs) (apart x r.0 w (first_in x xs) (later_in x xs r.0 r.1) e r.2) ∙ r.1)))

-- one list more
pub flat_more : (f : ℕ → List ℕ) (xs : List ℕ) (i : ℕ) → i < length xs → flat_map f (take (i + 1) xs) ≡ flat_map f (take i xs) ++ f (get_or xs i 0)
flat_more f xs i low =
    ap (flat_map f) (take_more xs i 0 low) ∙ flat_map-append f (take i xs) (get_or xs i 0 ∷ []) ∙ ap (λ ys. flat_map f (take i xs) ++ ys) (append-nil (f (get_or xs i 0)))

-- the ends of edges at the vertices of two lists
pub ends-append : (g : Multigraph) (xs ys : List ℕ) → ends_around g (xs ++ ys) ≡ ends_around g xs + ends_around g ys
ends-append g [] ys = omega arith
ends-append g (x ∷ xs) ys = omega (arith, ends-append g xs ys)

-- one node more
pub ends_more : (g : Multigraph) (f : ℕ → List ℕ) (xs : List ℕ) (i : ℕ) → i < length xs
    → ends_around g (flat_map f (take (i + 1) xs)) ≡ ends_around g (flat_map f (take i xs)) + ends_around g (f (get_or xs i 0))
ends_more g f xs i low = ap (ends_around g) (flat_more f xs i low) ∙ ends-append g (flat_map f (take i xs)) (f (get_or xs i 0))

-- at most all of them are looked at
module _ (s : Search) (nested : IsNested s.graph.vertices s.arena.blossoms) where
  -- a node that has a part is outer
  part_outer : (a w : ℕ) → holds (outer_part s a) w ≡ true → (IsOutermost (state_of s) a) × (holds (members_of s.arena.blossoms a) w ≡ true)
  part_outer a w e = (grind (arith, nat_tests), grind (arith, nat_tests))

  pub members_within : (a : ℕ) → IsOutermost (state_of s) a → AllByRecursion (λ w. is_vertex s.graph.vertices w ≡ true) (members_of s.arena.blossoms a)
  members_within a is = each_from (λ w. is_vertex s.graph.vertices w ≡ true) (members_of s.arena.blossoms a)
      (λ w e. member_vertex s.graph.vertices s.arena.blossoms a w nested (outermost_parts s.graph.vertices s.arena.blossoms a is).0 e)

  part_new : (a : ℕ) → AllNew (outer_part s a)
  part_new a = by_test (is_outer s a)
      (λ t. rw t (members_new s.graph.vertices s.arena.blossoms a nested (outermost_parts s.graph.vertices s.arena.blossoms a (grind (arith, nat_tests))).0)) (λ t. rw t tt)

  part_outermost : (a w : ℕ) → holds (outer_part s a) w ≡ true → outermost s.arena.blossoms w ≡ a
  part_outermost a w e = let r = part_outer a w e in outermost_by_member s.graph.vertices s.arena.blossoms a w nested r.0 r.1

  pub outer_new : IsDistinct nat_eq s.tree_nodes.nodes → AllNew (outer_vertices s)
  outer_new different = flat_new (outer_part s) s.tree_nodes.nodes (new_from_distinct s.tree_nodes.nodes different)
      (λ a on. part_new a) (λ a b w p q e f. sym (part_outermost a w e) ∙ part_outermost b w f)

  pub outer_vertex : (w : ℕ) → holds (outer_vertices s) w ≡ true → is_vertex s.graph.vertices w ≡ true
  outer_vertex w e =
      let r = flat_part (outer_part s) s.tree_nodes.nodes w e in let o = part_outer r.0 w r.2 in
      member_vertex s.graph.vertices s.arena.blossoms r.0 w nested (outermost_parts s.graph.vertices s.arena.blossoms r.0 o.0).0 o.1

  outer_has : (w : ℕ) → is_vertex s.graph.vertices w ≡ true → label_at s.labels.items (outermost s.arena.blossoms w) ≡ Outer
      → holds s.tree_nodes.nodes (outermost s.arena.blossoms w) ≡ true → holds (outer_vertices s) w ≡ true
  outer_has w is outer on =
      let a : ℕ = outermost s.arena.blossoms w in
      let there = outermost_has s.graph.vertices s.arena.blossoms w nested is in
      flat_has (outer_part s) s.tree_nodes.nodes a w on (grind (arith, nat_tests))

  -- there is room for the vertices of one node more
  pub room_more : IsDistinct nat_eq s.tree_nodes.nodes → (place : ℕ) → place < length s.tree_nodes.nodes
      → length (flat_map (outer_part s) (take place s.tree_nodes.nodes)) + length (outer_part s (get_or s.tree_nodes.nodes place 0)) ≤ s.graph.vertices
  room_more different place low =
      let n : ℕ = s.graph.vertices in
      let within = length-within (outer_vertices s) (vertices n) (outer_new different) (λ w e. holds-vertices n w ∙ outer_vertex w e) in
      omega (arith, within, length-vertices n, length-flat_map-take (outer_part s) s.tree_nodes.nodes place 0 low)

-- An edge that touches none of the vertices of outer nodes needs no moment.
module _ (s : Search) (sound : IsSound s) (tree_nodes : HasTreeNodes s) where
  no_outer : (w : ℕ) → is_vertex s.graph.vertices w ≡ true → holds (outer_vertices s) w ≡ false → label_at s.labels.items (outermost s.arena.blossoms w) ≢ Outer
  no_outer w is none outer =
      let nested = nested_of s sound.shape in
      let there = tree_nodes.trees (outermost s.arena.blossoms w) (outermost_has s.graph.vertices s.arena.blossoms w nested is).0 (λ q. outer_not_out (sym outer ∙ q)) in
      both_ways (holds (outer_vertices s) w) none (outer_has s nested w is outer (sym (tree_nodes.listed.seeded (outermost s.arena.blossoms w)) ∙ ap (λ (o : Option ℕ). is_some o) there.1))

  no_outer_end : (d a b : ℕ) → IsEdgeNumber s.graph d → touches_any (outer_vertices s) (edge_of s.graph d) ≡ false → Joins s.graph s.arena.blossoms d a b → label_at s.labels.items a ≢ Outer
  no_outer_end d a b number none joins outer =
      let at_u = no_outer (edge_of s.graph d).u (u_vertex s.graph d sound.shape.graph.graph.ends number) in
      let at_v = no_outer (edge_of s.graph d).v (v_vertex s.graph d sound.shape.graph.graph.ends number) in
      grind (arith, nat_tests, at_u, at_v, joins)

  outer_queued : (vs : List ℕ) → IsQueuedBut s vs → IsQueuedBut s (outer_vertices s)
  outer_queued vs q = record {
    low = q.low;
    high = q.high;
    edges = λ d number none. record {
      to_out = λ a b joins outer out. absurd (no_outer_end d a b number none joins outer);
      between = λ a b half joins ne outer other twice. absurd (no_outer_end d a b number none joins outer);
    };
    blossoms = q.blossoms;
    tree = q.tree;
  }

-- what is to be looked at has nothing to do with what is entered
queued_with : (s t : Search) (vs : List ℕ) → t ≡ record s { scanned = t.scanned } → IsQueuedBut s vs → IsQueuedBut t vs
queued_with s t vs rest q =
    let h : IsQueuedBut (record s { scanned = t.scanned }) vs = record { low = q.low; high = q.high; edges = q.edges; blossoms = q.blossoms; tree = q.tree } in
    subst (λ (x : Search). IsQueuedBut x vs) (sym rest) h

-- looks at the edges at the vertices of one side or the other will do
module _ (s t : Search) (sound : IsSound s) (tree_nodes : HasTreeNodes s) (rest : t ≡ record s { scanned = t.scanned })
    (side : (t.scanned.items ≡ outer_vertices s) ⊎ (t.scanned.items ≡ s.scanned.items)) where
  pub side_vertices : All (λ v. is_vertex s.graph.vertices v ≡ true) s.scanned.items → All (λ v. is_vertex s.graph.vertices v ≡ true) t.scanned.items
  side_vertices all = ⊎_elim (λ e. rw e (all_holds (λ v. is_vertex s.graph.vertices v ≡ true) (outer_vertices s) (outer_vertex s (nested_of s sound.shape)))) (λ e. rw e all) side

  pub side_queued : IsQueuedBut s s.scanned.items → IsQueuedBut t t.scanned.items
  side_queued q = queued_with s t t.scanned.items rest (⊎_elim (λ e. rw e (outer_queued s sound tree_nodes s.scanned.items q)) (λ e. rw e q) side)

-- what two calls leave
pub rest_then : (s t u : Search) → t ≡ record s { scanned = t.scanned } → u ≡ record t { queue = u.queue } → u ≡ record s { queue = u.queue; scanned = u.scanned }
rest_then s t u first second = subst (λ (x : Search). x ≡ record s { queue = x.queue; scanned = x.scanned }) (sym second) (ap (λ (x : Search). record x { queue = u.queue }) first)

-- the list of nodes has nothing to do with moments, nor with what is to be looked at
pub tree_nodes_then : (s t : Search) → t ≡ record s { queue = t.queue; scanned = t.scanned } → HasTreeNodes s → HasTreeNodes t
tree_nodes_then s t rest h =
    let now : HasTreeNodes (record s { queue = t.queue; scanned = t.scanned }) = record { listed = h.listed; trees = h.trees; same = h.same; moves = h.moves } in
    subst HasTreeNodes (sym rest) now
