-- What a root more leaves of the moments and of the nodes that are listed, before the edges at its vertices are looked at.
use Rattle.graph_theory.proofs.Common.{◌≡◌, ◌≢◌, ℕ, ◌+◌, ◌*◌, ◌≤◌, Bool, true, false, not, List, [], ◌∷◌, length, refl, sym, ap, ◌∙◌, subst, arith}
use Rattle.graph_theory.proofs.Common.{⊎_elim, ℤ, Option, Some, None, All, list_any, cases_eq, both_ways, or_parts, mul-le-mul_left, IsGraph, IsEdgeNumber, edge_of, holds, nat_tests}
use Rattle.graph_theory.proofs.Common.{all_holds}
use Rattle.blossom_arena.specs.Family.{Blossom, IsNested, is_outermost, is_node, is_vertex, members_of, names_of, outermost}
use Rattle.blossom_arena.proofs.Lists.{length-within, vertices, holds-vertices, length-vertices}
use Rattle.blossom_arena.proofs.Nested.{outermost_parts}
use Rattle.blossom_arena.proofs.Sets.{member_vertex, members_new, outermost_has, outermost_by_member}
use Rattle.blossom_arena.proofs.Ends.{u_vertex, v_vertex}
use Rattle.search_heap.specs.declared.item.Item.TheVariants.{Edge}
use Rattle.search_heap.specs.Moments.{Moments, moment_of}
use Rattle.blossom_arena.specs.declared.label.Label.{Label}
use Rattle.blossom_arena.specs.declared.label.Label.TheVariants.{Outer, Inner, Out}
use Rattle.alt_forest.specs.declared.search.Search.{Search}
use Rattle.alt_forest.specs.State.{State, IsOutermost, IsExposed, Joins, node_u, node_v, IsSearchState}
use Rattle.alt_forest.specs.Counts.{is_outside, outside_among}
use Rattle.alt_forest.specs.Trees.{is_label, root_of, up_edge, up_edge_by, far_end}
use Rattle.alt_forest.specs.Searches.{IsSound, state_of, label_at, put}
use Rattle.alt_forest.specs.Entries.{ForMoment, IsBlossomEntered, IsQueued, IsQueuedBut, touches_any, ends_around, looks_left, outside_ends}
use Rattle.alt_forest.specs.TreeNodes.{AreListed, HasTreeNodes, tree_id_at}
use Rattle.alt_forest.proofs.Places.{nested_of}
use Rattle.alt_forest.proofs.Relabelled.{with_labels, put_here, put_other, outer_not_inner, outer_not_out, some_not_none, planted}
use Rattle.alt_forest.proofs.Looks.{outside_ends_fall, term_le}
use Rattle.alt_forest.proofs.Roots.{up_or_root, ways_lead}
use Rattle.alt_forest.proofs.TreeIds.{AreTrees, roots_are_trees, tree_root}
use Rattle.alt_forest.proofs.Walk.{other_node_joins}
use Rattle.search_tables.proofs.Updates.{put_both}

-- an edge with no end among the vertices of an outermost node leads past that node
pub past_node : (s : State) (v e : ℕ) → IsGraph s.graph → IsNested s.graph.vertices s.blossoms → IsEdgeNumber s.graph e
    → touches_any (members_of s.blossoms v) (edge_of s.graph e) ≡ false
    → (node_u s.graph s.blossoms e ≢ v) × (node_v s.graph s.blossoms e ≢ v)
past_node s v e graph nested is none =
    let u = (outermost_has s.graph.vertices s.blossoms (edge_of s.graph e).u nested (u_vertex s.graph e graph.ends is)).1 in
    let w = (outermost_has s.graph.vertices s.blossoms (edge_of s.graph e).v nested (v_vertex s.graph e graph.ends is)).1 in
    let parts = or_parts (holds (members_of s.blossoms v) (edge_of s.graph e).u) (holds (members_of s.blossoms v) (edge_of s.graph e).v) none in
    (λ q. both_ways _ parts.0 (rw q at u), λ q. both_ways _ parts.1 (rw q at w))

pub joins_past : (s : State) (v e a b : ℕ) → (node_u s.graph s.blossoms e ≢ v) × (node_v s.graph s.blossoms e ≢ v) → Joins s.graph s.blossoms e a b → (a ≢ v) × (b ≢ v)
joins_past s v e a b past j = (λ q. grind arith, λ q. grind arith)

-- such an edge needs the moment that it needed, and what held of it holds on
pub needs_past : (s : State) (clock : ℤ) (v e : ℕ) (Holds : ℤ → Type 0) → (node_u s.graph s.blossoms e ≢ v) × (node_v s.graph s.blossoms e ≢ v) → ForMoment s clock e Holds
    → ForMoment (with_labels s (put s.label v Outer)) clock e Holds
needs_past s clock v e Holds past h = record {
  to_out = λ a b j la lb.
      let ne = joins_past s v e a b past j in
      h.to_out a b j (sym (put_other s.label v Outer a ne.0) ∙ la) (sym (put_other s.label v Outer b ne.1) ∙ lb);
  between = λ a b half j differ la lb twice.
      let ne = joins_past s v e a b past j in
      h.between a b half j differ (sym (put_other s.label v Outer a ne.0) ∙ la) (sym (put_other s.label v Outer b ne.1) ∙ lb) twice;
}

-- the vertices of a node are no more than there are
pub members_fit : (n : ℕ) (bs : List Blossom) (x : ℕ) → IsNested n bs → is_node n bs x ≡ true → length (members_of bs x) ≤ n
members_fit n bs x nested is =
    let within = length-within (members_of bs x) (vertices n) (members_new n bs x nested is) (λ v e. holds-vertices n v ∙ member_vertex n bs x v nested is e) in
    omega (arith, within, length-vertices n)

-- and they are vertices
pub members_vertices : (n : ℕ) (bs : List Blossom) (x : ℕ) → IsNested n bs → is_outermost n bs x ≡ true → All (λ w. is_vertex n w ≡ true) (members_of bs x)
members_vertices n bs x nested is = all_holds (λ w. is_vertex n w ≡ true) (members_of bs x) (λ w e. member_vertex n bs x w nested (outermost_parts n bs x is).0 e)

-- what a list has for any, a narrower test has for no more
any_within : (p q : ℕ → Bool) (xs : List ℕ) → ((w : ℕ) → q w ≡ true → p w ≡ true) → list_any q xs ≡ true → list_any p xs ≡ true
any_within p q [] within e = e
any_within p q (x ∷ xs) within e = grind (arith, within x, any_within p q xs within)

-- where no vertex leaves the outer nodes, no blossom does
pub among_within : (s t : State) (bs : List Blossom) → ((w : ℕ) → is_outside t w ≡ true → is_outside s w ≡ true) → outside_among t bs ≤ outside_among s bs
among_within s t [] within = omega arith
among_within s t (b ∷ older) within =
    let here = term_le (list_any (is_outside t) b.members) (list_any (is_outside s) b.members) 1 (any_within (is_outside s) (is_outside t) b.members within) in
    omega (arith, here, among_within s t older within)

-- the vertices of the new root come into an outer node
module _ (s : State) (v : ℕ) (nested : IsNested s.graph.vertices s.blossoms) (is : IsOutermost s v) (out : s.label v ≡ Out) where
  pub root_inside : (w : ℕ) → is_outside (with_labels s (put s.label v Outer)) w ≡ true → is_outside s w ≡ true
  root_inside w e = put_both (λ l. not (is_label l Outer) ≡ true → is_outside s w ≡ true) s.label v Outer (outermost s.blossoms w) (λ _ no. absurd (both_ways false refl no))
      (λ _ was. was) e

  -- so many ends of edges are left outside
  pub root_ends : outside_ends (with_labels s (put s.label v Outer)) + ends_around s.graph (members_of s.blossoms v) ≤ outside_ends s
  root_ends =
      let n : ℕ = s.graph.vertices in let t : State = with_labels s (put s.label v Outer) in
      let node = (outermost_parts n s.blossoms v is).0 in
      let at : (w : ℕ) → holds (members_of s.blossoms v) w ≡ true → outermost s.blossoms w ≡ v = λ w h. outermost_by_member n s.blossoms v w nested is h in
      outside_ends_fall s t (members_of s.blossoms v) refl (members_new n s.blossoms v nested node)
      (λ w h. member_vertex n s.blossoms v w nested node h)
      (λ w h. ap (λ l. not (is_label l Outer)) (ap s.label (at w h) ∙ out))
      (λ w h. ap (λ l. not (is_label l Outer)) (ap (put s.label v Outer) (at w h) ∙ put_here s.label v Outer))
      (λ w iv e. root_inside w e)

  pub root_looks : looks_left (with_labels s (put s.label v Outer)) + ends_around s.graph (members_of s.blossoms v) ≤ looks_left s
  root_looks =
      by_product (2 * length s.graph.edges) _ _ _ _ _ root_ends (among_within s (with_labels s (put s.label v Outer)) s.blossoms root_inside)
    where
      by_product : (k a b x y z : ℕ) → a + z ≤ b → x ≤ y → (a + k * x) + z ≤ b + k * y
      by_product k a b x y z first second = omega (arith, first, mul-le-mul_left k second)

-- a new root has itself, and all other nodes keep their root
module _ (s : State) (depth : ℕ → ℕ) (v : ℕ) (nested : IsNested s.graph.vertices s.blossoms) (st : IsSearchState s depth) (exposed : s.mate v ≡ None)
    (out : s.label v ≡ Out) where
  abbrev pub grown : State
  grown = with_labels s (put s.label v Outer)

  abbrev said : ℕ → ℕ
  said = put (root_of s) v v

  was_in : (x : ℕ) → x ≢ v → put s.label v Outer x ≢ Out → s.label x ≢ Out
  was_in x other ne p = ne (put_other s.label v Outer x other ∙ p)

  -- the way up doesn't speak of other labels
  same_edge : (l : Label) (x : ℕ) → up_edge_by grown l x ≡ up_edge_by s l x
  same_edge Outer x = refl
  same_edge Inner x = refl
  same_edge Out x = refl

  edge_was : (x : ℕ) → x ≢ v → up_edge grown x ≡ up_edge s x
  edge_was x other = same_edge (put s.label v Outer x) x ∙ ap (λ l. up_edge_by s l x) (put_other s.label v Outer x other)

  edge_here : (x : ℕ) → x ≡ v → up_edge grown x ≡ None
  edge_here x same = same_edge (put s.label v Outer x) x ∙ ap (λ l. up_edge_by s l x) (ap (put s.label v Outer) same ∙ put_here s.label v Outer) ∙ ap s.mate same ∙ exposed

  -- no node stood under the one that is a root now
  not_under : (a e b : ℕ) → IsOutermost s a → s.label a ≢ Out → up_edge s a ≡ Some e → Joins s.graph s.blossoms e a b → a ≢ b → b ≢ v
  not_under a e b is in_it way j ne same = ⊎_elim
      (λ r. some_not_none e (sym way ∙ ap (λ l. up_edge_by s l a) r.outer ∙ r.exposed))
      (λ p. p.1.in_tree (ap s.label (sym p.1.up ∙ ap (λ o. far_end s o a) way ∙ other_node_joins s.graph s.blossoms e a b j ne ∙ same) ∙ out))
      (up_or_root s depth nested st a is in_it)

  said_trees : AreTrees grown said
  said_trees = record {
    root = λ a r. put_both (λ y. y ≡ a) (root_of s) v v a (λ same. sym same)
        (λ other. (roots_are_trees s depth nested st).root a (record { outermost = r.outermost; outer = sym (put_other s.label v Outer a other) ∙ r.outer; exposed = r.exposed }));
    step = λ a e b is in_it b_is b_in way number j ne. ⊎_elim
        (λ here. some_not_none e (sym way ∙ edge_here a here))
        (λ other.
        let was = was_in a other in_it in let up : up_edge s a ≡ Some e = sym (edge_was a other) ∙ way in
        let under : b ≢ v = not_under a e b is was up j ne in
        put_other (root_of s) v v a other ∙ (roots_are_trees s depth nested st).step a e b is was b_is (was_in b under b_in) up number j ne ∙ sym (put_other (root_of s) v v b under))
        (cases_eq a v);
  }

  pub grown_root : (x : ℕ) → IsOutermost s x → put s.label v Outer x ≢ Out → root_of grown x ≡ put (root_of s) v v x
  grown_root x outer in_it = tree_root grown depth nested (planted s depth v exposed out st) said said_trees x outer in_it

-- what its calls leave, at once
pub whole : (s l a t : Search) → l ≡ record s { labels = l.labels } → a ≡ record l { arena = record l.arena { motions = a.arena.motions }; tree_nodes = a.tree_nodes }
    → t ≡ record a { scanned = t.scanned }
    → t ≡ record s { arena = record s.arena { motions = t.arena.motions }; labels = t.labels; tree_nodes = t.tree_nodes; scanned = t.scanned }
whole s l a t one two three = parts ∙ ap (λ (x : Search). let y : Search = record s {
  arena = record s.arena { motions = x.arena.motions };
  labels = x.labels;
  tree_nodes = x.tree_nodes;
  scanned = x.scanned;
} in y) (sym parts)
  where
    parts : t ≡ record s { arena = record s.arena { motions = a.arena.motions }; labels = l.labels; tree_nodes = a.tree_nodes; scanned = t.scanned }
    parts = three
        ∙ ap (λ (x : Search). let y : Search = record x { scanned = t.scanned } in y) two
        ∙ ap (λ (x : Search). let y : Search = record x { arena = record x.arena { motions = a.arena.motions }; tree_nodes = a.tree_nodes; scanned = t.scanned } in y) one

-- the search, whose labels, list of nodes and list of vertices are new
module _ (s t : Search) (v : ℕ) (is : t ≡ record s { arena = record s.arena { motions = t.arena.motions }; labels = t.labels; tree_nodes = t.tree_nodes; scanned = t.scanned })
    (labels : label_at t.labels.items ≡ put (label_at s.labels.items) v Outer) (sound : IsSound s) (exposed : IsExposed (state_of s) v) (out : label_at s.labels.items v ≡ Out) where
  pub planted_state : state_of t ≡ with_labels (state_of s) (put (label_at s.labels.items) v Outer)
  planted_state = ap state_of is ∙ ap (with_labels (state_of s)) labels

  -- what holds of the moments of all edges holds on of those that have no end in the root
  pub planted_edges : (Holds : ℕ → ℤ → Type 0) → ((e : ℕ) → IsEdgeNumber s.graph e → ForMoment (state_of s) s.clock e (Holds e)) → (e : ℕ) → IsEdgeNumber s.graph e
      → touches_any (members_of s.arena.blossoms v) (edge_of s.graph e) ≡ false → ForMoment (with_labels (state_of s) (label_at t.labels.items)) s.clock e (Holds e)
  planted_edges Holds h e number none = subst (λ f. ForMoment (with_labels (state_of s) f) s.clock e (Holds e)) (sym labels)
      (needs_past (state_of s) s.clock v e (Holds e) (past_node (state_of s) v e sound.shape.graph.graph (nested_of s sound.shape) number none) (h e number))

  -- the root is no inner blossom, and the others need what they needed
  pub planted_blossoms : (q : Moments) → ((b : ℕ) → holds (names_of s.arena.blossoms) b ≡ true → IsBlossomEntered (state_of s) s.clock q b) → (b : ℕ)
      → holds (names_of s.arena.blossoms) b ≡ true → IsBlossomEntered (with_labels (state_of s) (label_at t.labels.items)) s.clock q b
  planted_blossoms q h b name outer lab =
      let here : put (label_at s.labels.items) v Outer b ≡ Inner = sym (ap (λ f. f b) labels) ∙ lab in
      let ne : b ≢ v = λ p. outer_not_inner (sym (ap (put (label_at s.labels.items) v Outer) p ∙ put_here (label_at s.labels.items) v Outer) ∙ here) in
      h b name outer (sym (put_other (label_at s.labels.items) v Outer b ne) ∙ here)

  pub planted_queued : IsQueued s → IsQueuedBut t (members_of s.arena.blossoms v)
  planted_queued h = subst (λ (x : Search). IsQueuedBut x (members_of s.arena.blossoms v)) (sym is) (record {
    low = h.low;
    high = h.high;
    edges = planted_edges (λ e x. moment_of s.queue (Edge e) ≡ Some x) h.edges;
    blossoms = planted_blossoms s.queue h.blossoms;
    tree = λ no. outer_not_out (sym (put_here (label_at s.labels.items) v Outer) ∙ sym (ap (λ f. f v) labels) ∙ no v exposed.0);
  })

  pub planted_tree_nodes : (w : ℕ) → is_vertex s.graph.vertices w ≡ true → outermost s.arena.blossoms w ≡ v → AreListed s.graph.vertices t.tree_nodes.nodes t.tree_nodes.tree_ids
      → tree_id_at t.tree_nodes.tree_ids ≡ put (tree_id_at s.tree_nodes.tree_ids) v (Some w)
      → label_at t.arena.motions ≡ put (label_at s.arena.motions) v (label_at t.labels.items v) → HasTreeNodes s
      → HasTreeNodes t
  planted_tree_nodes w vertex within listed tree_ids motions h = subst HasTreeNodes (sym is) (record {
    listed = listed;
    trees = λ x outer ne. ⊎_elim
        (λ (here : x ≡ v). (
          w,
          ap (λ (f : ℕ → Option ℕ). f x) tree_ids ∙ grind (arith, nat_tests),
          record { vertex = vertex; root = within ∙ sym (root_now x outer ne ∙ grind (arith, nat_tests)) },
        ))
        (λ (other : x ≢ v). let r = h.trees x outer (was x other ne) in (
          r.0,
          kept x other ∙ r.1,
          record { vertex = r.2.vertex; root = r.2.root ∙ sym (root_now x outer ne ∙ put_other (root_of old) v v x other) },
        ))
        (cases_eq x v);
    same = λ x y x_is y_is x_in y_in roots.
        let one = root_now x x_is x_in in let other = root_now y y_is y_in in
        ⊎_elim
        (λ (x_here : x ≡ v). ⊎_elim
        (λ (y_here : y ≡ v). ap (tree_id_at t.tree_nodes.tree_ids) (x_here ∙ sym y_here))
        (λ (y_other : y ≢ v). absurd (away y y_other y_is y_in (grind (arith, nat_tests))))
        (cases_eq y v))
        (λ (x_other : x ≢ v). ⊎_elim
        (λ (y_here : y ≡ v). absurd (away x x_other x_is x_in (grind (arith, nat_tests))))
        (λ (y_other : y ≢ v). kept x x_other ∙ h.same x y x_is y_is (was x x_other x_in) (was y y_other y_in) (grind (arith, nat_tests)) ∙ sym (kept y y_other))
        (cases_eq y v))
        (cases_eq x v);
    moves = λ x outer. ap (λ (f : ℕ → Label). f x) motions ∙ put_both (λ l. l ≡ label_at t.labels.items x) (label_at s.arena.motions) v (label_at t.labels.items v) x
        (λ same. ap (label_at t.labels.items) (sym same))
        (λ other. h.moves x outer ∙ sym (ap (λ (f : ℕ → Label). f x) labels ∙ put_other (label_at s.labels.items) v Outer x other));
  })
    where
      old : State
      old = state_of s

      depth : ℕ → ℕ
      depth = sound.depth

      nested : IsNested s.graph.vertices s.arena.blossoms
      nested = nested_of s sound.shape

      root_now : (x : ℕ) → IsOutermost old x → label_at t.labels.items x ≢ Out → root_of (with_labels old (label_at t.labels.items)) x ≡ put (root_of old) v v x
      root_now x outer ne =
          ap (λ f. root_of (with_labels old f) x) labels
          ∙ grown_root old depth v nested sound.state exposed.1 out x outer (λ p. ne (ap (λ f. f x) labels ∙ p))

      was : (x : ℕ) → x ≢ v → label_at t.labels.items x ≢ Out → label_at s.labels.items x ≢ Out
      was x other ne p = ne (ap (λ f. f x) labels ∙ put_other (label_at s.labels.items) v Outer x other ∙ p)

      -- no other node has the new root, which was in no tree
      away : (x : ℕ) → x ≢ v → IsOutermost old x → label_at t.labels.items x ≢ Out → root_of old x ≢ v
      away x other is ne q = outer_not_out (sym (ways_lead old depth x nested sound.state is (was x other ne)).root.outer ∙ ap (label_at s.labels.items) q ∙ out)

      kept : (x : ℕ) → x ≢ v → tree_id_at t.tree_nodes.tree_ids x ≡ tree_id_at s.tree_nodes.tree_ids x
      kept x other = ap (λ (f : ℕ → Option ℕ). f x) tree_ids ∙ put_other (tree_id_at s.tree_nodes.tree_ids) v (Some w) x other
