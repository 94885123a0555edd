-- What is left to do and to count once two trees are taken away.
use Rattle.alt_forest.proofs.Common.{nat_tests, ◌≡◌, ◌≢◌, ℕ, suc, ◌+◌, ◌*◌, ◌≤◌, true, false, cond, List, [], ◌∷◌, length, get_or, Option, Some, None, refl}
use Rattle.alt_forest.proofs.Common.{sym, ap, ◌∙◌, subst, arith, ⊎_elim, Bool, ℤ, is_some, both_ways, or_parts, Multigraph, edge_of, edges_around, sum_to, holds, is_vertex}
use Rattle.alt_forest.proofs.Common.{outermost, u_vertex, v_vertex, new_from_distinct, outermost_has, Item, Moments, moment_of, Label, Inner, Out, State, IsOutermost, node_u, node_v}
use Rattle.alt_forest.proofs.Common.{is_label, root_of, tree_count, NeedsMoment, IsQueued, IsQueuedBut, entered_among, entry_count, ends_around, out_ends, IsSound, state_of, label_at}
use Rattle.alt_forest.proofs.Common.{edge_in, weigh_less, ends_most, nested_of, outer_not_out, inner_not_out, ways_lead}
use Rattle.alt_forest.specs.declared.search.Search.{Search}
use Rattle.search_heap.specs.declared.item.Item.TheVariants.{Edge}
use Rattle.augment.specs.Exchange.{IsExchanged}
use Rattle.augment.proofs.Exchanged.{out_or_not}
use Rattle.augment.proofs.Fewer.{root_counted, none_counted}
use Rattle.augment.proofs.Removed.{IsCut, with_both, away_of, where_is}

-- where no item has a moment no edge is entered
none_among : (xs : List (Option ℤ)) → ((k : ℕ) → get_or xs k None ≡ None) → entered_among xs ≡ 0
none_among [] none = refl
none_among (None ∷ xs) none = none_among xs (λ k. none (suc k))
none_among (Some x ∷ xs) none = absurd (let e : (let o : Option ℤ = Some x in o) ≡ None = none 0 in cc)

pub none_entered : (q : Moments) → ((item : Item) → moment_of q item ≡ None) → entry_count q ≡ 0
none_entered q none = none_among q.edges (λ k. none (Edge (suc k)))

-- an edge whose ends keep their labels needs the moment that it needed
needs_kept : (s : State) (m : ℕ → Option ℕ) (l : ℕ → Label) (clock : ℤ) (e : ℕ) (o : Option ℤ) → l (node_u s.graph s.blossoms e) ≡ s.label (node_u s.graph s.blossoms e)
    → l (node_v s.graph s.blossoms e) ≡ s.label (node_v s.graph s.blossoms e) → NeedsMoment s clock e o → NeedsMoment (with_both s m l) clock e o
needs_kept s m l clock e o same_u same_v h = record {
  to_out = λ a b j la lb. h.to_out a b j (grind (arith, j)) (grind (arith, j));
  between = λ a b half j ne la lb twice. h.between a b half j ne (grind (arith, j)) (grind (arith, j)) twice;
}

not_out : (k : Label) → k ≢ Out → is_label k Out ≡ false
not_out k ne = grind (arith, nat_tests)

-- a vertex lies in a node that is labelled out
abbrev is_out : State → ℕ → Bool
is_out s v = is_label (s.label (outermost s.blossoms v)) Out

out_from : (k : Label) → is_label k Out ≡ true → k ≡ Out
out_from k t = grind (arith, nat_tests)

module _ (s t : Search) (e one other : ℕ) (sound : IsSound s) (rest : IsCut s t) (h : IsExchanged s t e one other) where
  -- what is in a tree is listed
  pub listed_tree : (a : ℕ) → IsOutermost (state_of s) a → label_at t.labels.items a ≢ Out → holds t.tree_nodes.nodes a ≡ true
  listed_tree a is in_it =
      let r = h.listed.trees a (subst (λ (u : Search). IsOutermost (state_of u) a) (sym rest) is) in_it in
      sym (h.listed.listed.seeded a) ∙ ap (λ (o : Option ℕ). is_some o) r.1

  -- where anything is listed, a tree stands
  pub some_tree : IsSound t → length t.tree_nodes.nodes ≢ 0 → tree_count (state_of t) ≢ 0
  some_tree now some =
      let r = h.some some in
      root_counted (state_of t) (root_of (state_of t) r.0) (nested_of t now.shape)
      (ways_lead (state_of t) now.depth r.0 (nested_of t now.shape) now.state (subst (λ (u : Search). IsOutermost (state_of u) r.0) (sym rest) r.1) r.2).root

  pub no_tree : t.tree_nodes.nodes ≡ [] → (a : ℕ) → IsOutermost (state_of s) a → label_at t.labels.items a ≡ Out
  no_tree none a is = ⊎_elim
      (λ q. q) (λ in_it. absurd (both_ways (holds t.tree_nodes.nodes a) (ap (λ xs. holds xs a) none) (listed_tree a is in_it))) (out_or_not (label_at t.labels.items a))

  pub none_left : t.tree_nodes.nodes ≡ [] → tree_count (state_of t) ≡ 0
  none_left none = none_counted (state_of t) (λ r root. outer_not_out (sym root.outer ∙ no_tree none r (subst (λ (u : Search). IsOutermost (state_of u) r) rest root.outermost)))

  -- what is inner was so before
  pub inner_before : (a : ℕ) → IsOutermost (state_of s) a → label_at t.labels.items a ≡ Inner → label_at s.labels.items a ≡ Inner
  inner_before a is lab =
      let away = away_of (state_of s) sound.depth (nested_of s sound.shape) sound.state (edge_in t.mates.items) (label_at t.labels.items) (root_of (state_of s) one)
      (root_of (state_of s) other) h.removed a is (λ o. inner_not_out (sym lab ∙ o)) in
      sym (h.removed.stays a is away) ∙ lab

  -- looks at the vertices of the two trees will do
  queued_here : length t.tree_nodes.nodes ≢ 0 → IsQueued s
      → IsQueuedBut (record s { arena = record s.arena { motions = t.arena.motions }; labels = t.labels; mates = t.mates; tree_nodes = t.tree_nodes; scanned = t.scanned }) t.scanned.items
  queued_here some q = record {
    low = q.low;
    high = q.high;
    edges = λ d number none.
        let parts = or_parts (holds t.scanned.items (edge_of s.graph d).u) (holds t.scanned.items (edge_of s.graph d).v) none in
        needs_kept (state_of s) (edge_in t.mates.items) (label_at t.labels.items) s.clock d (moment_of s.queue (Edge d))
        (h.scans (edge_of s.graph d).u (u_vertex s.graph d sound.shape.graph.graph.ends number) parts.0)
        (h.scans (edge_of s.graph d).v (v_vertex s.graph d sound.shape.graph.graph.ends number) parts.1) (q.edges d number);
    blossoms = λ b name is lab. q.blossoms b name is (inner_before b is lab);
    tree = λ none. let r = h.some some in r.2 (none r.0 r.1);
  }

  pub queued_but : length t.tree_nodes.nodes ≢ 0 → IsQueued s → IsQueuedBut t t.scanned.items
  queued_but some q = subst (λ (u : Search). IsQueuedBut u t.scanned.items) (sym rest) (queued_here some q)

  pub scanned_vertex : (w : ℕ) → holds t.scanned.items w ≡ true → is_vertex t.graph.vertices w ≡ true
  scanned_vertex w on = ap (λ (u : Search). is_vertex u.graph.vertices w) rest ∙ h.vertices w on

  pub scanned_looks : ends_around t.graph t.scanned.items ≤ 2 * length t.graph.edges
  scanned_looks = subst (λ (u : Search). ends_around u.graph t.scanned.items ≤ 2 * length u.graph.edges) (sym rest)
      (ends_most s.graph t.scanned.items sound.shape.graph.graph.ends (new_from_distinct t.scanned.items h.different) h.vertices)

  was_out : (w : ℕ) → is_vertex s.graph.vertices w ≡ true → is_out (state_of s) w ≡ true → is_out (state_of t) w ≡ true
  was_out w is out =
      let a : ℕ = outermost s.arena.blossoms w in
      let outer = (outermost_has s.graph.vertices s.arena.blossoms w (nested_of s sound.shape) is).0 in
      let was : label_at s.labels.items a ≡ Out = out_from (label_at s.labels.items a) out in
      let now : label_at t.labels.items a ≡ Out = ⊎_elim (h.removed.gone a outer) (λ away. h.removed.stays a outer away ∙ was)
      (where_is (state_of s) (root_of (state_of s) one) (root_of (state_of s) other) a) in
      ap (λ (u : Search). is_label (label_at t.labels.items (outermost u.arena.blossoms w)) Out) rest ∙ ap (λ k. is_label k Out) now

  -- the vertices of the two trees are in nodes labelled out now
  pub out_rises : out_ends (state_of s) + ends_around t.graph t.scanned.items ≤ out_ends (state_of t)
  out_rises =
      let less = weigh_less s.graph (is_out (state_of t)) (is_out (state_of s)) s.graph.vertices t.scanned.items (new_from_distinct t.scanned.items h.different) h.vertices
      (λ w on. ap (λ (u : Search). is_label (label_at t.labels.items (outermost u.arena.blossoms w)) Out) rest ∙ ap (λ k. is_label k Out) (h.gone w on).1)
      (λ w on. not_out (label_at s.labels.items (outermost s.arena.blossoms w)) (h.gone w on).0)
      was_out in
      let same : t.graph ≡ s.graph = ap (λ (u : Search). u.graph) rest in
      let around : ends_around t.graph t.scanned.items ≡ ends_around s.graph t.scanned.items = ap (λ (g : Multigraph). ends_around g t.scanned.items) same in
      let now : out_ends (state_of t) ≡ sum_to (λ i. cond (is_out (state_of t) (i + 1)) (length (edges_around s.graph (i + 1))) 0) s.graph.vertices =
      ap (λ (g : Multigraph). sum_to (λ i. cond (is_out (state_of t) (i + 1)) (length (edges_around g (i + 1))) 0) g.vertices) same in
      omega (arith, less, around, now)

-- where all nodes are labelled out, no end of an edge is missing
pub all_out : (u t : Search) → u.graph ≡ t.graph → ((a : ℕ) → label_at u.labels.items a ≡ Out) → out_ends (state_of t) ≤ out_ends (state_of u)
all_out u t same out =
    let less = weigh_less t.graph (is_out (state_of u)) (is_out (state_of t)) t.graph.vertices [] tt (λ v on. absurd (both_ways false refl on))
    (λ v on. absurd (both_ways false refl on)) (λ v on. absurd (both_ways false refl on)) (λ w is was. ap (λ k. is_label k Out) (out (outermost u.arena.blossoms w))) in
    let now : out_ends (state_of u) ≡ sum_to (λ i. cond (is_out (state_of u) (i + 1)) (length (edges_around t.graph (i + 1))) 0) t.graph.vertices =
    ap (λ (g : Multigraph). sum_to (λ i. cond (is_out (state_of u) (i + 1)) (length (edges_around g (i + 1))) 0) g.vertices) same in
    omega (arith, less, now)
