-- What a search is once the ways between two roots are flipped and their two trees are felled.
use Rattle.alt_forest.proofs.Common.{nat_tests, ◌≡◌, ◌≢◌, ◌⊎◌, ℕ, true, false, not, cond, Option, Some, sym, ap, ◌∙◌, subst, ⊎_elim, inl, inr, arith, rules}
use Rattle.alt_forest.proofs.Common.{both_ways, and_parts, and_from, false_from_ne_true, holds, IsNested, is_outermost, outermost, Label, Out, State, IsOutermost, node_u, node_v}
use Rattle.alt_forest.proofs.Common.{is_label, root_of, CanAugment, IsSound, state_of, label_at, edge_in, AreMoving, tree_id_at, IsTreeId, HasTreeNodes, joins_turned, nested_of}
use Rattle.alt_forest.proofs.Common.{outer_not_out}
use Rattle.alt_forest.proofs.Common.{ways_lead}
use Rattle.alt_forest.specs.declared.search.Search.{Search}
use Rattle.augment.proofs.Felled.{IsFell}
use Rattle.augment.specs.Turns.{JoinsTwoTrees, IsTurned, IsElsewhere, IsRemoved}
use Rattle.augment.specs.Felling.{stands, is_either, falls, AreSeeded, IsFelled}
use Rattle.augment.specs.Exchange.{IsExchanged}
use Rattle.augment.proofs.Removed.{IsCut, with_both, away_of, roots_stay}
use Rattle.augment.proofs.Uprooted.{off_way}
use Rattle.search_heap.proofs.Homes.{some_home}

-- the trees of two nodes have these two tree ids
pub record AreTreeIds (s : Search) (near far one other : ℕ) : Type 0 where
  pub one_kept : tree_id_at s.tree_nodes.tree_ids near ≡ Some one
  pub one_tree_id : IsTreeId (state_of s) near one
  pub other_kept : tree_id_at s.tree_nodes.tree_ids far ≡ Some other
  pub other_tree_id : IsTreeId (state_of s) far other

-- a label is out or isn't
pub out_or_not : (k : Label) → (k ≡ Out) ⊎ (k ≢ Out)
out_or_not k = grind arith

tests_out : (k : Label) → not (is_label k Out) ≡ true → k ≢ Out
tests_out k t = grind (arith, nat_tests)

passes_out : (k : Label) → k ≢ Out → not (is_label k Out) ≡ true
passes_out k ne = grind (arith, nat_tests)

-- the ends of an edge by which the matching can be augmented
pub ends_here : (s : State) (e : ℕ) → CanAugment s e → JoinsTwoTrees s e (node_u s.graph s.blossoms e) (node_v s.graph s.blossoms e)
ends_here s e c =
    let turned = joins_turned s.graph s.blossoms e c.one c.other c.joins in
    let back : root_of s c.other ≢ root_of s c.one = λ q. c.two_trees (sym q) in
    ⊎_elim
    (λ p. rw (p.0, p.1) (record { tight = c.tight; joins = c.joins; near_is = c.one_is; far_is = c.other_is; near_outer = c.one_outer; far_outer = c.other_outer; two_trees = c.two_trees }))
    (λ p. rw (p.0, p.1) (record { tight = c.tight; joins = turned; near_is = c.other_is; far_is = c.one_is; near_outer = c.other_outer; far_outer = c.one_outer; two_trees = back })) c.joins

-- it doesn't matter which of the two comes first
removed_turned : (s : State) (m : ℕ → Option ℕ) (l : ℕ → Label) (one other : ℕ) → IsRemoved s m l one other → IsRemoved s m l other one
removed_turned s m l one other h =
    let away : (a : ℕ) → IsElsewhere s other one a → IsElsewhere s one other a = λ a w. record { not_one = w.not_other; not_other = w.not_one } in
    record {
      mates = h.mates;
      kept = λ a is w. h.kept a is (away a w);
      stays = λ a is w. h.stays a is (away a w);
      gone = λ a is p. grind (arith, h.gone a is);
      one_is = h.other_is;
      other_is = h.one_is;
      differ = λ q. h.differ (sym q);
      one_has = h.other_has;
      other_has = h.one_has;
      seen = λ c x y. h.seen c y x;
    }

exchanged_turned : (s t : Search) (e one other : ℕ) → IsExchanged s t e one other → IsExchanged s t e other one
exchanged_turned s t e one other h =
    let removed = removed_turned (state_of s) (edge_in t.mates.items) (label_at t.labels.items) (root_of (state_of s) one) (root_of (state_of s) other) h.removed in
    search (rules, h, removed, h.keeps)

pub exchanged_at : (s t : Search) (e near far : ℕ) → near ≡ node_u s.graph s.arena.blossoms e → far ≡ node_v s.graph s.arena.blossoms e → IsExchanged s t e near far
    → (c : CanAugment (state_of s) e) → IsExchanged s t e c.one c.other
exchanged_at s t e near far u_is v_is h c = let turned = exchanged_turned s t e near far h in grind (arith, c.joins)

-- nodes in trees are listed
pub seeded_of : (s : Search) → HasTreeNodes s → AreSeeded s
seeded_of s h a st = grind (arith, nat_tests, h.trees a)

-- a tree id is one of two
which : (one other v : ℕ) → is_either one other (Some v) ≡ true → (v ≡ one) ⊎ (v ≡ other)
which one other v t = grind (arith, nat_tests)

-- the nodes that fall are those of the two trees
module _ (s : Search) (tree_nodes : HasTreeNodes s) (near far one other : ℕ) (near_is : IsOutermost (state_of s) near) (near_in : label_at s.labels.items near ≢ Out)
    (far_is : IsOutermost (state_of s) far) (far_in : label_at s.labels.items far ≢ Out) (tree_ids : AreTreeIds s near far one other) where
  stood : (a : ℕ) → IsOutermost (state_of s) a → label_at s.labels.items a ≢ Out → stands s a ≡ true
  stood a is in_it = grind (arith, nat_tests)

  pub falls_of : (a : ℕ) → IsOutermost (state_of s) a → label_at s.labels.items a ≢ Out
      → (root_of (state_of s) a ≡ root_of (state_of s) near) ⊎ (root_of (state_of s) a ≡ root_of (state_of s) far) → falls s one other a ≡ true
  falls_of a is in_it p = grind (arith, nat_tests, stood a is in_it, tree_nodes.same a near is near_is in_it near_in, tree_nodes.same a far is far_is in_it far_in)

  fallen_from : (a v : ℕ) → tree_id_at s.tree_nodes.tree_ids a ≡ Some v → IsTreeId (state_of s) a v → falls s one other a ≡ true
      → (root_of (state_of s) a ≡ root_of (state_of s) near) ⊎ (root_of (state_of s) a ≡ root_of (state_of s) far)
  fallen_from a v kept tree_id f = ⊎_elim
      (λ (e : v ≡ one). inl (sym tree_id.root ∙ ap (outermost s.arena.blossoms) e ∙ tree_ids.one_tree_id.root))
      (λ (e : v ≡ other). inr (sym tree_id.root ∙ ap (outermost s.arena.blossoms) e ∙ tree_ids.other_tree_id.root))
      (which one other v (sym (ap (is_either one other) kept) ∙ (and_parts (stands s a) (is_either one other (tree_id_at s.tree_nodes.tree_ids a)) f).1))

  pub fallen_of : (a : ℕ) → falls s one other a ≡ true → (root_of (state_of s) a ≡ root_of (state_of s) near) ⊎ (root_of (state_of s) a ≡ root_of (state_of s) far)
  fallen_of a f = let r = tree_nodes.trees a (grind (arith, nat_tests)) (grind (arith, nat_tests)) in fallen_from a r.0 r.1 r.2 f

  pub stays_of : (a : ℕ) → IsElsewhere (state_of s) (root_of (state_of s) near) (root_of (state_of s) far) a → falls s one other a ≡ false
  stays_of a away = grind (arith, nat_tests, fallen_of a, away.not_one, away.not_other)

module _ (s t : Search) (sound : IsSound s) (tree_nodes : HasTreeNodes s) (e near far : ℕ) (ends : JoinsTwoTrees (state_of s) e near far)
    (is : IsCut s t)
    (turned : IsTurned (state_of s) (edge_in t.mates.items) e near far) (v w : ℕ) (tree_ids : AreTreeIds s near far v w) (felled : IsFelled s t v w) (moving : AreMoving t) where
  abbrev x : State
  x = state_of s

  abbrev one : ℕ
  one = root_of (state_of s) near

  abbrev other : ℕ
  other = root_of (state_of s) far

  abbrev m : ℕ → Option ℕ
  m = edge_in t.mates.items

  abbrev l : ℕ → Label
  l = label_at t.labels.items

  nested : IsNested s.graph.vertices s.arena.blossoms
  nested = nested_of s sound.shape

  near_in : label_at s.labels.items near ≢ Out
  near_in q = outer_not_out (sym ends.near_outer ∙ q)

  far_in : label_at s.labels.items far ≢ Out
  far_in q = outer_not_out (sym ends.far_outer ∙ q)

  elsewhere : (a : ℕ) → IsElsewhere x one other a → falls s v w a ≡ false
  elsewhere a away = stays_of s tree_nodes near far v w ends.near_is near_in ends.far_is far_in tree_ids a away

  same_label : (a : ℕ) → falls s v w a ≡ false → l a ≡ label_at s.labels.items a
  same_label a f = felled.labels a ∙ ap (λ q. cond q Out (label_at s.labels.items a)) f

  pub removed : IsRemoved x m l one other
  removed = record {
    mates = turned.mates;
    kept = λ a a_is away. turned.keeps a
        (off_way x sound.depth nested sound.state near a ends.near_is near_in away.not_one) (off_way x sound.depth nested sound.state far a ends.far_is far_in away.not_other);
    stays = λ a a_is away. same_label a (elsewhere a away);
    gone = λ a a_is p. grind (arith, nat_tests, felled.labels a, falls_of s tree_nodes near far v w ends.near_is near_in ends.far_is far_in tree_ids a a_is);
    one_is = (ways_lead x sound.depth near nested sound.state ends.near_is near_in).root;
    other_is = (ways_lead x sound.depth far nested sound.state ends.far_is far_in).root;
    differ = ends.two_trees;
    one_has = turned.near_root_has;
    other_has = turned.far_root_has;
    seen = turned.seen;
  }

  state_is : state_of t ≡ with_both x m l
  state_is = ap (λ (u : Search). state_of u) is

  -- a node in a tree was in the same tree, and keeps its tree id
  tree_id_kept : (a : ℕ) → IsOutermost x a → l a ≢ Out → tree_id_at t.tree_nodes.tree_ids a ≡ tree_id_at s.tree_nodes.tree_ids a
  tree_id_kept a a_is in_it =
      let free = elsewhere a (away_of x sound.depth nested sound.state m l one other removed a a_is in_it) in
      let stood = and_from (is_outermost s.graph.vertices s.arena.blossoms a) (not (is_label (label_at s.labels.items a) Out)) a_is
      (passes_out (label_at s.labels.items a) (λ q. in_it (same_label a free ∙ q))) in
      let some : (k : ℕ) × (tree_id_at t.tree_nodes.tree_ids a ≡ Some k) = some_home (tree_id_at t.tree_nodes.tree_ids a) (felled.all a stood free) in
      some.1 ∙ sym (felled.tree_ids a some.0 some.1)

  was_in : (a : ℕ) → IsOutermost x a → l a ≢ Out → label_at s.labels.items a ≢ Out
  was_in a a_is in_it q = in_it (same_label a (elsewhere a (away_of x sound.depth nested sound.state m l one other removed a a_is in_it)) ∙ q)

  same_root : (a : ℕ) → IsOutermost x a → l a ≢ Out → root_of (with_both x m l) a ≡ root_of x a
  same_root a a_is in_it = roots_stay x sound.depth nested sound.state m l one other removed a a_is in_it

  tree_id_now : (a : ℕ) → IsOutermost x a → l a ≢ Out → (k : ℕ) × (tree_id_at t.tree_nodes.tree_ids a ≡ Some k) × IsTreeId (with_both x m l) a k
  tree_id_now a a_is in_it =
      let old = tree_nodes.trees a a_is (was_in a a_is in_it) in
      (old.0, tree_id_kept a a_is in_it ∙ old.1, record { vertex = old.2.vertex; root = old.2.root ∙ sym (same_root a a_is in_it) })

  same_now : (a b : ℕ) → IsOutermost x a → IsOutermost x b → l a ≢ Out → l b ≢ Out → root_of (with_both x m l) a ≡ root_of (with_both x m l) b
      → tree_id_at t.tree_nodes.tree_ids a ≡ tree_id_at t.tree_nodes.tree_ids b
  same_now a b a_is b_is a_in b_in q =
      tree_id_kept a a_is a_in
      ∙ tree_nodes.same a b a_is b_is (was_in a a_is a_in) (was_in b b_is b_in) (sym (same_root a a_is a_in) ∙ q ∙ same_root b b_is b_in) ∙ sym (tree_id_kept b b_is b_in)

  pub tree_nodes_now : HasTreeNodes t
  tree_nodes_now = record {
    listed = felled.listed;
    trees = subst (λ (u : State). (a : ℕ) → IsOutermost u a → u.label a ≢ Out → (k : ℕ) × (tree_id_at t.tree_nodes.tree_ids a ≡ Some k) × IsTreeId u a k) (sym state_is) tree_id_now;
    same = subst (λ (u : State). (a b : ℕ) → IsOutermost u a → IsOutermost u b → u.label a ≢ Out → u.label b ≢ Out → root_of u a ≡ root_of u b
        → tree_id_at t.tree_nodes.tree_ids a ≡ tree_id_at t.tree_nodes.tree_ids b)
        (sym state_is) same_now;
    moves = moving;
  }

  pub exchanged : IsExchanged s t e near far
  exchanged = record {
    removed = removed;
    one_has = turned.near_has;
    other_has = turned.far_has;
    keeps = turned.keeps;
    listed = tree_nodes_now;
    some = λ some.
        let r = felled.some some in
        let p = and_parts (is_outermost t.graph.vertices t.arena.blossoms r.0) (not (is_label (l r.0) Out)) r.1 in
        (r.0, subst (λ (u : Search). is_outermost u.graph.vertices u.arena.blossoms r.0 ≡ true) is p.0, tests_out (l r.0) p.1);
    different = felled.different;
    vertices = λ z h. (felled.inside z h).0;
    gone = λ z h.
        let a : ℕ = outermost s.arena.blossoms z in
        let f : falls s v w a ≡ true = (felled.inside z h).1 in
        let st = (and_parts (stands s a) (is_either v w (tree_id_at s.tree_nodes.tree_ids a)) f).0 in
        let in_it = tests_out (label_at s.labels.items a) (and_parts (is_outermost s.graph.vertices s.arena.blossoms a) (not (is_label (label_at s.labels.items a) Out)) st).1 in
        (in_it, felled.labels a ∙ ap (λ b. cond b Out (label_at s.labels.items a)) f);
    scans = λ z iv none. same_label (outermost s.arena.blossoms z) (false_from_ne_true (falls s v w (outermost s.arena.blossoms z))
        (λ f. both_ways (holds t.scanned.items z) none (felled.scans z iv f)));
  }

-- what the calls leave, at once
pub rest_of : (s t u : Search) → t ≡ record s { mates = t.mates } → IsFell t u → IsCut s u
rest_of s t u first second = subst (IsCut s) (sym second)
    (ap (λ (x : Search). record x { arena = record x.arena { motions = u.arena.motions }; labels = u.labels; tree_nodes = u.tree_nodes; scanned = u.scanned }) first)

-- mates have nothing to do with what falls
pub felled_of : (s t u : Search) (one other : ℕ) → t ≡ record s { mates = t.mates } → IsFelled t u one other → IsFelled s u one other
felled_of s t u one other rest f =
    let h : IsFelled (record s { mates = t.mates }) u one other = subst (λ (x : Search). IsFelled x u one other) rest f in
    search (rules, h)

pub moving_with : (s t : Search) → t ≡ record s { mates = t.mates } → HasTreeNodes s → AreMoving t
moving_with s t rest h = subst AreMoving (sym rest) h.moves

pub seeded_with : (s t : Search) → t ≡ record s { mates = t.mates } → HasTreeNodes s → AreSeeded t
seeded_with s t rest h = subst AreSeeded (sym rest) (seeded_of s h)

-- the whole of it, by what the calls promise
pub exchange_of : (s t u : Search) → IsSound s → HasTreeNodes s → (e near far one other : ℕ) → CanAugment (state_of s) e → near ≡ node_u s.graph s.arena.blossoms e
    → far ≡ node_v s.graph s.arena.blossoms e → AreTreeIds s near far one other → t ≡ record s { mates = t.mates }
    → IsFell t u
    → IsTurned (state_of s) (edge_in t.mates.items) e near far → IsFelled t u one other → AreMoving u → (c : CanAugment (state_of s) e) → IsExchanged s u e c.one c.other
exchange_of s t u sound tree_nodes e near far one other can u_is v_is tree_ids first second turned felled moving c =
    let now = subst (λ (f : ℕ → Option ℕ). IsTurned (state_of s) f e near far) (sym (ap (λ (x : Search). edge_in x.mates.items) second)) turned in
    exchanged_at s u e near far u_is v_is (exchanged s u sound tree_nodes e near far (rw (u_is, v_is) (ends_here (state_of s) e can)) (rest_of s t u first second) now one other tree_ids
    (felled_of s t u one other first felled) moving) c
