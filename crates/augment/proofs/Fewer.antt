-- How many nodes are exposed, and how many trees there are, once two trees are taken away.
use Rattle.alt_forest.proofs.Common.{◌≡◌, ◌≢◌, ◌↔◌, ℕ, ◌+◌, ◌-◌, ◌≤◌, true, false, not, ◌&&◌, Option, refl, sym, ap, ◌∙◌, subst, arith, ⊎_elim}
use Rattle.alt_forest.proofs.Common.{is_some, and-false, cases_eq, both_ways, sum_to-has, IsNested, is_outermost, by_test, outermost_parts, node_range, Label, Outer, Inner, Out, State}
use Rattle.alt_forest.proofs.Common.{IsExposed, IsSearchState, is_label, node_limit, root_of, IsRoot, is_exposed, exposed_count, is_root, tree_count, IsPlanted, IsSound, state_of, label_at}
use Rattle.alt_forest.proofs.Common.{edge_in, HasShape, nested_of, one_if, no_entry, root_passes, passing_root, roots_counted, some_not_none, root_self}
use Rattle.alt_forest.specs.declared.search.Search.{Search}
use Rattle.augment.specs.Exchange.{IsExchanged}
use Rattle.augment.specs.Turns.{IsRemoved}
use Rattle.augment.proofs.Exposure.{two_fewer}
use Rattle.augment.proofs.Removed.{with_both, where_is, IsCut, removed_state}

-- a root is counted
pub root_counted : (s : State) (r : ℕ) → IsNested s.graph.vertices s.blossoms → IsRoot s r → tree_count s ≢ 0
root_counted s r nested root none =
    let range = node_range s.graph.vertices s.blossoms r nested (outermost_parts s.graph.vertices s.blossoms r root.outermost).0 in
    let same : (r - 1) + 1 ≡ r = omega (arith, range.0) in
    let here : one_if (is_root s ((r - 1) + 1)) ≡ 1 = ap (λ k. one_if (is_root s k)) same ∙ ap one_if (root_passes s r root) in
    let has : one_if (is_root s ((r - 1) + 1)) ≤ tree_count s = sum_to-has (λ i. one_if (is_root s (i + 1))) (node_limit s.graph.vertices) (r - 1) (omega (arith, range.0, range.1)) in
    absurd (omega (arith, none, has, here))

-- where no node is a root there is no tree
pub none_counted : (s : State) → ((r : ℕ) → IsRoot s r → ⊥) → tree_count s ≡ 0
none_counted s none = ⊎_elim (λ q. q) (λ some. let r = roots_counted s some in absurd (none r.0 r.1)) (cases_eq (tree_count s) 0)

module _ (s : State) (depth : ℕ → ℕ) (nested : IsNested s.graph.vertices s.blossoms) (st : IsSearchState s depth) (m : ℕ → Option ℕ) (l : ℕ → Label) (one other : ℕ)
    (h : IsRemoved s m l one other) where
  abbrev new : State
  new = with_both s m l

  in_range : (r : ℕ) → IsRoot s r → (1 ≤ r) × (r ≤ node_limit s.graph.vertices)
  in_range r root = node_range s.graph.vertices s.blossoms r nested (outermost_parts s.graph.vertices s.blossoms r root.outermost).0

  exposed_root : (r : ℕ) → IsRoot s r → is_exposed s r ≡ true
  exposed_root r root = rw (root.outermost, root.exposed) refl

  exposed_not : (a : ℕ) → is_some (m a) ≡ true → is_exposed new a ≡ false
  exposed_not a has = rw has (and-false (is_outermost s.graph.vertices s.blossoms a))

  pub exposed_fewer : exposed_count (with_both s m l) + 2 ≡ exposed_count s
  exposed_fewer = two_fewer (is_exposed s) (is_exposed new) one other (node_limit s.graph.vertices) h.differ (in_range one h.one_is) (in_range other h.other_is) (exposed_root one h.one_is)
      (exposed_root other h.other_is) (exposed_not one h.one_has) (exposed_not other h.other_has) (λ c x y. ap (λ t. is_outermost s.graph.vertices s.blossoms c && not t) (h.seen c x y))

  pub exposed_now : (a : ℕ) → IsExposed (with_both s m l) a ↔ (IsExposed s a × (a ≢ one) × (a ≢ other))
  exposed_now a = (
    λ now.
        let none : is_some (m a) ≡ false = ap (λ (o : Option ℕ). is_some o) now.1 in
        let not_one : a ≢ one = λ q. both_ways (is_some (m a)) none (ap (λ c. is_some (m c)) q ∙ h.one_has) in
        let not_other : a ≢ other = λ q. both_ways (is_some (m a)) none (ap (λ c. is_some (m c)) q ∙ h.other_has) in
        ((now.0, no_entry (s.mate a) (ap not (sym (h.seen a not_one not_other) ∙ none))), not_one, not_other),
    λ was. (was.0.0, no_entry (m a) (ap not (h.seen a was.1 was.2 ∙ ap (λ (o : Option ℕ). is_some o) was.0.1))),
  )

  -- a mated node is no root
  mated : (a : ℕ) → is_some (m a) ≡ true → is_root new a ≡ false
  mated a has = rw (has, and-false (is_label (l a) Outer)) (and-false (is_outermost s.graph.vertices s.blossoms a))

  labelled_out : (a : ℕ) → l a ≡ Out → is_root new a ≡ false
  labelled_out a out = rw out (and-false (is_outermost s.graph.vertices s.blossoms a))

  -- another node is a root just if it was one
  as_before : (a : ℕ) → a ≢ one → a ≢ other → is_root new a ≡ is_root s a
  as_before a not_one not_other = by_test (is_outermost s.graph.vertices s.blossoms a)
      (λ is. ⊎_elim
      (λ p. labelled_out a (h.gone a is p) ∙ by_test (is_root s a)
      (λ t. let own = root_self s depth nested st a (passing_root s a t) in absurd (⊎_elim (λ q. not_one (sym own ∙ q)) (λ q. not_other (sym own ∙ q)) p))
      (λ t. sym t))
      (λ away. rw (h.stays a is away, h.seen a not_one not_other) refl)
      (where_is s one other a))
      (λ none. rw none refl)

  pub trees_fewer : tree_count (with_both s m l) + 2 ≡ tree_count s
  trees_fewer = two_fewer (is_root s) (is_root new) one other (node_limit s.graph.vertices) h.differ (in_range one h.one_is) (in_range other h.other_is) (root_passes s one h.one_is)
      (root_passes s other h.other_is) (mated one h.one_has) (mated other h.other_has) as_before

  -- an exposed node that is in a tree is its root
  own_root : (a : ℕ) → IsExposed s a → s.label a ≢ Out → IsRoot s a
  own_root a x in_it = by_label (s.label a) refl
    where
      by_label : (k : Label) → s.label a ≡ k → IsRoot s a
      by_label Outer q = record { outermost = x.0; outer = q; exposed = x.1 }
      by_label Inner q = let i = (st.labels a x.0).inner q in some_not_none i.child_edge (sym i.mate ∙ x.1)
      by_label Out q = absurd (in_it q)

  pub still_planted : IsPlanted s → IsPlanted (with_both s m l)
  still_planted planted a x out =
      let was = (exposed_now a).0 x in let in_it = planted a was.0 in
      let own = root_self s depth nested st a (own_root a was.0 in_it) in
      ⊎_elim (λ p. ⊎_elim (λ q. was.1 (sym own ∙ q)) (λ q. was.2 (sym own ∙ q)) p) (λ away. in_it (sym (h.stays a x.0 away) ∙ out)) (where_is s one other a)

-- what is left of the mates of a search
module _ (s t : Search) (e one other : ℕ) (sound : IsSound s) (rest : IsCut s t) (h : IsExchanged s t e one other) where
  pub exposed_in : (a : ℕ) → IsExposed (state_of t) a ↔ (IsExposed (state_of s) a × (a ≢ root_of (state_of s) one) × (a ≢ root_of (state_of s) other))
  exposed_in a = subst (λ (u : Search). IsExposed (state_of u) a ↔ (IsExposed (state_of s) a × (a ≢ root_of (state_of s) one) × (a ≢ root_of (state_of s) other))) (sym rest)
      (exposed_now (state_of s) sound.depth (nested_of s sound.shape) sound.state (edge_in t.mates.items) (label_at t.labels.items) (root_of (state_of s) one)
      (root_of (state_of s) other) h.removed a)

  pub fewer_in : exposed_count (state_of t) + 2 ≡ exposed_count (state_of s)
  fewer_in = ap (λ (u : Search). exposed_count (state_of u) + 2) rest
      ∙ exposed_fewer (state_of s) sound.depth (nested_of s sound.shape) sound.state (edge_in t.mates.items) (label_at t.labels.items) (root_of (state_of s) one)
      (root_of (state_of s) other) h.removed

  pub trees_in : tree_count (state_of t) + 2 ≡ tree_count (state_of s)
  trees_in = ap (λ (u : Search). tree_count (state_of u) + 2) rest
      ∙ trees_fewer (state_of s) sound.depth (nested_of s sound.shape) sound.state (edge_in t.mates.items) (label_at t.labels.items) (root_of (state_of s) one)
      (root_of (state_of s) other) h.removed

  pub planted_in : IsPlanted (state_of s) → IsPlanted (state_of t)
  planted_in planted = subst (λ (u : Search). IsPlanted (state_of u)) (sym rest)
      (still_planted (state_of s) sound.depth (nested_of s sound.shape) sound.state (edge_in t.mates.items) (label_at t.labels.items) (root_of (state_of s) one)
      (root_of (state_of s) other) h.removed planted)

  pub sound_in : HasShape t → IsSound t
  sound_in shape = record {
    shape = shape;
    depth = sound.depth;
    state = rw (ap (λ (u : Search). state_of u) rest) (removed_state (state_of s) sound.depth (nested_of s sound.shape) sound.state (edge_in t.mates.items) (label_at t.labels.items)
        (root_of (state_of s) one) (root_of (state_of s) other) h.removed);
  }
