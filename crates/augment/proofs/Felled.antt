-- The nodes of two trees are taken off the list one by one, and labelled out.
use Rattle.alt_forest.proofs.Common.{nat_tests, ◌≡◌, ◌≢◌, ℕ, ◌+◌, ◌≤◌, true, false, not, ◌&&◌, cond, List, ◌++◌, length, Option, Some, None, refl, sym, ap}
use Rattle.alt_forest.proofs.Common.{◌∙◌, subst, arith, ⊎_elim, length-append, is_some, cases_eq, both_ways, and_parts, or_cases, holds, holds-append, Blossom, IsNested, is_node}
use Rattle.alt_forest.proofs.Common.{is_vertex, is_outermost, members_of, outermost, AllNew, distinct_from_new, new-append, length-within, vertices, holds-vertices, length-vertices}
use Rattle.alt_forest.proofs.Common.{outermost_parts, member_vertex, members_new, outermost_has, outermost_by_member, Label, Out, label_at, put, state_of, IsOutermost, AreListed, AreMoving}
use Rattle.alt_forest.proofs.Common.{tree_id_at, is_label, put_here, put_other}
use Rattle.alt_forest.specs.declared.search.Search.{Search}
use Rattle.augment.specs.Felling.{stands, is_either, falls, AreGone, IsFelled}

-- what two searches have in common, once nodes of the first are felled in the second
abbrev pub IsFell : Search → Search → Type 0
IsFell s t = t ≡ record s { arena = record s.arena { motions = t.arena.motions }; labels = t.labels; tree_nodes = t.tree_nodes; scanned = t.scanned }

no_fall : (s : Search) (one other a : ℕ) → stands s a ≡ false → falls s one other a ≡ false
no_fall s one other a e = ap (λ t. t && is_either one other (tree_id_at s.tree_nodes.tree_ids a)) e

-- the labels l, the tree ids, and the vertices that are to be looked at, while the nodes of the two trees leave the list
pub record IsFelling (s : Search) (one other : ℕ) (l : ℕ → Label) (tree_id : ℕ → Option ℕ) (scanned : List ℕ) : Type 0 where
  pub tree_ids : (a v : ℕ) → tree_id a ≡ Some v → tree_id_at s.tree_nodes.tree_ids a ≡ Some v
  pub same : (a : ℕ) → is_some (tree_id a) ≡ true → l a ≡ label_at s.labels.items a
  pub off : (a : ℕ) → is_some (tree_id a) ≡ false → l a ≡ cond (falls s one other a) Out (label_at s.labels.items a)
  pub all : (a : ℕ) → stands s a ≡ true → falls s one other a ≡ false → is_some (tree_id a) ≡ true
  pub different : AllNew scanned
  pub inside : (w : ℕ) → holds scanned w ≡ true
      → (is_vertex s.graph.vertices w ≡ true) × (falls s one other (outermost s.arena.blossoms w) ≡ true) × (is_some (tree_id (outermost s.arena.blossoms w)) ≡ false)
  pub scans : (w : ℕ) → is_vertex s.graph.vertices w ≡ true → falls s one other (outermost s.arena.blossoms w) ≡ true
      → is_some (tree_id (outermost s.arena.blossoms w)) ≡ false → holds scanned w ≡ true

module _ (s : Search) (one other : ℕ) where
  module _ (l : ℕ → Label) (tree_id : ℕ → Option ℕ) (scanned : List ℕ) (h : IsFelling s one other l tree_id scanned) where
    -- a node that is taken off the list
    module _ (node : ℕ) (after : ℕ → Option ℕ) (now : after ≡ put tree_id node None) where
      off_here : is_some (after node) ≡ false
      off_here = ap (λ f. is_some (f node)) now ∙ ap (λ (o : Option ℕ). is_some o) (put_here tree_id node None)

      as_it_was : (a : ℕ) → a ≢ node → after a ≡ tree_id a
      as_it_was a ne = ap (λ f. f a) now ∙ put_other tree_id node None a ne

      another : (a : ℕ) → is_some (after a) ≡ true → a ≢ node
      another a on q = both_ways (is_some (after node)) off_here (ap (λ x. is_some (after x)) (sym q) ∙ on)

      tree_ids_after : (a v : ℕ) → after a ≡ Some v → tree_id_at s.tree_nodes.tree_ids a ≡ Some v
      tree_ids_after a v e = grind (arith, as_it_was a, off_here, h.tree_ids a v)

      on_after : (a : ℕ) → a ≢ node → is_some (after a) ≡ is_some (tree_id a)
      on_after a ne = ap (λ (o : Option ℕ). is_some o) (as_it_was a ne)

      off_still : (w : ℕ) → is_some (tree_id w) ≡ false → is_some (after w) ≡ false
      off_still w none = ⊎_elim (λ q. ap (λ x. is_some (after x)) q ∙ off_here) (λ ne. on_after w ne ∙ none) (cases_eq w node)

      -- it is in no tree, or not outermost
      pub felling_drops : is_some (tree_id node) ≡ true → stands s node ≡ false → IsFelling s one other l after scanned
      felling_drops on none = record {
        tree_ids = tree_ids_after;
        same = λ a is. grind (arith, on_after a, another a, h.same a);
        off = λ a is. grind (arith, nat_tests, on_after a, h.off a, h.same node, no_fall s one other node);
        all = λ a st free. grind (arith, on_after a, h.all a);
        different = h.different;
        inside = λ w e. let r = h.inside w e in (r.0, r.1, off_still (outermost s.arena.blossoms w) r.2);
        scans = λ w iv f is. grind (arith, on_after (outermost s.arena.blossoms w), no_fall s one other node none, h.scans w);
      }

      -- it is of one of the two trees
      module _ (nested : IsNested s.graph.vertices s.arena.blossoms) (on : is_some (tree_id node) ≡ true) (f : falls s one other node ≡ true) where
        outer : is_outermost s.graph.vertices s.arena.blossoms node ≡ true
        outer =
            let st = (and_parts (stands s node) (is_either one other (tree_id_at s.tree_nodes.tree_ids node)) f).0 in
            (and_parts (is_outermost s.graph.vertices s.arena.blossoms node) (not (is_label (label_at s.labels.items node) Out)) st).0

        is : is_node s.graph.vertices s.arena.blossoms node ≡ true
        is = (outermost_parts s.graph.vertices s.arena.blossoms node outer).0

        of_node : (w : ℕ) → holds (members_of s.arena.blossoms node) w ≡ true → outermost s.arena.blossoms w ≡ node
        of_node w e = outermost_by_member s.graph.vertices s.arena.blossoms node w nested outer e

        none_twice : AllNew (scanned ++ members_of s.arena.blossoms node)
        none_twice = new-append scanned (members_of s.arena.blossoms node) h.different (members_new s.graph.vertices s.arena.blossoms node nested is)
            (λ w e. grind (arith, of_node w, h.inside w e))

        inside_after : (w : ℕ) → holds (scanned ++ members_of s.arena.blossoms node) w ≡ true
            → (is_vertex s.graph.vertices w ≡ true) × (falls s one other (outermost s.arena.blossoms w) ≡ true) × (is_some (after (outermost s.arena.blossoms w)) ≡ false)
        inside_after w e = ⊎_elim
            (λ t. let r = h.inside w t in (r.0, r.1, off_still (outermost s.arena.blossoms w) r.2))
            (λ t. (member_vertex s.graph.vertices s.arena.blossoms node w nested is t, ap (falls s one other) (of_node w t) ∙ f, ap (λ x. is_some (after x)) (of_node w t) ∙ off_here))
            (or_cases (holds scanned w) (holds (members_of s.arena.blossoms node) w) (sym (holds-append scanned (members_of s.arena.blossoms node) w) ∙ e))

        scans_after : (w : ℕ) → is_vertex s.graph.vertices w ≡ true → falls s one other (outermost s.arena.blossoms w) ≡ true
            → is_some (after (outermost s.arena.blossoms w)) ≡ false → holds (scanned ++ members_of s.arena.blossoms node) w ≡ true
        scans_after w iv g none =
            let own = outermost_has s.graph.vertices s.arena.blossoms w nested iv in
            grind (arith, nat_tests, holds-append scanned (members_of s.arena.blossoms node) w, on_after (outermost s.arena.blossoms w), h.scans w)

        pub felling_takes : IsFelling s one other (put l node Out) after (scanned ++ members_of s.arena.blossoms node)
        felling_takes = record {
          tree_ids = tree_ids_after;
          same = λ a is. put_other l node Out a (another a is) ∙ h.same a (sym (on_after a (another a is)) ∙ is);
          off = λ a is. grind (arith, nat_tests, put_here l node Out, put_other l node Out a, on_after a, h.off a);
          all = λ a st free. grind (arith, on_after a, h.all a);
          different = none_twice;
          inside = inside_after;
          scans = scans_after;
        }

        -- there is room for its vertices
        pub room_for_members : length scanned + length (members_of s.arena.blossoms node) ≤ s.graph.vertices
        room_for_members =
            let n : ℕ = s.graph.vertices in
            let within = length-within (scanned ++ members_of s.arena.blossoms node) (vertices n) none_twice (λ w e. holds-vertices n w ∙ (inside_after w e).0) in
            omega (arith, within, length-vertices n, length-append scanned (members_of s.arena.blossoms node))

-- The list, as far as it is gone through.
module _ (s t : Search) (one other : ℕ) (rest : IsFell s t) (h : IsFelling s one other (label_at t.labels.items) (tree_id_at t.tree_nodes.tree_ids) t.scanned.items) where
  stands_with : (a : ℕ) → label_at t.labels.items a ≡ label_at s.labels.items a → stands t a ≡ stands s a
  stands_with a same = ap (λ (u : Search). is_outermost u.graph.vertices u.arena.blossoms a && not (is_label (label_at t.labels.items a) Out)) rest
      ∙ ap (λ k. is_outermost s.graph.vertices s.arena.blossoms a && not (is_label k Out)) same

  stands_on : (a : ℕ) → is_some (tree_id_at t.tree_nodes.tree_ids a) ≡ true → stands t a ≡ stands s a
  stands_on a on = stands_with a (h.same a on)

  tree_id_on : (a : ℕ) → is_some (tree_id_at t.tree_nodes.tree_ids a) ≡ true → tree_id_at t.tree_nodes.tree_ids a ≡ tree_id_at s.tree_nodes.tree_ids a
  tree_id_on a on = grind (arith, h.tree_ids a)

  -- where no node of the two trees is listed any more, none that is listed falls
  stays_on : AreGone t one other → (a : ℕ) → is_some (tree_id_at t.tree_nodes.tree_ids a) ≡ true → falls s one other a ≡ false
  stays_on gone a on = grind (arith, nat_tests, gone.none a, tree_id_on a on)

  pub felled : AreListed t.graph.vertices t.tree_nodes.nodes t.tree_nodes.tree_ids → AreGone t one other → IsFelled s t one other
  felled listed gone = record {
    listed = listed;
    labels = λ a. grind (arith, nat_tests, h.same a, h.off a, stays_on gone a);
    tree_ids = h.tree_ids;
    all = h.all;
    some = gone.some;
    different = distinct_from_new t.scanned.items h.different;
    inside = λ w e. let r = h.inside w e in (r.0, r.1);
    scans = λ w iv f. grind (arith, h.scans w, stays_on gone (outermost s.arena.blossoms w));
  }

  -- a node that is listed
  module _ (here : ℕ) (on : is_some (tree_id_at t.tree_nodes.tree_ids here) ≡ true) where
    -- it stands no more
    pub drops_off : (u : Search) → stands t here ≡ false → u ≡ record t { arena = record t.arena { motions = u.arena.motions }; tree_nodes = u.tree_nodes }
        → tree_id_at u.tree_nodes.tree_ids ≡ put (tree_id_at t.tree_nodes.tree_ids) here None
        → IsFelling s one other (label_at u.labels.items) (tree_id_at u.tree_nodes.tree_ids) u.scanned.items
    drops_off u none now tree_ids =
        subst (λ (x : Search). IsFelling s one other (label_at x.labels.items) (tree_id_at u.tree_nodes.tree_ids) x.scanned.items) (sym now)
        (felling_drops s one other (label_at t.labels.items) (tree_id_at t.tree_nodes.tree_ids) t.scanned.items h here (tree_id_at u.tree_nodes.tree_ids) tree_ids on (sym (stands_on here on)
        ∙ none))

    -- it is of one of the two trees
    module _ (nested : IsNested s.graph.vertices s.arena.blossoms) (st : stands t here ≡ true) (tree_id : is_either one other (tree_id_at t.tree_nodes.tree_ids here) ≡ true) where
      blossoms_same : t.arena.blossoms ≡ s.arena.blossoms
      blossoms_same = ap (λ (u : Search). u.arena.blossoms) rest

      falls_here : falls s one other here ≡ true
      falls_here = grind (arith, nat_tests, stands_on here on, tree_id_on here on)

      pub room_here : length t.scanned.items + length (members_of t.arena.blossoms here) ≤ s.graph.vertices
      room_here = subst (λ (bs : List Blossom). length t.scanned.items + length (members_of bs here) ≤ s.graph.vertices) (sym blossoms_same)
          (room_for_members s one other (label_at t.labels.items) (tree_id_at t.tree_nodes.tree_ids) t.scanned.items h here
          (put (tree_id_at t.tree_nodes.tree_ids) here None) refl nested on falls_here)

      pub takes_off : (u : Search) → label_at u.labels.items ≡ put (label_at t.labels.items) here Out → u.scanned.items ≡ t.scanned.items ++ members_of t.arena.blossoms here
          → tree_id_at u.tree_nodes.tree_ids ≡ put (tree_id_at t.tree_nodes.tree_ids) here None
          → IsFelling s one other (label_at u.labels.items) (tree_id_at u.tree_nodes.tree_ids) u.scanned.items
      takes_off u labels scanned tree_ids =
          subst (λ (f : ℕ → Label). IsFelling s one other f (tree_id_at u.tree_nodes.tree_ids) u.scanned.items) (sym labels)
          (subst (λ xs. IsFelling s one other (put (label_at t.labels.items) here Out) (tree_id_at u.tree_nodes.tree_ids) xs)
          (sym (scanned ∙ ap (λ (bs : List Blossom). t.scanned.items ++ members_of bs here) blossoms_same))
          (felling_takes s one other (label_at t.labels.items) (tree_id_at t.tree_nodes.tree_ids) t.scanned.items h here (tree_id_at u.tree_nodes.tree_ids) tree_ids nested on falls_here))

-- A node that is taken off the list moves no more; if it stood no longer, it didn't before.
pub still_moving : (t u : Search) (here : ℕ) → u ≡ record t { arena = record t.arena { motions = u.arena.motions }; tree_nodes = u.tree_nodes }
    → label_at u.arena.motions ≡ put (label_at t.arena.motions) here Out → stands t here ≡ false → AreMoving t → AreMoving u
still_moving t u here rest motions none h a is =
    let was : IsOutermost (state_of t) a = subst (λ (x : Search). IsOutermost (state_of x) a) rest is in
    let same = ap (λ (x : Search). label_at x.labels.items a) rest in
    let now = ap (λ (f : ℕ → Label). f a) motions in
    grind (arith, nat_tests, put_here (label_at t.arena.motions) here Out, put_other (label_at t.arena.motions) here Out a, h a)

-- a node that is labelled out rests
pub felled_moving : (t u : Search) (here : ℕ) → IsFell t u
    → label_at u.arena.motions ≡ put (label_at t.arena.motions) here Out → label_at u.labels.items ≡ put (label_at t.labels.items) here Out → AreMoving t → AreMoving u
felled_moving t u here rest motions labels h a is =
    let was : IsOutermost (state_of t) a = subst (λ (x : Search). is_outermost x.graph.vertices x.arena.blossoms a ≡ true) rest is in
    let moves = ap (λ (f : ℕ → Label). f a) motions in
    let now = ap (λ (f : ℕ → Label). f a) labels in
    grind (arith, nat_tests, h a)
