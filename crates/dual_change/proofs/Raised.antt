-- The search after a change of the duals of the nodes that move.
use Rattle.alt_forest.proofs.Common.{◌≡◌, ℕ, ◌<◌, ℤ, pos, ◌+ℤ◌, ◌≤ℤ◌, true, cond, List, refl, sym, ap, ◌∙◌, subst, arith, rules, nat_tests, holds, gain}
use Rattle.alt_forest.proofs.Common.{Family, IsFamily, dual_at, is_node, is_outermost, names_of, by_test, outermost_parts, vertex_range, IsPlanted, HasShape, IsSound, state_of, HasTreeNodes}
use Rattle.alt_forest.proofs.Common.{State, IsOutermost, IsSearchState, low_at, nested_of, IsNumber}
use Rattle.alt_forest.specs.declared.search.Search.{Search}
use Rattle.blossom_arena.specs.Changes.{label_at}
use Rattle.dual_change.specs.Changes.{share, change, applied, IsWithin, StaysInRange}
use Rattle.dual_change.proofs.Applied.{change_outer, dual_stays, applied_state}

-- the search with other duals
abbrev pub with_duals : Search → List ℤ → Search
with_duals s ys = record s { arena = record s.arena { duals = ys } }

-- the same at another clock
abbrev pub raised : Search → List ℤ → ℤ → Search
raised s ys x = record s { arena = record s.arena { duals = ys }; clock = x }

-- the test of the code
pub outer_by : (s : Search) (a b : ℕ) → HasShape s → is_outermost s.arena.vertex_count s.arena.blossoms b ≡ true → b ≡ a → IsOutermost (state_of s) a
outer_by s a b h e same = subst (λ x. is_outermost s.graph.vertices s.arena.blossoms x ≡ true) same (subst (λ n. is_outermost n s.arena.blossoms b ≡ true) h.arena e)

module _ (s : Search) (d : ℤ) (h : HasShape s) where
  -- no blossom's dual falls below 0
  pub raised_low : IsSound s → HasTreeNodes s → IsWithin (state_of s) d → (a : ℕ) → is_outermost s.arena.vertex_count s.arena.blossoms a ≡ true → s.arena.vertex_count < a
      → pos 0 ≤ℤ (dual_at s.arena.duals a +ℤ share d (label_at s.arena.motions a))
  raised_low sound tree_nodes within a e above =
      let is : IsOutermost (state_of s) a = outer_by s a a h e refl in
      let node : is_node s.graph.vertices s.arena.blossoms a ≡ true = (outermost_parts s.graph.vertices s.arena.blossoms a is).0 in
      let name : holds (names_of s.arena.blossoms) a ≡ true = grind (arith, nat_tests, h.arena, vertex_range s.graph.vertices a) in
      subst (λ x. pos 0 ≤ℤ (dual_at s.arena.duals a +ℤ x)) (change_outer (state_of s) d a is ∙ sym (ap (share d) (tree_nodes.moves a is)))
      (dual_stays (state_of s) d h.graph.graph (nested_of s h) within a name (low_at (dual_at s.arena.duals) s.arena.blossoms a sound.state.duals name))

  -- and each lies in range
  pub raised_range : HasTreeNodes s → StaysInRange (state_of s) d → (a : ℕ) → is_outermost s.arena.vertex_count s.arena.blossoms a ≡ true
      → IsNumber (dual_at s.arena.duals a +ℤ share d (label_at s.arena.motions a))
  raised_range tree_nodes in_range a e =
      let is : IsOutermost (state_of s) a = outer_by s a a h e refl in
      subst (λ x. IsNumber (dual_at s.arena.duals a +ℤ x)) (change_outer (state_of s) d a is ∙ sym (ap (share d) (tree_nodes.moves a is))) (in_range a is)

  -- what each node gains is the change
  gain_is : HasTreeNodes s → (a : ℕ) → gain s.arena d a ≡ change (state_of s) d a
  gain_is tree_nodes a =
      ap (λ n. cond (is_outermost n s.arena.blossoms a) (share d (label_at s.arena.motions a)) (pos 0)) h.arena
      ∙ by_test (is_outermost s.graph.vertices s.arena.blossoms a) (λ o. rw (o, tree_nodes.moves a o) refl) (λ o. rw o refl)

  -- an arena where they have gained it
  module _ (tree_nodes : HasTreeNodes s) (f : Family) (each : (a : ℕ) → dual_at f.duals a ≡ dual_at s.arena.duals a +ℤ gain s.arena d a)
      (rest : f ≡ record s.arena { duals = f.duals }) where
    abbrev with_dual : State → (ℕ → ℤ) → State
    with_dual x y = record x { dual = y }

    pub raised_state : state_of (record s { arena = f }) ≡ applied (state_of s) d
    raised_state =
        ap (λ (g : Family). let t : Search = record s { arena = g } in state_of t) rest
        ∙ ap (with_dual (state_of s)) (λ i a. (each a ∙ ap (λ x. dual_at s.arena.duals a +ℤ x) (gain_is tree_nodes a)) i)

    pub raised_sound : IsFamily f → (sound : IsSound s) → IsPlanted (state_of s) → IsWithin (state_of s) d → IsSound (record s { arena = f })
    raised_sound good sound planted within =
        let arena = ap (λ (g : Family). g.vertex_count) rest ∙ h.arena in
        record {
          shape = search (rules, h, good, arena);
          depth = sound.depth;
          state = subst (λ x. IsSearchState x sound.depth) (sym raised_state)
              (applied_state (state_of s) d h.graph.graph (nested_of s h) sound.depth sound.state h.graph.loopless planted within);
        }
