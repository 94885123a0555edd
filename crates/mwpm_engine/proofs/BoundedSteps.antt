-- Steps that change no dual stay within the bounds of a pass.
use Rattle.alt_forest.proofs.Common.{◌≡◌, ◌⊎◌, ◌*ℤ◌, ℕ, ◌+◌, ℤ, pos, ◌+ℤ◌, ◌-ℤ◌, ◌≤ℤ◌, true, false, eqb, cond, List, [], ◌∷◌, refl, sym}
use Rattle.alt_forest.proofs.Common.{ap, ◌∙◌, subst, arith, ⊎_elim, inl, inr, ints, eqb-true, eqb-false, or_cases, or_parts, Multigraph, int_sum_to, holds, int_sum_to-same, Blossom}
use Rattle.alt_forest.proofs.Common.{IsNested, is_node, is_vertex, names_of, made_of, without, by_test, range_vertex, vertex_is_node, name_is_node, not_new, CanExpand, put, State, put_here}
use Rattle.alt_forest.proofs.Common.{put_other, names_without}
use Rattle.tree_steps.specs.Expanded.{IsExpanded}
use Rattle.tree_steps.specs.Shrinkable.{IsShrunk}
use Rattle.tree_steps.specs.Shrunk.{shrunk_state}
use Rattle.alt_forest.specs.Totals.{duals_over, dual_total}
use Rattle.search_start.specs.Bounds.{IsBounded}
use Rattle.mwpm_engine.specs.Solutions.{HasPerfect}

-- a step keeps the duals that stand, or sets them to 0, and their sum
pub record KeepsDuals (s t : State) : Type 0 where
  pub graph : t.graph ≡ s.graph
  pub weighted : t.weighted ≡ s.weighted
  pub total : dual_total t ≡ dual_total s
  pub vertices : (v : ℕ) → is_vertex s.graph.vertices v ≡ true → t.dual v ≡ s.dual v
  pub blossoms : (b : ℕ) → holds (names_of t.blossoms) b ≡ true → (t.dual b ≡ pos 0) ⊎ ((holds (names_of s.blossoms) b ≡ true) × (t.dual b ≡ s.dual b))

pub bounded_kept : (s t : State) (start : ℤ) → KeepsDuals s t → IsBounded s start → IsBounded t start
bounded_kept s t start k (inl h) = inl (record {
  unweighted = k.weighted ∙ h.unweighted;
  zero = λ a is. ⊎_elim
      (λ v. let vertex = ap (λ (g : Multigraph). is_vertex g.vertices a) (sym k.graph) ∙ v in k.vertices a vertex ∙ h.zero a (vertex_is_node s.graph.vertices s.blossoms a vertex))
      (λ m. ⊎_elim (λ z. z) (λ p. p.1 ∙ h.zero a (name_is_node s.graph.vertices s.blossoms a p.0)) (k.blossoms a m))
      (or_cases (is_vertex t.graph.vertices a) (holds (names_of t.blossoms) a) is);
})
bounded_kept s t start k (inr h) = inr (record {
  weighted = k.weighted ∙ h.weighted;
  perfect = subst HasPerfect (sym k.graph) h.perfect;
  start_weight = h.start_weight;
  raised = h.raised;
  low = h.low;
  total = k.total ∙ h.total ∙ ap (λ (g : Multigraph). (pos g.vertices *ℤ start) +ℤ h.raised) (sym k.graph);
  vertices = λ v is.
      let vertex = ap (λ (g : Multigraph). is_vertex g.vertices v) (sym k.graph) ∙ is in
      subst (λ y. ((start -ℤ h.raised) ≤ℤ y) × (y ≤ℤ (start +ℤ h.raised))) (sym (k.vertices v vertex)) (h.vertices v vertex);
  blossoms = λ b name. ⊎_elim
      (λ z. subst (λ y. y ≤ℤ h.raised) (sym z) h.low)
      (λ p. subst (λ y. y ≤ℤ h.raised) (sym p.1) (h.blossoms b p.0))
      (k.blossoms b name);
})

total_kept : (before after : State) → after.graph ≡ before.graph → after.blossoms ≡ before.blossoms → after.dual ≡ before.dual → dual_total after ≡ dual_total before
total_kept before after graph blossoms dual =
    ap (λ (g : Multigraph). int_sum_to (λ i. after.dual (i + 1)) g.vertices +ℤ duals_over after.dual (names_of after.blossoms)) graph
    ∙ ap (λ (bs : List Blossom). int_sum_to (λ i. after.dual (i + 1)) before.graph.vertices +ℤ duals_over after.dual (names_of bs)) blossoms
    ∙ ap (λ (y : ℕ → ℤ). int_sum_to (λ i. y (i + 1)) before.graph.vertices +ℤ duals_over y (names_of before.blossoms)) dual

-- a step that keeps the graph, the blossoms and the duals
pub same_duals : (s t : State) → t.graph ≡ s.graph → t.weighted ≡ s.weighted → t.blossoms ≡ s.blossoms → t.dual ≡ s.dual → KeepsDuals s t
same_duals s t graph weighted blossoms dual = record {
  graph = graph;
  weighted = weighted;
  total = total_kept s t graph blossoms dual;
  vertices = λ v is. ap (λ (y : ℕ → ℤ). y v) dual;
  blossoms = λ b name. inr (ap (λ (bs : List Blossom). holds (names_of bs) b) (sym blossoms) ∙ name, ap (λ (y : ℕ → ℤ). y b) dual);
}

-- sums of duals where one of a new node is put

sum_put : (y : ℕ → ℤ) (x : ℕ) (z : ℤ) (xs : List ℕ) → holds xs x ≡ false → duals_over (put y x z) xs ≡ duals_over y xs
sum_put y x z [] new = refl
sum_put y x z (a ∷ xs) new =
    let p = or_parts (eqb a x) (holds xs x) new in
    let here : put y x z a ≡ y a = put_other y x z a (eqb-false a x p.0) in
    let rest : duals_over (put y x z) xs ≡ duals_over y xs = sum_put y x z xs p.1 in
    omega (arith, ints, here, rest)

module _ (s : State) (b : Blossom) (top : ℕ) (fresh : is_node s.graph.vertices s.blossoms b.node ≡ false) where
  abbrev made : State
  made = shrunk_state s b top

  old_dual : (a : ℕ) → is_node s.graph.vertices s.blossoms a ≡ true → made.dual a ≡ s.dual a
  old_dual a is = put_other s.dual b.node (pos 0) a (not_new s.graph.vertices s.blossoms b.node a fresh is)

  new_dual : (a : ℕ) → eqb b.node a ≡ true → made.dual a ≡ pos 0
  new_dual a e = ap made.dual (sym (eqb-true b.node a e)) ∙ put_here s.dual b.node (pos 0)

  total_same : dual_total made ≡ dual_total s
  total_same =
      let n : ℕ = s.graph.vertices in
      let sums : int_sum_to (λ i. made.dual (i + 1)) n ≡ int_sum_to (λ i. s.dual (i + 1)) n = int_sum_to-same (λ i. made.dual (i + 1)) (λ i. s.dual (i + 1)) n
      (λ i low. old_dual (i + 1) (vertex_is_node n s.blossoms (i + 1) (range_vertex n (i + 1) (omega arith) (omega arith)))) in
      let new : made.dual b.node ≡ pos 0 = put_here s.dual b.node (pos 0) in
      let rest : duals_over made.dual (names_of s.blossoms) ≡ duals_over s.dual (names_of s.blossoms) = sum_put s.dual b.node (pos 0) (names_of s.blossoms)
      (or_parts (is_vertex n b.node) (holds (names_of s.blossoms) b.node) fresh).1 in
      plain _ _ _ _ _ sums new rest
    where
      plain : (p q r t u : ℤ) → p ≡ q → r ≡ pos 0 → t ≡ u → p +ℤ (r +ℤ t) ≡ q +ℤ u
      plain p q r t u e f g = omega (arith, ints, e, f, g)

-- a shrink: one blossom more, of dual 0
pub shrunk_duals : (before after : State) (node : ℕ) → IsNested after.graph.vertices after.blossoms → IsShrunk before after node → KeepsDuals before after
shrunk_duals before after node nested shrunk =
    let b : Blossom = made_of before.blossoms shrunk.ring node in
    let nested_new : IsNested before.graph.vertices (b ∷ before.blossoms) = subst (λ (t : State). IsNested t.graph.vertices t.blossoms) shrunk.state nested in
    let fresh = nested_new.0.fresh in
    subst (KeepsDuals before) (sym shrunk.state) (record {
      graph = refl;
      weighted = refl;
      total = total_same before b shrunk.base fresh;
      vertices = λ v is. old_dual before b shrunk.base fresh v (vertex_is_node before.graph.vertices before.blossoms v is);
      blossoms = λ a name. ⊎_elim
          (λ e. inl (new_dual before b shrunk.base fresh a e))
          (λ old. inr (old, old_dual before b shrunk.base fresh a (name_is_node before.graph.vertices before.blossoms a old)))
          (or_cases (eqb b.node a) (holds (names_of before.blossoms) a) name);
    })

-- one blossom less, of dual 0

sum_without : (y : ℕ → ℤ) (bs : List Blossom) (x : ℕ) → y x ≡ pos 0 → duals_over y (names_of (without bs x)) ≡ duals_over y (names_of bs)
sum_without y [] x empty = refl
sum_without y (b ∷ bs) x empty = by_test (eqb b.node x)
    (λ e.
    let here : y b.node ≡ pos 0 = ap y (eqb-true b.node x e) ∙ empty in
    let left : duals_over y (names_of (without (b ∷ bs) x)) ≡ duals_over y (names_of bs) = ap (λ q. duals_over y (names_of (cond q bs (b ∷ without bs x)))) e in
    omega (arith, ints, here, left))
    (λ e.
    let left : duals_over y (names_of (without (b ∷ bs) x)) ≡ y b.node +ℤ duals_over y (names_of (without bs x)) = ap (λ q. duals_over y (names_of (cond q bs (b ∷ without bs x)))) e in
    let rest : duals_over y (names_of (without bs x)) ≡ duals_over y (names_of bs) = sum_without y bs x empty in
    omega (arith, ints, left, rest))

name_stays : (bs : List Blossom) (x a : ℕ) → holds (names_of bs) x ≡ true → holds (names_of (without bs x)) a ≡ true → holds (names_of bs) a ≡ true
name_stays bs x a named h = by_test (eqb x a) (λ e. subst (λ k. holds (names_of bs) k ≡ true) (eqb-true x a e) named) (λ e. sym (names_without bs x a e) ∙ h)

-- an expand: a blossom of dual 0 is gone
pub expanded_duals : (before after : State) (node : ℕ) → CanExpand before node → IsExpanded before after node → KeepsDuals before after
expanded_duals before after node can expanded = record {
  graph = expanded.graph;
  weighted = expanded.weighted;
  total = total_kept (record before { blossoms = without before.blossoms node }) after expanded.graph expanded.blossoms expanded.dual
      ∙ ap (λ z. int_sum_to (λ i. before.dual (i + 1)) before.graph.vertices +ℤ z) (sum_without before.dual before.blossoms node can.empty);
  vertices = λ v is. ap (λ (y : ℕ → ℤ). y v) expanded.dual;
  blossoms = λ b name. inr (
    name_stays before.blossoms node b can.blossom (ap (λ (bs : List Blossom). holds (names_of bs) b) (sym expanded.blossoms) ∙ name),
    ap (λ (y : ℕ → ℤ). y b) expanded.dual,
  );
}
