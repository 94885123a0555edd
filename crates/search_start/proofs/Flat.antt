-- Where no vertex lies in a blossom an edge feels its two ends alone.
use Rattle.alt_forest.proofs.Common.{◌≡◌, ◌⊎◌, ◌∙◌, ℕ, ℤ, pos, ◌+ℤ◌, ◌-ℤ◌, ◌≤ℤ◌, true, false, ◌||◌, ◌&&◌, not, eqb, List, [], Some, sym, ap}
use Rattle.alt_forest.proofs.Common.{subst, ⊎_elim, inl, inr, arith, ints, AllByRecursion, eqb-true, or_cases, IsEdgeNumber, edge_of, touches, Link, Blossom, is_vertex, is_outermost}
use Rattle.alt_forest.proofs.Common.{State, IsOutermost, Joins, IsMate, IsTight, HasRings, ExposedAgree, IsSearchState, doubled, slack_of, slack_with, SameParity, parity_sym, parity_trans}
use Rattle.alt_forest.proofs.Common.{outer_not_out, inner_not_out}
use Rattle.alt_forest.specs.Trees.{held_by, dual_sum}
use Rattle.search_start.specs.Starts.{IsBegun}

module _ (s : State) (alone : s.blossoms ≡ []) where
  pub slack_flat : (e : ℕ) → slack_of s e ≡ doubled s.graph s.weighted e -ℤ (s.dual (edge_of s.graph e).u +ℤ s.dual (edge_of s.graph e).v)
  slack_flat e = ap (λ (bs : List Blossom). slack_with s.graph s.weighted s.dual bs e) alone

  -- the nodes that an edge joins are its ends
  pub ends_flat : (e a b : ℕ) → Joins s.graph s.blossoms e a b → (((edge_of s.graph e).u ≡ a) × ((edge_of s.graph e).v ≡ b)) ⊎ (((edge_of s.graph e).u ≡ b) × ((edge_of s.graph e).v ≡ a))
  ends_flat e a b j = subst (λ (bs : List Blossom). Joins s.graph bs e a b) alone j

  pub joins_flat : (e a b : ℕ) → (((edge_of s.graph e).u ≡ a) × ((edge_of s.graph e).v ≡ b)) ⊎ (((edge_of s.graph e).u ≡ b) × ((edge_of s.graph e).v ≡ a)) → Joins s.graph s.blossoms e a b
  joins_flat e a b p = subst (λ (bs : List Blossom). Joins s.graph bs e a b) (sym alone) p

  -- a vertex is outermost
  pub outer_flat : (a : ℕ) → is_vertex s.graph.vertices a ≡ true → IsOutermost s a
  outer_flat a is = subst (λ (bs : List Blossom). is_outermost s.graph.vertices bs a ≡ true) (sym alone) (ap (λ q. (q || false) && not false) is)

  -- an end of an edge is one of the nodes that it joins
  pub end_flat : (v e a b : ℕ) → Joins s.graph s.blossoms e a b → touches (edge_of s.graph e) v ≡ true → (a ≡ v) ⊎ (b ≡ v)
  end_flat v e a b j t =
      let u_is = eqb-true (edge_of s.graph e).u v in let v_is = eqb-true (edge_of s.graph e).v v in
      ⊎_elim
      (λ p. ⊎_elim (λ q. inl (sym p.0 ∙ u_is q)) (λ q. inr (sym p.1 ∙ v_is q)) (or_cases (eqb (edge_of s.graph e).u v) (eqb (edge_of s.graph e).v v) t))
      (λ p. ⊎_elim (λ q. inr (sym p.0 ∙ u_is q)) (λ q. inl (sym p.1 ∙ v_is q)) (or_cases (eqb (edge_of s.graph e).u v) (eqb (edge_of s.graph e).v v) t))
      (ends_flat e a b j)

  -- the dual sum of a vertex is its own dual
  dual_sum_flat : (v : ℕ) → dual_sum s v ≡ s.dual v
  dual_sum_flat v = ap (λ (bs : List Blossom). s.dual v +ℤ held_by s.dual bs v) alone ∙ (let plain : s.dual v +ℤ pos 0 ≡ s.dual v = omega (arith, ints) in plain)

  agree_flat : (start : ℤ) → IsBegun s start → ExposedAgree s
  agree_flat start h v w iv iw ev ew = subst (λ x. SameParity x (dual_sum s w)) (sym (dual_sum_flat v))
      (subst (SameParity (s.dual v)) (sym (dual_sum_flat w)) (parity_trans (s.dual v) start (s.dual w) (h.parity v iv) (parity_sym (s.dual w) start (h.parity w iw))))

  -- with no tree either, duals of one parity, feasible slacks and pairs of mates are all that there is to a search
  pub flat_state : (start : ℤ) (depth : ℕ → ℕ) → IsBegun s start → ((e : ℕ) → IsEdgeNumber s.graph e → pos 0 ≤ℤ slack_of s e)
      → ((a e : ℕ) → IsOutermost s a → s.mate a ≡ Some e → (b : ℕ) × IsMate s a e b) → IsSearchState s depth
  flat_state start depth h slacks mates = record {
    rings = subst (HasRings s.graph) (sym alone) tt;
    tight_rings = subst (AllByRecursion (λ (b : Blossom). AllByRecursion (λ (l : Link). IsTight s l.edge) b.ring)) (sym alone) tt;
    slacks = slacks;
    duals = subst (AllByRecursion (λ (b : Blossom). pos 0 ≤ℤ s.dual b.node)) (sym alone) tt;
    mates = mates;
    parity = agree_flat start h;
    labels = λ a is. record { outer = λ l. outer_not_out (sym l ∙ h.out a); inner = λ l. inner_not_out (sym l ∙ h.out a); out = λ l e b has m. h.out b };
  }
