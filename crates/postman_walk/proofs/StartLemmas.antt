-- The least vertex that an edge meets, as far as a loop has come.
use Rattle.graph_theory.proofs.Common.{◌≡◌, ℕ, ◌+◌, ◌<◌, ◌≤◌, true, length, inl, inr, min, subst, arith, cases_lt, Multigraph, edge_at, touches, touches-u, touches-v}

-- v is the end of some edge, and no end of the first n is less
pub record IsLeastBelow (g : Multigraph) (v n : ℕ) : Type 0 where
  pub met : (k : ℕ) × (k < length g.edges) × (touches (edge_at g k) v ≡ true)
  pub least : (k : ℕ) → k < n → (v ≤ (edge_at g k).u) × (v ≤ (edge_at g k).v)

-- the least vertex so far, and the lesser of the ends of the next edge
pub least-more : (g : Multigraph) (v w x n a b : ℕ) → IsLeastBelow g v n → n < length g.edges → a ≡ (edge_at g n).u → b ≡ (edge_at g n).v → w ≡ min a b → x ≡ min v w
    → IsLeastBelow g x (n + 1)
least-more g v w x n a b so_far here u_is v_is w_is x_is =
    let e = edge_at g n in
    let Meets : ℕ → Type 0 = λ y. touches e y ≡ true in
    record {
      met = elim (cases_lt v w) [
        | inl old ↦ subst (λ (y : ℕ). (k : ℕ) × (k < length g.edges) × (touches (edge_at g k) y ≡ true)) (let z : v ≡ x = omega arith in z) so_far.met
        | inr next ↦ elim (cases_lt a b) [
          | inl at_u ↦ (n, here, subst Meets (let z : e.u ≡ x = omega arith in z) (touches-u e))
          | inr at_v ↦ (n, here, subst Meets (let z : e.v ≡ x = omega arith in z) (touches-v e))
        ]
      ];
      least = λ k l. elim (cases_lt k n) [
        | inl before ↦ let old = so_far.least k before in (omega (arith, old.0, x_is), omega (arith, old.1, x_is))
        | inr past ↦ subst (λ (j : ℕ). (x ≤ (edge_at g j).u) × (x ≤ (edge_at g j).v)) (let z : n ≡ k = omega (arith, past, l) in z) (omega arith, omega arith)
      ];
    }
