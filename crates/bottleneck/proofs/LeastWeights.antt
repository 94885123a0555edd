-- The least weights of edges at vertices.
use Rattle.graph_theory.proofs.Common.{◌≡◌, ℕ, ◌+◌, ℤ, ◌≤ℤ◌, List, ◌∙◌, ap, subst, inl, inr, arith, ints, cases_eq, Multigraph, edge_at, edge_of, edge_of-place}
use Rattle.graph_theory.specs.declared.edge.Edge.{Edge}
use Rattle.bottleneck.specs.Halving.{AreLeast, weight_at}

-- an edge weighs no less than what stands at its ends
abbrev KeepsEnds : List ℤ → Edge → Type 0
KeepsEnds least e = (weight_at least e.u ≤ℤ e.w) × (weight_at least e.v ≤ℤ e.w)

at_most : (a b c : ℤ) → a ≤ℤ b → b ≤ℤ c → a ≤ℤ c
at_most a b c h k = omega (arith, ints, h, k)

-- one edge more
pub least-more : (g : Multigraph) (k number : ℕ) (old new : List ℤ) → number ≡ k + 1 → AreLeast g k old → KeepsEnds new (edge_of g number)
    → ((v : ℕ) → weight_at new v ≤ℤ weight_at old v) → AreLeast g (k + 1) new
least-more g k number old new is before here lower = λ j b.
    elim (cases_eq k j) [
      | inl last ↦ subst (KeepsEnds new) (ap (edge_of g) is ∙ edge_of-place g k ∙ ap (edge_at g) last) here
      | inr other ↦
          let h = before j (omega (arith, b, other)) in
          let e = edge_at g j in
          (at_most (weight_at new e.u) (weight_at old e.u) e.w (lower e.u) h.0, at_most (weight_at new e.v) (weight_at old e.v) e.w (lower e.v) h.1)
    ]
