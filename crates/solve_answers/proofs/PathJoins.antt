-- Paths within joins on their two ends.
use Rattle.certificates.proofs.Common.{◌≡◌, ◌≢◌, ℕ, ◌%◌, ◌≤◌, Bool, cond, eqb, List, sym, ap, ◌∙◌, inl, inr, arith, cases_eq, eq-eqb, ne_eqb, Answer, Counts}
use Rattle.certificates.proofs.Common.{Walk, Nothing, IsFeasible, IsWalkWith, AreEnds, ListsJoin, odd_between, Values, Network, IsNetwork, vertices, value_of, graph_of, walk-short, subst}
use Rattle.mb_problem.specs.declared.kind.Kind.TheVariants.{Path}
use Rattle.mb_problem.specs.Feasible.{IsPath}
use Rattle.mb_problem.specs.Size.{odd_at}
use Rattle.conservative_paths.specs.Within.{IsPathWithin}
use Rattle.solve_answers.specs.Chosen.{StartsFirst, IsChosenAnswer}
use Rattle.solve_answers.specs.Stands.{HasFewSteps}

value-bit : (v : ℕ) → v % 2 ≢ 1 → v % 2 ≡ 0
value-bit v h = omega (arith, h)

at-first : (v s t : ℕ) → v ≡ s → odd_between s t v ≡ 1
at-first v s t h = ap (λ (b : Bool). cond b 1 (cond (eqb v t) 1 0)) (eq-eqb v s h)

at-second : (v s t : ℕ) → (v ≡ s → ⊥) → v ≡ t → odd_between s t v ≡ 1
at-second v s t off h = ap (λ (b : Bool). cond b 1 (cond (eqb v t) 1 0)) (ne_eqb v s off) ∙ ap (λ (b : Bool). cond {A = ℕ} b 1 0) (eq-eqb v t h)

at-neither : (v s t : ℕ) → (v ≡ s → ⊥) → (v ≡ t → ⊥) → odd_between s t v ≡ 0
at-neither v s t off other = ap (λ (b : Bool). cond b 1 (cond (eqb v t) 1 0)) (ne_eqb v s off) ∙ ap (λ (b : Bool). cond {A = ℕ} b 1 0) (ne_eqb v t other)

-- the value of a vertex is odd exactly at the two ends
between : (i : Network) (s t v : ℕ) → AreEnds i s t → 1 ≤ v → v ≤ vertices i → value_of i v % 2 ≡ odd_between s t v
between i s t v ends low high =
    elim (cases_eq v s) [
      | inl at_s ↦ ((ends.exact v).1 (inl at_s)).2 ∙ sym (at-first v s t at_s)
      | inr off_s ↦ elim (cases_eq v t) [
        | inl at_t ↦ ((ends.exact v).1 (inr at_t)).2 ∙ sym (at-second v s t off_s at_t)
        | inr off_t ↦
            value-bit (value_of i v) (λ odd. elim ((ends.exact v).0 (low, high, odd)) [ inl e ↦ off_s e | inr e ↦ off_t e ])
            ∙ sym (at-neither v s t off_s off_t)
      ]
    ]

-- a join on the vertices of odd value is one on the two ends
pub joins-ends : (i : Network) (s t : ℕ) (edges : List ℕ) → AreEnds i s t → ListsJoin i (odd_at Values i) edges → ListsJoin i (odd_between s t) edges
joins-ends i s t edges ends is = record {
  ascending = is.ascending;
  in_range = is.in_range;
  join = record { one_each = is.join.one_each; at_most_once = is.join.at_most_once; degrees = λ v low high. is.join.degrees v low high ∙ between i s t v ends low high };
}

-- a path within a join on the two ends is feasible, and starts at the lesser of them
pub path-feasible : (i : Network) (s t : ℕ) (join : List ℕ) (answer : Answer) → AreEnds i s t →
    IsWalkWith (λ start edges. IsPathWithin (graph_of i) join s t start edges) ⊥ answer →
    IsFeasible Path i answer × IsChosenAnswer Path i answer
path-feasible i s t join (Counts counts) ends p = absurd p
path-feasible i s t join (Walk start es) ends p = subst (λ (v : ℕ). IsPath i v es × StartsFirst Path i v) (sym p.starts)
    (record { finish = t; ends = ends; walk = p.walk; arrives = p.arrives; some = p.some; no_vertex_twice = p.no_vertex_twice }, (t, ends))
path-feasible i s t join Nothing ends p = absurd p

pub path-few : (i : Network) (s t : ℕ) (join : List ℕ) (answer : Answer) → IsNetwork i → IsWalkWith (λ start edges. IsPathWithin (graph_of i) join s t start edges) ⊥ answer →
    HasFewSteps i answer
path-few i s t join (Counts counts) network p = absurd p
path-few i s t join (Walk start es) network p = omega (arith, walk-short i s es network p.walk p.no_vertex_twice)
path-few i s t join Nothing network p = absurd p
