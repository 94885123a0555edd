-- A made instance has what instances of its kind have besides.
use Rattle.mb_problem.proofs.Common.{◌≡◌, ℕ, zero, suc, ◌+◌, ◌-◌, ◌<◌, ◌≤◌, ◌%◌, ◌||◌, ◌⊎◌, Bool, true, false, cond, eqb, ltb, pos, ◌≤ℤ◌}
use Rattle.mb_problem.proofs.Common.{refl, ap, ap₂, sym, subst, ◌∙◌, inl, inr, arith, eq-eqb, ne_eqb, cases_eq, ints, need_of, vertex_value_of, asks_conservative, HasWeightsFromZero}
use Rattle.mb_problem.proofs.Common.{HasEnds, HasWeightsBy, IsReady, ends-needed, value_of, vertices}
use Rattle.mb_problem.specs.declared.instance.InstanceEdge.{InstanceEdge}
use Rattle.mb_problem.specs.declared.kind.Kind.{Kind}
use Rattle.mb_problem.specs.declared.kind.Precondition.{Precondition}
use Rattle.mb_problem.specs.declared.kind.Precondition.TheVariants.{Unrestricted, WeightsFromZero, Ends, EndsAndWeightsFromZero}
use Rattle.mb_problem.specs.declared.kind.VertexValue.{VertexValue}
use Rattle.mb_problem.specs.declared.kind.VertexValue.TheVariants.{End}
use Rattle.gadget_base.proofs.Blocks.{tabled-length, tabled-at, All-tabled}
use Rattle.inst_gen.specs.Draws.{next_state, state_after, drawn}
use Rattle.inst_gen.specs.declared.limits.TheConstants.{MADE_WEIGHT_LIMIT}
use Rattle.inst_gen.specs.Made.{value_draws, value_by, value_at, from_zero_by, is_from_zero, weight_at, edge_between, other_than, edge_at, edge_draws, made}

-- ---- weights from 0, where they are needed

not_below : (r : ℕ) → pos 0 ≤ℤ pos r
not_below r = omega (arith, ints)

either_way : (b : Bool) (d e : InstanceEdge) → pos 0 ≤ℤ d.w → pos 0 ≤ℤ e.w → pos 0 ≤ℤ (cond b d e).w
either_way true d e p q = p
either_way false d e p q = q

weight_from_zero : (kind : Kind) (s : ℕ) → is_from_zero kind ≡ true → pos 0 ≤ℤ weight_at kind s
weight_from_zero kind s least = rw least (not_below (drawn (MADE_WEIGHT_LIMIT + 1) s))

edge_from_zero : (kind : Kind) (s n k : ℕ) → is_from_zero kind ≡ true → pos 0 ≤ℤ (edge_at kind s n k).w
edge_from_zero kind s n k least =
    either_way (ltb (k + 1) n) (edge_between kind s (k + 1) (k + 2)) (edge_between kind (state_after s 2) (1 + drawn n s) (other_than (1 + drawn n s) (drawn (n - 1) (next_state s))))
    (weight_from_zero kind s least) (weight_from_zero kind (state_after s 2) least)

weights_from_zero : (kind : Kind) (start n m : ℕ) → is_from_zero kind ≡ true → HasWeightsFromZero (made kind start n m)
weights_from_zero kind start n m least =
    let s = state_after start (value_draws kind n) in
    All-tabled (λ e. pos 0 ≤ℤ e.w) (λ k. edge_at kind (state_after s (edge_draws kind n k)) n k) m (λ k below. edge_from_zero kind (state_after s (edge_draws kind n k)) n k least)

weights_by : (need : Precondition) (kind : Kind) (start n m : ℕ) → need_of kind ≡ need → HasWeightsBy need (made kind start n m)
weights_by Unrestricted kind start n m is = tt
weights_by WeightsFromZero kind start n m is = weights_from_zero kind start n m (ap (λ (need : Precondition). from_zero_by need (asks_conservative kind)) is)
weights_by Ends kind start n m is = tt
weights_by EndsAndWeightsFromZero kind start n m is = weights_from_zero kind start n m (ap (λ (need : Precondition). from_zero_by need (asks_conservative kind)) is)

-- ---- ends: the first vertex and the last have the value 1

abbrev end_value : ℕ → ℕ → ℕ
end_value n k = cond (eqb k 0 || eqb (k + 1) n) 1 0

module _ (n : ℕ) (two : 2 ≤ n) where
  last_value : (k : ℕ) → k + 1 ≡ n → end_value n k ≡ 1
  last_value zero e = refl
  last_value (suc k) e = ap₂ (λ (a b : Bool). cond {A = ℕ} (a || b) 1 0) (ne_eqb (suc k) 0 (λ z. omega (arith, z))) (eq-eqb (suc k + 1) n e)

  inner_value : (k : ℕ) → 0 < k → k + 1 < n → end_value n k ≡ 0
  inner_value zero some less = absurd (omega (arith, some))
  inner_value (suc k) some less = ap₂ (λ (a b : Bool). cond {A = ℕ} (a || b) 1 0) (ne_eqb (suc k) 0 (λ z. omega (arith, z))) (ne_eqb (suc k + 1) n (λ e. omega (arith, less, e)))

  odd_by : (k : ℕ) → k < n → end_value n k % 2 ≡ 1 → (k ≡ 0) ⊎ (k + 1 ≡ n)
  odd_by zero below odd = inl refl
  odd_by (suc k) below odd = elim (cases_eq (suc k + 1) n) [
    | inl e ↦ inr e
    | inr o ↦ absurd (let none : 0 ≡ 1 = sym (ap (λ (x : ℕ). x % 2) (inner_value (suc k) (omega arith) (omega (arith, o, below)))) ∙ odd in omega (arith, none))
  ]

module _ (kind : Kind) (start n m : ℕ) (two : 2 ≤ n) (marks : vertex_value_of kind ≡ End) where
  size_is : vertices (made kind start n m) ≡ n
  size_is = tabled-length (λ k. value_at kind (state_after start (value_draws kind k)) n k) n

  value_is : (v : ℕ) → 1 ≤ v → v ≤ n → value_of (made kind start n m) v ≡ end_value n (v - 1)
  value_is v low high =
      tabled-at (λ k. value_at kind (state_after start (value_draws kind k)) n k) n (v - 1) 0 (omega (arith, low, high))
      ∙ ap (λ (value : VertexValue). value_by value (state_after start (value_draws kind (v - 1))) n (v - 1)) marks

  is_end : (v : ℕ) → (1 ≤ v) × (v ≤ vertices (made kind start n m)) × (value_of (made kind start n m) v % 2 ≡ 1) → (v ≡ 1) ⊎ (v ≡ n)
  is_end v h =
      let high : v ≤ n = subst (λ (s : ℕ). v ≤ s) size_is h.1 in
      let low = h.0 in
      elim (odd_by n two (v - 1) (omega (arith, low, high)) (sym (ap (λ (x : ℕ). x % 2) (value_is v low high)) ∙ h.2)) [
        | inl e ↦ inl (omega (arith, low, e))
        | inr e ↦ inr (omega (arith, low, e))
      ]

  end_is : (v : ℕ) → (v ≡ 1) ⊎ (v ≡ n) → (1 ≤ v) × (v ≤ vertices (made kind start n m)) × (value_of (made kind start n m) v % 2 ≡ 1)
  end_is v (inl e) =
      let size = size_is in (
        omega (arith, e),
        omega (arith, e, two, size),
        ap (λ (x : ℕ). x % 2)
            (value_is v (omega (arith, e)) (omega (arith, e, two)) ∙ ap (end_value n) (let p : v - 1 ≡ 0 = omega (arith, e) in p)),
      )
  end_is v (inr e) =
      let size = size_is in
      (omega (arith, e, two), omega (arith, e, size), ap (λ (x : ℕ). x % 2) (value_is v (omega (arith, e, two)) (omega (arith, e)) ∙ last_value n two (v - 1) (omega (arith, e, two))))

  two_ends : HasEnds (made kind start n m)
  two_ends = (1, n, record { order = omega (arith, two); exact = λ v. (is_end v, end_is v) })

pub made_is_ready : (kind : Kind) (start n m : ℕ) → (vertex_value_of kind ≡ End → 2 ≤ n) → IsReady kind (made kind start n m)
made_is_ready kind start n m ends = record {
  weights = weights_by (need_of kind) kind start n m refl;
  ends = ends-needed kind (made kind start n m) (λ marks. two_ends kind start n m (ends marks) marks);
}
