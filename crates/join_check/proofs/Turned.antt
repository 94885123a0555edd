-- Negative weights turned round: the count of an edge that is turned is exchanged with what is left of 1, and its weight loses its sign.
use Rattle.mb_problem.proofs.Common.{◌≡◌, ◌⊎◌, ℕ, zero, suc, ◌+◌, ◌-◌, ◌*◌, ◌%◌, ◌<◌, ◌≤◌, ℤ, pos, negsuc, neg_ℤ, nat_abs, ◌+ℤ◌, ◌*ℤ◌, ◌≤ℤ◌, Bool, true, false, cond, int_lt}
use Rattle.mb_problem.proofs.Common.{refl, ap, sym, ◌∙◌, inl, inr, arith, ints, List, map, length, slice_index, range_with_len, get_or-map-range_with_len, le-ltb, cond-true, cond-false}
use Rattle.mb_problem.proofs.Common.{sum_to, int_sum_to, sum_to-add, sum_to-parity, int_sum_to-same, int_sum_to-add, int_sum_to-pos, Multigraph, degree, edge_at, ends_at, weight}
use Rattle.graph_theory.proofs.SumLemmas.{times-cond, times-int_sum_to}
use Rattle.join_check.specs.Forests.{magnitude}

-- the counts after the turn
abbrev pub counts_turned : (ℕ → Bool) → List ℕ → ℕ → List ℕ
counts_turned t counts m = map (λ k. cond (t k) (1 - slice_index counts k) (slice_index counts k)) (range_with_len 0 m)

turned-at : (t : ℕ → Bool) (counts : List ℕ) (m k : ℕ) → k < m → slice_index (counts_turned t counts m) k ≡ cond (t k) (1 - slice_index counts k) (slice_index counts k)
turned-at t counts m k b = get_or-map-range_with_len (λ j. cond (t j) (1 - slice_index counts j) (slice_index counts j)) 0 m k k 0 b (omega arith)

flip-parity : (t : Bool) (x e : ℕ) → x ≤ 1 → (cond t (1 - x) x * e) % 2 ≡ (x * e + cond t e 0) % 2
flip-parity true zero e h = omega arith
flip-parity true (suc zero) e h = omega arith
flip-parity false zero e h = omega arith
flip-parity false (suc zero) e h = omega arith
flip-parity t (suc (suc x)) e h = absurd (omega arith)

-- the turn changes the parity of a degree by the ends of turned edges
pub degree-turned : (g : Multigraph) (t : ℕ → Bool) (counts : List ℕ) (v : ℕ) → ((k : ℕ) → k < length g.edges → slice_index counts k ≤ 1)
    → degree g (counts_turned t counts (length g.edges)) v % 2 ≡ (degree g counts v + sum_to (λ k. cond (t k) (ends_at (edge_at g k) v) 0) (length g.edges)) % 2
degree-turned g t counts v once =
    let m = length g.edges in
    let e : ℕ → ℕ = λ k. ends_at (edge_at g k) v in
    let same = sum_to-parity (λ k. slice_index (counts_turned t counts m) k * e k) (λ k. slice_index counts k * e k + cond (t k) (e k) 0) m
    (λ k b. ap (λ (x : ℕ). (x * e k) % 2) (turned-at t counts m k b) ∙ flip-parity (t k) (slice_index counts k) (e k) (once k b)) in
    same ∙ ap (λ (x : ℕ). x % 2) (sum_to-add (λ k. slice_index counts k * e k) (λ k. cond (t k) (e k) 0) m)

-- weights and their signs

not-below : (n : ℕ) → int_lt (pos n) (pos 0) ≡ false
not-below n = le-ltb n 0 (omega arith)

sign-of : (w : ℤ) → ((int_lt w (pos 0) ≡ true) × (w ≡ neg_ℤ (pos (nat_abs w)))) ⊎ ((int_lt w (pos 0) ≡ false) × (w ≡ pos (nat_abs w)))
sign-of (pos n) = inr (not-below n, refl)
sign-of (negsuc n) = inl (refl, refl)

pub signed : (w : ℤ) → w ≡ cond (int_lt w (pos 0)) (neg_ℤ (pos (nat_abs w))) (pos (nat_abs w))
signed w =
    elim (sign-of w) [
      | inl p ↦ p.1 ∙ sym (cond-true (int_lt w (pos 0)) (neg_ℤ (pos (nat_abs w))) (pos (nat_abs w)) p.0)
      | inr p ↦ p.1 ∙ sym (cond-false (int_lt w (pos 0)) (neg_ℤ (pos (nat_abs w))) (pos (nat_abs w)) p.0)
    ]

pub magnitude-is : (w : ℤ) → magnitude w ≡ pos (nat_abs w)
magnitude-is w =
    elim (sign-of w) [
      | inl p ↦ cond-true (int_lt w (pos 0)) (neg_ℤ w) w p.0 ∙ (let e : neg_ℤ w ≡ pos (nat_abs w) = omega (arith, ints, p.1) in e)
      | inr p ↦ cond-false (int_lt w (pos 0)) (neg_ℤ w) w p.0 ∙ p.1
    ]

pub nat_abs-is : (z : ℤ) → pos 0 ≤ℤ z → pos (nat_abs z) ≡ z
nat_abs-is (pos n) h = refl
nat_abs-is (negsuc n) h = absurd (omega (arith, ints, h))

turned-term : (t : Bool) (w : ℤ) (a x : ℕ) → w ≡ cond t (neg_ℤ (pos a)) (pos a) → x ≤ 1 → pos 2 *ℤ (pos x *ℤ w) ≡ cond t (pos 2 *ℤ w) (pos 0) +ℤ pos (cond t (1 - x) x * (2 * a))
turned-term true w a zero is h = let none : pos 0 *ℤ w ≡ pos 0 = omega (arith, ints) in omega (arith, ints, is, none)
turned-term true w a (suc zero) is h = let one : pos 1 *ℤ w ≡ w = omega (arith, ints) in omega (arith, ints, is, one)
turned-term false w a zero is h = let none : pos 0 *ℤ w ≡ pos 0 = omega (arith, ints) in omega (arith, ints, is, none)
turned-term false w a (suc zero) is h = let one : pos 1 *ℤ w ≡ w = omega (arith, ints) in omega (arith, ints, is, one)
turned-term t w a (suc (suc x)) is h = absurd (omega arith)

-- the weights of the turned edges, and what the counts after the turn weigh without signs
pub weight-turned : (g : Multigraph) (t : ℕ → Bool) (a : ℕ → ℕ) (counts : List ℕ)
    → ((k : ℕ) → k < length g.edges → (edge_at g k).w ≡ cond (t k) (neg_ℤ (pos (a k))) (pos (a k))) → ((k : ℕ) → k < length g.edges → slice_index counts k ≤ 1)
    → pos 2 *ℤ weight g counts ≡ pos 2 *ℤ int_sum_to (λ k. cond (t k) (edge_at g k).w (pos 0)) (length g.edges)
    +ℤ pos (sum_to (λ k. slice_index (counts_turned t counts (length g.edges)) k * (2 * a k)) (length g.edges))
weight-turned g t a counts signs once =
    let m = length g.edges in
    let w : ℕ → ℤ = λ k. (edge_at g k).w in
    let rest : ℕ → ℕ = λ k. slice_index (counts_turned t counts m) k * (2 * a k) in
    let twice = times-int_sum_to 2 (λ k. pos (slice_index counts k) *ℤ w k) m in
    let split = int_sum_to-same (λ k. pos 2 *ℤ (pos (slice_index counts k) *ℤ w k)) (λ k. cond (t k) (pos 2 *ℤ w k) (pos 0) +ℤ pos (rest k)) m
    (λ k b. turned-term (t k) (w k) (a k) (slice_index counts k) (signs k b) (once k b)
    ∙ ap (λ (x : ℕ). cond (t k) (pos 2 *ℤ w k) (pos 0) +ℤ pos (x * (2 * a k))) (sym (turned-at t counts m k b))) in
    let two = int_sum_to-add (λ k. cond (t k) (pos 2 *ℤ w k) (pos 0)) (λ k. pos (rest k)) m in
    let turned = times-int_sum_to 2 (λ k. cond (t k) (w k) (pos 0)) m
    ∙ int_sum_to-same (λ k. pos 2 *ℤ cond (t k) (w k) (pos 0)) (λ k. cond (t k) (pos 2 *ℤ w k) (pos 0)) m (λ k b. times-cond (t k) 2 (w k)) in
    omega (arith, ints, twice, split, two, turned, int_sum_to-pos rest m)
