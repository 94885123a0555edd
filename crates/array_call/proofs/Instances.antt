-- Faultless arrays are an instance of the kind.
use Rattle.certificates.proofs.Common.{◌≡◌, ℕ, ◌+◌, ◌-◌, ◌%◌, ◌<◌, ◌≤◌, Bool, true, false, cond, eqb, ltb, ◌||◌, ℤ, pos, negsuc, ◌≤ℤ◌, int_lt}
use Rattle.certificates.proofs.Common.{All, None, Some, refl, sym, ap, subst, ◌∙◌, arith, rules, inl, inr, cases_lt, eqb-true, ltb-false, or_parts, get_or_past, Kind, Precondition}
use Rattle.certificates.proofs.Common.{Unrestricted, WeightsFromZero, Ends, EndsAndWeightsFromZero, InstanceEdge, need_of, VERTEX_LIMIT, EDGE_LIMIT, VALUE_LIMIT, vertices, value_of}
use Rattle.certificates.proofs.Common.{IsInstanceEdge, IsNetwork, HasWeightsFromZero, HasEnds, HasWeightsBy, HasEndsBy, IsReady, tabled, tabled-length, tabled-at, All-tabled}
use Rattle.array_call.specs.declared.rule.ArrayFault.{ArrayFault}
use Rattle.array_call.specs.declared.rule.ArrayRule.{ArrayRule}
use Rattle.array_call.specs.declared.rule.ArrayRule.TheVariants.{Value, Negative, PathEnds}
use Rattle.array_call.specs.Arrays.{Arrays, edge_count, weight_at, value_at, low_at, high_at, edge_at, network_of}
use Rattle.array_call.specs.Faults.{fault, size_fault, edges_fault, value_rule, value_fault, values_fault, kind_fault, negative_fault, negatives_fault, odd_values, ends_fault, need_fault}
use Rattle.array_call.specs.Faults.{array_fault, IsSized}
use Rattle.array_call.proofs.Firsts.{neither, none-below}
use Rattle.array_call.proofs.OddValues.{twice}

-- ---- each test by itself

pub record Faultless (kind : Kind) (a : Arrays) : Type 0 where
  pub size : size_fault kind a ≡ None
  pub edges : edges_fault a ≡ None
  pub values : values_fault kind a ≡ None
  pub needs : kind_fault kind a ≡ None

pub faultless : (kind : Kind) (a : Arrays) → array_fault kind a ≡ None → Faultless kind a
faultless kind a e =
    let one = neither (size_fault kind a) _ e in
    let two = neither (edges_fault a) _ one.1 in
    let three = neither (values_fault kind a) (kind_fault kind a) two.1 in
    record { size = one.0; edges = two.0; values = three.0; needs = three.1 }

unbroken : (b : Bool) (rule : ArrayRule) → cond b (Some rule) None ≡ None → b ≡ false
unbroken true rule e = absurd cc
unbroken false rule e = refl

-- ---- weights

not_below : (z : ℤ) → int_lt z (pos 0) ≡ false → pos 0 ≤ℤ z
not_below (pos n) e = search rules
not_below (negsuc n) e = absurd cc

from_zero : (kind : Kind) (a : Arrays) → negatives_fault a ≡ None → HasWeightsFromZero (network_of kind a)
from_zero kind a e =
    All-tabled (λ (d : InstanceEdge). pos 0 ≤ℤ d.w) (edge_at a) (edge_count a)
    (λ k below. not_below (weight_at a k) (unbroken (int_lt (weight_at a k) (pos 0)) Negative (none-below (negative_fault a) (edge_count a) k e below)))

-- ---- ends

module _ (kind : Kind) (a : Arrays) where
  value : (v : ℕ) → 1 ≤ v → v ≤ a.vertices → value_of (network_of kind a) v ≡ value_at kind a (v - 1)
  value v low high = tabled-at (value_at kind a) a.vertices (v - 1) 0 (omega (arith, low, high))

  bit : (k : ℕ) → value_at kind a k % 2 ≤ 1
  bit k = omega arith

  odd_end : (k v : ℕ) → k < a.vertices → value_at kind a k % 2 ≡ 1 → v ≡ k + 1 → (1 ≤ v) × (v ≤ vertices (network_of kind a)) × (value_of (network_of kind a) v % 2 ≡ 1)
  odd_end k v below odd e =
      let size = tabled-length (value_at kind a) a.vertices in
      let back : v - 1 ≡ k = omega (arith, e) in
      let here = value v (omega (arith, e)) (omega (arith, e, below)) ∙ ap (value_at kind a) back in
      (omega (arith, e), omega (arith, e, below, size), ap (λ (n : ℕ). n % 2) here ∙ odd)

  two_ends : odd_values kind a ≡ 2 → HasEnds (network_of kind a)
  two_ends e =
      let size = tabled-length (value_at kind a) a.vertices in
      let two = twice (λ k. value_at kind a k % 2) bit a.vertices e in (
        two.0 + 1,
        two.1 + 1,
        record {
          order = omega (arith, two.2);
          exact = λ v. (
            λ given. (
                let low : 1 ≤ v = given.0 in
                let high : v ≤ a.vertices = omega (arith, given.1, size) in
                let odd : value_at kind a (v - 1) % 2 ≡ 1 = ap (λ (n : ℕ). n % 2) (sym (value v low high)) ∙ given.2 in
                elim (two.6 (v - 1) (omega (arith, low, high)) odd) [
                  | inl first ↦ inl (omega (arith, low, first))
                  | inr second ↦ inr (omega (arith, low, second))
                ]),
            λ at. elim at [
              | inl first ↦ odd_end two.0 v (omega (arith, two.2, two.3)) two.4 first
              | inr second ↦ odd_end two.1 v two.3 two.5 second
            ],
          );
        },
      )

  counted : (b : Bool) (f : ArrayFault) → cond b None (Some f) ≡ None → b ≡ true
  counted true f e = refl
  counted false f e = absurd cc

  ends_there : ends_fault kind a ≡ None → HasEnds (network_of kind a)
  ends_there e = two_ends (eqb-true (odd_values kind a) 2 (counted (eqb (odd_values kind a) 2) (fault PathEnds 0) e))

  weights_there : (need : Precondition) → need_fault need kind a ≡ None → HasWeightsBy need (network_of kind a)
  weights_there Unrestricted e = tt
  weights_there WeightsFromZero e = from_zero kind a e
  weights_there Ends e = tt
  weights_there EndsAndWeightsFromZero e = from_zero kind a (neither (negatives_fault a) (ends_fault kind a) e).0

  needed_ends : (need : Precondition) → need_fault need kind a ≡ None → HasEndsBy need (network_of kind a)
  needed_ends Unrestricted e = tt
  needed_ends WeightsFromZero e = tt
  needed_ends Ends e = ends_there e
  needed_ends EndsAndWeightsFromZero e = ends_there (neither (negatives_fault a) (ends_fault kind a) e).1

  pub ready : kind_fault kind a ≡ None → IsReady kind (network_of kind a)
  ready e = record { weights = weights_there (need_of kind) e; ends = needed_ends (need_of kind) e }

-- ---- ranges

-- the value and the bounds of a vertex that breaks no rule
kept : (value low high : ℕ) → value_rule value low high ≡ None → (value ≤ VALUE_LIMIT) × (low ≤ high) × (high ≤ VALUE_LIMIT)
kept value low high e =
    let one = or_parts (ltb VALUE_LIMIT value) (ltb VALUE_LIMIT high || ltb high low) (unbroken _ Value e) in
    let two = or_parts (ltb VALUE_LIMIT high) (ltb high low) one.1 in
    (ltb-false VALUE_LIMIT value one.0, ltb-false high low two.1, ltb-false VALUE_LIMIT high two.0)

pub is_network : (kind : Kind) (a : Arrays) → IsSized a → values_fault kind a ≡ None → All (IsInstanceEdge a.vertices) (tabled (edge_at a) (edge_count a))
    → IsNetwork (network_of kind a)
is_network kind a sized values valid =
    let n = tabled-length (value_at kind a) a.vertices in
    let lows = tabled-length (low_at kind a) a.vertices in
    let highs = tabled-length (high_at kind a) a.vertices in
    let m = tabled-length (edge_at a) (edge_count a) in
    let few_vertices : a.vertices ≤ VERTEX_LIMIT = sized.few_vertices in
    let few_edges : edge_count a ≤ EDGE_LIMIT = sized.few_edges in
    let here = λ (k : ℕ) (below : k < a.vertices). kept (value_at kind a k) (low_at kind a k) (high_at kind a k) (none-below (value_fault kind a) a.vertices k values below) in
    record {
      few_vertices = omega (arith, n, few_vertices);
      few_edges = omega (arith, m, few_edges);
      edges = subst (λ (k : ℕ). All (IsInstanceEdge k) (tabled (edge_at a) (edge_count a))) (sym n) valid;
      values = All-tabled (λ b. b ≤ VALUE_LIMIT) (value_at kind a) a.vertices (λ k below. (here k below).0);
      low_each = lows ∙ sym n;
      high_each = highs ∙ sym n;
      ordered = λ k.
          elim (cases_lt k a.vertices) [
            | inl below ↦ rw (tabled-at (low_at kind a) a.vertices k 0 below) (rw (tabled-at (high_at kind a) a.vertices k 0 below) (here k below).1)
            | inr past ↦ rw (get_or_past (tabled (low_at kind a) a.vertices) k 0 (omega (arith, lows, past))) (omega arith)
          ];
      highs = All-tabled (λ b. b ≤ VALUE_LIMIT) (high_at kind a) a.vertices (λ k below. (here k below).2);
    }
