-- One more set in the table of duals of the sets around.
use Rattle.graph_theory.proofs.Common.{◌≡◌, ◌≢◌, ◌∙◌, sym, ap, subst, inl, inr, arith, ℕ, ◌+◌, ◌-◌, ◌<◌, ◌≤◌, ℤ, pos, neg_ℤ, ◌+ℤ◌, ◌*ℤ◌}
use Rattle.graph_theory.proofs.Common.{◌≤ℤ◌, Bool, cond, List, length, set, ints, cases_lt, cases_eq, lt-ltb, le-ltb, given_at, IsNumber}
use Rattle.graph_theory.specs.declared.odd_set.OddSet.{OddSet}
use Rattle.std.proofs.Common.{get_or-set_same, get_or-set_other, length-set}
use Rattle.graph_theory.specs.declared.limits.TheConstants.{NUMBER_LIMIT}
use Rattle.dual_check.specs.Crossed.{total_at}
use Rattle.dual_check.specs.Trees.{number_at, from_parent, AreParents}

-- a sum of m duals
abbrev pub IsSumOf : ℕ → ℤ → Type 0
IsSumOf m a = ((neg_ℤ NUMBER_LIMIT *ℤ pos m) ≤ℤ a) × (a ≤ℤ (NUMBER_LIMIT *ℤ pos m))

-- the table for the sets from place i on
pub record AreEnclosingFrom (sets : List OddSet) (n : ℕ) (parents : List ℕ) (i : ℕ) (enclosing : List ℤ) : Type 0 where
  pub size : length enclosing ≡ n
  pub each : (k : ℕ) → i ≤ k → k < n → total_at enclosing k ≡ ((given_at sets k).dual +ℤ from_parent n parents enclosing k)
  pub value_limit : (k : ℕ) → i ≤ k → k < n → IsSumOf (n - k) (total_at enclosing k)

pub from_inner : (n : ℕ) (parents : List ℕ) (enclosing : List ℤ) (k : ℕ) → number_at parents k < n → from_parent n parents enclosing k ≡ total_at enclosing (number_at parents k)
from_inner n parents enclosing k inner = ap (λ (t : Bool). cond t (total_at enclosing (number_at parents k)) (pos 0)) (lt-ltb (number_at parents k) n inner)

pub from_root : (n : ℕ) (parents : List ℕ) (enclosing : List ℤ) (k : ℕ) → n ≤ number_at parents k → from_parent n parents enclosing k ≡ pos 0
from_root n parents enclosing k root = ap (λ (t : Bool). cond t (total_at enclosing (number_at parents k)) (pos 0)) (le-ltb (number_at parents k) n root)

none : IsSumOf 0 (pos 0)
none = (omega (arith, ints), omega (arith, ints))

weaker : (m k : ℕ) (a : ℤ) → m ≤ k → IsSumOf m a → IsSumOf k a
weaker m k a low so = (omega (arith, ints, so.0, low), omega (arith, ints, so.1, low))

-- a sum of one dual more
one_more : (m k : ℕ) (y a z : ℤ) → k ≡ m + 1 → z ≡ (y +ℤ a) → IsNumber y → IsSumOf m a → IsSumOf k z
one_more m k y a z next is number so = (omega (arith, ints, next, is, number.0, so.0), omega (arith, ints, next, is, number.1, so.1))

pub from_small : (sets : List OddSet) (n : ℕ) (parents : List ℕ) (j : ℕ) (enclosing : List ℤ) → AreParents sets n parents → j < n
    → AreEnclosingFrom sets n parents (j + 1) enclosing → IsSumOf (n - (j + 1)) (from_parent n parents enclosing j)
from_small sets n parents j enclosing p b so =
    let m = n - (j + 1) in
    elim (cases_lt (number_at parents j) n) [
      | inl inner ↦
          let low : n - number_at parents j ≤ m = omega (arith, p.later j b inner) in
          let sum = so.value_limit (number_at parents j) (omega (arith, p.later j b inner)) inner in
          subst (λ (a : ℤ). IsSumOf m a) (sym (from_inner n parents enclosing j inner)) (weaker (n - number_at parents j) m _ low sum)
      | inr root ↦ subst (λ (a : ℤ). IsSumOf m a) (sym (from_root n parents enclosing j root)) (weaker 0 m (pos 0) (omega arith) none)
    ]

pub enclosing_next : (sets : List OddSet) (n : ℕ) (parents : List ℕ) (j : ℕ) (old new : List ℤ) (z : ℤ) → AreParents sets n parents → j < n → IsNumber (given_at sets j).dual
    → new ≡ set old j z → z ≡ ((given_at sets j).dual +ℤ from_parent n parents old j) → AreEnclosingFrom sets n parents (j + 1) old → AreEnclosingFrom sets n parents j new
enclosing_next sets n parents j old new z p b number is value so =
    let other : (k : ℕ) → k ≢ j → total_at new k ≡ total_at old k = λ k differ. ap (λ (l : List ℤ). total_at l k) is ∙ get_or-set_other old j k z (pos 0) differ in
    let here : total_at new j ≡ z = ap (λ (l : List ℤ). total_at l j) is ∙ get_or-set_same old j z (pos 0) (omega (arith, so.size)) in
    let given : (k : ℕ) → j ≤ k → k < n → from_parent n parents new k ≡ from_parent n parents old k = λ k low high.
    elim (cases_lt (number_at parents k) n) [
      | inl inner ↦ let later = p.later k high inner in
          from_inner n parents new k inner ∙ other (number_at parents k) (λ e. absurd (omega (arith, e, later, low))) ∙ sym (from_inner n parents old k inner)
      | inr root ↦ from_root n parents new k root ∙ sym (from_root n parents old k root)
    ] in
    let bound = from_small sets n parents j old p b so in
    record {
      size = ap (λ (l : List ℤ). length l) is ∙ length-set old j z ∙ so.size;
      each = λ k low high. elim (cases_eq k j) [
        | inl e ↦ subst (λ k. total_at new k ≡ ((given_at sets k).dual +ℤ from_parent n parents new k)) (sym e)
            (here ∙ value ∙ ap (λ a. (given_at sets j).dual +ℤ a) (sym (given j (omega arith) b)))
        | inr e ↦ other k e ∙ so.each k (omega (arith, low, e)) high ∙ ap (λ a. (given_at sets k).dual +ℤ a) (sym (given k low high))
      ];
      value_limit = λ k low high. elim (cases_eq k j) [
        | inl e ↦ subst (λ k. IsSumOf (n - k) (total_at new k)) (sym e)
            (one_more (n - (j + 1)) (n - j) _ _ _ (omega (arith, b)) (here ∙ value) number bound)
        | inr e ↦ subst (λ (a : ℤ). IsSumOf (n - k) a) (sym (other k e)) (so.value_limit k (omega (arith, low, e)) high)
      ];
    }
