-- The numbers of the sets that hold a vertex, one set more, and by vertex.
use Rattle.graph_theory.proofs.Common.{◌≡◌, ◌∙◌, sym, ap, subst, ℕ, ◌+◌, ◌<◌, ◌≤◌, pos, Bool, cond, List, [], ◌∷◌, ◌++◌, length, All, All-weaker}
use Rattle.graph_theory.proofs.Common.{IsGivenWithin, given_at, no_given, int_sum_to-more}
use Rattle.graph_theory.specs.declared.odd_set.OddSet.{OddSet}
use Rattle.weighted_graph.specs.Grouped.{items_of, AreGrouped}
use Rattle.weighted_graph.proofs.Grouping.{grouped-at}
use Rattle.dual_check.specs.Shared.{sum_over, is_held, HoldsTaken, IsHolders}
use Rattle.dual_check.proofs.ListLemmas.{held_next, below_next}

-- one set more, which is taken and holds v or not
pub taken_next : (sets : List OddSet) (taken : List Bool) (v k : ℕ) (xs ys : List ℕ) → ys ≡ cond (is_held sets taken v k) (xs ++ k ∷ []) xs
    → HoldsTaken sets taken v k xs → HoldsTaken sets taken v (k + 1) ys
taken_next sets taken v k xs ys is so = record {
  numbers = below_next xs ys k (is_held sets taken v k) is so.numbers;
  exact = λ f. held_next f xs ys k (is_held sets taken v k) _ is (so.exact f) ∙ sym (int_sum_to-more (λ j. cond (is_held sets taken v j) (f j) (pos 0)) k);
}

pub members_within : (n : ℕ) (sets : List OddSet) (k : ℕ) → k < length sets → All (IsGivenWithin n) sets → All (λ m. m ≤ n) (given_at sets k).vertices
members_within n sets k lt within = All-weaker (λ m. (1 ≤ m) × (m ≤ n)) (λ m. m ≤ n) (λ (m : ℕ) (b : (1 ≤ m) × (m ≤ n)). b.1) (given_at sets k).vertices
    (within k no_given lt).in_range

pub holders_from : (n : ℕ) (sets : List OddSet) (taken : List Bool) (entries : List (ℕ × ℕ)) (lists : List (List ℕ)) → AreGrouped n entries lists → All (λ e. e.0 ≤ n) entries
    → ((v : ℕ) → HoldsTaken sets taken v (length sets) (items_of entries v)) → IsHolders n sets taken lists
holders_from n sets taken entries lists are within so = record {
  size = are.size;
  numbers = λ v. subst (λ (xs : List ℕ). All (λ j. j < length sets) xs) (sym (grouped-at n entries lists are within v)) (so v).numbers;
  exact = λ v f. ap (sum_over f) (grouped-at n entries lists are within v) ∙ (so v).exact f;
}
