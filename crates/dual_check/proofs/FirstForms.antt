-- The first set that lacks form, by the first whose list of items does and the first whose items have a member in common.
use Rattle.graph_theory.proofs.Common.{◌≡◌, ℕ, ◌<◌, List, length, Option, None, Some, MatchOption, subst, sym, arith, HasItemForm, HaveItemForm}
use Rattle.graph_theory.specs.declared.odd_set.OddSet.{OddSet}
use Rattle.dual_check.specs.Forests.{AreItemLists, IsItemList, IsApart, IsFirstPlace}

-- a set whose list of items is in order and whose items have no member in common has form
form_of : (sets : List OddSet) (j : ℕ) → IsItemList sets j → IsApart sets j → HasItemForm sets j
form_of sets j list apart = record { three = list.three; odd = list.odd; vertices = list.vertices; references = list.references; free = list.free; apart = apart }

-- the lists before the first wrong one are in order
pub lists_before : (sets : List OddSet) (fault : Option ℕ) (count : ℕ) → MatchOption fault (AreItemLists sets (length sets)) (IsFirstPlace (IsItemList sets) (length sets))
    → MatchOption fault (count ≡ length sets) (λ k. count ≡ k) → AreItemLists sets count
lists_before sets None count lists is = subst (AreItemLists sets) (sym is) lists
lists_before sets (Some k) count first is = subst (AreItemLists sets) (sym is) first.before

-- .. and are lists of sets that are there
count_within : (sets : List OddSet) (fault : Option ℕ) (count k : ℕ) → MatchOption fault (AreItemLists sets (length sets)) (IsFirstPlace (IsItemList sets) (length sets))
    → MatchOption fault (count ≡ length sets) (λ p. count ≡ p) → k < count → k < length sets
count_within sets None count k lists is low = omega (arith, is, low)
count_within sets (Some p) count k first is low = omega (arith, is, low, first.in_range)

-- the first of them with items that have a member in common is the first without form
pub overlap_first : (sets : List OddSet) (fault : Option ℕ) (count k : ℕ) → MatchOption fault (AreItemLists sets (length sets)) (IsFirstPlace (IsItemList sets) (length sets))
    → MatchOption fault (count ≡ length sets) (λ p. count ≡ p) → IsFirstPlace (IsApart sets) count k → IsFirstPlace (HasItemForm sets) (length sets) k
overlap_first sets fault count k lists is overlap = record {
  in_range = count_within sets fault count k lists is overlap.in_range;
  lacks = λ form. overlap.lacks form.apart;
  before = λ j low. form_of sets j (lists_before sets fault count lists is j (omega (arith, low, overlap.in_range))) (overlap.before j low);
}

-- where none is, the first whose list of items does, if any
pub first_form : (sets : List OddSet) (fault : Option ℕ) (count : ℕ) → MatchOption fault (AreItemLists sets (length sets)) (IsFirstPlace (IsItemList sets) (length sets))
    → MatchOption fault (count ≡ length sets) (λ p. count ≡ p) → ((j : ℕ) → j < count → IsApart sets j)
    → MatchOption fault (HaveItemForm sets) (IsFirstPlace (HasItemForm sets) (length sets))
first_form sets None count lists is apart = λ j b. form_of sets j (lists j b) (apart j (omega (arith, is, b)))
first_form sets (Some k) count first is apart = record {
  in_range = first.in_range;
  lacks = λ form. first.lacks (record { three = form.three; odd = form.odd; vertices = form.vertices; references = form.references; free = form.free });
  before = λ j b. form_of sets j (first.before j b) (apart j (omega (arith, is, b)));
}
