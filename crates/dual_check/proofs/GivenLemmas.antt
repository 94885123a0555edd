-- Lemmas on given sets with all their members listed.
use Rattle.graph_theory.proofs.Common.{◌≡◌, ◌∙◌, sym, ap, subst, arith, ℕ, ◌+◌, ◌<◌, ℤ, pos, neg_ℤ, ◌+ℤ◌, ◌*ℤ◌, ◌≤ℤ◌, Bool, true, cond, List}
use Rattle.graph_theory.proofs.Common.{[], length, All, ints, nat_tests, All-from_get_or, IsStrictlyIncreasing, ◌-ℤ◌, ap₂, get_or, get_or_read, int_sum_to, Multigraph, edge_at}
use Rattle.graph_theory.proofs.Common.{no_edge, dual_of, slack, edge_of-place, crosses, holds, DualSet, IsNumber, set_at, no_set, crossed_by, AreEarlier, HaveItemForm, IsGivenWithin}
use Rattle.graph_theory.proofs.Common.{given_at, no_given, listed_sets, members_in, int_sum_to-same, int_sum_to-add, int_sum_to-zero}
use Rattle.graph_theory.specs.declared.odd_set.OddSet.{OddSet}
use Rattle.graph_theory.specs.declared.edge.Edge.{Edge}
use Rattle.graph_theory.specs.declared.limits.TheConstants.{NUMBER_LIMIT}
use Rattle.graph_parts.specs.Marks.{is_marked}
use Rattle.dual_check.specs.Crossed.{AreCrossed, total_at}
use Rattle.dual_check.proofs.CrossLemmas.{crossed-within}
use Rattle.dual_check.proofs.FormLaw.{listed-at, listed-length, members-alone}
use Rattle.dual_check.specs.Forests.{AreAlone, nested_dual}
use Rattle.dual_check.specs.Shared.{crossed_at, taken_dual}

pub listed-numbers : (n : ℕ) (sets : List OddSet) → All (λ s. IsNumber s.dual) sets → All (λ s. IsNumber s.dual) (listed_sets n sets)
listed-numbers n sets small = All-from_get_or (λ s. IsNumber s.dual) (listed_sets n sets) no_set (λ j b. one j (omega (arith, b, listed-length n sets)))
  where
    one : (j : ℕ) → j < length sets → IsNumber (set_at (listed_sets n sets) j).dual
    one j b = subst (λ (s : DualSet). IsNumber s.dual) (sym (listed-at n sets j b)) (small j no_given b)

-- all sets together give an edge a sum of numbers of a document
pub listed-within_all : (n : ℕ) (sets : List OddSet) (e : Edge) → All (λ s. IsNumber s.dual) sets
    → ((neg_ℤ NUMBER_LIMIT *ℤ pos (length sets)) ≤ℤ crossed_by (listed_sets n sets) (length sets) e)
    × (crossed_by (listed_sets n sets) (length sets) e ≤ℤ (NUMBER_LIMIT *ℤ pos (length sets)))
listed-within_all n sets e small = crossed-within (listed_sets n sets) (length sets) e (omega (arith, listed-length n sets)) (listed-numbers n sets small)

-- the sum of the duals stays
pub listed-total : (n : ℕ) (sets : List OddSet) → int_sum_to (λ j. (set_at (listed_sets n sets) j).dual) (length (listed_sets n sets))
    ≡ int_sum_to (λ j. (given_at sets j).dual) (length sets)
listed-total n sets = ap (int_sum_to (λ j. (set_at (listed_sets n sets) j).dual)) (listed-length n sets)
    ∙ int_sum_to-same (λ j. (set_at (listed_sets n sets) j).dual) (λ j. (given_at sets j).dual) (length sets) (λ j b. ap (λ (s : DualSet). s.dual) (listed-at n sets j b))

-- the vertices of each set ascend
pub vertices_ascend : (sets : List OddSet) → HaveItemForm sets → All (λ s. IsStrictlyIncreasing s.vertices) sets
vertices_ascend sets forms = All-from_get_or (λ s. IsStrictlyIncreasing s.vertices) sets no_given (λ j b. (forms j b).vertices)

-- a set that is alone or not: what it gives an edge that it crosses
given_either : (a : Bool) (c m : Bool) (d : ℤ) → (a ≡ true → m ≡ c) → cond m d (pos 0) ≡ (cond c (cond a d (pos 0)) (pos 0) +ℤ cond a (pos 0) (cond m d (pos 0)))
given_either a c m d same = grind (arith, ints, nat_tests)

-- what an edge crosses comes from the sets that are alone and the others
pub crossed_listed : (n : ℕ) (sets : List OddSet) (flags : List Bool) (e : Edge) → AreEarlier sets → HaveItemForm sets → All (IsGivenWithin n) sets → AreAlone sets flags
    → crossed_by (listed_sets n sets) (length sets) e ≡ (crossed_at sets (taken_dual sets flags) (length sets) e +ℤ int_sum_to (nested_dual n sets flags e) (length sets))
crossed_listed n sets flags e earlier forms within are =
    int_sum_to-same (λ j. cond (crosses (set_at (listed_sets n sets) j).members e) (set_at (listed_sets n sets) j).dual (pos 0))
    (λ j. cond (crosses (given_at sets j).vertices e) (taken_dual sets flags j) (pos 0) +ℤ nested_dual n sets flags e j) (length sets)
    (λ j b. ap (λ (s : DualSet). cond (crosses s.members e) s.dual (pos 0)) (listed-at n sets j b)
    ∙ given_either (is_marked flags j) (crosses (given_at sets j).vertices e) (crosses (members_in n sets j) e) (given_at sets j).dual
    (λ h. ap (λ (ms : List ℕ). crosses ms e) (members-alone n sets j earlier within b (forms j b).vertices ((are.alone j b).0 h).no_references))) ∙ int_sum_to-add _ _ (length sets)

-- where no set refers to another, each is alone
pub all_alone : (sets : List OddSet) (flags : List Bool) → AreAlone sets flags → ((j : ℕ) → j < length sets → (given_at sets j).references ≡ []) → (j : ℕ) → j < length sets
    → is_marked flags j ≡ true
all_alone sets flags are none j b = (are.alone j b).1 (record { no_references = none j b; none_refers = λ i c. ap (λ (rs : List ℕ). holds rs (j + 1)) (none i c) })

pub none_nested : (n : ℕ) (sets : List OddSet) (flags : List Bool) (e : Edge) → AreAlone sets flags → ((j : ℕ) → j < length sets → (given_at sets j).references ≡ [])
    → int_sum_to (nested_dual n sets flags e) (length sets) ≡ pos 0
none_nested n sets flags e are none =
    int_sum_to-same (nested_dual n sets flags e) (λ _. pos 0) (length sets)
    (λ j b. ap (λ t. cond t (pos 0) (cond (crosses (members_in n sets j) e) (given_at sets j).dual (pos 0))) (all_alone sets flags are none j b)) ∙ int_sum_to-zero (length sets)

-- the slack of the edge at place k, from what is added up at its number
pub slack_is : (g : Multigraph) (y : List ℤ) (sets : List OddSet) (totals : List ℤ) (es : List Edge) (k : ℕ) (e : Edge) (total result : ℤ) → AreCrossed g sets totals
    → es ≡ g.edges → k < length es → e ≡ get_or es k e → total ≡ total_at totals (k + 1) → result ≡ pos 2 *ℤ e.w -ℤ dual_of y e.u -ℤ dual_of y e.v -ℤ total
    → result ≡ slack y (listed_sets g.vertices sets) (edge_at g k)
slack_is g y sets totals es k e total result crossed is b at same value =
    let listed = listed_sets g.vertices sets in
    let here : edge_at g k ≡ e = ap (λ (xs : List Edge). get_or xs k no_edge) (sym is) ∙ sym (get_or_read es k e b at no_edge) in
    let all : total ≡ crossed_by listed (length listed) e = same ∙ crossed.exact (k + 1) (omega arith, let long = ap length is in omega (arith, long, b))
    ∙ ap₂ (λ (m : ℕ) (f : Edge). crossed_by listed m f) (sym (listed-length g.vertices sets)) (edge_of-place g k ∙ here) in
    value ∙ ap (λ z. pos 2 *ℤ e.w -ℤ dual_of y e.u -ℤ dual_of y e.v -ℤ z) all ∙ ap (slack y listed) (sym here)
