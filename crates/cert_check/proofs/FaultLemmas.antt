-- The faults that the duals of a document may have.
use Rattle.certificates.proofs.Common.{◌≡◌, ℕ, ◌+◌, ◌-◌, ◌<◌, ◌≤◌, ℤ, pos, ◌<ℤ◌, ◌≤ℤ◌, List, length, get_or, map, All, sym, ap, ◌∙◌, subst}
use Rattle.certificates.proofs.Common.{arith, ints, get_or-map, length-map, All-get_or, Edge, OddSet, Multigraph, edge_of, no_edge, slack, HasItemForm, HaveItemForm, listed_sets, Document}
use Rattle.certificates.proofs.Common.{SetLine, sets_of, set_of, HasLineForm, HaveForm}
use Rattle.dual_check.specs.Fault.{IsFirstSetFault, IsFirstSlackFault}
use Rattle.cert_check.specs.Faults.{IsSorted, IsFirstNumber}
use Rattle.cert_check.specs.Verdicts.{IsFirstFormless}

-- the first line without form, by its number
pub first_line : (d : Document) (number : ℕ) (z : SetLine) → IsFirstNumber (HasLineForm d) (length d.sets) number → z ≡ get_or d.sets (number - 1) z → IsFirstFormless d z.line
first_line d number z fault is =
    let low : 1 ≤ number = fault.low in
    let high : number ≤ length d.sets = fault.high in
    let here : number - 1 < length d.sets = omega arith in
    let line : get_or (map (λ (z : SetLine). z.line) d.sets) (number - 1) 0 ≡ z.line =
    get_or-map (λ (z : SetLine). z.line) d.sets (number - 1) z 0 here ∙ ap (λ (z : SetLine). z.line) (sym is) in
    record { at = number - 1; in_range = here; lacks = fault.lacks; line_is = sym line; before = λ j earlier. fault.before j (omega arith) }

-- the sets before the fault of one
item_form-before : (sets : List OddSet) (number : ℕ) → IsFirstSetFault sets number → (j : ℕ) → j + 1 < number → HasItemForm sets j
item_form-before sets number fault j before =
    let place : j + 1 - 1 ≡ j = omega arith in
    subst (HasItemForm sets) place (fault.before (j + 1) (omega arith) before)

module _ (d : Document) where
  long : length (sets_of d) ≡ length d.sets
  long = length-map d.sets set_of

  -- no line is unsorted before the first set without form
  pub sorted-before : (number : ℕ) → IsFirstSetFault (sets_of d) number → ((j : ℕ) → j + 1 < number → IsSorted d.sets j) → IsFirstNumber (HasLineForm d) (length d.sets) number
  sorted-before number fault sorted =
      let high : number ≤ length (sets_of d) = fault.high in
      record {
        low = fault.low;
        high = omega (arith, long);
        lacks = λ (form : HasLineForm d (number - 1)). fault.lacks form.items;
        before = λ j before. record { sorted = sorted j before; items = item_form-before (sets_of d) number fault j before };
      }

  -- no set lacks form before the first unsorted line
  pub formed-before : (mixed : ℕ) → IsFirstNumber (IsSorted d.sets) (length d.sets) mixed → ((j : ℕ) → j + 1 < mixed → HasItemForm (sets_of d) j) →
      IsFirstNumber (HasLineForm d) (length d.sets) mixed
  formed-before mixed unsorted formed = record {
    low = unsorted.low;
    high = unsorted.high;
    lacks = λ (form : HasLineForm d (mixed - 1)). unsorted.lacks form.sorted;
    before = λ j before. record { sorted = unsorted.before j before; items = formed j before };
  }

  -- the first of all lines, where no set lacks form
  pub first-mixed : (mixed : ℕ) → IsFirstNumber (IsSorted d.sets) (length d.sets) mixed → HaveItemForm (sets_of d) → IsFirstNumber (HasLineForm d) (length d.sets) mixed
  first-mixed mixed unsorted have = formed-before mixed unsorted (λ j before. (let high : mixed ≤ length d.sets = unsorted.high in have j (omega (arith, long))))

  -- where the unsorted line comes first
  pub first-unsorted : (mixed number : ℕ) → IsFirstNumber (IsSorted d.sets) (length d.sets) mixed → IsFirstSetFault (sets_of d) number → mixed ≤ number →
      IsFirstNumber (HasLineForm d) (length d.sets) mixed
  first-unsorted mixed number unsorted fault later = formed-before mixed unsorted (λ j before. item_form-before (sets_of d) number fault j (omega arith))

  -- where the set comes first
  pub first-fault : (mixed number : ℕ) → IsFirstNumber (IsSorted d.sets) (length d.sets) mixed → IsFirstSetFault (sets_of d) number → number < mixed →
      IsFirstNumber (HasLineForm d) (length d.sets) number
  first-fault mixed number unsorted fault earlier = sorted-before number fault (λ j before. unsorted.before j (omega arith))

  -- where all lines are sorted
  pub first-sorted : (number : ℕ) → ((k : ℕ) → k < length d.sets → IsSorted d.sets k) → IsFirstSetFault (sets_of d) number
      → IsFirstNumber (HasLineForm d) (length d.sets) number
  first-sorted number sorted fault = sorted-before number fault (λ j before. (let high : number ≤ length (sets_of d) = fault.high in sorted j (omega (arith, long))))

  -- and where no set lacks form either
  pub have-form : ((k : ℕ) → k < length d.sets → IsSorted d.sets k) → HaveItemForm (sets_of d) → HaveForm d
  have-form sorted have k below = record { sorted = sorted k below; items = have k (omega (arith, long)) }

-- an edge with a slack below 0 leaves no room for slack
pub no_slack : (g : Multigraph) (y : List ℤ) (sets : List OddSet) (e : ℕ) → IsFirstSlackFault g y sets e
    → All (λ e. pos 0 ≤ℤ slack y (listed_sets g.vertices sets) e) g.edges → ⊥
no_slack g y sets e fault all =
    let low : 1 ≤ e = fault.number.0 in
    let high : e ≤ length g.edges = fault.number.1 in
    let ws = listed_sets g.vertices sets in
    let there : pos 0 ≤ℤ slack y ws (edge_of g e) = All-get_or (λ (t : Edge). pos 0 ≤ℤ slack y ws t) g.edges (e - 1) no_edge (omega arith) all in
    let below : slack y ws (edge_of g e) <ℤ pos 0 = fault.below in
    omega (arith, ints)
