-- Lemmas on counting the edges of a list block by block.
use Rattle.mb_problem.proofs.Common.{◌≡◌, ℕ, ◌+◌, ◌-◌, ◌<◌, ◌≤◌, cond, eqb, refl, ap, sym, ◌∙◌, inl, inr, arith, List, [], ◌∷◌, ◌++◌, length, take}
use Rattle.mb_problem.proofs.Common.{slice_index, Bool, cases_eq, get_or_append_left, get_or-append-add, sum_to, sum_to-same, sum_to-add, sum_to-more, Network, copy_pairs, nat_tests}
use Rattle.mb_problem.proofs.Common.{eqb-turned, sum_to-none}
use Rattle.gadget_base.proofs.Common.{times, times-more, AreStarts, pick-block}
use Rattle.gadget_match.specs.Extracted.{pairs_before, listed_pairs}

number_test : (e s t r : ℕ) → 1 ≤ e → t ≤ e - 1 → eqb e (s + r + 1) ≡ eqb (s + r) (t + (e - 1 - t))
number_test e s t r low begun = grind (arith, nat_tests)

-- a number lies in one block alone
in_block : (size : ℕ → ℕ) (p k e : ℕ) → 1 ≤ e → sum_to size p ≤ e - 1 → e - 1 < sum_to size p + size p → sum_to (λ r. cond (eqb e (sum_to size k + r + 1)) 1 0) (size k) ≡ cond (eqb p k) 1 0
in_block size p k e low begun ends =
    let q = sum_to size p + (e - 1 - sum_to size p) in
    sum_to-same _ (λ r. cond (eqb (sum_to size k + r) q) 1 0) (size k) (λ r _. ap (λ (t : Bool). cond {A = ℕ} t 1 0) (number_test e (sum_to size k) (sum_to size p) r low begun))
    ∙ pick-block size (λ _. 1) k p (e - 1 - sum_to size p) (omega arith)
    ∙ ap (λ (t : Bool). cond {A = ℕ} t 1 0) (eqb-turned k p)

-- one edge more is counted once, in its block
pub listed-more : (i : Network) (starts edges : List ℕ) (n p k : ℕ) → AreStarts (copy_pairs i) (length i.edges) starts → n < length edges → 1 ≤ slice_index edges n → p < length i.edges
    → slice_index starts p ≤ slice_index edges n - 1 → slice_index edges n - 1 < slice_index starts (p + 1) → listed_pairs i (take (n + 1) edges) k ≡ listed_pairs i (take n edges) k + cond
    (eqb p k) 1 0
listed-more i starts edges n p k are b low inside begun ends =
    let size : ℕ → ℕ = copy_pairs i in
    let e = slice_index edges n in
    let from : slice_index starts p ≡ sum_to size p = are.each p (omega arith) in
    let to : slice_index starts (p + 1) ≡ sum_to size p + size p = are.each (p + 1) (omega arith) ∙ sum_to-more size p in
    sum_to-same _ _ (size k)
    (λ r _. times-more edges n (pairs_before i k + r + 1) b)
    ∙ sum_to-add (λ r. times (take n edges) (pairs_before i k + r + 1)) (λ r. cond (eqb e (pairs_before i k + r + 1)) 1 0) (size k)
    ∙ ap (λ x. listed_pairs i (take n edges) k + x) (in_block size p k e low (omega (arith, from, begun)) (omega (arith, to, ends)))

pub listed-none : (i : Network) (k : ℕ) → listed_pairs i [] k ≡ 0
listed-none i k = sum_to-none (λ r. times [] (pairs_before i k + r + 1)) (copy_pairs i k) (λ r _. refl)

-- a list of the values of f with one more at the end
pub pushed-each : (old new : List ℕ) (x n : ℕ) (f : ℕ → ℕ) → new ≡ old ++ x ∷ [] → length old ≡ n → ((k : ℕ) → k < n → slice_index old k ≡ f k) → x ≡ f n → (k : ℕ) → k < n + 1
    → slice_index new k ≡ f k
pushed-each old new x n f is size each next k b =
    ap (λ (xs : List ℕ). slice_index xs k) is
    ∙ elim (cases_eq k n) [
      | inl e ↦
          ap (slice_index (old ++ x ∷ [])) (let z : k ≡ length old + 0 = omega (arith, e, size) in z)
          ∙ get_or-append-add old (x ∷ []) 0 0
          ∙ next ∙ ap f (sym e)
      | inr d ↦ get_or_append_left old (x ∷ []) 0 k (omega (arith, size, b)) ∙ each k (omega arith)
    ]
