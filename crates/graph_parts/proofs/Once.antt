-- Lemmas on lists that hold each member once, and on the ascending list of the same members.
use Rattle.graph_theory.proofs.Common.{◌≡◌, ℕ, ◌+◌, ◌-◌, ◌<◌, ◌≤◌, pos, ◌≤ℤ◌, Bool, true, false, cond, ◌&&◌, eqb, ap, sym, ◌∙◌, subst, inl, inr}
use Rattle.graph_theory.proofs.Common.{arith, List, [], ◌∷◌, ◌++◌, length, get_or, length-append, All, filter, range_with_len, get_or-append_seam, ints, cases_lt, eqb-true, eq-eqb}
use Rattle.graph_theory.proofs.Common.{false≢true, nat_tests, get_or_append_left, All-filter, All-from_get_or, list_any_at, length-range_with_len, get_or-range_with_len}
use Rattle.graph_theory.proofs.Common.{IsStrictlyIncreasing-filter, any-filter_same, holds, IsVertexSet, AllDiffer, int_sum_to-le, int_sum_to-one, holds_all, holds_at, ascending-differ}
use Rattle.graph_theory.proofs.Common.{differ_counted, range-ascending, same_length-differ}

-- a new member differs from all
pub differ-push : (xs : List ℕ) (x : ℕ) → holds xs x ≡ false → AllDiffer xs → AllDiffer (xs ++ x ∷ [])
differ-push xs x new differ i j a b same =
    let long = length-append xs (x ∷ []) in
    let first = get_or_append_left xs (x ∷ []) 0 i (omega (arith, a, b, long)) in
    elim (cases_lt j (length xs)) [
      | inl inside ↦ differ i j a inside (sym first ∙ same ∙ get_or_append_left xs (x ∷ []) 0 j inside)
      | inr last ↦
          let seam = ap (λ k. get_or (xs ++ x ∷ []) k 0) (let e : j ≡ length xs = omega (arith, b, long, last) in e) ∙ get_or-append_seam xs x [] 0 in
          false≢true (sym new ∙ ap (holds xs) (sym (sym first ∙ same ∙ seam)) ∙ holds_at xs i 0 (omega (arith, a, b, long)))
    ]

pub at_most_one : (t : Bool) → cond t (pos 1) (pos 0) ≤ℤ pos 1
at_most_one t = grind (arith, ints, nat_tests)

-- no more members than vertices
pub once-short : (n : ℕ) (xs : List ℕ) → AllDiffer xs → All (λ v. (1 ≤ v) × (v ≤ n)) xs → length xs ≤ n
once-short n xs once within =
    let each = int_sum_to-le (λ i. cond (holds xs (i + 1)) (pos 1) (pos 0)) (λ _. pos 1) n (λ i b. at_most_one (holds xs (i + 1))) in
    omega (arith, ints, each, int_sum_to-one n, differ_counted n xs once within)

-- ---- those of the vertices up to n that pass a test, ascending

kept_whole : (t : Bool) → (t && true) ≡ t
kept_whole t = grind (arith, nat_tests)

pub kept-holds : (t : ℕ → Bool) (n v : ℕ) → 1 ≤ v → v ≤ n → holds (filter t (range_with_len 1 n)) v ≡ t v
kept-holds t n v low high =
    let ranged : holds (range_with_len 1 n) v ≡ true =
    list_any_at (λ m. eqb m v) (range_with_len 1 n) (v - 1) 0 (subst (λ (m : ℕ). v - 1 < m) (sym (length-range_with_len 1 n)) (omega arith))
    (eq-eqb _ v (get_or-range_with_len 1 n (v - 1) 0 (omega arith) ∙ omega arith)) in
    any-filter_same (λ m. eqb m v) t (t v) (λ m e. ap t (eqb-true m v e)) (range_with_len 1 n) ∙ ap (λ b. t v && b) ranged ∙ kept_whole (t v)

pub kept-set : (t : ℕ → Bool) (n : ℕ) → IsVertexSet n (filter t (range_with_len 1 n))
kept-set t n = record {
  ascending = IsStrictlyIncreasing-filter t (range_with_len 1 n) (range-ascending n);
  in_range = All-filter t (λ v. (1 ≤ v) × (v ≤ n)) (range_with_len 1 n) (All-from_get_or (λ v. (1 ≤ v) × (v ≤ n)) (range_with_len 1 n) 0 (λ k b.
      let short : k < n = subst (λ (m : ℕ). k < m) (length-range_with_len 1 n) b in
      let here : get_or (range_with_len 1 n) k 0 ≡ 1 + k = get_or-range_with_len 1 n k 0 short in
      (omega (arith, here), omega (arith, here, short))));
}

-- the members of a list
abbrev pub members_to : List ℕ → ℕ → List ℕ
members_to xs n = filter (holds xs) (range_with_len 1 n)

pub to-is : (xs : List ℕ) (n w : ℕ) → holds (members_to xs n) w ≡ true → (1 ≤ w) × (w ≤ n) × (holds xs w ≡ true)
to-is xs n w h =
    let r = holds_all (λ v. (1 ≤ v) × (v ≤ n)) (members_to xs n) w (kept-set (holds xs) n).in_range h in
    (r.0, r.1, sym (kept-holds (holds xs) n w r.0 r.1) ∙ h)

-- as many as the list has, where it holds each once
pub to-length : (xs : List ℕ) (n : ℕ) → AllDiffer xs → All (λ v. (1 ≤ v) × (v ≤ n)) xs → length (members_to xs n) ≡ length xs
to-length xs n once within =
    let set = kept-set (holds xs) n in
    same_length-differ n (members_to xs n) xs (ascending-differ (members_to xs n) set.ascending) once set.in_range within (λ v h. (to-is xs n v h).2)
    (λ v h. let r = holds_all (λ v. (1 ≤ v) × (v ≤ n)) xs v within h in kept-holds (holds xs) n v r.0 r.1 ∙ h)
