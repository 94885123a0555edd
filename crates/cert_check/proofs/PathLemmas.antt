-- The r lines of a document.
use Rattle.certificates.proofs.Common.{◌≡◌, ◌↔◌, ℕ, zero, suc, ◌+◌, ◌-◌, ◌<◌, ◌≤◌, ℤ, pos, ◌+ℤ◌, ◌≤ℤ◌, Bool, true, false, List, []}
use Rattle.certificates.proofs.Common.{◌∷◌, length, map, All, cond, nat_abs, Some, refl, sym, ap, ◌∙◌, subst, arith, dec_lt, false≢true, ints}
use Rattle.certificates.proofs.Common.{IsStrictlyIncreasing, length-map, All-map, GRAPH_VERTEX_LIMIT, holds, int_sum_to, members_counted}
use Rattle.certificates.proofs.Common.{same_length, holds_all, int_sum_to-le, Document, PathLine, MemberLine, body_of}
use Rattle.certificates.proofs.Common.{outer_ascends, paths_ascend, numbers, members_of, path_starts, HasAllPaths, IsUpTo, numbers-ascend, members-within}

-- sums that are equal, of numbers of which none is above the other: they are equal one by one
equal_each : (f g : ℕ → ℤ) (n : ℕ) → ((k : ℕ) → k < n → f k ≤ℤ g k) → int_sum_to f n ≡ int_sum_to g n → (k : ℕ) → k < n → f k ≡ g k
equal_each f g zero below same k small = absurd (omega arith)
equal_each f g (suc n) below same k small =
    let front : int_sum_to f n ≤ℤ int_sum_to g n = int_sum_to-le f g n (λ j b. below j (omega arith)) in
    let last : f n ≤ℤ g n = below n (omega arith) in
    let sums : (int_sum_to f n +ℤ f n) ≡ (int_sum_to g n +ℤ g n) = same in
    elim (dec_lt k n) [
      | yes earlier ↦ equal_each f g n (λ j b. below j (omega arith)) (omega (arith, ints)) k earlier
      | no here ↦
          (let at : k ≡ n = omega arith in
          let end : f n ≡ g n = omega (arith, ints) in
          ap f at ∙ end ∙ sym (ap g at))
    ]

one_if-order : (a b : Bool) → (a ≡ true → b ≡ true) → cond a (pos 1) (pos 0) ≤ℤ cond b (pos 1) (pos 0)
one_if-order true true h = omega (arith, ints)
one_if-order true false h = absurd (false≢true (h refl))
one_if-order false true h = omega (arith, ints)
one_if-order false false h = omega (arith, ints)

one_if-same : (a b : Bool) → cond a (pos 1) (pos 0) ≡ cond b (pos 1) (pos 0) → b ≡ true → a ≡ true
one_if-same true b same h = refl
one_if-same false b same h = absurd (let one : pos 0 ≡ pos 1 = same ∙ ap (λ (t : Bool). cond t (pos 1) (pos 0)) h in omega (arith, ints))

-- of two sets of vertices with as many members the one is in the other only if that is in the one
turned : (n : ℕ) (xs ys : List ℕ) → IsStrictlyIncreasing xs → IsStrictlyIncreasing ys → All (λ m. (1 ≤ m) × (m ≤ n)) xs → All (λ m. (1 ≤ m) × (m ≤ n)) ys →
    length xs ≡ length ys → ((v : ℕ) → holds xs v ≡ true → holds ys v ≡ true) → (v : ℕ) → holds ys v ≡ true → holds xs v ≡ true
turned n xs ys up_x up_y within_x within_y size to v h =
    let range = holds_all (λ m. (1 ≤ m) × (m ≤ n)) ys v within_y h in
    let low : 1 ≤ v = range.0 in
    let high : v ≤ n = range.1 in
    let back : v - 1 + 1 ≡ v = omega arith in
    let sums = members_counted n xs up_x within_x ∙ ap pos size ∙ sym (members_counted n ys up_y within_y) in
    let each = equal_each (λ i. cond (holds xs (i + 1)) (pos 1) (pos 0)) (λ i. cond (holds ys (i + 1)) (pos 1) (pos 0)) n
    (λ i b. one_if-order (holds xs (i + 1)) (holds ys (i + 1)) (to (i + 1))) sums (v - 1) (omega arith) in
    ap (holds xs) (sym back) ∙ one_if-same (holds xs (v - 1 + 1)) (holds ys (v - 1 + 1)) each (ap (holds ys) back ∙ h)

-- the vertices of r lines, as numbers
starts-numbers : (rs : List PathLine) → map (λ r. nat_abs r.vertex) rs ≡ numbers (map (λ r. r.vertex) rs)
starts-numbers [] = refl
starts-numbers (r ∷ rs) = ap (λ (vs : List ℕ). nat_abs r.vertex ∷ vs) (starts-numbers rs)

starts-inside : (rs : List PathLine) (set : List ℕ) → All (λ r. holds set (nat_abs r.vertex) ≡ true) rs → (v : ℕ) → holds (map (λ r. nat_abs r.vertex) rs) v ≡ true →
    holds set v ≡ true
starts-inside rs set inside v h =
    holds_all (λ v. holds set v ≡ true) (map (λ (r : PathLine). nat_abs r.vertex) rs) v (All-map (λ v. holds set v ≡ true) (λ (r : PathLine). nat_abs r.vertex) rs inside) h

pub counted-paths : (d : Document) (line : MemberLine) → d.outer ≡ Some line → All (IsUpTo GRAPH_VERTEX_LIMIT) line.members →
    All (λ r. IsUpTo GRAPH_VERTEX_LIMIT r.vertex) d.paths → All (λ r. holds (members_of d.outer) (nat_abs r.vertex) ≡ true) d.paths →
    (length line.members ≡ length d.paths) ↔ HasAllPaths d
counted-paths d line is members starts inside =
    let n : ℕ = GRAPH_VERTEX_LIMIT in
    let vs : List ℤ = map (λ (r : PathLine). r.vertex) d.paths in
    let set = numbers line.members in
    let from = path_starts d in
    let same : from ≡ numbers vs = starts-numbers d.paths in
    let within_vs : All (IsUpTo n) vs = All-map (IsUpTo n) (λ (r : PathLine). r.vertex) d.paths starts in
    let up_starts : IsStrictlyIncreasing from = subst IsStrictlyIncreasing (sym same) (numbers-ascend n vs (paths_ascend (body_of d) d.form.ordered) within_vs) in
    let up_members : IsStrictlyIncreasing set = numbers-ascend n line.members (outer_ascends (body_of d) d.form.formed line is) members in
    let in_starts : All (λ m. (1 ≤ m) × (m ≤ n)) from = subst (All (λ m. (1 ≤ m) × (m ≤ n))) (sym same) (members-within n vs within_vs) in
    let in_members : All (λ m. (1 ≤ m) × (m ≤ n)) set = members-within n line.members members in
    let in_set = subst (λ (ms : List ℕ). All (λ r. holds ms (nat_abs r.vertex) ≡ true) d.paths) (ap members_of is) inside in
    let to : (v : ℕ) → holds from v ≡ true → holds set v ≡ true = starts-inside d.paths set in_set in
    let long_members : length set ≡ length line.members = length-map line.members nat_abs in
    let long_starts : length from ≡ length d.paths = length-map d.paths (λ (r : PathLine). nat_abs r.vertex) in (
      (λ size. rw is (λ v h. turned n from set up_starts up_members in_starts in_members (long_starts ∙ sym size ∙ sym long_members) to v h)),
      (λ all. (let have : (v : ℕ) → holds set v ≡ true → holds from v ≡ true = rw is at all in
          sym long_members ∙ same_length n set from up_members up_starts in_members in_starts have to ∙ long_starts)),
    )
