-- Cliques with the same count for both orders of a pair, and how often their edges meet a group of vertices.
use Rattle.mb_problem.proofs.Common.{◌≡◌, ◌⊎◌, ℕ, ◌+◌, ◌-◌, ◌<◌, ◌≤◌, pos, cond, eqb, refl, ap, subst, inl, inr, arith, All, eq-eqb, ne_eqb, nat_tests}
use Rattle.mb_problem.proofs.Common.{sum_to, Edge, ends_at, sum_to-same, sum_to-append, sum_to-more, ends_at-other, sum_to-none, sum_to-hit_from, sum_to-both, one_if}
use Rattle.gadget_base.proofs.Common.{row, clique, All-tabled, All-blocks, at_place}
use Rattle.gadget_tjoin.proofs.Ranks.{to_others}

-- a row without its own place: what comes before it and what comes after
others-parts : (f : ℕ → ℕ) (x n : ℕ) → x < n → sum_to (λ b. cond (eqb b x) 0 (f b)) n ≡ sum_to f x + sum_to (λ d. f (x + d + 1)) (n - 1 - x)
others-parts f x n b =
    let e : n ≡ x + 1 + (n - 1 - x) = omega arith in
    let term : ℕ → ℕ = λ b. cond (eqb b x) 0 (f b) in
    let front = sum_to-same term f x (λ k l. rw (ne_eqb k x (λ e. omega arith)) refl) in
    let own : term x ≡ 0 = rw (eq-eqb x x refl) refl in
    let back = sum_to-same (λ d. term (x + 1 + d)) (λ d. f (x + d + 1)) (n - 1 - x)
    (λ d l. rw (ne_eqb (x + 1 + d) x (λ e. omega arith)) (ap f (let z : x + 1 + d ≡ x + d + 1 = omega arith in z))) in
    omega (arith, ap (sum_to term) e, sum_to-append term (x + 1) (n - 1 - x), sum_to-more term x, front, own, back)

-- at a place the edges count what it has with the others
pub place-others : (c : ℕ → ℕ → ℕ) (n x : ℕ) → ((a b : ℕ) → c a b ≡ c b a) → x < n → at_place c n x ≡ to_others c x n
place-others c n x swap b = omega (arith, sum_to-same (λ a. c a x) (c x) x (λ a l. swap a x), others-parts (c x) x n b)

-- the edge of weight 0 between the places a and b of the group after `before`
abbrev pub pair : ℕ → ℕ → ℕ → Edge
pair before a b = record { u = before + a + 1; v = before + b + 1; w = pos 0 }

-- what holds of each pair
pub all_clique : (P : Edge → Type 0) (before n : ℕ) → ((a b : ℕ) → a < b → b < n → P (pair before a b)) → All P (clique before n (pos 0))
all_clique P before n h =
    All-blocks P (λ a. row (before + a + 1) (before + a + 1) (n - 1 - a) (pos 0)) n
    (λ a l.
    All-tabled P _ (n - 1 - a)
    (λ d l'.
    let e : before + (a + d + 1) + 1 ≡ before + a + 1 + d + 1 = omega arith in
    subst (λ (x : ℕ). P (record { u = before + a + 1; v = x; w = pos 0 })) e (h a (a + d + 1) (omega arith) (omega arith))))

-- how often an edge meets the n vertices after `before`
abbrev pub meets_group : ℕ → ℕ → Edge → ℕ
meets_group before n e = sum_to (λ x. ends_at e (before + x + 1)) n

pair-at : (before a b x : ℕ) → ends_at (pair before a b) (before + x + 1) ≡ one_if (eqb a x) + one_if (eqb b x)
pair-at before a b x = grind (arith, nat_tests)

pair-away : (before n a b v : ℕ) → a < n → b < n → (v ≤ before) ⊎ (before + n < v) → ends_at (pair before a b) v ≡ 0
pair-away before n a b v p q away =
    ends_at-other (pair before a b) v (λ e. elim away [ inl h ↦ omega arith | inr h ↦ omega arith ]) (λ e. elim away [ inl h ↦ omega arith | inr h ↦ omega arith ])

-- both ends of a pair lie in its group, and none in another
pub pair-meets_own : (before n a b : ℕ) → a < n → b < n → meets_group before n (pair before a b) ≡ 2
pair-meets_own before n a b p q =
    let parts = sum_to-both (λ x. ends_at (pair before a b) (before + x + 1)) (λ x. one_if (eqb a x)) (λ x. one_if (eqb b x)) n (λ x l. pair-at before a b x) in
    omega (arith, parts, sum_to-hit_from (λ _. 1) a n p, sum_to-hit_from (λ _. 1) b n q)

pub pair-meets_other : (before n other m a b : ℕ) → a < m → b < m → (before + n ≤ other) ⊎ (other + m ≤ before) → meets_group before n (pair other a b) ≡ 0
pair-meets_other before n other m a b p q away =
    sum_to-none _ n (λ x l. pair-away other m a b (before + x + 1) p q (elim away [ inl h ↦ inl (omega arith) | inr h ↦ inr (omega arith) ]))
