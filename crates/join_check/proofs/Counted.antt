-- How many odd vertices have a node, one before it, or one that a node holds.
use Rattle.mb_problem.proofs.Common.{◌≡◌, ℕ, ◌+◌, ◌<◌, ◌≤◌, Bool, true, false, ◌&&◌, cond, eqb, ltb, leb, refl, ◌∙◌, inl, inr, arith, List, length, slice_index, slice_index_or, test-small}
use Rattle.mb_problem.proofs.Common.{cases_eq, cases_lt, cond-true, cond-false, and_left, and_right, and_from, eq-eqb, ne_eqb, lt-ltb, le-ltb, le-leb, sum_to-same, sum_to-both, sum_to-zero}
use Rattle.mb_problem.proofs.Common.{sum_to-most}
use Rattle.std.proofs.lemmas.Bool.{lt-leb}
use Rattle.join_check.specs.Checks.{held_at, held_before, held_by, held_in}

pub one-on : (t : Bool) → t ≡ true → cond {A = ℕ} t 1 0 ≡ 1
one-on t h = cond-true {A = ℕ} t 1 0 h

pub one-off : (t : Bool) → t ≡ false → cond {A = ℕ} t 1 0 ≡ 0
one-off t h = cond-false {A = ℕ} t 1 0 h

next-tests : (o : Bool) (n x : ℕ) → cond {A = ℕ} (o && ltb n (x + 1)) 1 0 ≡ cond (o && ltb n x) 1 0 + cond (o && eqb n x) 1 0
next-tests false n x = refl
next-tests true n x =
    elim (cases_lt n x) [
      | inl early ↦ omega (arith, one-on (ltb n (x + 1)) (lt-ltb n (x + 1) (omega arith)), one-on (ltb n x) (lt-ltb n x early), one-off (eqb n x) (ne_eqb n x (λ e. omega arith)))
      | inr late ↦ elim (cases_eq n x) [
        | inl e ↦ omega (arith, one-on (ltb n (x + 1)) (lt-ltb n (x + 1) (omega arith)), one-off (ltb n x) (le-ltb n x late), one-on (eqb n x) (eq-eqb n x e))
        | inr d ↦ omega (arith, one-off (ltb n (x + 1)) (le-ltb n (x + 1) (omega arith)), one-off (ltb n x) (le-ltb n x late), one-off (eqb n x) (ne_eqb n x d))
      ]
    ]

pub held-next : (flags : List Bool) (nodes : List ℕ) (x n : ℕ) → held_before flags nodes (x + 1) n ≡ held_before flags nodes x n + held_at flags nodes x n
held-next flags nodes x n =
    sum_to-both (λ j. cond (slice_index_or flags j false && ltb (slice_index nodes j) (x + 1)) 1 0) (λ j. cond (slice_index_or flags j false && ltb (slice_index nodes j) x) 1 0)
    (λ j. cond (slice_index_or flags j false && eqb (slice_index nodes j) x) 1 0) n (λ j _. next-tests (slice_index_or flags j false) (slice_index nodes j) x)

pub held-first : (flags : List Bool) (nodes : List ℕ) (n : ℕ) → held_before flags nodes 0 n ≡ 0
held-first flags nodes n =
    sum_to-same (λ j. cond (slice_index_or flags j false && ltb (slice_index nodes j) 0) 1 0) (λ _. 0) n
    (λ j _. one-off (slice_index_or flags j false && ltb (slice_index nodes j) 0) (and_right (slice_index_or flags j false) (ltb (slice_index nodes j) 0) (le-ltb (slice_index nodes j) 0
    (omega arith))))
    ∙ sum_to-zero n

pub held-most : (flags : List Bool) (nodes : List ℕ) (x n : ℕ) → held_before flags nodes x n ≤ n
held-most flags nodes x n =
    let most = sum_to-most (λ j. cond (slice_index_or flags j false && ltb (slice_index nodes j) x) 1 0) 1 n
    (λ j _. test-small (slice_index_or flags j false && ltb (slice_index nodes j) x)) in
    omega (arith, most)

pub at-most : (flags : List Bool) (nodes : List ℕ) (x n : ℕ) → held_at flags nodes x n ≤ n
at-most flags nodes x n =
    let most = sum_to-most (λ j. cond (slice_index_or flags j false && eqb (slice_index nodes j) x) 1 0) 1 n
    (λ j _. test-small (slice_index_or flags j false && eqb (slice_index nodes j) x)) in
    omega (arith, most)

-- those before the end of node b: those before it begins, and those that it holds
part-tests : (o : Bool) (p b n : ℕ) → p < b → cond {A = ℕ} (o && ltb n (b + 1)) 1 0 ≡ cond (o && (ltb p n && leb n b)) 1 0 + cond (o && ltb n (p + 1)) 1 0
part-tests false p b n h = refl
part-tests true p b n h =
    elim (cases_lt p n) [
      | inl late ↦ elim (cases_lt b n) [
        | inl past ↦ omega (
          arith,
          one-off (ltb n (b + 1)) (le-ltb n (b + 1) (omega arith)),
          one-off (ltb p n && leb n b) (and_right (ltb p n) (leb n b) (lt-leb n b past)),
          one-off (ltb n (p + 1)) (le-ltb n (p + 1) (omega arith)),
        )
        | inr within ↦ omega (
          arith,
          one-on (ltb n (b + 1)) (lt-ltb n (b + 1) (omega arith)),
          one-on (ltb p n && leb n b) (and_from (ltb p n) (leb n b) (lt-ltb p n late) (le-leb n b within)),
          one-off (ltb n (p + 1)) (le-ltb n (p + 1) (omega arith)),
        )
      ]
      | inr early ↦ omega (
        arith,
        one-on (ltb n (b + 1)) (lt-ltb n (b + 1) (omega arith)),
        one-off (ltb p n && leb n b) (and_left (ltb p n) (leb n b) (le-ltb p n early)),
        one-on (ltb n (p + 1)) (lt-ltb n (p + 1) (omega arith)),
      )
    ]

pub held-parts : (flags : List Bool) (befores nodes : List ℕ) (b : ℕ) → slice_index befores b < b
    → held_before flags nodes (b + 1) (length nodes) ≡ held_in flags befores nodes b + held_before flags nodes (slice_index befores b + 1) (length nodes)
held-parts flags befores nodes b h =
    sum_to-both (λ j. cond (slice_index_or flags j false && ltb (slice_index nodes j) (b + 1)) 1 0) (λ j. cond (slice_index_or flags j false && held_by befores b (slice_index nodes j)) 1 0)
    (λ j. cond (slice_index_or flags j false && ltb (slice_index nodes j) (slice_index befores b + 1)) 1 0) (length nodes)
    (λ j _. part-tests (slice_index_or flags j false) (slice_index befores b) b (slice_index nodes j) h)
