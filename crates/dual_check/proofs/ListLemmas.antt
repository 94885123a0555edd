-- Lemmas on lists by vertex, and on sums over lists.
use Rattle.graph_theory.proofs.Common.{refl, ◌≡◌, ◌∙◌, sym, ap, ap₂, subst, inl, inr, arith, ℕ, zero, suc, ◌+◌, ◌<◌, ℤ, pos, ◌+ℤ◌, Bool, true, false, cond}
use Rattle.graph_theory.proofs.Common.{eqb, ◌||◌, List, [], ◌∷◌, ◌++◌, length, get_or, take, All, length-append, or-false, get_or-append_seam, ◌↔◌, IsTrue, nat_lt}
use Rattle.graph_theory.proofs.Common.{IsAllAdjacentAnswer, cases_eq, eq-eqb, false≢true, lt-ltb, ltb-true, ne_eqb, or_right, ints, get_or_append_left, All-append, All-weaker}
use Rattle.graph_theory.proofs.Common.{All-from_get_or, IsStrictlyIncreasing, holds, int_sum_to, holds-take, not_before, int_sum_to-same, int_sum_to-more, ◌≢◌, cases_order}
use Rattle.graph_theory.proofs.Common.{get_or_past, get_or_push, length_push}
use Rattle.std.proofs.Common.{append-nil}
use Rattle.graph_parts.specs.Marks.{is_marked}
use Rattle.weighted_graph.specs.Grouped.{items_of}
use Rattle.weighted_graph.proofs.Grouping.{items-append}
use Rattle.dual_check.specs.Shared.{sum_over}

-- one more member x has s at the end of its list
pub noted_next : (L N : List (ℕ × ℕ)) (I : ℕ → List ℕ) (xs : List ℕ) (i x s : ℕ) → IsStrictlyIncreasing xs → i < length xs → x ≡ get_or xs i 0
    → N ≡ L ++ (x, s) ∷ [] → ((w : ℕ) → items_of L w ≡ cond (holds (take i xs) w) (I w ++ s ∷ []) (I w))
    → (v : ℕ) → items_of N v ≡ cond (holds (take (i + 1) xs) v) (I v ++ s ∷ []) (I v)
noted_next L N I xs i x s up b here is so v =
    let Goal : Bool → Type 0 = λ t. items_of N v ≡ cond t (I v ++ s ∷ []) (I v) in
    let more : holds (take (i + 1) xs) v ≡ (holds (take i xs) v || eqb x v) = holds-take xs i v b ∙ ap (λ q. holds (take i xs) v || eqb q v) (sym here) in
    let parts : (w : ℕ) → items_of N w ≡ items_of L w ++ items_of ((x, s) ∷ []) w = λ w. ap (λ (l : List (ℕ × ℕ)). items_of l w) is ∙ items-append L ((x, s) ∷ []) w in
    subst Goal (sym more) (elim (cases_eq x v) [
      | inl same ↦
          let fresh : holds (take i xs) x ≡ false = ap (λ q. holds (take i xs) q) here ∙ not_before xs i up b in
          let old : items_of L x ≡ I x = so x ∙ ap (λ t. cond t (I x ++ s ∷ []) (I x)) fresh in
          let one : items_of ((x, s) ∷ []) x ≡ s ∷ [] = ap (λ (t : Bool). cond {A = List ℕ} t (s ∷ []) []) (eq-eqb x x refl) in
          let new : items_of N x ≡ I x ++ s ∷ [] = parts x ∙ ap₂ (λ (a c : List ℕ). a ++ c) old one in
          let held : (holds (take i xs) v || eqb x v) ≡ true = or_right (holds (take i xs) v) (eqb x v) (eq-eqb x v same) in
          subst Goal (sym held) (subst (λ (q : ℕ). items_of N q ≡ I q ++ s ∷ []) same new)
      | inr differ ↦
          let off : (holds (take i xs) v || eqb x v) ≡ holds (take i xs) v = ap (λ t. holds (take i xs) v || t) (ne_eqb x v differ) ∙ or-false (holds (take i xs) v) in
          let none : items_of ((x, s) ∷ []) v ≡ [] = ap (λ (t : Bool). cond {A = List ℕ} t (s ∷ []) []) (ne_eqb x v differ) in
          let new : items_of N v ≡ items_of L v = parts v ∙ ap (λ (c : List ℕ). items_of L v ++ c) none ∙ append-nil (items_of L v) in
          subst Goal (sym off) (new ∙ so v)
    ])

-- one more item of a list
pub sum_over-push : (f : ℕ → ℤ) (xs : List ℕ) (j : ℕ) → sum_over f (xs ++ j ∷ []) ≡ sum_over f xs +ℤ f j
sum_over-push f xs j =
    let ys = xs ++ j ∷ [] in
    let long : length ys ≡ length xs + 1 = length-append xs (j ∷ []) in
    let front : int_sum_to (λ a. f (get_or ys a 0)) (length xs) ≡ sum_over f xs = int_sum_to-same (λ a. f (get_or ys a 0)) (λ a. f (get_or xs a 0)) (length xs)
    (λ a b. ap f (get_or_append_left xs (j ∷ []) 0 a b)) in
    ap (int_sum_to (λ a. f (get_or ys a 0))) long ∙ int_sum_to-more (λ a. f (get_or ys a 0)) (length xs) ∙ ap₂ (λ p q. p +ℤ q) front (ap f (get_or-append_seam xs j [] 0))

-- set k is put at the end of the list of v where it is taken and holds v
pub held_next : (f : ℕ → ℤ) (xs ys : List ℕ) (k : ℕ) (t : Bool) (total : ℤ) → ys ≡ cond t (xs ++ k ∷ []) xs → sum_over f xs ≡ total → sum_over f ys ≡ total +ℤ cond t (f k) (pos 0)
held_next f xs ys k true total is so = ap (sum_over f) is ∙ sum_over-push f xs k ∙ ap (λ z. z +ℤ f k) so
held_next f xs ys k false total is so = ap (sum_over f) is ∙ so ∙ omega (arith, ints)

all_below_next : (xs : List ℕ) (k : ℕ) → All (λ j. j < k) xs → All (λ j. j < k + 1) xs
all_below_next xs k so = All-weaker (λ j. j < k) (λ j. j < k + 1) (λ (j : ℕ) (b : j < k). omega arith) xs so

pub below_next : (xs ys : List ℕ) (k : ℕ) (t : Bool) → ys ≡ cond t (xs ++ k ∷ []) xs → All (λ j. j < k) xs → All (λ j. j < k + 1) ys
below_next xs ys k true is so = subst (λ (zs : List ℕ). All (λ j. j < k + 1) zs) (sym is)
    (All-append (λ j. j < k + 1) xs (k ∷ []) (all_below_next xs k so) (All-from_get_or (λ j. j < k + 1) (k ∷ []) k (λ a b. one a b)))
  where
    one : (a : ℕ) → a < 1 → get_or (k ∷ []) a k < k + 1
    one zero b = omega arith
    one (suc a) b = absurd (omega arith)
below_next xs ys k false is so = subst (λ (zs : List ℕ). All (λ j. j < k + 1) zs) (sym is) (all_below_next xs k so)

-- what a look at each number and the next says: whether they ascend
pub ascending_by : (xs : List ℕ) (b : Bool) → IsAllAdjacentAnswer (λ x y t. t ≡ nat_lt x y) xs b → IsTrue b ↔ IsStrictlyIncreasing xs
ascending_by xs true rise = ((λ t k below. ltb-true _ _ (sym (rise k 0 below))), (λ up. refl))
ascending_by xs false fall = ((λ t. absurd (false≢true t)), (λ up. fall.2 0 ∙ lt-ltb _ _ (up fall.0 fall.1)))

-- one more set is narrow where it spares edges, and then it is alone
pub narrow-more : (alone : List Bool) (k edges : ℕ) (narrow new : List Bool) → length narrow ≡ k → ((j : ℕ) → is_marked narrow j ≡ true → is_marked alone j ≡ true)
    → (edges ≢ 0 → is_marked alone k ≡ true) → new ≡ narrow ++ nat_lt 0 edges ∷ [] → (j : ℕ) → is_marked new j ≡ true → is_marked alone j ≡ true
narrow-more alone k edges narrow new size each last is j marked =
    let pushed : is_marked (narrow ++ nat_lt 0 edges ∷ []) j ≡ true = ap (λ (l : List Bool). is_marked l j) (sym is) ∙ marked in
    elim (cases_order j k) [
      | inl same ↦
          let some : 0 < edges = ltb-true 0 edges (sym (get_or_push narrow (nat_lt 0 edges) false j (size ∙ sym same)) ∙ pushed) in
          subst (λ z. is_marked alone z ≡ true) (sym same) (last (λ none. omega (arith, none, some)))
      | inr (inl less) ↦ each j (sym (get_or_append_left narrow (nat_lt 0 edges ∷ []) false j (omega (arith, less, size))) ∙ pushed)
      | inr (inr more) ↦
          absurd (false≢true (sym (get_or_past (narrow ++ nat_lt 0 edges ∷ []) j false (omega (arith, length_push narrow (nat_lt 0 edges), size, more))) ∙ pushed))
    ]

-- anything holds where a set is marked and none is
pub unmarked : (P : ℕ → Type 0) (marks : List Bool) → ((k : ℕ) → is_marked marks k ≡ false) → (k : ℕ) → is_marked marks k ≡ true → P k
unmarked P marks none k marked = absurd (false≢true (sym (none k) ∙ marked))
