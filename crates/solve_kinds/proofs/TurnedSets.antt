-- Feasible duals on sets are the same for the sets in the opposite order.
use Rattle.mb_problem.proofs.Common.{◌≡◌, ℕ, zero, suc, ◌+◌, ◌-◌, ◌<◌, ℤ, pos, ◌+ℤ◌, ◌≤ℤ◌, cond, List, length, All, sym, ap, ◌∙◌, subst, refl}
use Rattle.mb_problem.proofs.Common.{arith, ints, All-get_or, All-from_get_or, All-weaker, Edge, DualSet, HasForm, IsSetWithin, AreDuals, set_at, no_set, slack, crossed_by, dual_value}
use Rattle.mb_problem.proofs.Common.{Multigraph, crosses, int_sum_to, int_sum_to-same, int_sum_to-append}

-- a sum from its last term back
pub sum-turned : (f : ℕ → ℤ) (n : ℕ) → int_sum_to (λ j. f (n - 1 - j)) n ≡ int_sum_to f n
sum-turned f zero = refl
sum-turned f (suc n) =
    let g : ℕ → ℤ = λ j. f (suc n - 1 - j) in
    let split : int_sum_to g (1 + n) ≡ int_sum_to g 1 +ℤ int_sum_to (λ j. g (1 + j)) n = int_sum_to-append g 1 n in
    let whole : int_sum_to g (suc n) ≡ int_sum_to g (1 + n) = (let e : suc n ≡ 1 + n = omega arith in ap (int_sum_to g) e) in
    let first : g 0 ≡ f n = (let e : suc n - 1 - 0 ≡ n = omega arith in ap f e) in
    let others : int_sum_to (λ j. g (1 + j)) n ≡ int_sum_to (λ j. f (n - 1 - j)) n =
    int_sum_to-same (λ j. g (1 + j)) (λ j. f (n - 1 - j)) n (λ j b. (let e : suc n - 1 - (1 + j) ≡ n - 1 - j = omega arith in ap f e)) in
    let rest = sum-turned f n in
    let one : int_sum_to g 1 ≡ pos 0 +ℤ g 0 = refl in
    let more : int_sum_to f (suc n) ≡ int_sum_to f n +ℤ f n = refl in
    omega (arith, ints, split, whole, first, others, rest, one, more)

-- the same sets, the last one first
pub record AreTurned (xs ys : List DualSet) : Type 0 where
  pub one_each : length xs ≡ length ys
  pub places : (k : ℕ) → k < length xs → set_at xs k ≡ set_at ys (length xs - 1 - k)

pub all-turned : (P : DualSet → Type 0) (xs ys : List DualSet) → AreTurned xs ys → All P ys → All P xs
all-turned P xs ys t all =
    All-from_get_or P xs no_set (λ k b. subst P (sym (t.places k b)) (All-get_or P ys (length xs - 1 - k) no_set (omega (arith, b, t.one_each)) all))

pub sums-turned : (f : DualSet → ℤ) (xs ys : List DualSet) → AreTurned xs ys → int_sum_to (λ j. f (set_at xs j)) (length xs) ≡ int_sum_to (λ j. f (set_at ys j)) (length ys)
sums-turned f xs ys t =
    int_sum_to-same (λ j. f (set_at xs j)) (λ j. f (set_at ys (length xs - 1 - j))) (length xs) (λ j b. ap f (t.places j b))
    ∙ sum-turned (λ j. f (set_at ys j)) (length xs)
    ∙ ap (int_sum_to (λ j. f (set_at ys j))) t.one_each

pub crossed-turned : (xs ys : List DualSet) (e : Edge) → AreTurned xs ys → crossed_by xs (length xs) e ≡ crossed_by ys (length ys) e
crossed-turned xs ys e t = sums-turned (λ s. cond (crosses s.members e) s.dual (pos 0)) xs ys t

pub slack-turned : (y : List ℤ) (xs ys : List DualSet) (e : Edge) → AreTurned xs ys → slack y xs e ≡ slack y ys e
slack-turned y xs ys e t = rw (crossed-turned xs ys e t) refl

pub value-turned : (y : List ℤ) (xs ys : List DualSet) → AreTurned xs ys → dual_value y xs ≡ dual_value y ys
value-turned y xs ys t = rw (sums-turned (λ s. s.dual) xs ys t) refl

pub duals-turned : (g : Multigraph) (y : List ℤ) (xs ys : List DualSet) → AreTurned xs ys → AreDuals g y ys → AreDuals g y xs
duals-turned g y xs ys t d = record {
  one_each = d.one_each;
  sets_within = all-turned (IsSetWithin g.vertices) xs ys t d.sets_within;
  forms = all-turned (λ s. HasForm s.members) xs ys t d.forms;
  slacks = All-weaker (λ e. pos 0 ≤ℤ slack y ys e) (λ e. pos 0 ≤ℤ slack y xs e) (λ e h. subst (λ (z : ℤ). pos 0 ≤ℤ z) (sym (slack-turned y xs ys e t)) h) g.edges d.slacks;
}
