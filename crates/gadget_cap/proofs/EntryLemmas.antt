-- Which edges of the graph enter the first gate of an edge, and how many of those listed do.
use Rattle.mb_problem.proofs.Common.{◌≡◌, ◌≢◌, ℕ, ◌+◌, ◌*◌, ◌-◌, ◌<◌, ◌≤◌, Bool, true, false, cond, ltb, nat_lt, nat_le, ◌&&◌, ap, sym, ◌∙◌}
use Rattle.mb_problem.proofs.Common.{subst, inl, inr, arith, List, length, All, count_by, cases_Bool, cases_eq, nat_tests, sum_to, sum_to-same, IsEdgeNumber, Network, value_u, sum_to-none}
use Rattle.mb_problem.proofs.Common.{sum_to-blocks, sum_to-rows, sum_to-only, block-once}
use Rattle.gadget_base.proofs.Common.{capped_graph, times, sum_to-below, times-sum}
use Rattle.gadget_cap.specs.Places.{gate_size, gates_before, enters}
use Rattle.gadget_cap.proofs.GateLemmas.{entered}
use Rattle.gadget_cap.proofs.Back.{passage_of, all-edges}

-- tests of a place

not_between : (a b e : ℕ) → (a < e → b < e) → (nat_lt a e && nat_le e b) ≡ false
not_between a b e h = grind (arith, nat_tests)

is_between : (a b e : ℕ) → (nat_lt a e && nat_le e b) ≡ true → (a < e) × (e ≤ b)
is_between a b e h = (grind (arith, nat_tests), grind (arith, nat_tests))

pub enters-low : (i : Network) (room : ℕ → ℕ) (k e : ℕ) → enters i room k e ≡ true → gates_before i room k < e
enters-low i room k e h = (is_between (gates_before i room k) (gates_before i room k + value_u i k * room k) e h).0

pub enters-high : (i : Network) (room : ℕ → ℕ) (k e : ℕ) → enters i room k e ≡ true → e ≤ gates_before i room k + value_u i k * room k
enters-high i room k e h = (is_between (gates_before i room k) (gates_before i room k + value_u i k * room k) e h).1

-- an edge that stands for edge number k + 1 enters no gate of another
pub enters-other : (i : Network) (room : ℕ → ℕ) (k o e : ℕ) → gates_before i room k < e → e ≤ gates_before i room k + gate_size i room k → o ≢ k → enters i room o e ≡ false
enters-other i room k o e low high differ =
    elim (cases_Bool (enters i room o e)) [
      | inl h ↦
          let from = enters-low i room o e h in
          let to = enters-high i room o e h in
          absurd (differ (block-once (gate_size i room) o k (e - 1 - gates_before i room o) (e - 1 - gates_before i room k) (omega arith) (omega arith) (omega arith)))
      | inr h ↦ h
    ]

-- .. nor its own first gate where it comes after those that do
pub enters-none : (i : Network) (room : ℕ → ℕ) (k o e : ℕ) → gates_before i room k < e → e ≤ gates_before i room k + gate_size i room k → gates_before i room k + value_u i k * room k < e
    → enters i room o e ≡ false
enters-none i room k o e low high past =
    elim (cases_eq o k) [
      | inl h ↦ let P : ℕ → Type 0 = λ y. enters i room y e ≡ false in subst P (sym h) (not_between (gates_before i room k) (gates_before i room k + value_u i k * room k) e (λ _. past))
      | inr d ↦ enters-other i room k o e low high d
    ]

-- the listed edges that enter the first gate, by places

shifted : (s n r : ℕ) → (nat_lt s (s + r + 1) && nat_le (s + r + 1) (s + n)) ≡ ltb r n
shifted s n r = grind (arith, nat_tests)

own-block : (i : Network) (room : ℕ → ℕ) (f : ℕ → ℕ) (k : ℕ) → sum_to (λ r. cond (enters i room k (gates_before i room k + r + 1)) (f (gates_before i room k + r)) 0) (gate_size i room k)
    ≡ entered i room (passage_of i room f) k
own-block i room f k =
    let s = gates_before i room k in
    let n = value_u i k * room k in
    sum_to-same (λ r. cond (enters i room k (s + r + 1)) (f (s + r)) 0) (λ r. cond (ltb r n) (f (s + r)) 0) (gate_size i room k) (λ r _. ap (λ (b : Bool). cond b (f (s + r)) 0)
    (shifted s n r))
    ∙ sum_to-below (λ r. f (s + r)) n (gate_size i room k) (omega arith)
    ∙ sum_to-rows (λ r. f (s + r)) (value_u i k) (room k)

other-block : (i : Network) (room : ℕ → ℕ) (f : ℕ → ℕ) (k o : ℕ) → o ≢ k → sum_to (λ r. cond (enters i room k (gates_before i room o + r + 1)) (f (gates_before i room o + r)) 0)
    (gate_size i room o) ≡ 0
other-block i room f k o d =
    sum_to-none (λ r. cond (enters i room k (gates_before i room o + r + 1)) (f (gates_before i room o + r)) 0) (gate_size i room o)
    (λ r b.
    ap (λ (t : Bool). cond t (f (gates_before i room o + r)) 0) (enters-other i room o k (gates_before i room o + r + 1) (omega arith) (omega arith) (λ h. d (sym h))))

pub entries-count : (i : Network) (room : ℕ → ℕ) (es : List ℕ) (k : ℕ) → All (IsEdgeNumber (capped_graph i room)) es → k < length i.edges
    → count_by (enters i room k) es ≡ entered i room (passage_of i room (λ y. times es (y + 1))) k
entries-count i room es k all b =
    let f : ℕ → ℕ = λ y. times es (y + 1) in
    let blocks : ℕ → ℕ = λ o. sum_to (λ r. cond (enters i room k (gates_before i room o + r + 1)) (f (gates_before i room o + r)) 0) (gate_size i room o) in
    sym (times-sum (enters i room k) es (length (capped_graph i room).edges) all)
    ∙ ap (sum_to (λ y. cond (enters i room k (y + 1)) (f y) 0)) (all-edges i room)
    ∙ sum_to-blocks (gate_size i room) (λ y. cond (enters i room k (y + 1)) (f y) 0) (length i.edges)
    ∙ sum_to-only blocks k (length i.edges) b (λ o _ d. other-block i room f k o d)
    ∙ own-block i room f k
