-- What odd and split parts exclude.
use Rattle.graph_theory.proofs.Common.{◌≡◌, ℕ, ◌+◌, ◌%◌, ◌<◌, ◌≤◌, ◌⊎◌, inl, inr, Bool, true, false, cond, eqb, List, length, count_by, refl, sym, ap}
use Rattle.graph_theory.proofs.Common.{◌∙◌, arith, false≢true, eq-eqb, eqb-true, ◌==◌, sum_to, holds, IsOddPart, IsSplitPart, sum_to-same, sum_to-add, sum_to-at_one, members_sum}
use Rattle.graph_theory.proofs.Common.{odd_part_excludes, leaves_none-walk, split_part_excludes}
use Rattle.mb_problem.specs.Network.{Network, IsNetwork, vertices, graph_of, value_of}
use Rattle.mb_problem.specs.Feasible.{IsJoin, IsPath, IsTour, AreEnds}
use Rattle.mb_problem.proofs.EdgeLemmas.{network-graph, edges-count}
use Rattle.mb_problem.proofs.EndLemmas.{ends-low, ends-high}

abbrev pub has_odd_value : Network → ℕ → Bool
has_odd_value i v = value_of i v % 2 == 1

pub odd_part-join : (i : Network) (set counts : List ℕ) → IsNetwork i → IsOddPart (graph_of i) (has_odd_value i) set → IsJoin i counts → ⊥
odd_part-join i set counts ok part join = odd_part_excludes (graph_of i) (has_odd_value i) set counts (network-graph i ok) part (λ v low high. (
  (λ odd. eq-eqb (value_of i v % 2) 1 (sym (join.degrees v low high) ∙ odd)),
  (λ t. join.degrees v low high ∙ eqb-true (value_of i v % 2) 1 t),
))

-- a member is a terminal exactly where it is one of two different vertices
two_tests : (h t a b : Bool) → (t ≡ true → (a ≡ true) ⊎ (b ≡ true)) → (a ≡ true → t ≡ true) → (b ≡ true → t ≡ true) → (a ≡ true → b ≡ true → ⊥) → cond h (cond t 1 0) 0
    ≡ cond a (cond h 1 0) 0 + cond b (cond h 1 0) 0
two_tests h true true true some one other apart = absurd (apart refl refl)
two_tests true true true false some one other apart = refl
two_tests false true true false some one other apart = refl
two_tests true true false true some one other apart = refl
two_tests false true false true some one other apart = refl
two_tests h true false false some one other apart = elim (some refl) [ inl e ↦ absurd (false≢true e) | inr e ↦ absurd (false≢true e) ]
two_tests h false true b some one other apart = absurd (false≢true (one refl))
two_tests h false false true some one other apart = absurd (false≢true (other refl))
two_tests true false false false some one other apart = refl
two_tests false false false false some one other apart = refl

-- the terminals in a set are those of the two ends that it holds
terminals_held : (i : Network) (s t : ℕ) (set : List ℕ) (k : ℕ) → AreEnds i s t → k < vertices i → cond (holds set (k + 1)) (cond (has_odd_value i (k + 1)) 1 0) 0
    ≡ cond (eqb s (k + 1)) (cond (holds set (k + 1)) 1 0) 0 + cond (eqb t (k + 1)) (cond (holds set (k + 1)) 1 0) 0
terminals_held i s t set k ends below =
    two_tests (holds set (k + 1)) (has_odd_value i (k + 1)) (eqb s (k + 1)) (eqb t (k + 1))
    (λ odd. elim ((ends.exact (k + 1)).0 (omega arith, omega arith, eqb-true (value_of i (k + 1) % 2) 1 odd)) [
      | inl e ↦ inl (eq-eqb s (k + 1) (sym e))
      | inr e ↦ inr (eq-eqb t (k + 1) (sym e))
    ])
    (λ h. eq-eqb (value_of i (k + 1) % 2) 1 ((ends.exact (k + 1)).1 (inl (sym (eqb-true s (k + 1) h)))).2)
    (λ h. eq-eqb (value_of i (k + 1) % 2) 1 ((ends.exact (k + 1)).1 (inr (sym (eqb-true t (k + 1) h)))).2)
    (λ one other. (let order : s < t = ends.order in let a : s ≡ k + 1 = eqb-true s (k + 1) one in let b : t ≡ k + 1 = eqb-true t (k + 1) other in absurd (omega arith)))

-- a path leaves no set that no edge leaves, so such a set holds both ends or none
pub odd_part-path : (i : Network) (set : List ℕ) (start : ℕ) (edges : List ℕ) → IsNetwork i → IsOddPart (graph_of i) (has_odd_value i) set → IsPath i start edges → ⊥
odd_part-path i set start edges ok part path =
    let n = vertices i in
    let t = path.finish in
    let ends : AreEnds i start t = path.ends in
    let one : ℕ → ℕ = λ v. cond (holds set v) 1 0 in
    let side : holds set t ≡ holds set start = ap (holds set) (sym path.arrives) ∙ leaves_none-walk (graph_of i) set start edges part.closed path.walk in
    let order : start < t = ends.order in
    let low : 1 ≤ start = ends-low i start t ends in
    let high : t ≤ n = ends-high i start t ends in
    let listed : sum_to (λ k. cond (holds set (k + 1)) (cond (has_odd_value i (k + 1)) 1 0) 0) n ≡ count_by (has_odd_value i) set =
    members_sum (λ v. cond (has_odd_value i v) 1 0) n set part.vertices.ascending part.vertices.in_range in
    let split = sum_to-same (λ k. cond (holds set (k + 1)) (cond (has_odd_value i (k + 1)) 1 0) 0) (λ k. cond (eqb start (k + 1)) (one (k + 1)) 0 + cond (eqb t (k + 1)) (one (k + 1)) 0) n
    (λ k below. terminals_held i start t set k ends below) in
    let parts = sum_to-add (λ k. cond (eqb start (k + 1)) (one (k + 1)) 0) (λ k. cond (eqb t (k + 1)) (one (k + 1)) 0) n in
    let first : sum_to (λ k. cond (eqb start (k + 1)) (one (k + 1)) 0) n ≡ one start = sum_to-at_one one start n low (omega arith) in
    let last : sum_to (λ k. cond (eqb t (k + 1)) (one (k + 1)) 0) n ≡ one t = sum_to-at_one one t n (omega arith) high in
    let same : one t ≡ one start = ap (λ (b : Bool). cond {A = ℕ} b 1 0) side in
    let odd : count_by (has_odd_value i) set % 2 ≡ 1 = part.odd in
    absurd (omega (arith, listed, split, parts, first, last, same, odd))

pub split_part-tour : (i : Network) (set : List ℕ) (start : ℕ) (edges : List ℕ) → IsSplitPart (graph_of i) set → IsTour i start edges → ⊥
split_part-tour i set start edges part tour =
    split_part_excludes (graph_of i) set start edges part tour.closed.0
    (λ e number. (let size : length (graph_of i).edges ≡ length i.edges = edges-count i in let high : e ≤ length (graph_of i).edges = number.1 in tour.all e number.0 (omega arith)))

pub split_part-none : (i : Network) (set : List ℕ) → IsSplitPart (graph_of i) set → length i.edges ≡ 0 → ⊥
split_part-none i set part none =
    let size : length (graph_of i).edges ≡ length i.edges = edges-count i in
    let below : part.inside.0 < length (graph_of i).edges = part.inside.1 in
    absurd (omega arith)
