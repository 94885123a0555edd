use Rattle.graph_theory.proofs.Common.{◌≡◌, ℕ, ◌-◌, ◌<◌, ◌≤◌, List, length, slice_index, slice_set, All, sym, subst, refl, ◌∙◌, arith, get_or_default, around-at}
use Rattle.graph_theory.proofs.Common.{number_at}
use Rattle.weighted_graph.specs.Left.{NoneLeft, TakesOne}
use Rattle.weighted_graph.proofs.LeftLemmas.{takes-one, none-at}
use Rattle.weighted_graph.proofs.left.take_left.Goals as goal

pub next_left-place-requires-clause-numbers : goal.next_left-place-requires-clause-numbers
next_left-place-requires-clause-numbers c =
    let around = c.at-numbers.ensures ∙ c.requires.index.exact c.args.vertex c.requires.vertex in
    let P : List ℕ → Type 0 = λ xs. All (λ e. (1 ≤ e) × (e ≤ length c.args.left.now)) xs in
    subst P (sym around) (λ k d b. let r = around-at c.args.graph.now c.args.vertex k d b in let low = r.0.0 in let high = r.0.1 in (low, omega (arith, high, c.requires.size)))

pub returns-then-place-numbers-clause-taken : goal.returns-then-place-numbers-clause-taken
returns-then-place-numbers-clause-taken c =
    let numbers = c.at-numbers.result.now in
    let around = c.at-numbers.ensures ∙ c.requires.index.exact c.args.vertex c.requires.vertex in
    let all : c.next_left-place.result ≡ length numbers = omega arith in
    let P : List ℕ → Type 0 = λ xs. NoneLeft c.args.left.now xs (length xs) in
    (refl, none-at c.args.graph.now c.args.left.now c.args.vertex (subst P around (subst (NoneLeft c.args.left.now numbers) all c.next_left-place.ensures.passed)))

pub overflow_sub-left : goal.overflow_sub-left
overflow_sub-left c =
    let numbers = c.at-numbers.result.now in
    let around = c.at-numbers.ensures ∙ c.requires.index.exact c.args.vertex c.requires.vertex in
    let place : c.next_left-place.result < length numbers = let high = c.next_left-place.ensures.high in omega arith in
    let e = number_at c.args.graph.now c.args.vertex numbers c.next_left-place.result c.index-numbers-place.result around place c.index-numbers-place.is in
    omega (arith, e.0.0, c.number.ensures)

pub returns-clause-taken : goal.returns-clause-taken
returns-clause-taken c =
    let v = c.args.vertex in
    let left = c.args.left.now in
    let numbers = c.at-numbers.result.now in
    let at = c.next_left-place.result in
    let e = c.index-numbers-place.result in
    let around = c.at-numbers.ensures ∙ c.requires.index.exact v c.requires.vertex in
    let place : at < length numbers = let high = c.next_left-place.ensures.high in omega arith in
    let edge = number_at c.args.graph.now v numbers at e around place c.index-numbers-place.is in
    let same : slice_index numbers at ≡ e = get_or_default numbers at 0 e place ∙ sym c.index-numbers-place.is in
    let some : 0 < slice_index left (e - 1) = subst (λ (x : ℕ). 0 < slice_index left (x - 1)) same (c.next_left-place.ensures.left place) in
    let P : ℕ → Type 0 = λ n. TakesOne c.args.graph.now left (slice_set left (n - 1) (slice_index left (n - 1) - 1)) v e in
    subst P (sym c.number.ensures) (takes-one c.args.graph.now left v e (slice_index left (e - 1)) edge.0 edge.1 c.requires.size refl some)
