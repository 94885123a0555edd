-- What holds of each vertex's degree holds of each item of the list of degrees, and the other way round.
use Rattle.graph_theory.proofs.Common.{◌≡◌, ℕ, ◌+◌, ◌-◌, ◌<◌, ◌≤◌, List, length, slice_index, arith, ap, ◌∙◌, sym, subst, degree}
use Rattle.mb_problem.specs.Network.{Network, vertices, graph_of}
use Rattle.mb_problem.specs.Degrees.{AreDegrees}

pub degrees-meet : (i : Network) (counts ds : List ℕ) (P : ℕ → Type 0) → AreDegrees i counts ds → ((k : ℕ) → k < length ds → P (slice_index ds k)) → (v : ℕ) → 1 ≤ v → v ≤ vertices i
    → P (degree (graph_of i) counts v)
degrees-meet i counts ds P are h v low high =
    let size : length ds ≡ vertices i = are.one_each in
    let here : v - 1 < vertices i = omega arith in
    let within : v - 1 < length ds = omega arith in
    let back : v - 1 + 1 ≡ v = omega arith in
    subst P (are.each (v - 1) here ∙ ap (λ (w : ℕ). degree (graph_of i) counts w) back) (h (v - 1) within)

pub meet-degrees : (i : Network) (counts ds : List ℕ) (P : ℕ → Type 0) → AreDegrees i counts ds → ((v : ℕ) → 1 ≤ v → v ≤ vertices i → P (degree (graph_of i) counts v)) → (k : ℕ)
    → k < length ds → P (slice_index ds k)
meet-degrees i counts ds P are h k below =
    let size : length ds ≡ vertices i = are.one_each in
    let here : k < vertices i = omega arith in
    let low : 1 ≤ k + 1 = omega arith in
    let high : k + 1 ≤ vertices i = omega arith in
    subst P (sym (are.each k here)) (h (k + 1) low high)
