-- The places of the vertices that stand in one copy of the graph.
use Rattle.mb_problem.proofs.Common.{◌≡◌, ℕ, ◌+◌, ◌-◌, ◌<◌, ◌≤◌, Bool, true, cond, eqb, ap, sym, ◌∙◌, inl, inr, arith, cases_order, eq-eqb, ne_eqb, standing}
use Rattle.mb_problem.proofs.Common.{sum_to-grows}
use Rattle.gadget_base.specs.Gadgets.{place_in}

-- a vertex that stands there has a place among them
pub place-within : (there : ℕ → Bool) (before n v : ℕ) → 1 ≤ v → v ≤ n → there v ≡ true
    → (before < place_in there before v) × (place_in there before v ≤ before + standing there n)
place-within there before n v low high stands =
    let here : v - 1 + 1 ≡ v = omega arith in
    let one : cond {A = ℕ} (there (v - 1 + 1)) 1 0 ≡ 1 = ap (λ (t : Bool). cond {A = ℕ} t 1 0) (ap there here ∙ stands) in
    let grows = sum_to-grows (λ k. cond (there (k + 1)) 1 0) (v - 1) n (omega arith) in
    (omega arith, omega (arith, one, grows))

-- .. and the next ones come after it
place-grows : (there : ℕ → Bool) (before u v : ℕ) → 1 ≤ u → u < v → there u ≡ true → place_in there before u < place_in there before v
place-grows there before u v low less stands = let within = place-within there before (v - 1) u low (omega arith) stands in let below = within.1 in omega (arith, below)

-- different vertices have different places
pub place-same : (there : ℕ → Bool) (before u v : ℕ) → 1 ≤ u → 1 ≤ v → there u ≡ true → there v ≡ true
    → eqb (place_in there before u) (place_in there before v) ≡ eqb u v
place-same there before u v low low' stands stands' =
    elim (cases_order u v) [
      | inl e ↦ eq-eqb _ _ (ap (place_in there before) e) ∙ sym (eq-eqb u v e)
      | inr (inl h) ↦ let less = place-grows there before u v low h stands in ne_eqb _ _ (λ e. omega (arith, less, e)) ∙ sym (ne_eqb u v (λ e. omega arith))
      | inr (inr h) ↦ let less = place-grows there before v u low' h stands' in ne_eqb _ _ (λ e. omega (arith, less, e)) ∙ sym (ne_eqb u v (λ e. omega arith))
    ]

-- those of the first copy come before those of the second
pub places-apart : (one two : ℕ → Bool) (n u v : ℕ) → 1 ≤ u → u ≤ n → one u ≡ true → 1 ≤ v → v ≤ n → two v ≡ true
    → place_in one 0 u < place_in two (standing one n) v
places-apart one two n u v low high stands low' high' stands' =
    let first = place-within one 0 n u low high stands in
    let second = place-within two (standing one n) n v low' high' stands' in
    let most = first.1 in
    let least = second.0 in
    omega (arith, most, least)
