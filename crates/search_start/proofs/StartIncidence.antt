-- What an edge says that is looked at from a vertex at the start of a pass.
use Rattle.alt_forest.proofs.Common.{◌≡◌, ℕ, ℤ, pos, ◌+ℤ◌, ◌-ℤ◌, ◌*ℤ◌, cond, [], sym, ap, arith, ⊎_elim, ints, LeadsTo, State, doubled, slack_of}
use Rattle.search_start.proofs.Flat.{slack_flat}

-- while there is no blossom its slack is what its ends leave of twice its weight
pub slack_seen : (s : State) (e v x : ℕ) (w d : ℤ) → s.blossoms ≡ [] → d ≡ s.dual v +ℤ s.dual x → LeadsTo s.graph e v x w
    → cond s.weighted (pos 2 *ℤ w) (pos 0) -ℤ d ≡ slack_of s e
slack_seen s e v x w d alone sum to =
    let was = slack_flat s alone e in
    let weighs : cond s.weighted (pos 2 *ℤ w) (pos 0) ≡ doubled s.graph s.weighted e = ap (λ (t : ℤ). cond s.weighted (pos 2 *ℤ t) (pos 0)) (sym to.weight) in
    ⊎_elim
    (λ p. let one = ap s.dual p.0 in let other = ap s.dual p.1 in omega (arith, ints, was, weighs, sum, one, other))
    (λ p. let one = ap s.dual p.0 in let other = ap s.dual p.1 in omega (arith, ints, was, weighs, sum, one, other))
    to.ends
