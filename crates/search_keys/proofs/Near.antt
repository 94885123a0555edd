-- Sums of duals that are near the range in which a pass begins: they fit, and stay near.
use Rattle.alt_forest.proofs.Common.{◌≡◌, ◌∙◌, ℕ, ℤ, pos, ◌+ℤ◌, ◌-ℤ◌, ◌≤ℤ◌, true, sym, ap, arith, ints, NUMBER_LIMIT, Multigraph, is_vertex, State, dual_sum}
use Rattle.blossom_arena.specs.Slack.{IsNearSum}
use Rattle.search_keys.specs.Bounds.{HasNearSums, reach}
use Rattle.search_keys.specs.Keys.{IsReach}

module _ (s : State) (clock : ℤ) (v : ℕ) (h : HasNearSums s clock) (low : pos 0 ≤ℤ clock) (high : clock ≤ℤ NUMBER_LIMIT) (is : is_vertex s.graph.vertices v ≡ true) where
  pub near_fits : IsNearSum (dual_sum s v)
  near_fits = let least = h.low v is in let most = h.high v is in (omega (arith, ints, least, low, high), omega (arith, ints, most, low, high))

  pub near_reach : IsReach (reach s clock v)
  near_reach = let least = h.low v is in let most = h.high v is in (omega (arith, ints, least, low, high), omega (arith, ints, most, low, high))

-- the clock goes on by d, and no sum moves farther
pub near_later : (s t : State) (was now d : ℤ) → t.graph ≡ s.graph → now ≡ was +ℤ d
    → ((v : ℕ) → is_vertex s.graph.vertices v ≡ true → ((dual_sum s v -ℤ d) ≤ℤ dual_sum t v) × (dual_sum t v ≤ℤ (dual_sum s v +ℤ d)))
    → HasNearSums s was → HasNearSums t now
near_later s t was now d graph clock sums h = record {
  low = λ v is.
      let there : is_vertex s.graph.vertices v ≡ true = ap (λ (g : Multigraph). is_vertex g.vertices v) (sym graph) ∙ is in
      let sum = sums v there in let least = h.low v there in omega (arith, ints, clock, sum.0, least);
  high = λ v is.
      let there : is_vertex s.graph.vertices v ≡ true = ap (λ (g : Multigraph). is_vertex g.vertices v) (sym graph) ∙ is in
      let sum = sums v there in let most = h.high v there in omega (arith, ints, clock, sum.1, most);
}

-- neither moves
pub near_same : (s t : State) (was now : ℤ) → t.graph ≡ s.graph → now ≡ was → ((v : ℕ) → is_vertex s.graph.vertices v ≡ true → dual_sum t v ≡ dual_sum s v) → HasNearSums s was
    → HasNearSums t now
near_same s t was now graph clock sums h = near_later s t was now (pos 0) graph (omega (arith, ints, clock))
    (λ v is. let sum = sums v is in (omega (arith, ints, sum), omega (arith, ints, sum))) h
