-- The edge that is kept while a loop looks for the least slack at a vertex.
use Rattle.alt_forest.proofs.Common.{◌≡◌, ℕ, ◌≤ℤ◌, true, subst, arith, is_some, ints, State}
use Rattle.search_start.specs.declared.pairing.Rise.{Rise}
use Rattle.search_start.specs.Starts.{CanPair, IsAbove}

-- what has no less slack than one has no less than a lesser one
pub still_above : (s : State) (v : ℕ) (r x : Rise) → r.by ≤ℤ x.by → (r.by ≡ x.by → is_some x.mate ≡ true → is_some r.mate ≡ true) → (e : ℕ)
    → IsAbove s v x.by x.mate e → IsAbove s v r.by r.mate e
still_above s v r x less keeps e above = let most = above.0 in (
  omega (arith, ints, less, most),
  λ can. let at = can.slack_is in let same : r.by ≡ x.by = omega (arith, ints, most, at, less) in keeps same (above.1 (subst (λ y. CanPair s v y e) same can)),
)
