-- The least key that edges at a vertex give it, as far as they have been looked at.
use Rattle.alt_forest.proofs.Common.{◌≡◌, ◌≢◌, ℕ, ℤ, Some, None, sym, ap, ◌∙◌, subst, outermost, State, LeadsTo, state_of}
use Rattle.alt_forest.specs.declared.search.Search.{Search}
use Rattle.search_keys.specs.declared.bounds.EventBounds.{EventBounds}
use Rattle.search_keys.specs.declared.keys.Least.{Least}
use Rattle.search_keys.specs.Bounds.{IsKey, IsKeyed, key_from}
use Rattle.search_keys.specs.Keys.{HasGivenBy, IsApart, IsGiving, IsKeyTo, IsLow, IsNoLower}
use Rattle.alt_forest.proofs.Leads.{leads_same}

-- what holds of the key that the edge gives holds of it whatever its ends are called
pub no_lower_of : (s : State) (clock : ℤ) (v : ℕ) (least : Least) (e far : ℕ) (w : ℤ) → LeadsTo s.graph e v far w
    → (IsApart s (outermost s.blossoms v) far → IsLow least (key_from s clock far w)) → IsNoLower s clock v least e
no_lower_of s clock v least e far w to h other z also apart =
    let same = leads_same s.graph e v far other w z to also in
    subst (λ (x : ℕ). IsLow least (key_from s clock x z)) same.0 (subst (λ (x : ℤ). IsLow least (key_from s clock far x)) same.1
    (h (subst (IsApart s (outermost s.blossoms v)) (sym same.0) apart)))

-- an edge that gives no key
pub no_lower_none : (s : State) (clock : ℤ) (v node : ℕ) (least : Least) (e far : ℕ) (w : ℤ) → LeadsTo s.graph e v far w → node ≡ outermost s.blossoms v
    → IsKeyTo s clock node far w None → IsNoLower s clock v least e
no_lower_none s clock v node least e far w to is none =
    no_lower_of s clock v least e far w to (λ apart. absurd (none (subst (λ (a : ℕ). IsApart s a far) (sym is) apart)))

-- an edge that gives one which is no lower than the least
pub no_lower_some : (s : State) (clock : ℤ) (v node : ℕ) (least : Least) (e far : ℕ) (w k : ℤ) → LeadsTo s.graph e v far w → IsKeyTo s clock node far w (Some k) → IsLow least k
    → IsNoLower s clock v least e
no_lower_some s clock v node least e far w k to some low = no_lower_of s clock v least e far w to (λ apart. subst (IsLow least) some.1 low)

-- what has been found gives its key
pub giving_of : (s : State) (clock : ℤ) (v node e far : ℕ) (w k key : ℤ) → LeadsTo s.graph e v far w → node ≡ outermost s.blossoms v → IsKeyTo s clock node far w (Some k) → key ≡ k
    → IsGiving s clock v (record { key = key; edge = e })
giving_of s clock v node e far w k key to is some same = record {
  far = far;
  weight = w;
  leads = to;
  apart = subst (λ (a : ℕ). IsApart s a far) is some.0;
  key = same ∙ some.1;
  in_range = subst IsKey (sym same) some.2;
}

-- what an edge has given, whatever its ends are called
pub given_of : (s : Search) (b : EventBounds) (v node e far : ℕ) (w : ℤ) → LeadsTo s.graph e v far w → node ≡ outermost s.arena.blossoms v
    → (outermost s.arena.blossoms far ≢ node → IsKeyed b far (key_from (state_of s) s.clock v w))
    → HasGivenBy s b v e
given_of s b v node e far w to is h u z also apart =
    let same = leads_same s.graph e v far u w z to also in
    subst (λ (x : ℕ). IsKeyed b x (key_from (state_of s) s.clock v z)) same.0 (subst (λ (x : ℤ). IsKeyed b far (key_from (state_of s) s.clock v x)) same.1
    (h (λ p. apart (ap (outermost s.arena.blossoms) (sym same.0) ∙ p ∙ is))))
