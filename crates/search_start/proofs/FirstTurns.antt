-- The looks that the first exposed vertex has in its turn, and whether a vertex is exposed.
use Rattle.alt_forest.proofs.Common.{◌≡◌, ℕ, ◌+◌, ◌<◌, ◌≤◌, Bool, true, false, not, eqb, cond, length, Option, None, Some, is_some, refl, ap, ◌∙◌, arith, eqb-true, eqb-false}
use Rattle.alt_forest.proofs.Common.{and_from, and_parts, both_ways, false_from_ne_true, edges_around, by_test, is_outermost, State, IsExposed, is_exposed, state_of}
use Rattle.alt_forest.specs.declared.search.Search.{Search}
use Rattle.search_start.specs.Sweeps.{IsFirstExposed}

exposed_test : (s : State) (a : ℕ) → IsExposed s a → is_exposed s a ≡ true
exposed_test s a x = and_from (is_outermost s.graph.vertices s.blossoms a) (not (is_some (s.mate a))) x.0 (ap (λ o. not (is_some o)) x.1)

exposed_none : (s : State) (a : ℕ) → (IsExposed s a → ⊥) → is_exposed s a ≡ false
exposed_none s a none = false_from_ne_true (is_exposed s a) (λ t.
    let p = and_parts (is_outermost s.graph.vertices s.blossoms a) (not (is_some (s.mate a))) t in none (p.0, no_mate (s.mate a) p.1))
  where
    no_mate : (o : Option ℕ) → not (is_some o) ≡ true → o ≡ None
    no_mate None t = refl
    no_mate (Some e) t = cc

-- an exposed vertex has its turn, and another has none
pub turn_taken : (s : State) (v d old new : ℕ) → IsExposed s v → new ≡ old + d → new ≡ old + cond (is_exposed s v) d 0
turn_taken s v d old new x looks = omega (arith, looks, ap (λ t. cond t d 0) (exposed_test s v x))

pub turn_passed : (s : State) (v d old : ℕ) → (IsExposed s v → ⊥) → old ≡ old + cond (is_exposed s v) d 0
turn_passed s v d old none = omega (arith, ap (λ t. cond t d 0) (exposed_none s v none))

pub turn_still : (s : State) (v : ℕ) → IsExposed s v → is_exposed s v ≡ false → ⊥
turn_still s v x none = both_ways (is_exposed s v) none (exposed_test s v x)

-- a vertex has no more looks in its turn than edges
pub turn_most : (t : Bool) (d : ℕ) → cond t d 0 ≤ d
turn_most true d = omega arith
turn_most false d = omega arith

-- so many turns have been taken: before its own nothing has changed, and after it its edges have been looked at
pub record HasTurn (s t : Search) (old new place v : ℕ) : Type 0 where
  pub before : place < v → (t ≡ s) × (new ≡ old)
  pub after : v ≤ place → old + length (edges_around s.graph v) ≤ new

pub turn_next : (s t u : Search) (old mid new place v node : ℕ) → IsFirstExposed (state_of s) v → HasTurn s t old mid place v → node ≡ place + 1
    → (is_exposed (state_of t) node ≡ false → u ≡ t) → new ≡ mid + cond (is_exposed (state_of t) node) (length (edges_around t.graph node)) 0 → HasTurn s u old new (place + 1) v
turn_next s t u old mid new place v node first turn is still exact = record {
  before = λ later.
      let b = turn.before (omega (arith, later)) in
      let none : is_exposed (state_of t) node ≡ false = ap (λ (x : Search). is_exposed (state_of x) node) b.0 ∙ first.before node (omega (arith, later, is)) in
      (still none ∙ b.0, omega (arith, exact, b.1, ap (λ x. cond x (length (edges_around t.graph node)) 0) none));
  after = λ low. by_test (eqb v (place + 1))
      (λ e.
      let same : v ≡ place + 1 = eqb-true v (place + 1) e in let b = turn.before (omega (arith, same)) in let at : node ≡ v = omega (arith, is, same) in
      let there : is_exposed (state_of t) node ≡ true = ap (λ (x : Search). is_exposed (state_of x) node) b.0 ∙ ap (is_exposed (state_of s)) at ∙ first.exposed in
      let degree : length (edges_around t.graph node) ≡ length (edges_around s.graph v) =
      ap (λ (x : Search). length (edges_around x.graph node)) b.0 ∙ ap (λ k. length (edges_around s.graph k)) at in
      omega (arith, exact, ap (λ x. cond x (length (edges_around t.graph node)) 0) there, b.1, degree))
      (λ f. let ne = eqb-false v (place + 1) f in let done = turn.after (omega (arith, low, ne)) in omega (arith, done, exact));
}

pub turn_first : (s : Search) (steps v : ℕ) → 1 ≤ v → HasTurn s s steps steps 0 v
turn_first s steps v low = record { before = λ later. (refl, refl); after = λ none. absurd {0} (omega (arith, low, none)) }
