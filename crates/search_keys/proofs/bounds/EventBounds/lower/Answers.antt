use Rattle.alt_forest.proofs.Common.{◌≡◌, ◌≢◌, ◌∙◌, ℕ, ℤ, pos, ◌*ℤ◌, ◌-ℤ◌, ◌≤ℤ◌, true, cond, sym, ap, ap₂, subst, arith, rules, to_z, of_z}
use Rattle.alt_forest.proofs.Common.{IsWeight, leads_weight, both_ways, ints, w64, edge_of, is_vertex, outermost, is_given, state_of, leads_vertex}
use Rattle.search_keys.specs.declared.bounds.EventBounds.{EventBounds}
use Rattle.search_keys.specs.Bounds.{HasHints, IsKey, IsKeyed, kept_key, key_from, key_of}
use Rattle.search_keys.specs.Keys.{IsGiven, IsReach}
use Rattle.alt_forest.proofs.Leads.{leads_back, leads_end, leads_touch}
use Rattle.search_keys.proofs.Gives.{gives_from, key_there}
use Rattle.search_keys.proofs.Lowered.{hint_place, hints_given, key_place, lowered_by, lowered_none, places_given}
use Rattle.search_keys.proofs.bounds.EventBounds.lower.Goals.{After-key_at-key}
use Rattle.search_keys.proofs.bounds.EventBounds.lower.Goals as goal

far_vertex : (c : After-key_at-key) → is_vertex c.args.search.now.graph.vertices c.args.incident.now.far ≡ true
far_vertex c =
    let s = c.args.search.now in
    leads_vertex s.graph c.args.incident.now.edge c.args.giver.now.vertex c.args.incident.now.far c.args.incident.now.weight c.requires.sound.shape.graph.graph c.requires.incident

-- the key that is computed is that which the edge gives
key_is : (c : After-key_at-key) → to_z w64 (of_z w64 c.key_at-key.result)
    ≡ key_from (state_of c.args.search.now) c.args.search.now.clock c.args.giver.now.vertex c.args.incident.now.weight
key_is c =
    let s = c.args.search.now in let back : to_z w64 (of_z w64 c.key_at-key.result) ≡ c.key_at-key.result = search rules in
    let weighs : to_z w64 (of_z w64 c.args.incident.now.weight) ≡ c.args.incident.now.weight = search rules in
    let reached : to_z w64 (of_z w64 c.args.giver.now.reach) ≡ c.args.giver.now.reach = search rules in
    back ∙ c.key_at-key.ensures.key ∙ ap₂ (λ (w r : ℤ). cond (is_given s.weights) (pos 2 *ℤ w) (pos 0) -ℤ r) weighs (reached ∙ c.requires.giver.reach)

-- the edge is one at its far end, and its key in range
hints_after : (c : After-key_at-key) (d : EventBounds) → IsGiven c.args.self.now d c.args.incident.now.far c.args.incident.now.edge (to_z w64 (of_z w64 c.key_at-key.result))
    → HasHints c.args.search.now.graph c.args.self.now → HasHints c.args.search.now.graph d
hints_after c d given hints =
    let s = c.args.search.now in let e : ℕ = c.args.incident.now.edge in
    let u : ℕ = c.args.incident.now.far in let v : ℕ = c.args.giver.now.vertex in let w : ℤ = c.args.incident.now.weight in
    let back : to_z w64 (of_z w64 c.key_at-key.result) ≡ c.key_at-key.result = search rules in
    hints_given s.graph c.args.self.now d u e (to_z w64 (of_z w64 c.key_at-key.result)) given
    (λ some. (c.requires.incident.number, leads_touch s.graph e u v w (leads_back s.graph e v u w c.requires.incident), subst IsKey (sym back) c.key_at-key.ensures.in_range)) hints

pub is_lower-requires : goal.is_lower-requires
is_lower-requires c =
    let there = far_vertex (goal.at.is_lower-requires c).After-key_at-key in
    record {
      hint = hint_place c.args.search.now.graph c.args.self.now c.args.incident.now.far c.requires.places there;
      key = key_place c.args.search.now.graph c.args.self.now c.args.incident.now.far c.requires.places there;
    }

pub returns-then-not-is_lower-clause-keyed : goal.returns-then-not-is_lower-clause-keyed
returns-then-not-is_lower-clause-keyed c = λ apart.
    subst (IsKeyed c.args.self.now c.args.incident.now.far) (key_is (goal.at.returns-then-not-is_lower-clause-keyed c).After-key_at-key)
    (c.is_lower.ensures.keyed (both_ways c.is_lower.result c.if-not-is_lower.true))

pub outermost-requires : goal.outermost-requires
outermost-requires c = rw c.requires.sound.shape.arena (far_vertex (goal.at.outermost-requires c).After-key_at-key)

pub enter-requires-clause-vertex : goal.enter-requires-clause-vertex
enter-requires-clause-vertex c = far_vertex (goal.at.enter-requires-clause-vertex c).After-key_at-key

pub enter-requires-clause-hints : goal.enter-requires-clause-hints
enter-requires-clause-hints c = hints_after (goal.at.enter-requires-clause-hints c).After-key_at-key c.give.new.self c.give.ensures c.requires.hints

pub returns-clause-lowered : goal.returns-clause-lowered
returns-clause-lowered c =
    let s = c.args.search.now in let e : ℕ = c.args.incident.now.edge in
    let u : ℕ = c.args.incident.now.far in let v : ℕ = c.args.giver.now.vertex in
    let w : ℤ = c.args.incident.now.weight in let k : ℤ = to_z w64 (of_z w64 c.key_at-key.result) in
    let shared = (goal.at.returns-clause-lowered c).After-key_at-key in let back = leads_back s.graph e v u w c.requires.incident in
    let apart : outermost s.arena.blossoms v ≢ outermost s.arena.blossoms u =
    λ p. c.if-number.false (c.number.ensures ∙ c.outermost.ensures.node ∙ sym p ∙ sym c.requires.giver.node ∙ sym c.number-2.ensures) in
    let low : key_from (state_of s) s.clock v (edge_of s.graph e).w ≤ℤ k = omega (
      arith,
      ints,
      ap (key_from (state_of s) s.clock v) c.requires.incident.weight,
      key_is shared,
    ) in
    lowered_by s c.give.new.self c.enter.new.self u c.enter.ensures.frame c.enter.ensures.places c.enter.ensures.entered c.enter.ensures.others c.args.self.now e k c.give.ensures
    (far_vertex shared) (λ none. omega (arith, c.requires.incident.number.0, none)) (hints_after shared c.give.new.self c.give.ensures c.requires.hints)
    (c.is_lower.ensures.lower c.if-not-is_lower.false)
    (rw (leads_end s.graph e u v w back) (gives_from (state_of s) s.clock e v u k (record { other = apart; outer = c.requires.giver.outer }) low))

pub returns-clause-keyed : goal.returns-clause-keyed
returns-clause-keyed c = λ apart.
    let s = c.args.search.now in let u : ℕ = c.args.incident.now.far in
    let some : c.args.incident.now.edge ≢ 0 = λ none. omega (arith, c.requires.incident.number.0, none) in
    let is = key_is (goal.at.returns-clause-keyed c).After-key_at-key in
    record {
      key = kept_key c.give.new.self u;
      has = ap (λ (b : EventBounds). key_of b u) c.enter.ensures.frame ∙ key_there c.give.new.self u (λ none. some (sym c.give.ensures.hint ∙ none));
      low = omega (arith, ints, c.give.ensures.key, is);
    }

pub key_at-key-requires : goal.key_at-key-requires
key_at-key-requires c =
    let s = c.args.search.now in let w : ℤ = c.args.incident.now.weight in
    let reached : to_z w64 (of_z w64 c.args.giver.now.reach) ≡ c.args.giver.now.reach = search rules in
    let weighs : to_z w64 (of_z w64 w) ≡ w = search rules in
    record {
      reach = subst IsReach (sym reached) c.requires.giver.in_range;
      weight = subst IsWeight (sym weighs) (leads_weight s.graph c.args.incident.now.edge c.args.giver.now.vertex c.args.incident.now.far w c.requires.sound.shape.graph.graph
          c.requires.incident);
    }

pub returns-then-not-is_lower-clause-lowered : goal.returns-then-not-is_lower-clause-lowered
returns-then-not-is_lower-clause-lowered c = lowered_none c.args.search.now c.args.self.now c.requires.places c.requires.hints

pub returns-then-number : goal.returns-then-number
returns-then-number c = record {
  lowered = lowered_none c.args.search.now c.args.self.now c.requires.places c.requires.hints;
  keyed = λ apart. absurd (apart (sym c.outermost.ensures.node ∙ sym c.number.ensures ∙ c.if-number.true ∙ c.number-2.ensures));
}

pub give-requires : goal.give-requires
give-requires c =
    let there = far_vertex (goal.at.give-requires c).After-key_at-key in
    record {
      hint = hint_place c.args.search.now.graph c.args.self.now c.args.incident.now.far c.requires.places there;
      key = key_place c.args.search.now.graph c.args.self.now c.args.incident.now.far c.requires.places there;
    }

pub enter-requires-clause-places : goal.enter-requires-clause-places
enter-requires-clause-places c =
    places_given c.args.search.now.graph c.args.self.now c.give.new.self c.args.incident.now.far c.args.incident.now.edge _ c.give.ensures c.requires.places
