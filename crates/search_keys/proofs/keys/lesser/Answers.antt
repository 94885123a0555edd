use Rattle.alt_forest.proofs.Common.{ints, arith, ◌≡◌, ◌≢◌, ℤ, Some, None, subst, sym, rules, to_z, of_z, both_ways, w64, state_of, IsWeight, leads_weight, leads_vertex}
use Rattle.search_keys.specs.Keys.{IsKeyTo, IsLow}
use Rattle.search_keys.proofs.Lower.{giving_of, no_lower_none, no_lower_some}
use Rattle.search_keys.proofs.keys.lesser.Goals.{In-Some}
use Rattle.search_keys.proofs.keys.lesser.Goals as goal

-- the key that the edge gives, as it was read
to_key : (c : In-Some) → IsKeyTo (state_of c.args.search.now) c.args.search.now.clock c.args.node c.args.incident.now.far c.args.incident.now.weight (Some c.in-Some.key)
to_key c =
    let s = c.args.search.now in let weighs : to_z w64 (of_z w64 c.args.incident.now.weight) ≡ c.args.incident.now.weight = search rules in
    subst (λ (w : ℤ). IsKeyTo (state_of s) s.clock c.args.node c.args.incident.now.far w (Some c.in-Some.key)) weighs c.in-Some.ensures

key_back : (c : In-Some) → to_z w64 (of_z w64 c.in-Some.key) ≡ c.in-Some.key
key_back c = search rules

pub returns-in_default-clause-here : goal.returns-in_default-clause-here
returns-in_default-clause-here c =
    let s = c.args.search.now in let p = c.args.incident.now in let weighs : to_z w64 (of_z w64 p.weight) ≡ p.weight = search rules in
    no_lower_none (state_of s) s.clock c.args.v c.args.node c.args.least p.edge p.far p.weight c.requires.incident c.requires.node
    (subst (λ (w : ℤ). IsKeyTo (state_of s) s.clock c.args.node p.far w None) weighs c.in_default.ensures)

pub returns-then-not-is_less-clause-here : goal.returns-then-not-is_less-clause-here
returns-then-not-is_less-clause-here c =
    let s = c.args.search.now in let p = c.args.incident.now in let at = (goal.at.returns-then-not-is_less-clause-here c).In-Some in
    no_lower_some (state_of s) s.clock c.args.v c.args.node c.args.least p.edge p.far p.weight c.in-Some.key c.requires.incident (to_key at)
    (subst (IsLow c.args.least) (key_back at) (c.is_less.ensures.other (both_ways c.is_less.result c.if-not-is_less.true)))

pub returns : goal.returns
returns c =
    let s = c.args.search.now in let p = c.args.incident.now in let at = (goal.at.returns c).In-Some in
    let k : ℤ = to_z w64 (of_z w64 c.in-Some.key) in let some : p.edge ≢ 0 = λ none. omega (arith, c.requires.incident.number.0, none) in
    record {
      from = λ _. giving_of (state_of s) s.clock c.args.v c.args.node p.edge p.far p.weight c.in-Some.key k c.requires.incident c.requires.node (to_key at) (key_back at);
      here = no_lower_some (state_of s) s.clock c.args.v c.args.node _ p.edge p.far p.weight c.in-Some.key c.requires.incident (to_key at)
          (record { found = some; low = omega (arith, ints, key_back at) });
      before = λ l low. record { found = some; low = c.is_less.ensures.less c.if-not-is_less.false l low };
    }

pub key_to-requires-clause-weight : goal.key_to-requires-clause-weight
key_to-requires-clause-weight c =
    let p = c.args.incident.now in let weighs : to_z w64 (of_z w64 p.weight) ≡ p.weight = search rules in
    subst IsWeight (sym weighs) (leads_weight c.args.search.now.graph p.edge c.args.v p.far p.weight c.requires.sound.shape.graph.graph c.requires.incident)

pub key_to-requires-clause-vertex : goal.key_to-requires-clause-vertex
key_to-requires-clause-vertex c = let p = c.args.incident.now in
    leads_vertex c.args.search.now.graph p.edge c.args.v p.far p.weight c.requires.sound.shape.graph.graph c.requires.incident
