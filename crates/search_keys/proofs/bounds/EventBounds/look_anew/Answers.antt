use Rattle.alt_forest.proofs.Common.{◌≡◌, ◌∙◌, ℕ, ℤ, ap, subst, arith, rules, to_z, of_z, w64, edges_around, Moments, incidence_around, incident_count}
use Rattle.search_keys.specs.declared.bounds.EventBounds.{EventBounds}
use Rattle.search_keys.specs.Bounds.{bound_of, hint_of, key_of}
use Rattle.search_keys.specs.Keys.{IsGiven}
use Rattle.search_keys.proofs.Anew.{bounding_anew, fresh_anew, giving_parts}
use Rattle.search_keys.proofs.Lowered.{hint_place, hints_given, key_else, key_place, places_given}
use Rattle.search_keys.proofs.bounds.EventBounds.look_anew.Goals as goal

pub enter-requires : goal.enter-requires
enter-requires g c =
    let s = c.args.search.now in let b = c.args.self.now in let h = c.requires.vertex_keys in let least = c.least_key-least.result in
    let back : to_z w64 (of_z w64 c.least_key-least.result.key) ≡ c.least_key-least.result.key = search rules in
    let given = subst (λ (k : ℤ). IsGiven b c.give.new.self c.args.v least.edge k) back c.give.ensures in
    record {
      sound = c.requires.sound;
      low = h.low;
      high = h.high;
      near = h.near;
      vertex = c.requires.vertex;
      places = places_given s.graph b c.give.new.self c.args.v least.edge _ c.give.ensures h.places;
      hints = hints_given s.graph b c.give.new.self c.args.v least.edge least.key given (λ some. giving_parts s c.args.v least (c.least_key-least.ensures.from some)) h.hints;
    }

pub give-requires : goal.give-requires
give-requires g c =
    let s = c.args.search.now in let b = c.args.self.now in let h = c.requires.vertex_keys in
    record { hint = hint_place s.graph b c.args.v h.places c.requires.vertex; key = key_place s.graph b c.args.v h.places c.requires.vertex }

pub returns : goal.returns
returns g c =
    let s = c.args.search.now in let b = c.args.self.now in let v : ℕ = c.args.v in let least = c.least_key-least.result in
    let back : to_z w64 (of_z w64 least.key) ≡ least.key = search rules in
    let given = subst (λ (k : ℤ). IsGiven b c.give.new.self v least.edge k) back c.give.ensures in let call = c.enter.ensures in
    let list = incidence_around s v c.at-edges.result.now c.requires.sound.shape c.requires.vertex c.at-edges.ensures.list in
    record {
      vertex_keys = bounding_anew s b c.give.new.self c.enter.new.self v least c.requires.sound.shape c.requires.vertex c.requires.vertex_keys c.least_key-least.ensures.from
          c.least_key-least.ensures.least given call.frame call.places call.entered call.others;
      current = fresh_anew s b c.give.new.self c.enter.new.self v least c.requires.sound.shape c.requires.vertex c.requires.vertex_keys c.least_key-least.ensures.from
          c.least_key-least.ensures.least given call.frame call.places call.entered call.others;
      moments = λ a ne. call.others a ne ∙ ap (λ (q : Moments). bound_of q a) c.give.ensures.moments;
      keys = λ a ne. ap (λ (x : EventBounds). key_of x a) call.frame ∙ key_else b c.give.new.self v least.edge a _ c.give.ensures ne;
      hints = λ a ne. ap (λ (x : EventBounds). hint_of x a) call.frame ∙ c.give.ensures.hints a ne;
      inspections = omega (arith, c.at-edges.ensures.counted, incident_count c.at-edges.result.now (edges_around s.graph v) list);
    }
