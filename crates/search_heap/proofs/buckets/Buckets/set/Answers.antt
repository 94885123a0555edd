use Rattle.graph_theory.proofs.Common.{◌≡◌, ◌∙◌, ◌<◌, ℤ, List, Option, Some, None, ap, sym, arith, get_or, set, get_or-set_same, rules, to_z, of_z, w64}
use Rattle.std.proofs.lemmas.List.{set-set}
use Rattle.search_heap.specs.Rising.{moments_of}
use Rattle.search_heap.proofs.Homes.{count_of_slots, moment_of_slot}
use Rattle.search_heap.proofs.Settings.{some_given}
use Rattle.search_heap.proofs.buckets.Buckets.set.Goals as goal

pub returns-then-has-clause-moments : goal.returns-then-has-clause-moments
returns-then-has-clause-moments c =
    let kept : to_z w64 (of_z w64 c.args.moment) ≡ c.args.moment = search rules in
    some_given c.args.self.now c.args.slot c.args.moment c.requires.slot (c.has.ensures c.if-has.true ∙ ap (λ (z : ℤ). let o : Option ℤ = Some z in o) kept)

pub give-requires-clause-none : goal.give-requires-clause-none
give-requires-clause-none c =
    let b = c.args.self.now in let x = c.args.slot in
    let low : x < c.lower.new.self.slots = omega (arith, c.requires.slot, c.remove.ensures.slots, c.lower.ensures.slots) in
    sym (moment_of_slot c.lower.new.self x low) ∙ ap (λ (ms : List (Option ℤ)). get_or ms x None) (c.lower.ensures.moments ∙ c.remove.ensures.moments)
    ∙ get_or-set_same (moments_of b) x None None (omega (arith, c.requires.slot, count_of_slots b))

pub returns-clause-moments : goal.returns-clause-moments
returns-clause-moments c =
    let b = c.args.self.now in let m : Option ℤ = Some c.args.moment in
    let kept : to_z w64 (of_z w64 c.args.moment) ≡ c.args.moment = search rules in
    c.give.ensures.moments ∙ ap (λ (z : ℤ). set (moments_of c.lower.new.self) c.args.slot (let o : Option ℤ = Some z in o)) kept
    ∙ ap (λ (ms : List (Option ℤ)). set ms c.args.slot m) (c.lower.ensures.moments ∙ c.remove.ensures.moments) ∙ set-set (moments_of b) c.args.slot None m
