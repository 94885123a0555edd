use Rattle.alt_forest.proofs.Common.{◌≡◌, pos, sym, ap, subst, arith, rules, to_z, of_z, w64, ints, State, state_of, SameParity}
use Rattle.alt_forest.specs.declared.search.Search.{Search}
use Rattle.search_start.specs.Starts.{IsLifted}
use Rattle.search_start.proofs.StartLifted.{lift_rises, lifted_next}
use Rattle.search_start.proofs.StartSearch.{state_raised}
use Rattle.search_start.proofs.raising.lift.Goals as goal

pub move_dual-requires-clause-possible : goal.move_dual-requires-clause-possible
move_dual-requires-clause-possible g c =
    let s = c.args.search.now in let m = c.least_around-least.ensures in let e = c.even_room-more.ensures in
    let low = e.low in let high = e.high in
    let from : to_z w64 (of_z w64 s.start) ≡ s.start = search rules in
    let to : to_z w64 (of_z w64 c.least_around-least.result) ≡ c.least_around-least.result = search rules in
    let back : to_z w64 (of_z w64 c.even_room-more.result) ≡ c.even_room-more.result = search rules in
    lift_rises (state_of s) s.start c.args.v c.least_around-least.result _ c.requires.sound.shape.graph.graph c.requires.lifted c.requires.vertex (omega (arith, ints, low, back))
    (subst (λ x. SameParity x (pos 0)) (sym back) e.even) (omega (arith, ints, high, from, to, back)) m.weight m.each

pub returns-clause-lifted : goal.returns-clause-lifted
returns-clause-lifted g c =
    let s = c.args.search.now in let t : Search = c.move_dual.new.search in
    let m = c.least_around-least.ensures in let e = c.even_room-more.ensures in let low = e.low in
    let high = e.high in let from : to_z w64 (of_z w64 s.start) ≡ s.start = search rules in
    let to : to_z w64 (of_z w64 c.least_around-least.result) ≡ c.least_around-least.result = search rules in
    let back : to_z w64 (of_z w64 c.even_room-more.result) ≡ c.even_room-more.result = search rules in
    subst (λ x. IsLifted (state_of t) x c.args.v) (sym (ap (λ (x : Search). x.start) c.move_dual.ensures.frame))
    (subst (λ (x : State). IsLifted x s.start c.args.v) (sym (state_raised s t c.args.v _ c.move_dual.ensures.frame c.move_dual.ensures.duals))
    (lifted_next (state_of s) s.start c.args.v c.least_around-least.result _ c.requires.sound.shape.graph.graph c.requires.lifted c.requires.vertex (omega (arith, ints, low, back))
    (subst (λ x. SameParity x (pos 0)) (sym back) e.even) (omega (arith, ints, high, from, to, back)) m.weight m.each))
