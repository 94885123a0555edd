use Rattle.mb_problem.proofs.Common.{◌≡◌, ℕ, ◌+◌, ◌-◌, ◌%◌, ◌<◌, false, eqb, ap, sym, ◌∙◌, subst, inl, inr, arith, List, slice_index, slice_index_or, cases_eq, set, length-set}
use Rattle.mb_problem.proofs.Common.{get_or-set_same}
use Rattle.mb_problem.proofs.Common.{get_or-set_other, get_or_read, vertices}
use Rattle.graph_theory.proofs.Common.{ap₂}
use Rattle.mb_problem.specs.Degrees.{AreDegrees}
use Rattle.join_check.specs.Forests.{turned_odd}
use Rattle.join_check.proofs.TurnedEnds.{turned-degree}
use Rattle.join_check.proofs.flags.flags_of.Goals as goal

pub loop-vertex-preserved : goal.loop-vertex-preserved
loop-vertex-preserved c =
    let i = c.args.instance.now in
    let odds = c.args.odds.now in
    let k = c.loop-vertex.vertex in
    let old = c.loop-vertex.flags.items in
    let inside : c.loop-vertex.vertex < vertices c.args.instance.now = omega (arith, c.loop-vertex-test.true, c.requires) in
    let counts = c.in_ok-negative.negative.items in
    let are : AreDegrees i counts c.in_ok-turned.turned.items = subst (λ (xs : List ℕ). AreDegrees i xs c.in_ok-turned.turned.items) c.deref.ensures.value c.in_ok-turned.ensures in
    let ends = turned-degree i counts c.in_ok-turned.turned.items k are c.in_ok-negative.ensures.each inside in
    let turned = get_or_read c.in_ok-turned.turned.items k c.index.result.now (omega (arith, inside, c.in_ok-turned.ensures.one_each)) c.index.ensures 0 ∙ ends in
    let place : k ≡ k + 1 - 1 = omega arith in
    let flag = c.is_odd.ensures ∙ ap₂ (λ (a b : ℕ). eqb ((a + b) % 2) 1) (ap (slice_index odds) place) turned in
    record {
      size = length-set old k c.is_odd.result ∙ c.loop-vertex.invariant.size;
      each = λ j b. elim (cases_eq j k) [
        | inl e ↦ ap (λ (x : ℕ). slice_index_or (set old k c.is_odd.result) x false) e ∙ get_or-set_same old k c.is_odd.result false (omega (arith, inside, c.loop-vertex.invariant.size))
            ∙ flag
            ∙ ap (λ (x : ℕ). eqb (turned_odd i (λ v. slice_index odds (v - 1)) (x + 1)) 1) (sym e)
        | inr d ↦ get_or-set_other old k j c.is_odd.result false d ∙ c.loop-vertex.invariant.each j (omega (arith, b, d))
      ];
    }
