use Rattle.mb_problem.proofs.Common.{◌≡◌, ℕ, ◌+◌, ◌<◌, false, List, length, slice_index, set, sym, ap, ◌∙◌, arith, inl, inr, cases_eq, length-set, get_or-set_same}
use Rattle.mb_problem.proofs.Common.{get_or-set_other}
use Rattle.graph_parts.specs.Marks.{is_marked}
use Rattle.graph_parts.specs.OddParts.{is_terminal}
use Rattle.graph_parts.proofs.flags.odd_flags.Goals as goal

pub loop-number-init : goal.loop-number-init
loop-number-init c =
    record { size = omega (arith, c.in_ok-flags.ensures.size, c.vertices-count.ensures.count); none = c.in_ok-flags.ensures.none 0; each = λ v low high. absurd (omega (arith, low, high)) }

pub is_odd_at-requires : goal.is_odd_at-requires
is_odd_at-requires c =
    record {
      size = ap length c.deref.ensures.value ∙ c.in_ok-counts.ensures.size;
      each = λ k b. ap (λ (m : List ℕ). slice_index m k) c.deref.ensures.value ∙ c.in_ok-counts.ensures.each k b;
      low = omega (arith, c.new-vertex.ensures);
      high = omega (arith, c.new-vertex.ensures, c.loop-number-test.true, c.vertices-count.ensures.count);
    }

pub loop-number-preserved : goal.loop-number-preserved
loop-number-preserved c =
    let old = c.loop-number.flags.items in
    let p = c.number.result in
    let odd = c.is_odd_at.result in
    let place : p ≡ c.loop-number.number + 1 = c.number.ensures ∙ c.new-vertex.ensures in
    let inside : p < length old = omega (arith, place, c.loop-number.invariant.size, c.loop-number-test.true, c.vertices-count.ensures.count) in
    record {
      size = length-set old p odd ∙ c.loop-number.invariant.size;
      none = get_or-set_other old p 0 odd false (λ e. absurd (omega (arith, e, place))) ∙ c.loop-number.invariant.none;
      each = λ v low high. elim (cases_eq v p) [
        | inl here ↦ ap (λ (w : ℕ). is_marked (set old p odd) w) here ∙ get_or-set_same old p odd false inside ∙ c.is_odd_at.ensures
            ∙ ap (is_terminal c.args.parity.now c.args.instance.now) (sym c.number.ensures ∙ sym here)
        | inr other ↦ get_or-set_other old p v odd false other ∙ c.loop-number.invariant.each v low (omega (arith, high, other, place))
      ];
    }

pub returns-clause-size : goal.returns-clause-size
returns-clause-size c = c.loop-number.invariant.size

pub returns-clause-vertices : goal.returns-clause-vertices
returns-clause-vertices c = c.loop-number.invariant.none

pub returns-clause-each : goal.returns-clause-each
returns-clause-each c = λ v low high. c.loop-number.invariant.each v low (omega (arith, high))
