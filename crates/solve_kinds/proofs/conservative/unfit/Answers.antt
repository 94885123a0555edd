use Rattle.mb_problem.proofs.Common.{pos, ◌*ℤ◌, length, slice_index, sym, ◌∙◌, arith, ints, times-le, int_sum_to-le, int_sum_to-zero}
use Rattle.mb_problem.proofs.Common.{HasNoNegativeEvenSet, HasWeightsFromZero, Network, instance_edge_at, no_instance_edge}
use Rattle.gadget_base.proofs.Common.{weight-used}
use Rattle.certificates.proofs.Common.{true≢false}
use Rattle.solve_kinds.proofs.Searches.{no-edges, even-steps, fit-even}
use Rattle.solve_kinds.proofs.conservative.unfit.Goals as goal

-- no even set weighs less than 0 where no edge does
no-negative : (i : Network) → HasWeightsFromZero i → HasNoNegativeEvenSet i
no-negative i from_zero counts even =
    let m = length i.edges in
    let terms = int_sum_to-le (λ _. pos 0) (λ k. pos (slice_index counts k) *ℤ (instance_edge_at i k).w) m
    (λ k b. let each = times-le (slice_index counts k) (pos 0) ((instance_edge_at i k).w) (from_zero k no_instance_edge b) in omega (arith, ints, each)) in
    omega (arith, ints, terms, int_sum_to-zero m, weight-used i counts)

pub returns-then-weighs_from_zero-clause-settled : goal.returns-then-weighs_from_zero-clause-settled
returns-then-weighs_from_zero-clause-settled g c =
    let i = c.args.instance.now in
    fit-even c.args.kind i c.requires.network c.laws.ensures.conservative (no-negative i (c.weighs_from_zero.ensures.0 c.if-weighs_from_zero.true))

pub least_join-requires-clause-some : goal.least_join-requires-clause-some
least_join-requires-clause-some g c = no-edges c.args.instance.now

pub judged-document-requires : goal.judged-document-requires
judged-document-requires g c =
    record { network = c.requires.network; kind = sym c.asks_conservative.ensures ∙ c.if-not-asks_conservative.false; even = c.in_ok-even.ensures.least }

pub returns-in_err-even-clause-steps : goal.returns-in_err-even-clause-steps
returns-in_err-even-clause-steps g c = even-steps c.args.kind c.args.instance.now c.args.steps.now c.least_join.new.steps
    (sym c.asks_conservative.ensures ∙ c.if-not-asks_conservative.false) c.least_join.ensures.steps

pub returns : goal.returns
returns g c =
    let asks = sym c.asks_conservative.ensures ∙ c.if-not-asks_conservative.false in
    let paid = even-steps c.args.kind c.args.instance.now c.args.steps.now c.least_join.new.steps asks c.least_join.ensures.steps in
    record {
      settled = c.judged-document.ensures;
      idle = λ never. absurd (true≢false (sym asks ∙ never));
      from_zero = λ zero. absurd (true≢false (sym (c.weighs_from_zero.ensures.1 zero) ∙ c.if-weighs_from_zero.false));
      steps = paid;
    }
