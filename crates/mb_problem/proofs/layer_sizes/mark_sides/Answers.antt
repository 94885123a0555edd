use Rattle.graph_theory.proofs.Common.{◌≡◌, ℕ, ◌<◌, ◌≤◌, false, List, length, slice_index, ap, ◌∙◌, arith, length-set, get_or-set_other}
use Rattle.mb_problem.specs.Size.{in_first, in_second}
use Rattle.mb_problem.proofs.SideLemmas.{odd_before-next, first-stands, second-stands, mark-next}
use Rattle.mb_problem.proofs.layer_sizes.mark_sides.Goals as goal

pub loop-k-preserved : goal.loop-k-preserved
loop-k-preserved c =
    let i = c.args.instance.now in
    let odd = c.args.odd in
    let k = c.loop-k.k in
    let x : ℕ = slice_index c.value_list-value-items.result.now k in
    let value : x ≡ slice_index i.values k = ap (λ (values : List ℕ). slice_index values k) c.value_list-value-items.ensures.list in
    let size : length c.value_list-value-items.result.now ≡ length i.values = ap (λ (values : List ℕ). length values) c.value_list-value-items.ensures.list in
    let here : k < length c.value_list-value-items.result.now = c.loop-k-test.true in
    let count = c.loop-k.invariant.before in
    let few : c.loop-k.before ≤ k = c.loop-k.invariant.size_limit in
    let first_size : length c.loop-k.first ≡ length c.args.first.now = c.loop-k.invariant.first_size in
    let second_size : length c.loop-k.second ≡ length c.args.second.now = c.loop-k.invariant.second_size in
    let first_room : length i.values ≤ length c.args.first.now = c.requires.first_room in
    let second_room : length i.values ≤ length c.args.second.now = c.requires.second_room in
    record {
      before = odd_before-next i k x c.loop-k.before value count;
      size_limit = omega arith;
      first_size = length-set c.loop-k.first k c.stands-one.result.0 ∙ first_size;
      second_size = length-set c.loop-k.second k c.stands-one.result.1 ∙ second_size;
      first = mark-next (in_first odd i) c.loop-k.first k c.stands-one.result.0 (omega arith) (c.stands-one.ensures.first ∙ first-stands odd i k x c.loop-k.before value count)
          c.loop-k.invariant.first;
      second = mark-next (in_second odd i) c.loop-k.second k c.stands-one.result.1 (omega arith) (c.stands-one.ensures.second ∙ second-stands odd i k x c.loop-k.before value count)
          c.loop-k.invariant.second;
      first_rest = λ j behind. get_or-set_other c.loop-k.first k j c.stands-one.result.0 false (λ z. omega arith) ∙ c.loop-k.invariant.first_rest j (omega arith);
      second_rest = λ j behind. get_or-set_other c.loop-k.second k j c.stands-one.result.1 false (λ z. omega arith) ∙ c.loop-k.invariant.second_rest j (omega arith);
    }

pub returns-clause-first : goal.returns-clause-first
returns-clause-first c = λ j below. c.loop-k.invariant.first j (omega (arith, below, c.loop-k-test.false, ap length c.value_list-value-items.ensures.list))

pub returns-clause-second : goal.returns-clause-second
returns-clause-second c = λ j below. c.loop-k.invariant.second j (omega (arith, below, c.loop-k-test.false, ap length c.value_list-value-items.ensures.list))

pub returns-clause-first_rest : goal.returns-clause-first_rest
returns-clause-first_rest c = λ j past. c.loop-k.invariant.first_rest j (omega (arith, past, c.loop-k.auto.k-end, ap length c.value_list-value-items.ensures.list))

pub returns-clause-second_rest : goal.returns-clause-second_rest
returns-clause-second_rest c = λ j past. c.loop-k.invariant.second_rest j (omega (arith, past, c.loop-k.auto.k-end, ap length c.value_list-value-items.ensures.list))
