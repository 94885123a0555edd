use Rattle.graph_theory.proofs.Common.{◌≡◌, ◌≤◌, ◌+◌, ◌*◌, slice_index, drop, arith, rules}
use Rattle.brute_force.specs.Digits.{digit_lists}
use Rattle.brute_force.proofs.Codes.{some-lists, lists-on, lists-many}
use Rattle.brute_force.proofs.digits.lists.Goals as goal

pub returns-then-total-gt-TRIAL_LIMIT : goal.returns-then-total-gt-TRIAL_LIMIT
returns-then-total-gt-TRIAL_LIMIT c =
    let mosts = c.args.mosts.now in
    let k = c.loop-most.most-index in
    let item : c.from.result ≡ slice_index mosts k = search rules in
    let next = lists-on mosts k c.loop-most.total c.from.result c.loop-most-test.true item c.loop-most.invariant.product in
    lists-many mosts (digit_lists (drop (k + 1) mosts)) _ _ (some-lists (drop (k + 1) mosts)) c.if-total-gt-TRIAL_LIMIT.true next

pub loop-most-preserved : goal.loop-most-preserved
loop-most-preserved c =
    let mosts = c.args.mosts.now in
    let k = c.loop-most.most-index in
    let item : c.from.result ≡ slice_index mosts k = search rules in
    record {
      size_limit = (let few : c.loop-most.total * (c.from.result + 1) ≤ 1048576 = omega (arith, c.if-total-gt-TRIAL_LIMIT.false) in few);
      product = lists-on mosts k c.loop-most.total c.from.result c.loop-most-test.true item c.loop-most.invariant.product;
    }
