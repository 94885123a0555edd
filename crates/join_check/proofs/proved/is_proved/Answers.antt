use Rattle.mb_problem.proofs.Common.{IsTrue, rules, ℤ, pos, ◌+ℤ◌, ◌*ℤ◌, int_sum_to, walk_weight, graph_of}
use Rattle.join_check.specs.Forests.{turned_weight}
use Rattle.mb_problem.proofs.Common.{◌≡◌, ℕ, ◌-◌, List, Bool, length, slice_index, refl, subst, arith}
use Rattle.join_check.specs.Checks.{at, AreFlags, ArePlaced}
use Rattle.join_check.proofs.Assembled.{least-by}
use Rattle.join_check.proofs.proved.is_proved.Goals as goal

pub returns : goal.returns
returns c = record {
  least = λ t.
      let joins : IsTrue c.in_ok-joins.joins = first_of (search rules, grind arith) in
      let is_placed : IsTrue c.in_ok-placed.placed = first_of (search rules, grind arith) in
      let i = c.args.instance.now in
      let f = c.args.levels.now in
      let odds = c.in_ok-odds.odds.items in
      let flags = c.in_ok-odd.odd.items in
      let marked = subst (λ (xs : List ℕ). AreFlags i (λ v. slice_index xs (v - 1)) flags) c.deref-2.ensures.value c.in_ok-odd.ensures in
      let places = subst (λ (xs : List Bool). ArePlaced f xs) c.deref-3.ensures.value (c.in_ok-placed.ensures is_placed) in
      least-by c.args.parity.now i c.args.join.now f odds flags c.in_ok-odds.ensures.network (c.if-not-has_shape.ensures refl) (c.if-not-is_forest.ensures refl) (c.in_ok-joins.ensures joins)
      (subst (λ (xs : List ℤ). int_sum_to (at xs) (length xs) +ℤ pos 2 *ℤ turned_weight i
      ≡ pos 2 *ℤ walk_weight (graph_of i) c.args.join.now) c.as_slice.ensures (c.if-not-is_paid.ensures refl)) c.in_ok-odds.ensures.each marked places (c.in_ok-wide.ensures t);
}
