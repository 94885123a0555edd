use Rattle.graph_theory.proofs.Common.{◌∙◌, ap, length, arith, length_push, nat_lt, ◌≡◌, true, ◌<◌, ◌^◌, IfOk-weaker}
use Rattle.graph_parts.specs.Marks.{is_marked}
use Rattle.dual_check.proofs.ListLemmas.{narrow-more, unmarked}
use Rattle.dual_check.proofs.narrow.narrow_sets.Goals as goal

pub loop-k-preserved : goal.loop-k-preserved
loop-k-preserved c =
    let so_far = c.loop-k.invariant in
    record {
      size = ap length c.in_ok-push.ensures.items ∙ length_push c.loop-k.narrow.items (nat_lt 0 c.spared_edges-edges.result) ∙ (omega (arith, so_far.size));
      alone = narrow-more c.args.alone.now c.loop-k.k c.spared_edges-edges.result c.loop-k.narrow.items c.push.new.self.items so_far.size so_far.alone c.spared_edges-edges.ensures.alone
          c.in_ok-push.ensures.items;
    }

pub returns-then-spared-saturating_mul-clause-alone : goal.returns-then-spared-saturating_mul-clause-alone
returns-then-spared-saturating_mul-clause-alone c = IfOk-weaker c.no_marks-then-spared-saturating_mul.result _ _
    (λ narrow. unmarked (λ k. is_marked c.args.alone.now k ≡ true) narrow.items) c.no_marks-then-spared-saturating_mul.ensures.none

pub returns-then-spared-saturating_mul-clause-numbered : goal.returns-then-spared-saturating_mul-clause-numbered
returns-then-spared-saturating_mul-clause-numbered c = IfOk-weaker c.no_marks-then-spared-saturating_mul.result _ _
    (λ narrow. unmarked (λ _. length c.args.sets.now < 2 ^ 32) narrow.items) c.no_marks-then-spared-saturating_mul.ensures.none

pub returns-then-sets-clause-alone : goal.returns-then-sets-clause-alone
returns-then-sets-clause-alone c = IfOk-weaker c.no_marks.result _ _ (λ narrow. unmarked (λ k. is_marked c.args.alone.now k ≡ true) narrow.items) c.no_marks.ensures.none

pub returns-then-sets-clause-numbered : goal.returns-then-sets-clause-numbered
returns-then-sets-clause-numbered c = IfOk-weaker c.no_marks.result _ _ (λ narrow. unmarked (λ _. length c.args.sets.now < 2 ^ 32) narrow.items) c.no_marks.ensures.none
