use Rattle.certificates.proofs.Common.{◌≡◌, true, false, Result, Ok, Err, IfOk, refl, sym, ◌∙◌, subst, true≢false, IfOk-weaker, Kind, Document}
use Rattle.certificates.proofs.Common.{Infeasible, only-bottleneck, only-gallai, ap}
use Rattle.mb_problem.specs.Kinds.{are_duals}
use Rattle.solve_answers.specs.Settled.{IsWrittenFor, SettlesBare, SettlesFor}
use Rattle.solve_answers.specs.Solved.{is_tested_first}
use Rattle.solve_kinds.proofs.Settling.{settles-for, written-for}
use Rattle.solve_kinds.proofs.solving.solve_written.Goals as goal

-- a kind that isn't tested first has nothing to show of that
idle : {E : Type 0} (kind : Kind) (P : Type 0) (r : Result Document E) → is_tested_first kind ≡ false → IfOk r (λ d. is_tested_first kind ≡ true → d.status ≡ Infeasible → P)
idle kind P (Ok d) never = λ first status. absurd (true≢false (sym first ∙ never))
idle kind P (Err e) never = tt

pub returns-in-Duals-clause-written : goal.returns-in-Duals-clause-written
returns-in-Duals-clause-written g c =
    let kind = c.args.kind in
    let i = c.args.instance.now in
    let detail = c.args.detail in
    IfOk-weaker c.solve_by_duals.result (SettlesFor detail kind i) (IsWrittenFor kind i detail) (written-for detail kind i) c.solve_by_duals.ensures.settled

pub returns-in-LighterBarrier : goal.returns-in-LighterBarrier
returns-in-LighterBarrier g c =
    let kind = c.args.kind in
    let i = c.args.instance.now in
    let detail = c.args.detail in
    let r = c.lightest.result in
    let e = c.lightest.ensures in
    let full = IfOk-weaker r (SettlesBare kind i) (SettlesFor detail kind i) (settles-for detail kind i) e.settled in
    let never = subst (λ (k : Kind). is_tested_first k ≡ false) (only-bottleneck kind (sym c.in-LighterBarrier.ensures)) refl in
    let no-duals = ap are_duals (sym c.in-LighterBarrier.ensures) in
    record {
      written = IfOk-weaker r _ _ (written-for detail kind i) full;
      settled = full;
      steps = e.steps;
      once = λ duals zero. absurd (true≢false (sym duals ∙ no-duals));
      unsearched = idle kind _ r never;
    }

pub returns-in-OuterPaths : goal.returns-in-OuterPaths
returns-in-OuterPaths g c =
    let kind = c.args.kind in
    let i = c.args.instance.now in
    let detail = c.args.detail in
    let r = c.greatest.result in
    let e = c.greatest.ensures in
    let full = IfOk-weaker r (SettlesBare kind i) (SettlesFor detail kind i) (settles-for detail kind i) e.settled in
    let never = subst (λ (k : Kind). is_tested_first k ≡ false) (only-gallai kind (sym c.in-OuterPaths.ensures)) refl in
    let no-duals = ap are_duals (sym c.in-OuterPaths.ensures) in
    record {
      written = IfOk-weaker r _ _ (written-for detail kind i) full;
      settled = full;
      steps = e.steps;
      once = λ duals zero. absurd (true≢false (sym duals ∙ no-duals));
      unsearched = idle kind _ r never;
    }
