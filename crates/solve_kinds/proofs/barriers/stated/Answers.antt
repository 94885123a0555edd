use Rattle.certificates.proofs.Common.{◌≡◌, ℕ, ℤ, List, IfOk, sym, subst, rules, to_z, of_z, w64, IfOk-weaker, IsBarrier, Kind, plain_graph, lighter_than, only-bottleneck}
use Rattle.bottleneck.specs.declared.found.Bottleneck.TheVariants.{Best, Unmatched}
use Rattle.bottleneck.specs.Thresholds.{IsThreshold}
use Rattle.solve_answers.specs.Excluding.{StatesSet}
use Rattle.solve_answers.specs.Settled.{SettlesBare}
use Rattle.solve_kinds.specs.Lightest.{StatesLightest}
use Rattle.solve_kinds.proofs.SettlingLightest.{settles-lightest, settles-unmatched}
use Rattle.solve_kinds.proofs.barriers.stated.Goals as goal

pub returns-in-Best : goal.returns-in-Best
returns-in-Best c =
    let kind = c.args.kind in
    let i = c.args.instance.now in
    let w = c.in-Best.weight in
    let set = c.in-Best.barrier in
    let same : to_z w64 (of_z w64 w) ≡ w = search rules in
    let there : c.as_slice-in-Best.result.now ≡ set = search rules in
    let found : IsThreshold i (Best w c.in-Best.matching set) = subst (IsThreshold i) c.in-Best.is c.requires.found in
    IfOk-weaker c.best.result (StatesLightest i w set) (SettlesBare kind i)
    (λ d p. subst (λ (k : Kind). SettlesBare k i d) (only-bottleneck kind c.requires.proof) (settles-lightest i set d w c.requires.network
    (record {
      vertex_set = λ some. (found.2 some).vertex_set;
      excludes = λ some. subst (λ (z : ℤ). IsBarrier (lighter_than z (plain_graph i)) set) (sym p.weight_is) (found.2 some).excludes;
    }) p))
    (subst (λ (z : ℤ). IfOk c.best.result (StatesLightest i z set)) same
    (subst (λ (vs : List ℕ). IfOk c.best.result (StatesLightest i (to_z w64 (of_z w64 w)) vs)) there c.best.ensures))

pub returns-in-Unmatched : goal.returns-in-Unmatched
returns-in-Unmatched c =
    let kind = c.args.kind in
    let i = c.args.instance.now in
    let set = c.in-Unmatched.barrier in
    let there : c.as_slice-in-Unmatched.result.now ≡ set = search rules in
    let found : IsThreshold i (Unmatched set) = subst (IsThreshold i) c.in-Unmatched.is c.requires.found in
    IfOk-weaker c.unmatched.result (StatesSet kind set) (SettlesBare kind i)
    (λ d. subst (λ (k : Kind). StatesSet k set d → SettlesBare k i d) (only-bottleneck kind c.requires.proof) (settles-unmatched i set d c.requires.network found.0 found.1))
    (subst (λ (vs : List ℕ). IfOk c.unmatched.result (StatesSet kind vs)) there c.unmatched.ensures)
