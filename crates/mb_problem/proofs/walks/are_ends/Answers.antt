use Rattle.graph_theory.proofs.Common.{◌≡◌, ℕ, ◌+◌, ◌<◌, ◌≤◌, ◌%◌, ◌⊎◌, ◌↔◌, get_or, List, length, ap, sym, arith, subst}
use Rattle.graph_theory.proofs.Common.{eq-eqb, eqb-true, false≢true}
use Rattle.mb_problem.specs.Network.{vertices}
use Rattle.mb_problem.specs.Feasible.{AreEnds}
use Rattle.mb_problem.proofs.EndLemmas.{ends-low, ends-high, ends-there, same_flags}
use Rattle.mb_problem.proofs.walks.are_ends.Goals as goal

pub returns-then-number-eq0 : goal.returns-then-number-eq0
returns-then-number-eq0 c = (
  (λ t. absurd (false≢true t)),
  (λ (ends : AreEnds c.args.instance.now c.args.s c.args.t). (let low : 1 ≤ c.args.s = ends-low c.args.instance.now c.args.s c.args.t ends in absurd
      (omega (arith, low, c.number.ensures, c.if-number-eq0.true)))),
)

pub returns-then-number-vertices : goal.returns-then-number-vertices
returns-then-number-vertices c = (
  (λ t. absurd (false≢true t)),
  (λ (ends : AreEnds c.args.instance.now c.args.s c.args.t). (let high : c.args.t ≤ vertices c.args.instance.now = ends-high c.args.instance.now c.args.s c.args.t ends in absurd
      (omega arith))),
)

pub returns-then-is_odd-is_one_of : goal.returns-then-is_odd-is_one_of
returns-then-is_odd-is_one_of c =
    let i = c.args.instance.now in
    let k = c.loop-k.k in
    let s = c.args.s in
    let t = c.args.t in
    let items : c.value_list-value-items.result.now ≡ i.values = c.value_list-value-items.ensures.list in
    let size : length c.value_list-value-items.result.now ≡ length i.values = ap length items in
    let below : k < vertices i = omega (arith, size, c.loop-k-test.true) in (
      (λ t. absurd (false≢true t)),
      (λ (ends : AreEnds i s t).
          (let each : (get_or i.values k 0 % 2 ≡ 1) ↔ ((k + 1 ≡ s) ⊎ (k + 1 ≡ t)) = ends-there i s t k ends below in
          let there : (get_or c.value_list-value-items.result.now k 0 % 2 ≡ 1) ↔ ((k + 1 ≡ s) ⊎ (k + 1 ≡ t)) = subst (λ (vs : List ℕ). (get_or vs k 0 % 2 ≡ 1) ↔ ((k + 1 ≡ s) ⊎ (k + 1 ≡ t)))
          (sym items) each in
          absurd (same_flags _ _ (λ h. c.is_one_of.ensures.1 (there.0 (eqb-true _ 1 h))) (λ h. eq-eqb _ 1 (there.1 (c.is_one_of.ensures.0 h))) c.if-is_odd-is_one_of.true))),
    )
