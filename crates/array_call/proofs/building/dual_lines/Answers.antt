use Rattle.certificates.proofs.Common.{◌≡◌, ℕ, ◌+◌, ◌-◌, pos, get_or, List, length, map, sym, ap, ◌∙◌, subst, arith, rules, to_z, of_z, w64, ints, DualLine, AscendsBy}
use Rattle.document_lines.proofs.DualLines.{lines_to, lines-push, lines-duals, lines-ascend}
use Rattle.array_call.proofs.building.dual_lines.Goals as goal

pub loop-k-preserved : goal.loop-k-preserved
loop-k-preserved c =
    let ys = c.args.duals.now in
    let k = c.loop-k.k in
    let same : to_z w64 (of_z w64 (get_or ys k (pos 0))) ≡ get_or ys k (pos 0) = search rules in
    lines-push ys k c.loop-k.lines.items c.push.new.self.items _ _ c.loop-k.invariant c.in_ok-push.ensures.items (omega (arith, ints))
    (same ∙ ap (λ (n : ℕ). get_or ys n (pos 0)) (let e : k ≡ k + 1 - 1 = omega arith in e))

pub returns-clause-ascending : goal.returns-clause-ascending
returns-clause-ascending c = subst (λ (xs : List DualLine). AscendsBy (λ y. y.vertex) xs) (sym c.loop-k.invariant) (lines-ascend c.args.duals.now c.loop-k.k)

pub returns-clause-duals : goal.returns-clause-duals
returns-clause-duals c =
    let ys = c.args.duals.now in
    let all : c.loop-k.k ≡ length ys = omega arith in
    ap (λ (xs : List DualLine). map (λ (y : DualLine). y.dual) xs) (c.loop-k.invariant ∙ ap (lines_to ys) all) ∙ lines-duals ys
