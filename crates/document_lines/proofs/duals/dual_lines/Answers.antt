use Rattle.certificates.proofs.Common.{◌≡◌, ◌+◌, pos, List, map, All, sym, ap, ◌∙◌, subst, arith, rules, to_z, of_z, w64, ints, dual_of, DualLine, AscendsBy}
use Rattle.certificates.proofs.Common.{IsDualWithin}
use Rattle.document_lines.proofs.DualLines.{lines_to, lines-push, lines-duals, lines-ascend, lines-within, lines-unread}
use Rattle.document_lines.proofs.duals.dual_lines.Goals as goal

pub loop-place-preserved : goal.loop-place-preserved
loop-place-preserved c =
    let ys = c.args.engine.now.duals in
    let k = c.loop-place.place in
    let number : c.from.result ≡ pos (k + 1) = omega (arith, ints, c.from.ensures) in
    let vertex : to_z w64 (of_z w64 c.from.result) ≡ pos (k + 1) = omega (arith, ints) in
    let same : to_z w64 (of_z w64 c.dual.result) ≡ c.dual.result = search rules in
    let place : c.new.result ≡ k + 1 = omega arith in
    let dual : c.dual.result ≡ dual_of ys (k + 1) = c.dual.ensures ∙ ap (dual_of ys) place in
    lines-push ys k c.loop-place.lines.items c.push.new.self.items _ _ c.loop-place.invariant c.in_ok-push.ensures.items vertex (same ∙ dual)

pub returns : goal.returns
returns c =
    let ys = c.args.engine.now.duals in
    let n = c.args.graph.now.vertices in
    let all : c.loop-place.place ≡ n = omega arith in
    let is = c.loop-place.invariant ∙ ap (lines_to ys) all in
    record {
      duals = ap (λ (xs : List DualLine). map (λ (y : DualLine). y.dual) xs) (is ∙ ap (lines_to ys) (sym c.requires.one_each)) ∙ lines-duals ys;
      ascending = subst (λ (xs : List DualLine). AscendsBy (λ y. y.vertex) xs) (sym is) (lines-ascend ys n);
      unread = subst (λ (xs : List DualLine). All (λ y. y.line ≡ 1) xs) (sym is) (lines-unread ys n);
      in_range = subst (λ (xs : List DualLine). All (IsDualWithin n) xs) (sym is) (lines-within ys n c.requires.one_each c.requires.in_range);
    }
