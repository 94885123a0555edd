use Rattle.certificates.proofs.Common.{◌≡◌, ◌≤◌, List, length, All, sym, ap, ◌∙◌, subst, arith, CountLine, AscendsBy, counts_of, IsCountWithin, lines-push}
use Rattle.document_lines.specs.Lines.{is_used, line_at}
use Rattle.document_lines.proofs.CountLines.{lines_to, counts-lines, lines-ascend, lines-within, lines-few, lines-unread}
use Rattle.document_lines.proofs.counts.used.Goals as goal

pub loop-place-preserved : goal.loop-place-preserved
loop-place-preserved c =
    lines-push (line_at c.args.counts.now)
    (is_used c.args.counts.now) c.loop-place.place c.loop-place.lines.items c.push_used.new.lines.items c.loop-place.invariant c.in_ok-push_used.ensures

pub returns : goal.returns
returns c =
    let cs = c.args.counts.now in
    let all : c.loop-place.place ≡ length cs = omega (arith, c.requires.size) in
    let is = c.loop-place.invariant ∙ ap (lines_to cs) all in
    record {
      counts = ap (λ (xs : List CountLine). counts_of xs (length cs)) is ∙ counts-lines cs;
      ascending = subst (λ (xs : List CountLine). AscendsBy (λ x. x.edge) xs) (sym is) (lines-ascend cs (length cs));
      unread = subst (λ (xs : List CountLine). All (λ x. x.line ≡ 1) xs) (sym is) (lines-unread cs (length cs));
      in_range = subst (λ (xs : List CountLine). All (IsCountWithin (length cs)) xs) (sym is) (lines-within cs c.requires.value_limit);
      size_limit = subst (λ (xs : List CountLine). length xs ≤ length cs) (sym is) (lines-few cs (length cs));
    }
