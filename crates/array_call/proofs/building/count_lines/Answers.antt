use Rattle.certificates.proofs.Common.{◌≡◌, ℕ, pos, List, map, length, All, sym, ap, ◌∙◌, subst, arith, CountLine, AscendsBy, counts_of, numbers, lines-push}
use Rattle.document_lines.specs.Lines.{is_used, line_at}
use Rattle.array_call.specs.Sheets.{IsCountOn}
use Rattle.document_lines.proofs.CountLines.{lines_to, lines-ascend}
use Rattle.array_call.proofs.Sheets.{lines-on}
use Rattle.array_call.proofs.CountsBack.{lines-back}
use Rattle.array_call.proofs.building.count_lines.Goals as goal

pub loop-k-preserved : goal.loop-k-preserved
loop-k-preserved c =
    let cs : List ℕ = numbers c.args.counts.now in
    lines-push (line_at cs) (is_used cs) c.loop-k.k c.loop-k.lines.items c.push_used.new.lines.items c.loop-k.invariant c.in_ok-push_used.ensures

pub returns-clause-ascending : goal.returns-clause-ascending
returns-clause-ascending c = subst (λ (xs : List CountLine). AscendsBy (λ x. x.edge) xs) (sym c.loop-k.invariant) (lines-ascend (numbers c.args.counts.now) c.loop-k.k)

pub returns-clause-within : goal.returns-clause-within
returns-clause-within c =
    let cs : List ℕ = numbers c.args.counts.now in
    let all : c.loop-k.k ≡ length c.args.counts.now = omega arith in
    subst (λ (xs : List CountLine). All (IsCountOn (length c.args.counts.now)) xs) (sym (c.loop-k.invariant ∙ ap (lines_to cs) all)) (lines-on cs (length c.args.counts.now))

pub returns-clause-counts : goal.returns-clause-counts
returns-clause-counts c =
    let cs : List ℕ = numbers c.args.counts.now in
    let n = length c.args.counts.now in
    let all : c.loop-k.k ≡ n = omega arith in
    ap (λ (xs : List CountLine). map pos (counts_of xs n)) (c.loop-k.invariant ∙ ap (lines_to cs) all) ∙ lines-back c.args.counts.now c.requires.natural
