use Rattle.mb_problem.proofs.Common.{ℕ, List, take, get_or, sym, ap, ◌∙◌, take_more, Network}
use Rattle.array_joins.specs.Marked.{cleared, unmarked}
use Rattle.array_joins.proofs.Marks.{unmarked-none, unmarked-more}
use Rattle.array_joins.proofs.marking.unmark.Goals as goal

pub loop-terminal-init : goal.loop-terminal-init
loop-terminal-init c = unmarked-none c.args.instance.now

pub loop-terminal-preserved : goal.loop-terminal-preserved
loop-terminal-preserved c =
    let i : Network = c.args.instance.now in
    let ts : List ℕ = c.args.terminals.now in
    let k = c.loop-terminal.terminal-index in
    let v = get_or ts k 0 in
    c.clear_one.ensures ∙ ap (λ (j : Network). cleared j v) c.loop-terminal.invariant ∙ unmarked-more i (take k ts) v
    ∙ ap (unmarked i) (sym (take_more ts k 0 c.loop-terminal-test.true))
