use Rattle.mb_problem.proofs.Common.{◌≡◌, ℕ, ◌-◌, ◌≤◌, List, length, take, slice_index, slice_set, Some, None, sym, ap, ◌∙◌, arith, take_more, Network, vertices, option_map}
use Rattle.array_joins.specs.declared.outcome.TerminalRule.{TerminalRule}
use Rattle.array_joins.specs.Terminals.{fault, terminal_rule, terminal_fault, network_with}
use Rattle.array_joins.proofs.Firsts.{none-more, first-found}
use Rattle.array_joins.proofs.Marks.{with-more, vertices-with, ruled-within}
use Rattle.array_joins.proofs.marking.mark.Goals as goal

pub returns-in-Some-clause-fault : goal.returns-in-Some-clause-fault
returns-in-Some-clause-fault c =
    let i : Network = c.args.instance.now in
    let ts : List ℕ = c.args.terminals.now in
    let k = c.loop-k.k in
    let rule = c.in-Some.rule in
    let here : terminal_rule (vertices i) (take k ts) (slice_index ts k) ≡ Some rule = sym (c.terminal_rule.ensures i (take k ts) c.loop-k.invariant.marked) ∙ c.in-Some.is in
    sym (first-found (terminal_fault (vertices i) ts) (length ts) k (fault rule k) c.loop-k.invariant.none (ap (option_map (λ (r : TerminalRule). fault r k)) here) c.loop-k-test.true)

pub set_value-requires-clause-high : goal.set_value-requires-clause-high
set_value-requires-clause-high c =
    let i : Network = c.args.instance.now in
    let ts : List ℕ = c.args.terminals.now in
    let k = c.loop-k.k in
    let v = slice_index ts k in
    let here : terminal_rule (vertices i) (take k ts) v ≡ None = sym (c.terminal_rule.ensures i (take k ts) c.loop-k.invariant.marked) ∙ c.in_default.is in
    let high : v ≤ vertices i = (ruled-within (vertices i) (take k ts) v here).1 in
    let size : vertices c.loop-k.instance ≡ vertices i = ap vertices c.loop-k.invariant.marked ∙ vertices-with i (take k ts) in
    let same : c.new.result ≡ v = c.new.ensures in
    omega (arith, high, size, same)

pub loop-k-preserved : goal.loop-k-preserved
loop-k-preserved c =
    let i : Network = c.args.instance.now in
    let ts : List ℕ = c.args.terminals.now in
    let k = c.loop-k.k in
    let v = slice_index ts k in
    let here : terminal_rule (vertices i) (take k ts) v ≡ None = sym (c.terminal_rule.ensures i (take k ts) c.loop-k.invariant.marked) ∙ c.in_default.is in
    let low = (ruled-within (vertices i) (take k ts) v here).0 in
    let high = (ruled-within (vertices i) (take k ts) v here).1 in
    let put : Network → List ℕ → Network = λ j vs. record j { values = vs } in
    record {
      marked = c.set_value.ensures.set ∙ ap (λ (w : ℕ). put c.loop-k.instance (slice_set c.loop-k.instance.values (w - 1) 1)) c.new.ensures
          ∙ ap (λ (j : Network). record j { values = slice_set j.values (v - 1) 1 }) c.loop-k.invariant.marked ∙ with-more i (take k ts) v low high
          ∙ ap (network_with i) (sym (take_more ts k 0 c.loop-k-test.true));
      none = none-more (terminal_fault (vertices i) ts) k c.loop-k.invariant.none (ap (option_map (λ (r : TerminalRule). fault r k)) here);
    }
