use Rattle.mb_problem.proofs.Common.{◌≡◌, ℕ, sym, ap, ◌∙◌, Network, vertices, value_of}
use Rattle.array_call.specs.Faults.{is_vertex}
use Rattle.array_joins.specs.Terminals.{network_with}
use Rattle.array_joins.proofs.Marks.{ruled-out, ruled-free, ruled-held, vertices-with}
use Rattle.array_joins.proofs.marking.terminal_rule.Goals as goal

pub returns-then-not-is_vertex : goal.returns-then-not-is_vertex
returns-then-not-is_vertex c = λ i before is.
    let size : c.vertices.result ≡ vertices i = c.vertices.ensures.count ∙ ap vertices is ∙ vertices-with i before in
    sym (ruled-out (vertices i) before c.args.terminal (ap (λ (n : ℕ). is_vertex n c.args.terminal) (sym size) ∙ sym c.is_vertex.ensures ∙ c.if-not-is_vertex.true))

pub returns-then-value-ne0 : goal.returns-then-value-ne0
returns-then-value-ne0 c = λ i before is.
    let size : c.vertices.result ≡ vertices i = c.vertices.ensures.count ∙ ap vertices is ∙ vertices-with i before in
    let there = ap (λ (n : ℕ). is_vertex n c.args.terminal) (sym size) ∙ sym c.is_vertex.ensures ∙ c.if-not-is_vertex.false in
    let value : c.value.result ≡ value_of (network_with i before) c.args.terminal = c.value.ensures.value ∙ ap (value_of c.args.instance.now) c.new.ensures
    ∙ ap (λ (j : Network). value_of j c.args.terminal) is in
    sym (ruled-held i before c.args.terminal c.value.result there value c.if-value-ne0.true)

pub returns : goal.returns
returns c = λ i before is.
    let size : c.vertices.result ≡ vertices i = c.vertices.ensures.count ∙ ap vertices is ∙ vertices-with i before in
    let there = ap (λ (n : ℕ). is_vertex n c.args.terminal) (sym size) ∙ sym c.is_vertex.ensures ∙ c.if-not-is_vertex.false in
    let value : c.value.result ≡ value_of (network_with i before) c.args.terminal = c.value.ensures.value ∙ ap (value_of c.args.instance.now) c.new.ensures
    ∙ ap (λ (j : Network). value_of j c.args.terminal) is in
    sym (ruled-free i before c.args.terminal c.value.result there value c.if-value-ne0.false)
