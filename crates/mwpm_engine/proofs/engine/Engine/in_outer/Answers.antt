use Rattle.alt_forest.proofs.Common.{◌≡◌, ◌∙◌, ◌≤◌, sym, ap, subst, rules, holds, is_label, range_vertex, state_of, Outer}
use Rattle.mwpm_engine.specs.Solutions.{Solution}
use Rattle.mwpm_engine.proofs.Border.{label_test}
use Rattle.mwpm_engine.proofs.engine.Engine.in_outer.Goals as goal

pub returns : goal.returns
returns c =
    let s = c.self.inside.search in
    let high : c.args.v ≤ s.graph.vertices = subst (λ (t : Solution). c.args.v ≤ t.graph.vertices) (sym c.self.view_is) c.requires.high in
    let test : c.eq.result ≡ is_label c.label_of.result Outer = search rules in
    test ∙ ap (λ l. is_label l Outer) c.label_of.ensures ∙ sym (label_test (state_of s) Outer c.args.v (range_vertex s.graph.vertices c.args.v c.requires.low high))
    ∙ ap (λ (t : Solution). holds t.outer c.args.v) c.self.view_is
