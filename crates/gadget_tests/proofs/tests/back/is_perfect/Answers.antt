use Rattle.graph_theory.proofs.Common.{rules, ◌≡◌, ℕ, ◌+◌, ◌≤◌, ap, sym, ◌∙◌, inl, inr, arith, List, All, count_by, cases_eq, Multigraph, IsEdgeNumber, edge_of}
use Rattle.graph_theory.proofs.Common.{touches}
use Rattle.gadget_tests.proofs.tests.back.is_perfect.Goals as goal

one_more : (g : Multigraph) (es : List ℕ) (k : ℕ) → ((v : ℕ) → 1 ≤ v → v ≤ k → count_by (λ e. touches (edge_of g e) v) es ≡ 1) → count_by (λ e. touches (edge_of g e) (k + 1)) es ≡ 1
    → (v : ℕ) → 1 ≤ v → v ≤ k + 1 → count_by (λ e. touches (edge_of g e) v) es ≡ 1
one_more g es k before here v low high =
    elim (cases_eq v (k + 1)) [
      | inl h ↦ ap (λ (x : ℕ). count_by (λ e. touches (edge_of g e) x) es) h ∙ here
      | inr d ↦ before v low (omega arith)
    ]

pub loop-k-preserved : goal.loop-k-preserved
loop-k-preserved c =
    let count : c.count_at.result ≡ count_by (λ e. touches (edge_of c.args.graph.now e) (c.loop-k.k + 1)) c.args.edges.now = search rules in
    let one : c.count_at.result ≡ 1 = search rules in
    one_more c.args.graph.now c.args.edges.now c.loop-k.k c.loop-k.invariant (sym count ∙ one)

pub returns : goal.returns
returns c = λ _.
    let numbers : All (IsEdgeNumber c.args.graph.now) c.args.edges.now = search rules in
    let past = c.loop-k-test.false in
    let vertices : c.vertices-vertices.result ≡ c.args.graph.now.vertices = c.vertices-vertices.ensures.count in
    record {
      numbers = numbers;
      one_each = λ v low high. c.loop-k.invariant v low (omega (arith, past, vertices, high));
    }
