use Rattle.graph_theory.proofs.Common.{◌≡◌, ◌-◌, ◌<◌, ◌^◌, ℕ, List, [], ◌∷◌, ◌++◌, length, arith, ap, ◌∙◌, subst, sym, length-append, All-push, rules}
use Rattle.graph_theory.proofs.Common.{Multigraph, IsGraph, IsEdgeWithin, IsWeight}
use Rattle.graph_theory.specs.declared.edge.Edge.{Edge}
use Rattle.weighted_graph.proofs.graph.Graph.push.Goals as goal

abbrev graph : ℕ → List Edge → Multigraph
graph n es = record { vertices = n; edges = es }

-- one more edge
pushed : (n : ℕ) (es fs : List Edge) (e : Edge) → IsGraph (graph n es) → length es < 2 ^ 32 - 1 → IsEdgeWithin n e → IsWeight e.w → fs ≡ es ++ e ∷ [] → IsGraph (graph n fs)
pushed n es fs e ok room ends weight longer = subst (λ (xs : List Edge). IsGraph (graph n xs)) (sym longer) record {
  few_vertices = ok.few_vertices;
  few_edges = omega (arith, length-append es (e ∷ []), room);
  ends = All-push (IsEdgeWithin n) es e ok.ends ends;
  weights = All-push (λ (x : Edge). IsWeight x.w) es e ok.weights weight;
}

pub returns-clause-added : goal.returns-clause-added
returns-clause-added c =
    let same : c.args.self.now ≡ graph c.self.inside.vertices c.self.inside.edges.items = search rules in
    ap (graph c.self.inside.vertices) c.in_ok-push.ensures.items ∙ ap (λ (g : Multigraph). graph g.vertices (g.edges ++ c.args.edge ∷ [])) (sym same)

pub returns-clause-graph : goal.returns-clause-graph
returns-clause-graph c =
    let same : c.args.self.now ≡ graph c.self.inside.vertices c.self.inside.edges.items = search rules in
    let room = subst (λ (g : Multigraph). length g.edges < 2 ^ 32 - 1) same c.requires.room in
    let ends = subst (λ (g : Multigraph). IsEdgeWithin g.vertices c.args.edge) same c.requires.ends in
    pushed c.self.inside.vertices c.self.inside.edges.items _ c.args.edge c.self.invariant room ends c.requires.weight c.in_ok-push.ensures.items

pub invariant_of-self-2 : goal.invariant_of-self-2
invariant_of-self-2 c = returns-clause-graph c
