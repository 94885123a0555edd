use Rattle.graph_theory.proofs.Common.{◌≡◌, ℕ, ◌-◌, ◌||◌, Bool, true, false, cond, eqb, refl, ap, sym, ◌∙◌, arith, false≢true, touches, other_end, edge_of}
use Rattle.graph_theory.specs.declared.edge.Edge.{Edge}
use Rattle.mb_problem.specs.Network.{Network, graph_of, instance_edge_of}
use Rattle.mb_problem.proofs.EdgeLemmas.{edge_at-graph_of, edges-count}
use Rattle.mb_problem.proofs.walks.step.Goals as goal

-- whether an edge has a vertex as an end, and where it leads to from there, by what its two ends are
record Ends (e : Edge) (at : ℕ) (a b : Bool) : Type 0 where
  meets : touches e at ≡ (a || b)
  to : other_end e at ≡ cond a e.v e.u

ends : (i : Network) (e at u v : ℕ) (a b : Bool) → u ≡ (instance_edge_of i e).u → v ≡ (instance_edge_of i e).v → eqb u at ≡ a → eqb v at ≡ b →
    Ends (edge_of (graph_of i) e) at a b
ends i e at u v a b is_u is_v at_u at_v =
    let is = edge_at-graph_of i (e - 1) in
    let first : eqb (edge_of (graph_of i) e).u at ≡ a = ap (λ (t : Edge). eqb t.u at) is ∙ ap (λ (x : ℕ). eqb x at) (sym is_u) ∙ at_u in
    let second : eqb (edge_of (graph_of i) e).v at ≡ b = ap (λ (t : Edge). eqb t.v at) is ∙ ap (λ (x : ℕ). eqb x at) (sym is_v) ∙ at_v in
    record { meets = rw (first, second) refl; to = rw first refl }

pub returns-then-number-edges : goal.returns-then-number-edges
returns-then-number-edges c = λ p. absurd (omega (arith, p.0.1, edges-count c.args.instance.now, c.number-2.ensures, c.edges.ensures.count, c.if-number-edges.true))

pub returns-then-eq : goal.returns-then-eq
returns-then-eq c =
    let i = c.args.instance.now in
    let there = ends i c.args.e c.args.at _ _ true _ c.edge-u.ensures.from c.edge-u.ensures.to (sym c.eq.ensures ∙ c.if-eq.true) refl in (
      (omega (arith, c.number.ensures, c.if-number-eq0.false), omega (arith, edges-count i, c.number-2.ensures, c.edges.ensures.count, c.if-number-edges.false)),
      there.meets,
      c.edge-u.ensures.to ∙ ap (λ (t : Edge). t.v) (sym (edge_at-graph_of i (c.args.e - 1))) ∙ sym there.to,
    )

pub returns-then-eq-2 : goal.returns-then-eq-2
returns-then-eq-2 c =
    let i = c.args.instance.now in
    let there = ends i c.args.e c.args.at _ _ false true c.edge-u.ensures.from c.edge-u.ensures.to (sym c.eq.ensures ∙ c.if-eq.false) (sym c.eq-2.ensures ∙ c.if-eq-2.true) in (
      (omega (arith, c.number.ensures, c.if-number-eq0.false), omega (arith, edges-count i, c.number-2.ensures, c.edges.ensures.count, c.if-number-edges.false)),
      there.meets,
      c.edge-u.ensures.from ∙ ap (λ (t : Edge). t.u) (sym (edge_at-graph_of i (c.args.e - 1))) ∙ sym there.to,
    )

pub returns : goal.returns
returns c = λ p. absurd (false≢true (sym (ends c.args.instance.now c.args.e c.args.at _ _ false false c.edge-u.ensures.from c.edge-u.ensures.to (sym c.eq.ensures ∙ c.if-eq.false)
    (sym c.eq-2.ensures ∙ c.if-eq-2.false)).meets ∙ p.1))
