use Rattle.certificates.proofs.Common.{◌≡◌, ◌↔◌, ◌≤◌, ℕ, Bool, IsTrue, Some, Result, Ok, Err, IfOk, List, ℤ, All, nat_abs, rules, refl, sym, ap, ◌∙◌, subst, to_z}
use Rattle.certificates.proofs.Common.{of_z, w64, AllocError, GRAPH_VERTEX_LIMIT, Multigraph, IsVertexSet, IsDecomposed, Kind, OuterPaths, proof_of, AreMarks, Network, vertices, only-gallai}
use Rattle.certificates.proofs.Common.{gadget_graph, Document, MemberLine, numbers, members_of, HasDecomposition, IsUpTo, barrier-set, up_to-more, few_vertices, barrier-in}
use Rattle.certificates.proofs.Common.{pos, ◌≤ℤ◌}
use Rattle.cert_check.proofs.paths.has_decomposition.Goals as goal

-- exact for the line's set, where the line is there
of_line : (kind : Kind) (i : Network) (d : Document) (u : MemberLine) (r : Result Bool AllocError) → d.barrier ≡ Some u →
    IfOk r (λ b. IsTrue b ↔ IsDecomposed (gadget_graph kind i) (nat_abs d.weight) (members_of d.outer) (numbers u.members)) → IfOk r (λ b. IsTrue b ↔ HasDecomposition kind i d)
of_line kind i d u (Ok b) is exact = ((λ t. rw is (exact.0 t)), (λ have. exact.1 (rw is at have)))
of_line kind i d u (Err e) is exact = tt

gadget-vertices : (kind : Kind) (i : Network) → proof_of kind ≡ OuterPaths → (gadget_graph kind i).vertices ≡ vertices i
gadget-vertices kind i is = subst (λ (k : Kind). (gadget_graph k i).vertices ≡ vertices i) (only-gallai kind is) refl

pub members_of-requires : goal.members_of-requires
members_of-requires c =
    let g = gadget_graph c.args.kind c.args.instance.now in
    let u : MemberLine = c.in-Some.u in
    let within : All (IsUpTo g.vertices) u.members = rw c.in-Some.is at (barrier-in c.args.kind c.args.instance.now c.args.document.now c.requires.within) in
    let few : g.vertices ≤ GRAPH_VERTEX_LIMIT = few_vertices c.args.kind c.args.instance.now c.requires.judged.limits in
    subst (λ (zs : List ℤ). All (IsUpTo GRAPH_VERTEX_LIMIT) zs) (sym c.as_slice.ensures) (up_to-more g.vertices GRAPH_VERTEX_LIMIT u.members few within)

pub is_decomposed-requires-clause-border : goal.is_decomposed-requires-clause-border
is_decomposed-requires-clause-border c =
    let u : MemberLine = c.in-Some.u in
    let g = gadget_graph c.args.kind c.args.instance.now in
    let set : IsVertexSet g.vertices (numbers u.members) = barrier-set c.args.kind c.args.instance.now c.args.document.now u c.requires.within c.in-Some.is in
    let border : c.deref.result.now ≡ numbers u.members = c.deref.ensures.value ∙ c.in_ok-border.ensures ∙ ap numbers c.as_slice.ensures in
    rw (c.in_ok-graph.ensures.graph, border) set

pub is_decomposed-requires-clause-outer : goal.is_decomposed-requires-clause-outer
is_decomposed-requires-clause-outer c =
    c.requires.outer.one_each ∙ sym (ap (λ (h : Multigraph). h.vertices) c.in_ok-graph.ensures.graph ∙ gadget-vertices c.args.kind c.args.instance.now c.requires.proof)

pub returns : goal.returns
returns c =
    let i = c.args.instance.now in
    let d = c.args.document.now in
    let u : MemberLine = c.in-Some.u in
    let graph : c.in_ok-graph.graph ≡ gadget_graph c.args.kind i = c.in_ok-graph.ensures.graph in
    let border : c.deref.result.now ≡ numbers u.members = c.deref.ensures.value ∙ c.in_ok-border.ensures ∙ ap numbers c.as_slice.ensures in
    let size : vertices i ≡ c.in_ok-graph.graph.vertices = sym (ap (λ (h : Multigraph). h.vertices) graph ∙ gadget-vertices c.args.kind i c.requires.proof) in
    let marks : AreMarks c.in_ok-graph.graph.vertices c.args.outer.now (members_of d.outer) = subst (λ (n : ℕ). AreMarks n c.args.outer.now (members_of d.outer)) size c.requires.outer in
    let cast : to_z w64 (of_z w64 d.weight) ≡ d.weight = search rules in
    let count : c.edge_count.result ≡ nat_abs d.weight = c.edge_count.ensures ∙ ap nat_abs cast in
    of_line c.args.kind i d u c.is_decomposed.result c.in-Some.is (rw (← graph, ← border, ← count) (c.is_decomposed.ensures (members_of d.outer) marks))

pub edge_count-requires : goal.edge_count-requires
edge_count-requires c = subst (λ z. pos 0 ≤ℤ z) (sym (let same : to_z w64 (of_z w64 c.args.document.now.weight) ≡ c.args.document.now.weight = search rules in same)) c.requires.weight
