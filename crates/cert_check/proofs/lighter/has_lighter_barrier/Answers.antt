use Rattle.certificates.proofs.Common.{◌≡◌, ◌≢◌, ◌≤◌, ◌↔◌, Bool, IsTrue, Some, Result, Ok, Err, IfOk, List, ℤ, All, rules, sym, ap, ◌∙◌, subst, to_z, of_z}
use Rattle.certificates.proofs.Common.{w64, AllocError, IsVertexSet, IsBarrier, Kind, Network, vertices, Document, HasLighterBarrier, GRAPH_VERTEX_LIMIT, Multigraph, gadget_graph}
use Rattle.certificates.proofs.Common.{lighter_than, MemberLine, numbers, IsUpTo, barrier-set, up_to-more, few_vertices, barrier-in}
use Rattle.cert_check.proofs.lighter.has_lighter_barrier.Goals as goal

-- exact for the line's set, where there are vertices and the line is there
of_line : (kind : Kind) (i : Network) (d : Document) (u : MemberLine) (r : Result Bool AllocError) → vertices i ≢ 0 → d.barrier ≡ Some u →
    IfOk r (λ b. IsTrue b ↔ IsBarrier (lighter_than d.weight (gadget_graph kind i)) (numbers u.members)) → IfOk r (λ b. IsTrue b ↔ HasLighterBarrier kind i d)
of_line kind i d u (Ok b) some is exact = ((λ t _. rw is (exact.0 t)), (λ have. exact.1 (rw is at (have some))))
of_line kind i d u (Err e) some is exact = tt

pub members_of-requires : goal.members_of-requires
members_of-requires c =
    let g = gadget_graph c.args.kind c.args.instance.now in
    let u : MemberLine = c.in-Some.u in
    let within : All (IsUpTo g.vertices) u.members = rw c.in-Some.is at (barrier-in c.args.kind c.args.instance.now c.args.document.now c.requires.within) in
    let few : g.vertices ≤ GRAPH_VERTEX_LIMIT = few_vertices c.args.kind c.args.instance.now c.requires.judged.limits in
    subst (λ (zs : List ℤ). All (IsUpTo GRAPH_VERTEX_LIMIT) zs) (sym c.as_slice.ensures) (up_to-more g.vertices GRAPH_VERTEX_LIMIT u.members few within)

pub is_barrier-requires : goal.is_barrier-requires
is_barrier-requires c =
    let g = gadget_graph c.args.kind c.args.instance.now in
    let u : MemberLine = c.in-Some.u in
    let set : IsVertexSet g.vertices (numbers u.members) = barrier-set c.args.kind c.args.instance.now c.args.document.now u c.requires.within c.in-Some.is in
    let members : c.deref.result.now ≡ numbers u.members = c.deref.ensures.value ∙ c.in_ok-members.ensures ∙ ap numbers c.as_slice.ensures in
    let size : c.in_ok-light.light.vertices ≡ g.vertices = ap (λ (h : Multigraph). h.vertices) c.in_ok-light.ensures
    ∙ ap (λ (h : Multigraph). h.vertices) c.in_ok-graph.ensures.graph in
    rw (size, members) set

pub returns-clause-exact : goal.returns-clause-exact
returns-clause-exact c =
    let i = c.args.instance.now in
    let d = c.args.document.now in
    let u : MemberLine = c.in-Some.u in
    let members : c.deref.result.now ≡ numbers u.members = c.deref.ensures.value ∙ c.in_ok-members.ensures ∙ ap numbers c.as_slice.ensures in
    let weight : to_z w64 (of_z w64 d.weight) ≡ d.weight = search rules in
    let light : c.in_ok-light.light ≡ lighter_than d.weight (gadget_graph c.args.kind i) =
    c.in_ok-light.ensures ∙ ap (lighter_than (to_z w64 (of_z w64 d.weight))) c.in_ok-graph.ensures.graph ∙ ap (λ (w : ℤ). lighter_than w (gadget_graph c.args.kind i)) weight in
    let some : vertices i ≢ 0 = λ none. c.if-vertices-eq0.false (c.vertices.ensures.count ∙ none) in
    of_line c.args.kind i d u c.is_barrier.result some c.in-Some.is (rw (← light, ← members) c.is_barrier.ensures.exact)

pub returns-clause-network : goal.returns-clause-network
returns-clause-network c = c.vertices.ensures.network
