use Rattle.certificates.proofs.Common.{◌≡◌, ◌≤◌, ℕ, Bool, IsTrue, Result, Ok, Err, IfOk, List, ℤ, All, sym, ap, ◌∙◌, subst, GRAPH_VERTEX_LIMIT, IsVertexSet, Multigraph}
use Rattle.certificates.proofs.Common.{IsPerfect, Kind, Barrier, obstruction_of, Network, gadget_graph, ReachesAll, HasNoAnswer, no_answer, AllocError, MemberLine, numbers, IsUpTo}
use Rattle.certificates.proofs.Common.{barrier-set, up_to-more, few_vertices, barrier-in}
use Rattle.cert_check.proofs.infeasible.has_barrier.Goals as goal

none_of : (kind : Kind) (i : Network) (r : Result Bool AllocError) → obstruction_of kind ≡ Barrier → ReachesAll kind i →
    IfOk r (λ b. IsTrue b → (counts : List ℕ) → IsPerfect (gadget_graph kind i) counts → ⊥) → IfOk r (λ b. IsTrue b → HasNoAnswer kind i)
none_of kind i (Ok b) excluded reached h = λ t. no_answer kind i excluded reached (h t)
none_of kind i (Err e) excluded reached h = tt

pub members_of-requires : goal.members_of-requires
members_of-requires c =
    let g = gadget_graph c.args.kind c.args.instance.now in
    let u : MemberLine = c.in-Some.u in
    let within : All (IsUpTo g.vertices) u.members = rw c.in-Some.is at (barrier-in c.args.kind c.args.instance.now c.args.document.now c.requires.within) in
    let few : g.vertices ≤ GRAPH_VERTEX_LIMIT = few_vertices c.args.kind c.args.instance.now c.requires.judged.limits in
    subst (λ (zs : List ℤ). All (IsUpTo GRAPH_VERTEX_LIMIT) zs) (sym c.as_slice.ensures) (up_to-more g.vertices GRAPH_VERTEX_LIMIT u.members few within)

pub is_barrier-requires : goal.is_barrier-requires
is_barrier-requires c =
    let g = gadget_graph c.args.kind c.args.instance.now in
    let u : MemberLine = c.in-Some.u in
    let set : IsVertexSet g.vertices (numbers u.members) = barrier-set c.args.kind c.args.instance.now c.args.document.now u c.requires.within c.in-Some.is in
    let members : c.deref.result.now ≡ numbers u.members = c.deref.ensures.value ∙ c.in_ok-members.ensures ∙ ap numbers c.as_slice.ensures in
    let graph : c.in_ok-graph.graph ≡ g = c.in_ok-graph.ensures.graph in
    rw (graph, members) set

pub returns-clause-exact : goal.returns-clause-exact
returns-clause-exact c =
    let u : MemberLine = c.in-Some.u in
    let members : c.deref.result.now ≡ numbers u.members = c.deref.ensures.value ∙ c.in_ok-members.ensures ∙ ap numbers c.as_slice.ensures in
    let graph : c.in_ok-graph.graph ≡ (gadget_graph c.args.kind c.args.instance.now) = c.in_ok-graph.ensures.graph in
    rw (c.in-Some.is, ← graph, ← members) c.is_barrier.ensures.exact

pub returns-clause-none : goal.returns-clause-none
returns-clause-none c =
    let i = c.args.instance.now in
    let graph : c.in_ok-graph.graph ≡ gadget_graph c.args.kind i = c.in_ok-graph.ensures.graph in
    none_of c.args.kind i c.is_barrier.result c.requires.excluded c.in_ok-graph.ensures.reached
    (subst (λ (g : Multigraph). IfOk c.is_barrier.result (λ b. IsTrue b → (counts : List ℕ) → IsPerfect g counts → ⊥)) graph c.is_barrier.ensures.none)
