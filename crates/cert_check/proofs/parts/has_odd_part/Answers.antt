use Rattle.certificates.proofs.Common.{arith, ◌≡◌, ◌≤◌, true, List, ℤ, All, sym, ap, ◌∙◌, subst, GRAPH_VERTEX_LIMIT, IsVertexSet, vertices, MemberLine, numbers, IsUpTo}
use Rattle.certificates.proofs.Common.{vertex_set, up_to-more, body_of, odd_ascends}
use Rattle.doc_format.specs.Form.{ascends}
use Rattle.cert_check.proofs.parts.has_odd_part.Goals as goal

pub members_of-requires : goal.members_of-requires
members_of-requires c =
    let n = vertices c.args.instance.now in
    let line : MemberLine = c.in-Some.t in
    let within : All (IsUpTo n) line.members = rw c.in-Some.is at c.requires.within in
    let few : n ≤ GRAPH_VERTEX_LIMIT = omega (arith, c.requires.network.few_vertices) in
    subst (λ (zs : List ℤ). All (IsUpTo GRAPH_VERTEX_LIMIT) zs) (sym c.as_slice.ensures) (up_to-more n GRAPH_VERTEX_LIMIT line.members few within)

pub is_odd_part-requires : goal.is_odd_part-requires
is_odd_part-requires c =
    let n = vertices c.args.instance.now in
    let line : MemberLine = c.in-Some.t in
    let within : All (IsUpTo n) line.members = rw c.in-Some.is at c.requires.within in
    let ascending : ascends line.members ≡ true = odd_ascends (body_of c.args.document.now) c.args.document.now.form.formed line c.in-Some.is in
    let set : IsVertexSet n (numbers line.members) = vertex_set n line.members ascending within in
    let members : c.deref.result.now ≡ numbers line.members = c.deref.ensures.value ∙ c.in_ok-members.ensures ∙ ap numbers c.as_slice.ensures in
    rw members set

pub returns : goal.returns
returns c =
    let line : MemberLine = c.in-Some.t in
    let members : c.deref.result.now ≡ numbers line.members = c.deref.ensures.value ∙ c.in_ok-members.ensures ∙ ap numbers c.as_slice.ensures in
    rw (c.in-Some.is, ← members) c.is_odd_part.ensures
