use Rattle.mb_problem.proofs.Common.{◌∙◌, ap, sym, subst, refl, length, get_or_read, slice_index_or, ◌<◌, List, no_instance_edge}
use Rattle.mb_problem.specs.declared.instance.InstanceEdge.{InstanceEdge}
use Rattle.cert_check.specs.Marked.{mark_of}
use Rattle.cert_check.proofs.BorderLemmas.{same_bools}
use Rattle.cert_check.proofs.parts.has_edge.Goals as goal

pub returns-then-is_marked-wanted : goal.returns-then-is_marked-wanted
returns-then-is_marked-wanted c =
    let list = c.edge_list-edge-items.ensures.list in
    let k = c.loop-edge.edge-index in
    let here = get_or_read _ k c.edge-item.result c.loop-edge-test.true c.edge-item.is no_instance_edge ∙ ap (λ (es : List InstanceEdge). slice_index_or es k no_instance_edge) list in
    let mark = ap (λ (e : InstanceEdge). mark_of c.args.marks.now e.u) (sym here) ∙ sym c.is_marked.ensures ∙ (same_bools _ _).0 c.if-is_marked-wanted.true in
    ((λ t. (k, subst (λ (es : List InstanceEdge). k < length es) list c.loop-edge-test.true, mark)), (λ has. refl))
