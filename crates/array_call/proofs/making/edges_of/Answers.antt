use Rattle.certificates.proofs.Common.{List, [], ◌∷◌, ◌++◌, All, ap₂, sym, subst, ◌∙◌, All-append, All-cons, All-nil, InstanceEdge, IsInstanceEdge, tabled-more}
use Rattle.array_call.specs.Arrays.{Arrays, arrays_of, edge_count, edge_at}
use Rattle.array_call.specs.Faults.{edge_fault}
use Rattle.array_call.proofs.Firsts.{none-below}
use Rattle.array_call.proofs.making.edges_of.Goals as goal

pub edge_at-requires-clause-faultless : goal.edge_at-requires-clause-faultless
edge_at-requires-clause-faultless c =
    none-below (edge_fault (arrays_of c.args.arrays.now)) (edge_count (arrays_of c.args.arrays.now)) c.loop-k.k c.requires.faultless c.loop-k-test.true

pub loop-k-preserved : goal.loop-k-preserved
loop-k-preserved c =
    let a : Arrays = arrays_of c.args.arrays.now in
    let fits : InstanceEdge → Type 0 = IsInstanceEdge a.vertices in
    let before : List InstanceEdge = c.loop-k.edges.items in
    let edge : InstanceEdge = c.edge_at.result in
    let items = c.in_ok-push.ensures.items in
    let last : All fits (edge ∷ []) = All-cons fits edge [] c.edge_at.ensures.valid (All-nil fits) in
    record {
      edges = items ∙ ap₂ (λ (es : List InstanceEdge) (e : InstanceEdge). es ++ e ∷ []) c.loop-k.invariant.edges c.edge_at.ensures.edge ∙ sym (tabled-more (edge_at a) c.loop-k.k);
      valid = subst (All fits) (sym items) (All-append fits before (edge ∷ []) c.loop-k.invariant.valid last);
    }
