use Rattle.mb_problem.proofs.Common.{All, refl, sym, subst, ◌∙◌, IsInstanceEdge, IsReady}
use Rattle.array_call.specs.Arrays.{Arrays, arrays_of}
use Rattle.array_call.proofs.Instances.{faultless, ready, is_network}
use Rattle.array_call.proofs.making.build.Goals as goal

pub edges_of-requires-clause-faultless : goal.edges_of-requires-clause-faultless
edges_of-requires-clause-faultless c = (faultless c.args.kind (arrays_of c.args.arrays.now) c.requires.faultless).edges

pub from_parts-requires : goal.from_parts-requires
from_parts-requires c =
    let kind = c.args.kind in
    let a : Arrays = arrays_of c.args.arrays.now in
    let valid = subst (All (IsInstanceEdge a.vertices)) c.in_ok-edges.ensures.edges c.in_ok-edges.ensures.valid in
    rw c.in_ok-edges.ensures.edges
    (rw c.in_ok-values.ensures (rw c.in_ok-lows.ensures (rw c.in_ok-highs.ensures (is_network kind a c.requires.sized (faultless kind a c.requires.faultless).values valid))))

pub returns-clause-instance : goal.returns-clause-instance
returns-clause-instance c =
    c.from_parts.ensures ∙ rw c.in_ok-edges.ensures.edges (rw c.in_ok-values.ensures (rw c.in_ok-lows.ensures (rw c.in_ok-highs.ensures refl)))

pub returns-clause-well_formed : goal.returns-clause-well_formed
returns-clause-well_formed c =
    let a : Arrays = arrays_of c.args.arrays.now in
    subst (IsReady c.args.kind) (sym (returns-clause-instance c)) (ready c.args.kind a (faultless c.args.kind a c.requires.faultless).needs)
