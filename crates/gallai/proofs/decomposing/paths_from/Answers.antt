use Rattle.graph_theory.proofs.Common.{◌++◌, ◌∷◌, [], ℕ, List, ap, sym, ◌∙◌, subst, take, take_all, take_more, holds, holds_at}
use Rattle.gadget_base.specs.Links.{with_loops}
use Rattle.mwpm_engine.specs.Solutions.{matching_of}
use Rattle.gallai.specs.Decompositions.{ArePathsFrom}
use Rattle.gallai.proofs.Engines.{paths-push}
use Rattle.gallai.proofs.decomposing.paths_from.Goals as goal

pub loop-vertex-preserved : goal.loop-vertex-preserved
loop-vertex-preserved c =
    let i = c.args.instance.now in
    let s = c.args.engine.now in
    let counts = with_loops i (matching_of s.graph s.mates) in
    let starts = take c.loop-vertex.vertex-index c.args.outer.now in
    let v = c.vertex-item.result in
    let next = take_more c.args.outer.now c.loop-vertex.vertex-index _ c.loop-vertex-test.true ∙ ap (λ x. starts ++ x ∷ []) (sym c.vertex-item.is) in
    rw (next, c.in_ok-push.ensures.ok, c.from_vec.ensures) (paths-push i counts starts c.loop-vertex.paths v c.in_ok-edges.edges.items c.loop-vertex.invariant c.in_ok-edges.ensures)

pub returns : goal.returns
returns c =
    let counts = with_loops c.args.instance.now (matching_of c.args.engine.now.graph c.args.engine.now.mates) in
    let all = take_all c.loop-vertex.vertex-index c.args.outer.now c.loop-vertex-test.false in
    subst (λ (starts : List ℕ). ArePathsFrom c.args.instance.now counts starts c.loop-vertex.paths) all c.loop-vertex.invariant

pub path_from-requires-clause-outer : goal.path_from-requires-clause-outer
path_from-requires-clause-outer c =
    let outer = c.args.outer.now in
    let member = ap (holds outer) c.vertex-item.is ∙ holds_at outer c.loop-vertex.vertex-index _ c.loop-vertex-test.true in
    ap (λ (set : List ℕ). holds set c.vertex-item.result) (sym c.requires.outer) ∙ member
