use Rattle.certificates.proofs.Common.{◌≡◌, ◌<◌, ℕ, List, length, get_or, ap, ◌∙◌, arith}
use Rattle.graph_theory.proofs.MappedLists.{mapped-more}
use Rattle.solve_kinds.specs.Greatest.{path_line}
use Rattle.solve_kinds.proofs.even_paths.path_lines.Goals as goal

pub loop-vertex-preserved : goal.loop-vertex-preserved
loop-vertex-preserved c =
    let paths = c.args.found.now.paths in
    let k = c.loop-vertex.vertex-index in
    let items = c.as_slice-vertex-items in
    let x = c.loop-vertex-item.result in
    let here : x ≡ get_or paths k x = c.loop-vertex-item.is ∙ ap (λ (ps : List (ℕ × List ℕ)). get_or ps k x) items.ensures in
    let inside : k < length paths = omega (arith, c.loop-vertex-test.true, ap length items.ensures) in
    let line = ap (λ (es : List ℕ). path_line (x.0, es)) c.as_slice.ensures ∙ ap path_line here in
    mapped-more path_line paths k x _ _ _ inside c.loop-vertex.invariant line c.in_ok-push_path.ensures
