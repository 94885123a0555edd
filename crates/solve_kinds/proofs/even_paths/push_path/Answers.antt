use Rattle.graph_theory.proofs.Common.{◌≡◌, ℕ, pos, List, [], ◌∷◌, ◌++◌, map, ap, ◌∙◌, subst}
use Rattle.std.proofs.Common.{take_all}
use Rattle.certificates.proofs.Common.{rules, to_z, of_z, w64, PathLine}
use Rattle.std.specs.Prelude.{OnOk}
use Rattle.graph_theory.proofs.MappedLists.{mapped-more}
use Rattle.solve_kinds.specs.Greatest.{path_line}
use Rattle.solve_kinds.proofs.even_paths.push_path.Goals as goal

pub loop-edge-preserved : goal.loop-edge-preserved
loop-edge-preserved c =
    let edge = c.edge-item.result in
    let same : to_z w64 (of_z w64 c.from.result) ≡ c.from.result = search rules in
    let next = same ∙ c.from.ensures ∙ ap (λ (n : ℕ). pos n) (c.number.ensures ∙ c.edge-item.is) in
    mapped-more pos c.args.edges.now c.loop-edge.edge-index edge _ _ _ c.loop-edge-test.true c.loop-edge.invariant next c.in_ok-push.ensures.items

pub returns : goal.returns
returns c =
    let same : to_z w64 (of_z w64 c.from-2.result) ≡ c.from-2.result = search rules in
    let vertex = same ∙ c.from-2.ensures ∙ ap (λ (n : ℕ). pos n) c.number-2.ensures in
    let whole = take_all c.loop-edge.edge-index c.args.edges.now c.loop-edge-test.false in
    let edges = c.from_vec.ensures ∙ c.loop-edge.invariant ∙ ap (λ (es : List ℕ). map pos es) whole in
    let line : PathLine = record { line = 1; vertex = to_z w64 (of_z w64 c.from-2.result); edges = c.from_vec.result } in
    let is : line ≡ path_line (c.args.vertex, c.args.edges.now) = λ k. record { line = 1; vertex = vertex k; edges = edges k } in
    subst (λ (p : PathLine). OnOk c.push-2.result (c.push-2.new.self ≡ c.args.lines.now ++ p ∷ [])) is c.push-2.ensures.ok
