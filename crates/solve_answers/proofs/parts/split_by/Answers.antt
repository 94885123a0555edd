use Rattle.mb_problem.proofs.Common.{◌≡◌, true, List, [], ℕ, sym, ◌∙◌, subst, true≢false, IsComponent, Multigraph, holds, graph_of, network-graph}
use Rattle.graph_parts.specs.Connected.{HasConnectedEdges}
use Rattle.postman_walk.specs.Tours.{IsLeastMet}
use Rattle.solve_answers.proofs.PartDocuments.{no-split_part, settles-split}
use Rattle.solve_answers.proofs.SettlingSets.{bare-set}
use Rattle.solve_answers.proofs.SplitParts.{split-part, first-met, met-within}
use Rattle.solve_answers.proofs.parts.split_by.Goals as goal

pub component-requires : goal.component-requires
component-requires c =
    let within = met-within c.args.graph.now c.in-Some.first c.requires.is_graph.ends c.in-Some.ensures in
    record { low = within.0; high = within.1 }

pub returns-then-branch : goal.returns-then-branch
returns-then-branch c i network weights is =
    no-split_part c.args.kind i c.requires.kind (subst HasConnectedEdges is (c.in_ok-edge_connected.ensures.exact.0 c.if-branch.true))

pub returns : goal.returns
returns c i network weights is =
    let g = graph_of i in
    let same : c.deref.result.now ≡ c.in_ok-part.part.items = c.deref.ensures.value in
    let component : IsComponent g [] c.deref.result.now =
    subst (λ (h : Multigraph). IsComponent h [] c.deref.result.now) is (subst (IsComponent c.args.graph.now []) (sym same) c.in_ok-part.ensures.component) in
    let held : holds c.deref.result.now c.in-Some.first ≡ true = subst (λ (s : List ℕ). holds s c.in-Some.first ≡ true) (sym same) c.in_ok-part.ensures.start in
    let least : IsLeastMet g c.in-Some.first = subst (λ (h : Multigraph). IsLeastMet h c.in-Some.first) is c.in-Some.ensures in
    let apart : HasConnectedEdges g → ⊥ = λ connected. true≢false (sym (c.in_ok-edge_connected.ensures.exact.1 (subst HasConnectedEdges (sym is) connected)) ∙ c.if-branch.false) in
    let ends = (network-graph i network).ends in (
      settles-split c.args.kind i c.deref.result.now _ c.requires.kind network weights
          (split-part g c.deref.result.now c.in-Some.first ends component least held apart) (first-met g c.deref.result.now c.in-Some.first component least held) c.in_ok-document.ensures,
      bare-set c.args.kind c.deref.result.now _ c.in_ok-document.ensures,
    )
