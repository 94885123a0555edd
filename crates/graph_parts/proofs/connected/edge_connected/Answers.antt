use Rattle.graph_theory.proofs.Common.{◌≡◌, ◌∙◌, ◌↔◌, ℕ, ◌<◌, true, List, [], Bool, length, arith, ap, subst, sym, edge_at, edge_of, AreTogether}
use Rattle.graph_parts.specs.Marks.{is_marked}
use Rattle.graph_parts.proofs.ConnectedLemmas.{connected-marks}
use Rattle.graph_parts.proofs.connected.edge_connected.Goals as goal

pub returns : goal.returns
returns c =
    let g = c.args.graph.now in
    let some : 0 < length g.edges = omega arith in
    let first : c.edge-first.result.0 ≡ (edge_at g 0).u = c.edge-first.ensures.from ∙ ap (λ (e : ℕ). (edge_of g e).u) c.new.ensures in
    let P : List Bool → ℕ → Type 0 = λ m u. (w : ℕ) → (is_marked m w ≡ true) ↔ AreTogether g [] u w in
    let exact = subst (P c.deref.result.now) first (subst (λ (m : List Bool). P m c.edge-first.result.0) (sym c.deref.ensures.value) c.in_ok-marks.ensures.exact) in
    let both = connected-marks g c.deref.result.now c.edge-first.ensures.graph some exact in
    record { exact = (λ t. both.0 (c.are_marked.ensures.0 t), λ joined. c.are_marked.ensures.1 (both.1 joined)) }
