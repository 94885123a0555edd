use Rattle.graph_theory.proofs.Common.{◌≡◌, rules, List, ℕ, refl, ap, ◌∙◌, w64}
use mir.Val.{of_z, to_z}
use Rattle.document_lines.specs.LastLines.{items_of}
use Rattle.document_lines.proofs.Names.{line-is}
use Rattle.document_lines.proofs.sets.set_line.Goals as goal

pub returns-clause-line : goal.returns-clause-line
returns-clause-line c =
    let t = c.find_names.new.tables in
    let same : to_z w64 (of_z w64 c.in_ok-dual.dual) ≡ c.in_ok-dual.dual = search rules in
    line-is c.args.engine.now.sets c.args.done _ t c.in_ok-dual.ensures.names refl (same ∙ c.in_ok-dual.ensures.dual)
    (c.from_vec.ensures ∙ (c.in_ok-items.ensures
    ∙ (ap (λ (xs : List ℕ). items_of xs c.deref-2.result.now) c.deref.ensures.value ∙ ap (λ (xs : List ℕ). items_of t.vertices.items xs) c.deref-2.ensures.value)))
