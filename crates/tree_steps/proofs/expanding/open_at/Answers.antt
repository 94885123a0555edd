use Rattle.alt_forest.proofs.Common.{◌∙◌, ap, Family}
use Rattle.alt_forest.specs.declared.search.Search.{Search}
use Rattle.tree_steps.proofs.expanding.open_at.Goals as goal

pub returns-clause-frame : goal.returns-clause-frame
returns-clause-frame c =
    ap (λ (a : Family). let y : Search = record c.args.search.now { arena = a; labels = c.set_label.new.labels; mates = c.set_edge.new.edges } in y) c.dissolve.ensures.family

pub returns-clause-shape : goal.returns-clause-shape
returns-clause-shape c =
    let h = c.requires.shape in let good = c.dissolve.ensures.is_family in
    let arena = ap (λ (f : Family). f.vertex_count) c.dissolve.ensures.family ∙ h.arena in
    let labels = c.set_label.ensures.len ∙ c.label_out.ensures.len ∙ h.labels in
    let mates = c.set_edge.ensures.len ∙ c.mate_pairs.ensures.len ∙ h.mates in
    record { graph = h.graph; family = good; arena = arena; labels = labels; parents = h.parents; mates = mates; circuit = h.circuit; room = h.room }
