use Rattle.alt_forest.proofs.Common.{◌≡◌, ◌∙◌, ℕ, Option, None, Some, sym, ap, other_node, other_node_joins}
use Rattle.tree_steps.proofs.growth.mate_node.Goals as goal

pub other_node-requires : goal.other_node-requires
other_node-requires c =
    let h = c.requires.sound in
    record { shape = h.shape; edge = (h.state.mates c.args.node c.in-Some.f c.requires.outermost (sym c.mate.ensures.mate ∙ c.in-Some.is)).1.edge }

pub returns-in-Some : goal.returns-in-Some
returns-in-Some c d m has is =
    let s = c.args.search.now in
    let read : Some c.in-Some.f ≡ Some d = sym c.in-Some.is ∙ c.mate.ensures.mate ∙ has in
    let same : c.in-Some.f ≡ d = cc in
    c.other_node.ensures.node ∙ ap (λ (e : ℕ). other_node s.graph s.arena.blossoms e c.args.node) same
    ∙ other_node_joins s.graph s.arena.blossoms d c.args.node m is.joins is.different

pub returns-in-None : goal.returns-in-None
returns-in-None c d m has is = let none : (let o : Option ℕ = None in o) ≡ Some d = sym c.in-None.is ∙ c.mate.ensures.mate ∙ has in absurd (cc)
