use Rattle.alt_forest.proofs.Common.{◌≡◌, ◌∙◌, ℕ, Option, ap, ap₂, edge_in, put}
use Rattle.search_start.proofs.freeing.set_ends.Goals as goal

pub returns-clause-mates : goal.returns-clause-mates
returns-clause-mates c =
    let o = c.args.mate.now in let m : ℕ → Option ℕ = edge_in c.args.search.now.mates.items in
    let first : edge_in c.set_edge.new.edges.items ≡ put m c.edge-u.result.0 o = c.set_edge.ensures.edges ∙ ap (λ x. put m x o) (c.new.ensures ∙ c.number.ensures) in
    c.set_edge-2.ensures.edges ∙ ap₂ (λ (f : ℕ → Option ℕ) (x : ℕ). put f x o) first (c.new-2.ensures ∙ c.number-2.ensures)
    ∙ ap₂ (λ (x y : ℕ). put (put m x o) y o) c.edge-u.ensures.from c.edge-u.ensures.to
