use Rattle.graph_theory.proofs.Common.{◌≡◌, length, ap, ◌∙◌, arith, List, ℕ}
use Rattle.gadget_interval.specs.Halves.{listed_after}
use Rattle.gadget_interval.proofs.Parts.{after-length}
use Rattle.gadget_interval.proofs.lighter.part_answer.Goals as goal

pub count_entries-requires-clause-size_limit : goal.count_entries-requires-clause-size_limit
count_entries-requires-clause-size_limit c = λ _.
    let part = listed_after c.args.before c.args.count c.args.edges.now in
    let same : length c.deref.result.now ≡ length part = ap (λ (xs : List ℕ). length xs) (c.deref.ensures.value ∙ c.in_ok-part.ensures) in
    omega (arith, same, after-length c.args.before c.args.count c.args.edges.now, c.requires.size_limit)
