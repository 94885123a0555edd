use Rattle.mb_problem.proofs.Common.{ℕ, ◌+◌, ◌*◌, List, length, ap, ◌∙◌}
use Rattle.gadget_base.proofs.Common.{times, tabled-length}
use Rattle.gadget_match.proofs.halving.count_copies.Goals as goal

pub with_loops-requires : goal.with_loops-requires
with_loops-requires c =
    let f : ℕ → ℕ = λ k. times c.args.edges.now (2 * k + c.args.copy) in
    ap (λ (xs : List ℕ). length xs) (c.deref.ensures.value ∙ c.in_ok-counts.ensures) ∙ tabled-length f c.link_count.result ∙ c.link_count.ensures.count
