use Rattle.graph_theory.proofs.Common.{◌≡◌, ℕ, ◌+◌, List, cond, length, replicate, slice_index, ap, ◌∙◌, take_all, holds}
use Rattle.std.proofs.lemmas.List.{length-replicate, get_or-replicate}
use Rattle.postman_walk.proofs.uses.uses_of.Goals as goal

pub loop-edge-init : goal.loop-edge-init
loop-edge-init c =
    let n = c.args.count in
    let ones : c.in_ok-uses.uses.items ≡ replicate n 1 = c.in_ok-uses.ensures.items_if_clones_equal (λ y h. h) in
    record { size = ap length ones ∙ length-replicate n 1; each = λ k b. ap (λ (xs : List ℕ). slice_index xs k) ones ∙ get_or-replicate n k 1 0 b }

pub returns : goal.returns
returns c =
    let whole = take_all c.loop-edge.edge-index c.args.join.now c.loop-edge-test.false in
    record { size = c.loop-edge.invariant.size; each = λ k b. c.loop-edge.invariant.each k b ∙ ap (λ (es : List ℕ). 1 + cond (holds es (k + 1)) 1 0) whole }
