use Rattle.mb_problem.proofs.Common.{◌≡◌, ◌+◌, cond, [], ◌∷◌, is_loop_at}
use Rattle.gadget_base.specs.Blocks.{blocks}
use Rattle.gallai.proofs.edge_numbers.link_numbers.Given as goal

abbrev pub invariant-loop-place : goal.invariant-loop-place
invariant-loop-place l = l.numbers.items ≡ blocks (λ k. cond (is_loop_at l.instance k) [] ((k + 1) ∷ [])) l.place
