use Rattle.graph_theory.proofs.Common.{◌≡◌, ◌++◌, pos, slice_index}
use Rattle.gadget_base.specs.Blocks.{blocks, clique}
use Rattle.gadget_tjoin.proofs.groups.add_cliques.Given as goal

abbrev pub invariant-loop-k : goal.invariant-loop-k
invariant-loop-k l = l.graph ≡ record l.initial.graph { edges = l.initial.graph.edges ++ blocks (λ j. clique (slice_index l.before j) (slice_index l.sizes j) (pos 0)) l.k }
