-- The edges of an instance that are no loops, one after another.
use Rattle.std.specs.Prelude.{ℕ, List, length, slice_index, if◌then◌else◌}
use Rattle.graph_theory.specs.Sums.{sum_to}
use Rattle.mb_problem.specs.Network.{Network}
use Rattle.mb_problem.specs.Size.{is_loop_at}
use Rattle.gadget_base.specs.Blocks.{tabled}

-- how many of the first k edges are no loops: so many stand before edge number k + 1 in the graph
-- without loops
abbrev pub links_below : Network → ℕ → ℕ
links_below i k = sum_to (λ j. if is_loop_at i j then 0 else 1) k

-- counts of the edges that are no loops, one after another, as counts of all edges: 0 for each loop
abbrev pub with_loops : Network → List ℕ → List ℕ
with_loops i counts = tabled
    (λ k. if is_loop_at i k then 0 else slice_index counts (links_below i k)) (length i.edges)
