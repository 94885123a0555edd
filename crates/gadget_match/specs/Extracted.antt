-- The answer that a perfect matching of the graph stands for, given as the numbers of its edges.
use Rattle.std.specs.Prelude.{ℕ, ◌+◌, ◌*◌, List, length, int_lt, if◌then◌else◌}
use Rattle.graph_theory.specs.Sums.{sum_to}
use Rattle.graph_theory.specs.Graph.{weight}
use Rattle.mb_problem.specs.Network.{Network, graph_of}
use Rattle.mb_problem.specs.Size.{link_count, copy_pairs}
use Rattle.gadget_base.specs.Blocks.{tabled}
use Rattle.gadget_base.specs.Links.{with_loops}
use Rattle.gadget_base.specs.Listed.{times}

-- how often copy number c of each edge is listed: 1 is the copy between the ends, 2 that between
-- their copies; a loop has none
abbrev pub copy_counts : Network → List ℕ → ℕ → List ℕ
copy_counts i edges c = with_loops i (tabled (λ k. times edges (2 * k + c)) (link_count i))

-- the copy that weighs more, and the first if both weigh the same
abbrev pub heavier_copy : Network → List ℕ → List ℕ
heavier_copy i edges =
    if int_lt (weight (graph_of i) (copy_counts i edges 1)) (weight (graph_of i)
    (copy_counts i edges 2)) then copy_counts i edges 2 else copy_counts i edges 1

-- how many edges stand before those between copies of the ends of edge number k + 1
abbrev pub pairs_before : Network → ℕ → ℕ
pairs_before i k = sum_to (copy_pairs i) k

-- how often edges between copies of the ends of edge number k + 1 are listed
abbrev pub listed_pairs : Network → List ℕ → ℕ → ℕ
listed_pairs i edges k = sum_to (λ r. times edges (pairs_before i k + r + 1)) (copy_pairs i k)

-- the same for each edge
abbrev pub gathered : Network → List ℕ → List ℕ
gathered i edges = tabled (listed_pairs i edges) (length i.edges)
