-- Which counts a perfect matching of the graph of two halves says (Schrijver, Combinatorial
-- Optimization, volume A, chapter 35).
use Rattle.std.specs.Prelude.{ℕ, ◌-◌, nat_lt, nat_le, int_le, ◌&&◌, List, length, map}
use Rattle.std.specs.Prelude.{if◌then◌else◌}
use Rattle.std.specs.List.{filter}
use Rattle.graph_theory.specs.Graph.{weight}
use Rattle.mb_problem.specs.Network.{Network, graph_of, at_most}
use Rattle.mb_problem.specs.Size.{room_of}
use Rattle.gadget_base.specs.Gadgets.{half_graph}
use Rattle.gadget_cap.specs.Places.{entry_counts}

-- how many edges each half has
abbrev pub half_size : Network → ℕ
half_size i = length (half_graph i).edges

-- the listed ones of the `count` edges after the first `before`, by how far they come after these
abbrev pub listed_after : ℕ → ℕ → List ℕ → List ℕ
listed_after before count es = map (λ e. e - before)
    (filter (λ e. nat_lt before e && nat_le (e - before) count) es)

-- the listed edges of the first half, and those of the second by the numbers of their twins
abbrev pub in_first_half : Network → List ℕ → List ℕ
in_first_half i es = listed_after 0 (half_size i) es

abbrev pub in_second_half : Network → List ℕ → List ℕ
in_second_half i es = listed_after (half_size i) (half_size i) es

-- the counts that listed edges of one half say: each edge of the instance as often as its first
-- gate is entered
abbrev pub half_counts : Network → List ℕ → List ℕ
half_counts i es = entry_counts (at_most i) (room_of (at_most i)) es

-- the counts of the half that weighs less, and of the first if both weigh the same
abbrev pub lighter_half : Network → List ℕ → List ℕ
lighter_half i es =
    let one = half_counts i (in_first_half i es) in
    let two = half_counts i (in_second_half i es) in
    if int_le (weight (graph_of i) one) (weight (graph_of i) two) then one else two
