-- The names of this crate that proofs above cite, passed on from one place. Declares nothing.
pub use Rattle.gadget_base.proofs.Blocks.{All-blocks, All-tabled, All-unless, blocks-at, blocks-length, blocks-same, filter-blocks, is-tabled, length-unless, rectangle-length, tabled-append}
pub use Rattle.gadget_base.proofs.Blocks.{tabled-at, tabled-blocks, tabled-length, tabled-more, tabled-pairs, tabled-rows, tabled-same}
pub use Rattle.gadget_base.proofs.Degrees.{among, among-below, at_place, clique-picks, clique-weight, pick, pick-block, pick-here, pick-none, pick-plus, rectangle-picks, rectangle-weight}
pub use Rattle.gadget_base.proofs.Degrees.{sum_to-below}
pub use Rattle.gadget_base.proofs.Grown.{clique-length, clique-places, grown-block, grown-length, grown-twice, grown-vertices}
pub use Rattle.gadget_base.proofs.Links.{blocks-links, link-place, link_counts, link_counts-degree, link_counts-length, link_counts-weight, links-few, perfect-reached, plain-blocks}
pub use Rattle.gadget_base.proofs.Links.{plain-graph, plain-length, plain-size, plain-within, tabled-links, with_loops-at, with_loops-degree, with_loops-perfect, with_loops-small}
pub use Rattle.gadget_base.proofs.Links.{with_loops-weight, without_loops-degree, without_loops-weight}
pub use Rattle.gadget_base.proofs.Listed.{few-steps, list-length, list-weight, list_from_perfect, perfect_from_degrees, perfect_from_list, times-small, times-sum, times-weight}
pub use Rattle.gadget_base.proofs.Listed.{times_each-at, times_each-ends, times_each-length, weight_of_list}
pub use Rattle.gadget_base.proofs.NoLoop.{apart_ends, plain-no_loop}
pub use Rattle.gadget_base.proofs.Over.{IsSum, Sums, at_vertex, blocks-lengths, clique_table, int-sum, nat-sum, over, over-blocks, sums-append, sums-blocks, sums-if, sums-length, sums-one}
pub use Rattle.gadget_base.proofs.Over.{sums-same, sums-tabled, sums-unless, table, weighing}
pub use Rattle.gadget_base.proofs.StartLemmas.{starts_of}
pub use Rattle.gadget_base.proofs.Times.{ascending-once, ascending-times, count_all, differ-once, held-times, not_held-times, once-differ, times-append, times-cons, times-held, times-holds}
pub use Rattle.gadget_base.proofs.Times.{times-more, times-one, times-push}
pub use Rattle.gadget_base.proofs.Units.{neighbours, neighbours-at, neighbours-total, taken, taken-all, taken-each, taken-small, taken-total, units, units-column, units-row, units-total}
pub use Rattle.gadget_base.proofs.Used.{degree-used, loop-unused, use_at, use_at-u_some, use_at-v_some, used, used-within_loop, used-within_u, used-within_v, values-most, weight-used}
pub use Rattle.gadget_base.proofs.Within.{All-two, IsProper, clique-proper, copies-inside, copies-no_loop, copies-within, copies_size, doubled-no_loop, doubled-within, doubled_size}
pub use Rattle.gadget_base.proofs.Within.{edge_here, pairs-length, place_here, proper, rectangle-proper}
pub use Rattle.gadget_base.specs.Blocks.{blocks, clique, rectangle, row, tabled}
pub use Rattle.gadget_base.specs.Certified.{IsMatchable, IsPerfectList, IsReached, IsReachedBy, ReachesAll, ReachesAllBy, gadget_graph}
pub use Rattle.gadget_base.specs.Gadgets.{graph_by}
pub use Rattle.gadget_base.specs.Gadgets.{before_gates, between_ports, between_sides, capped_graph, copies_graph, doubled_graph, gated, half_graph, halves_graph, met_below, moved}
pub use Rattle.gadget_base.specs.Gadgets.{moved_edge, pairs_of_copies, place_in, port_of, ports_below, ports_graph, side_edge, sides_graph, spare_pair, to_copy, two_copies, values_below}
pub use Rattle.gadget_base.specs.Lighter.{lighter_than}
pub use Rattle.gadget_base.specs.Links.{links_below, with_loops}
pub use Rattle.gadget_base.specs.Listed.{ListsCounts, times, times_each}
pub use Rattle.gadget_base.specs.Starts.{AreStarts}
