-- The names that proofs about problems cite, passed on from one place. Declares nothing.
pub use Rattle.std.proofs.Common.{All, Bool, Box, Err, Global, IfOk, IfSome, IsTrue, Less, List, MatchOption, None, Ok, OnErr, Option, Result, Some, Vec, [], add-one, ap, append_assoc}
pub use Rattle.std.proofs.Common.{ap₂, arith, codes, cond, count_by, drop, eqb, false, flat_map, get_or, if◌then◌else◌, inl, inr, int_cmp, int_eq, int_le, int_lt, is_some, leb}
pub use Rattle.std.proofs.Common.{length, length-append, ltb, map, min, nat_abs, nat_eq, nat_le, nat_lt, neg_ℤ, negsuc, not, of_z, option_and_then, pos, refl, replicate, rules, set}
pub use Rattle.std.proofs.Common.{slice_index, slice_index_or, slice_set, string_bytes, subst, suc, sum_by, sym, take, take-append-drop, to_z, true, unwrap_or, w64, zero, ℕ, ℤ, ◌%◌}
pub use Rattle.std.proofs.Common.{◌&&◌, ◌*ℤ◌, ◌*◌, ◌++◌, ◌+ℤ◌, ◌+◌, ◌-ℤ◌, ◌-◌, ◌/◌, ◌<ℤ◌, ◌<◌, ◌==◌, ◌^◌, ◌||◌, ◌↔◌}
pub use Rattle.std.proofs.Common.{◌∙◌, ◌∷◌, ◌≡◌, ◌≢◌, ◌≤ℤ◌, ◌≤◌, ◌⊎◌}
pub use Rattle.std.proofs.Math.Bool.{beq, or_assoc}
pub use Rattle.std.proofs.Math.Decide.{dec_lt}
pub use Rattle.std.proofs.Math.Nat.{mul-le-mul_left}
pub use Rattle.std.proofs.lemmas.Bool.{MatchBool-at_true, and_cases, and_from, and_left, and_parts, and_right, cases_Bool, cases_eq, cases_lt, cases_order, cond-false, cond-true, eq-eqb}
pub use Rattle.std.proofs.lemmas.Bool.{eqb-true, false_from_ne_true, false≢true, le-leb, le-ltb, leb-true, lt-ltb, ltb-false, ltb-true, ne_eqb, not-false, not-true, not_from_false}
pub use Rattle.std.proofs.lemmas.Bool.{or_cases, or_left, or_right, true≢false}
pub use Rattle.std.proofs.lemmas.Bool.Decides.{Decides-int_eq, nat_tests}
pub use Rattle.std.proofs.lemmas.Cmp.{eq_by_cmp_equiv, int_cmp_total}
pub use Rattle.std.proofs.lemmas.Fmt.{decimal_by_steps}
pub use Rattle.std.proofs.lemmas.Grind.{common_steps}
pub use Rattle.std.proofs.lemmas.Int.{ints}
pub use Rattle.std.proofs.lemmas.List.{append-nil, at_drop_more, drop_at, ext_get_or, get_or-append-add, get_or-map, get_or-replicate, get_or-set_other, get_or-set_same, get_or_append_left}
pub use Rattle.std.proofs.lemmas.List.{get_or_default, get_or_past, get_or_push, get_or_read, length-drop, length-map, length-replicate, length-set, length-take, length-take-le, length_push}
pub use Rattle.std.proofs.lemmas.List.{map-append, map_more, map_push, nil_from_length, take_all, take_at, take_more, with_items_is}
pub use Rattle.std.proofs.lemmas.List.Elements.{All-append, All-cons, All-filter, All-from_get_or, All-from_recursion, All-get_or, All-head, All-map, All-nil, All-push, All-replicate}
pub use Rattle.std.proofs.lemmas.List.Elements.{All-set, All-tail, All-weaker, AllZip-get_or, filter-append, filter_passes, length_all_zip}
pub use Rattle.std.proofs.lemmas.List.Folds.{list_all-append, list_all_more}
pub use Rattle.std.proofs.lemmas.List.FromFn.{get_or-map-range_with_len, length-map-range_with_len}
pub use Rattle.std.proofs.lemmas.List.Kept.{Contains-dedup, IsStrictlyIncreasing-filter, IsStrictlySortedBy-dedup}
pub use Rattle.std.proofs.lemmas.List.Splits.{slice_split_at, slice_split_none}
pub use Rattle.std.proofs.lemmas.List.Sums.{AllPass-from_list_all, count_by-le-length, count_by_more_no, count_by_more_yes, length-filter, sum_by-cons}
pub use Rattle.std.proofs.lemmas.Map.Keys.{Less-from_sorted}
pub use Rattle.std.proofs.lemmas.Map.Views.{any-filter_same}
pub use Rattle.std.proofs.lemmas.Nat.{mod_below, pow-add}
pub use Rattle.std.proofs.lemmas.Option.{same_Some}
pub use Rattle.std.proofs.lemmas.Result.{IfOk-weaker}
pub use Rattle.std.proofs.lemmas.Slice.Eq.{bytes_eq-Decides, slice_eq-Decides}
pub use Rattle.std.specs.Bool.{Decides}
pub use Rattle.std.specs.Box.{box_value}
pub use Rattle.std.specs.Fmt.{decimal, signed_decimal}
pub use Rattle.std.specs.List.{AllByRecursion, AllPairs, AllZip, Contains, after_first, dedup, filter, find, list_all, list_any, position_or_len, range_with_len, slice_split}
pub use Rattle.std.specs.List.Sorted.{IsSorted, IsStrictlyIncreasing}
pub use Rattle.std.specs.Option.{option_map, option_map_or, option_or}
pub use Rattle.std.specs.Str.{bytes_eq}
pub use Rattle.std.specs.Str.Lines.{strip_carriage_return}
pub use borrow.Author.Count.{below_more}
pub use mir.Val.{bool_byte}
pub use Rattle.mb_base.proofs.LineLemmas.{closed-split}
pub use Rattle.mb_base.proofs.NumberLemmas.{value_from-push}
pub use Rattle.mb_base.proofs.RowLemmas.{next_row}
pub use Rattle.mb_base.specs.Rows.{Row, field_at, is_skipped, rows}
pub use Rattle.mb_base.specs.Text.{clamped, closed, fields, is_blank, is_digit, is_line_feed, is_nonempty, lines, natural, numeral, raw_lines, value_from}
pub use Rattle.graph_theory.proofs.Barriers.{IsOddComponent, barrier_excludes, crossed-le, heads_within, odd_count-unique}
pub use Rattle.graph_theory.proofs.BlockSums.{IsIn, at-same, block-once, cond_off, find_block, int_sum_to-none, sum_to-blocks, sum_to-both, sum_to-cond, sum_to-grows, sum_to-hit}
pub use Rattle.graph_theory.proofs.BlockSums.{sum_to-hit_from, sum_to-none, sum_to-ones, sum_to-only, sum_to-rows, test-small}
pub use Rattle.graph_theory.proofs.Comparisons.{eqb-shift, int_le-true, int_le-yes}
pub use Rattle.graph_theory.proofs.Components.{IsClosedBut, closed_has, component-within, together-edge, together-sym, together-within}
pub use Rattle.graph_theory.proofs.Crossings.{crosses_odd, crossings}
pub use Rattle.graph_theory.proofs.Duality.{weak_duality}
pub use Rattle.graph_theory.proofs.Edges.{degree-none, degree-touches, edge_at-read, edge_at-within, edge_back, edge_of-place, edge_of_within, ends_at-other, ends_at-some, number_of-place}
pub use Rattle.graph_theory.proofs.Edges.{other_end-u, touched-within, touches-u, touches-v}
pub use Rattle.graph_theory.proofs.Handshake.{handshake-perfect}
pub use Rattle.graph_theory.proofs.Members.{all_holds, any-member, differ-head, differ-tail, eqb-turned, holds-push, holds_all, holds_at, holds_first, holds_place, least_first}
pub use Rattle.graph_theory.proofs.Members.{mapped-member, member-mapped, members_counted, members_sum, range-ascending, range-has, range-only, same_list, same_tests, some-member}
pub use Rattle.graph_theory.proofs.OddParts.{leaves_none-even, odd_part_excludes}
pub use Rattle.graph_theory.proofs.Steps.{ends_of_step, one_if, one_if-other, one_if-same}
pub use Rattle.graph_theory.proofs.SumLemmas.{cond-times, int_sum_to-add, int_sum_to-append, int_sum_to-at_one, int_sum_to-le, int_sum_to-more, int_sum_to-one, int_sum_to-pos}
pub use Rattle.graph_theory.proofs.SumLemmas.{int_sum_to-same, int_sum_to-zero, one_if-most, plus-times, sum_to-add, sum_to-append, sum_to-at_one, sum_to-has, sum_to-le, sum_to-longer}
pub use Rattle.graph_theory.proofs.SumLemmas.{sum_to-more, sum_to-most, sum_to-one, sum_to-parity, sum_to-same, sum_to-swap, sum_to-zero, times-le, times-neg, times-one_if, times-sum_to}
pub use Rattle.graph_theory.proofs.Walks.{end-append, end-push, end_held, left-append, same_side, start_held, vertices-left, vertices-length, walk-front, walk-numbers, walk-push, walk-rest}
pub use Rattle.graph_theory.proofs.Walks.{walk-within, weight-append}
pub use Rattle.graph_theory.specs.Barrier.{AreTogether, IsBarrier, IsComponent, IsOddCount, IsOddHead}
pub use Rattle.graph_theory.specs.Duals.{AreDuals, DualSet, HasForm, IsNumber, IsSetWithin, crossed_by, dual_value, no_set, set_at, slack}
pub use Rattle.graph_theory.specs.Graph.{CountsNoneAt, HasNoLoop, IsEdgeNumber, IsEdgeWithin, IsGraph, IsPerfect, IsWeight, Multigraph, degree, edge_at, edge_of, ends_at, is_loop, no_edge}
pub use Rattle.graph_theory.specs.Graph.{other_end, touches, weight}
pub use Rattle.graph_theory.specs.Limits.{HasSize, IsWithinLimits}
pub use Rattle.graph_theory.specs.Nested.{AreAscending, AreNested, AreSame}
pub use Rattle.graph_theory.specs.OddSets.{AreEarlier, HasItemForm, IsGivenWithin, given_at, items_with, lies_below, lies_in, listed_set, listed_sets, members_in, no_given}
pub use Rattle.graph_theory.specs.Parts.{IsOddPart, IsSplitPart, IsVertexSet, LeavesNone, crosses, holds}
pub use Rattle.graph_theory.specs.Sums.{int_sum_to, sum_to}
pub use Rattle.graph_theory.specs.Walk.{AllDiffer, IsCircuit, IsClosedWalk, IsConservative, IsWalk, walk_end, walk_left, walk_vertices, walk_weight}
pub use Rattle.graph_theory.specs.declared.edge.Edge.{Edge}
pub use Rattle.graph_theory.specs.declared.limits.TheConstants.{GRAPH_VERTEX_LIMIT, NUMBER_LIMIT, WEIGHT_LIMIT}
pub use Rattle.graph_theory.specs.declared.odd_set.OddSet.{OddSet}
pub use Rattle.gallai_theory.proofs.Loops.{kept_at, kept_from}
pub use Rattle.gallai_theory.proofs.Twins.{AreAlike, HasTwin, IsTwin, count-twin, touches-twin}
pub use Rattle.gallai_theory.specs.Decomposition.{Alternates, HaveEvenPaths, HoldsOddComponents, IsDecomposed, IsEvenPath, unweighted, weightless}
pub use Rattle.gallai_theory.specs.Laws.{LoopsMatterNot, PathsDecompose}
pub use Rattle.gallai_theory.specs.Matchings.{IsBeside, IsBorder, IsGreatest, IsMatched, IsMissable, IsOuterSet, edges_used}
pub use Rattle.weighted_graph.proofs.LeftLemmas.{degree-taken, passed-same, still-none, taken-sum}
pub use Rattle.weighted_graph.specs.Left.{ArePassed, IsTaken, TakesOne}
pub use Rattle.mb_problem.proofs.CountBounds.{counted-within, limited, times-some, within_capacity}
pub use Rattle.mb_problem.proofs.EdgeLemmas.{edge-ends, edge-weight, edge_at-graph_of, edges-count, network-graph}
pub use Rattle.mb_problem.proofs.EndLemmas.{ends-high, ends-low}
pub use Rattle.mb_problem.proofs.JoinLemmas.{listed-at, listed-length, odd_at-bit}
pub use Rattle.mb_problem.proofs.KindLaws.{IsInForm, certified-no-larger, ends-needed, feasible-counts, feasible-form, feasible-most, feasible-places, kind-back, kind-field, number-back}
pub use Rattle.mb_problem.proofs.KindLaws.{IsLike, IsLikeBy, IsReadLike, ReachesLike, first_with, like-with, numbered-number, odd-excludes, only-bottleneck, only-gallai, read-with}
pub use Rattle.mb_problem.proofs.KindLaws.{split-excludes, value-order}
pub use Rattle.mb_problem.proofs.PartTruths.{has_odd_value}
pub use Rattle.mb_problem.proofs.WalkPlaces.{first_vertex}
pub use Rattle.mb_problem.specs.Feasible.{AreEnds, AtMostOnce, DegreesMeet, HasCounts, IsAsGood, IsAsGoodBy, IsBMatching, IsBest, IsBetweenBounds, IsFeasible, IsJoin, IsMatching, IsPath}
pub use Rattle.mb_problem.specs.Feasible.{IsPathOf, IsTour, IsWalkWith, WithinCapacities, weight_by, weight_of}
pub use Rattle.mb_problem.specs.Heaviest.{greater_of, greatest_to, heaviest, used_weight}
pub use Rattle.mb_problem.specs.Joins.{HasNoNegativeEvenSet, IsJoinOf, IsOddJoin, ListsJoin, listed_counts, odd_between}
pub use Rattle.mb_problem.specs.Kinds.{are_duals, asks_conservative, default_by, default_value_of, edge_use_of, obstruction_of, form_of, gadget_of, has_bounds, is_drawn, kind_named}
pub use Rattle.mb_problem.specs.Kinds.{kind_number, kind_numbered, need_of, proof_of, searches_of, sense_of, vertex_value_of}
pub use Rattle.mb_problem.specs.Marks.{AreMarks}
pub use Rattle.mb_problem.specs.Measured.{HasPlaces}
pub use Rattle.mb_problem.specs.Missed.{AreMissed, BorderMissed, IsMissedBySome}
pub use Rattle.mb_problem.specs.Network.{IsInstanceEdge, IsNetwork, Network, at_most, graph_of, high_of, instance_edge_at, low_of, no_instance_edge, plain, plain_graph, value_of, vertices}
pub use Rattle.mb_problem.specs.Ready.{HasEnds, HasEndsBy, HasWeightsBy, HasWeightsFromZero, IsReady}
pub use Rattle.mb_problem.specs.Size.{bounded, capped_size, certified_size, copy_pairs, edge_count_at, in_first, in_second, is_end, is_loop_at, joins, link_count, most_by, odd_at}
pub use Rattle.mb_problem.specs.Size.{odd_before, port_count, ports_size, room_of, size_by, size_of, spare_copies, standing, unit_room_of, value_total, value_u, value_v}
pub use Rattle.mb_problem.specs.Values.{total_weight, value_for}
pub use Rattle.mb_problem.specs.Words.{IsField, is_plain}
