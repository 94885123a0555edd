-- The names that proofs of the search cite, passed on from one place. Declares nothing.
pub use Rattle.std.proofs.Common.{All, AllPairs, Bool, FitsSigned, List, MatchBool, MatchOption, None, Option, Some, [], add-one, ap, append_assoc, ap₂, arith, below_more, cond, drop}
pub use Rattle.std.proofs.Common.{drop-cons, eqb, false, get_or, if◌then◌else◌, inl, inr, int_le, int_lt, is_some, leb, length, length-append, map, nat_eq, neg_ℤ, negsuc, not, of_z}
pub use Rattle.std.proofs.Common.{pos, refl, replicate, reverse, rules, slice_index, slice_index_or, slice_set, subst, suc, sym, take, to_z, true, vec_len, zero, ℕ, ℤ, ⊎_elim, ◌%◌}
pub use Rattle.std.proofs.Common.{◌&&◌, ◌*ℤ◌, ◌*◌, ◌++◌, ◌+ℤ◌, ◌+◌, ◌-ℤ◌, ◌-◌, ◌<◌, ◌||◌, ◌↔◌, ◌∙◌, ◌∷◌, ◌≡◌, ◌≢◌}
pub use Rattle.std.proofs.Common.{◌≤ℤ◌, ◌≤◌, ◌⊎◌}
pub use Rattle.std.proofs.Math.Bool.{and-false}
pub use Rattle.std.proofs.Math.IntN.{+ℤ_idl}
pub use Rattle.std.proofs.Math.Nat.{mul-le-mul_left, mul-le-mul_right, suc-mul}
pub use Rattle.std.proofs.Math.Seq.{get_or-append_seam}
pub use Rattle.std.proofs.lemmas.Bool.{and_from, and_left, and_parts, and_right, both_ways, cases_eq, cases_lt, eq-eqb, eqb-false, eqb-true, false_from_ne_true, ne_eqb, not-false}
pub use Rattle.std.proofs.lemmas.Bool.{not_from_true, or_cases, or_from, or_left, or_parts, or_right}
pub use Rattle.std.proofs.lemmas.Bool.Decides.{nat_tests}
pub use Rattle.std.proofs.lemmas.Int.{ints}
pub use Rattle.std.proofs.lemmas.List.{append-nil, drop_all, drop_at, get_or-map, get_or-replicate, get_or-set_other, get_or_default, get_or_past, get_or_push, get_or_read, length-drop}
pub use Rattle.std.proofs.lemmas.List.{length-map, length-replicate, length-take-le, length_push, nil_from_length, reverse-append, take-append-drop, take_all, take_at, take_more, take_rest}
pub use Rattle.std.proofs.lemmas.List.Concat.{flat_map-append, flat_map-cons}
pub use Rattle.std.proofs.lemmas.List.Elements.{All-cons, All-drop, All-from_get_or, All-from_recursion, All-map, All-nil, All-take, All-weaker, AllWithin-more, AllWithin-none, at_read}
pub use Rattle.std.proofs.lemmas.List.Elements.{recursion_from_All}
pub use Rattle.std.proofs.lemmas.List.Filters.{length-filter_both}
pub use Rattle.std.proofs.lemmas.List.Folds.{length-flat_map-take, list_any_none}
pub use Rattle.std.proofs.lemmas.List.FromFn.{get_or-map-range_with_len, length-map-range_with_len}
pub use Rattle.std.proofs.lemmas.List.Kept.{AllPairs-cons, AllPairs-filter}
pub use Rattle.std.proofs.lemmas.List.Sums.{sum_by-cons}
pub use Rattle.std.proofs.lemmas.Nat.{mul-le}
pub use Rattle.std.proofs.lemmas.Option.{same_Some}
pub use Rattle.std.proofs.lemmas.Result.{IfOk-weaker}
pub use Rattle.std.specs.List.{AllByRecursion, AllWithin, IsDistinct, filter, flat_map, list_any, range_with_len}
pub use Rattle.std.specs.List.Sorted.{IsStrictlyIncreasing}
pub use Rattle.std.specs.Option.{ForSome}
pub use Rattle.std.specs.Vec.{vec_capacity}
pub use lib.Signed.{lt_z}
pub use mir.Syntax.{w128, w64}
pub use Rattle.graph_theory.proofs.Around.{around-has, around-is}
pub use Rattle.graph_theory.proofs.Barriers.{barrier_excludes, head-within}
pub use Rattle.graph_theory.proofs.Components.{closed_has, component-outside, component-within, component_from, together-edge, together-free, together-free_start, together-refl}
pub use Rattle.graph_theory.proofs.Components.{together-sym, together-trans, together-within}
pub use Rattle.graph_theory.proofs.Crossings.{crosses-same, crosses_odd, crossings}
pub use Rattle.graph_theory.proofs.Duality.{weight_by_slacks}
pub use Rattle.graph_theory.proofs.Edges.{degree-touches, edge_at-weight, edge_back, edge_of-place, edge_of-weight, edge_of_within, number_of-place, other_end-u, other_end-within}
pub use Rattle.graph_theory.proofs.Edges.{touched-within, touches-u, touches-v}
pub use Rattle.graph_theory.proofs.Handshake.{handshake-perfect}
pub use Rattle.graph_theory.proofs.Members.{all_holds, any-member, differ-cons, either_term, holds-append, holds-push, holds_all, holds_at, holds_first, holds_place, least_first}
pub use Rattle.graph_theory.proofs.Members.{member-mapped, only-member, same_length, some-member}
pub use Rattle.graph_theory.proofs.SumLemmas.{at_least_once, cond-times, int_sum_to-add, int_sum_to-constant, int_sum_to-le, int_sum_to-pos, int_sum_to-same, int_sum_to-zero, one_if-most}
pub use Rattle.graph_theory.proofs.SumLemmas.{plus-times, sum_to-add, sum_to-at_one, sum_to-has, sum_to-le, sum_to-more, sum_to-most, sum_to-same, sum_to-times, sum_to-zero, times-add}
pub use Rattle.graph_theory.proofs.SumLemmas.{times-cond, times-int_sum_to, times-le, times-neg, times-suc, times-two}
pub use Rattle.graph_theory.proofs.Walks.{end-push, left-append, left-length, start_held, vertices-left, vertices-within, walk-push}
pub use Rattle.graph_theory.specs.Barrier.{AreTogether, IsBarrier, IsOddCount, IsOddHead}
pub use Rattle.graph_theory.specs.Duals.{AreDuals, DualSet, HasForm, IsNumber, IsSetWithin, dual_value, no_set, set_at, slack}
pub use Rattle.graph_theory.specs.Graph.{HasNoLoop, IsEdgeNumber, IsEdgeWithin, IsGraph, IsPerfect, IsWeight, Multigraph, degree, edge_at, edge_of, edges_around, is_loop, no_edge, other_end}
pub use Rattle.graph_theory.specs.Graph.{touches, weight}
pub use Rattle.graph_theory.specs.Limits.{Size}
pub use Rattle.graph_theory.specs.Nested.{AreSame, HoldsOrMisses, most_blossoms}
pub use Rattle.graph_theory.specs.Parts.{crosses, holds}
pub use Rattle.graph_theory.specs.Sums.{int_sum_to, sum_to}
pub use Rattle.graph_theory.specs.Walk.{AllDiffer, IsWalk, walk_end, walk_left, walk_vertices}
pub use Rattle.graph_theory.specs.declared.edge.Edge.{Edge}
pub use Rattle.graph_theory.specs.declared.limits.TheConstants.{GRAPH_VERTEX_LIMIT, NUMBER_LIMIT, WEIGHT_LIMIT}
pub use Rattle.blossom_arena.proofs.Changed.{held-sum, outer_sum}
pub use Rattle.blossom_arena.proofs.Ends.{u_vertex, v_vertex}
pub use Rattle.blossom_arena.proofs.Forms.{members_form, newer_holds_or_misses, sorted_form}
pub use Rattle.blossom_arena.proofs.Held.{dual_number, held_same, held_without, held_zero}
pub use Rattle.blossom_arena.proofs.LinkLists.{all_inside, each_link, each_parts, each_whole, in_ring-append, new_parts, nodes_of-append}
pub use Rattle.blossom_arena.proofs.Lists.{AllNew, by_test, distinct_from_new, each_from, first_in, holds-filter, holds-vertices, later_in, length-vertices, length-within, new-append}
pub use Rattle.blossom_arena.proofs.Lists.{new-filter, new-vertices, new_from_distinct, vertices}
pub use Rattle.blossom_arena.proofs.MemberCounts.{member_sum, members_most}
pub use Rattle.blossom_arena.proofs.Nested.{blossoms_most, child_free, child_is_node, circuit_node, circuit_outer, holds-outer_nodes, name_is_node, name_no_vertex, name_range, names_new}
pub use Rattle.blossom_arena.proofs.Nested.{new_free, new_is_node, new_no_child, node_grows, node_range, not_new, older_name, outer_nodes, outermost_before, outermost_parts, range_vertex}
pub use Rattle.blossom_arena.proofs.Nested.{room_for_circuit, vertex_is_node, vertex_range}
pub use Rattle.blossom_arena.proofs.Older.{end_member, has_ring, held, here, holder, past, ring_long, ring_new, ring_odd, ring_room}
pub use Rattle.blossom_arena.proofs.Opened.{child_outer}
pub use Rattle.blossom_arena.proofs.Parents.{chain_last, chain_node, chain_nonzero, chain_through, nested_older, older_fresh, ring_child}
pub use Rattle.blossom_arena.proofs.Rested.{rested_out}
pub use Rattle.blossom_arena.proofs.Sets.{in_union, member_by_ring, member_vertex, members_here, members_new, members_odd, members_of_vertex, members_past, members_some, outer_member}
pub use Rattle.blossom_arena.proofs.Sets.{outermost_by_member, outermost_free, outermost_has, outermost_node}
pub use Rattle.blossom_arena.proofs.Slacks.{slack_listed, vertex_dual}
pub use Rattle.blossom_arena.proofs.Taken.{each_without, members_without, names_without, nested_without, node_without, outermost_stays}
pub use Rattle.blossom_arena.proofs.Theorems.{members_differ}
pub use Rattle.blossom_arena.specs.Changes.{gain}
pub use Rattle.blossom_arena.specs.Family.{Blossom, Family, HasDuals, IsCircuit, IsFamily, IsNested, IsOddSet, chain_of, child_holding, dual_at, in_ring, is_child, is_node, is_outermost}
pub use Rattle.blossom_arena.specs.Family.{is_vertex, made_of, members_of, names_of, nodes_of, older_than, outermost, raised, rested, ring_of, shrunk, union_of, without}
pub use Rattle.blossom_arena.specs.Slack.{duals_across, vertex_duals}
pub use Rattle.blossom_arena.specs.declared.label.Label.{Label}
pub use Rattle.blossom_arena.specs.declared.label.Label.TheVariants.{Inner, Out, Outer}
pub use Rattle.blossom_arena.specs.declared.links.Link.{Link}
pub use Rattle.base_types.specs.declared.ids.NodeId.{NodeId}
pub use Rattle.search_heap.proofs.Maps.{only_items_have, places_stay}
pub use Rattle.search_heap.specs.Moments.{IsItem, IsLeast, Moments, entry, moment_of, no_moments, with_moment}
pub use Rattle.search_heap.specs.declared.item.Item.{Item}
pub use Rattle.search_tables.proofs.IncidenceLists.{incident_count, incident_number}
pub use Rattle.search_tables.specs.IncidentEdges.{IsIncidentEdge, LeadsTo, numbers_of}
pub use Rattle.alt_forest.proofs.Ascending.{holds-picked, new-map, new_from_ascending, picked_ascends, picked_set}
pub use Rattle.alt_forest.proofs.Counted.{counted, no_entry, no_roots, one_if, passing_root, root_passes, roots_counted}
pub use Rattle.alt_forest.proofs.DualSums.{slack_leading}
pub use Rattle.alt_forest.proofs.Duals.{low_at}
pub use Rattle.alt_forest.proofs.EntrySteps.{by_places, entered_same}
pub use Rattle.alt_forest.proofs.Hops.{AreHops, IsGrandparentLink, has_hop, hop_above, hop_path, hop_root, hop_shorter, links_up, read_is, up_to_inner}
pub use Rattle.alt_forest.proofs.Incidence.{incidence_around, incidence_leads}
pub use Rattle.alt_forest.proofs.Leads.{leads, leads_joins, leads_vertex, leads_weight}
pub use Rattle.alt_forest.proofs.Looks.{all_ends, ends_most, outside_ends_fall, weigh_less}
pub use Rattle.alt_forest.proofs.Mates.{joins_turned, joins_unique, mate_turned, mate_unique, partner_unique}
pub use Rattle.alt_forest.proofs.Needs.{MomentBy, asked_by, needs_also, needs_between, needs_by, needs_none_inner, needs_none_within}
pub use Rattle.alt_forest.proofs.NoTree.{none_queued}
pub use Rattle.alt_forest.proofs.Pairs.{child_is, in_labelled, inner_fewer, is_inner, is_outer, mate_inner, mate_node, mates_differ, new_labelled, nodes_labelled, of_labelled}
pub use Rattle.alt_forest.proofs.Parity.{even_slack, one_class, parity_refl, parity_sym, parity_trans, tight_parity}
pub use Rattle.alt_forest.proofs.Paths.{IsPassed, descends, passed_at, path_enough, path_of-step, path_short}
pub use Rattle.alt_forest.proofs.Places.{label_place, mate_place, nested_of, other_outer, outer_range, parent_place, u_outer, v_outer, vertex_outer}
pub use Rattle.alt_forest.proofs.Planted.{members_fit, members_vertices, planted_blossoms, planted_state, root_looks}
pub use Rattle.alt_forest.proofs.Puts.{put_dual}
pub use Rattle.alt_forest.proofs.Queues.{blossom_other, blossom_set, count_removed, edge_item, edge_other, edge_set, node_item, tree_nodes_with}
pub use Rattle.alt_forest.proofs.Relabelled.{inner_not_out, outer_not_inner, outer_not_out, put_here, put_other, some_not_none}
pub use Rattle.alt_forest.proofs.Roots.{forests_have_parity, path_root, path_up, root_self, root_up, some_node, up_or_root, ways_lead}
pub use Rattle.alt_forest.proofs.Rounds.{GoesRound, LeadsRound, each_round, goes_round, leads_round, next_node-append}
pub use Rattle.alt_forest.proofs.TreeIds.{AreTrees, roots_are_trees, tree_root}
pub use Rattle.alt_forest.proofs.Tight.{tight_ring, tight_rings}
pub use Rattle.alt_forest.proofs.Walk.{deeper_differs, other_node_joins, path_none, path_step, up_step}
pub use Rattle.alt_forest.specs.Chains.{total_of}
pub use Rattle.alt_forest.specs.Circuits.{ArePaired}
pub use Rattle.alt_forest.specs.Counts.{IsMatched, IsPlanted, exposed_count, is_exposed, is_outside, is_root, measure, outside_among, outside_vertices, tree_count}
pub use Rattle.alt_forest.specs.Entries.{ForMoment, HasNoTree, IsBlossomEntered, IsEntered, IsQueued, IsQueuedBut, NeedsMoment, ends_around, ends_looked, entered_among, entry_count}
pub use Rattle.alt_forest.specs.Entries.{looks_left, out_ends, outside_ends, touches_any}
pub use Rattle.alt_forest.specs.Events.{CanAugment, CanExpand, CanGrow, CanShrink}
pub use Rattle.alt_forest.specs.Searches.{HasShape, IsSound, IsStart, edge_in, is_given, label_at, put, state_of}
pub use Rattle.alt_forest.specs.TreeNodes.{AreListed, AreMoving, IsTreeId, HasTreeNodes, tree_id_at}
pub use Rattle.alt_forest.specs.State.{ExposedAgree, FitsLabel, HasRings, IsChainTo, IsExposed, IsInner, IsMate, IsOutermost, IsRing, IsSearchState, IsTight, Joins, State, doubled, dual_sum}
pub use Rattle.alt_forest.specs.State.{held_by, next_node, node_u, node_v, slack_of, slack_with}
pub use Rattle.alt_forest.specs.Trees.{IsRoot, SameParity, far_end, first_common, is_label, last_of, node_limit, other_node, path_of, path_within, root_of, up_edge, up_edge_by, up_of}
pub use Rattle.alt_forest.specs.Ways.{HasGrandparentLink, IsRead}
