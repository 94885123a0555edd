-- The names that proofs about documents and their certificates cite, passed on from one place. Declares nothing.
pub use Rattle.std.proofs.Common.{All, Bool, Err, IfOk, IfSome, IsTrue, List, MatchOption, None, Ok, Option, Result, Some, [], ap, append-nil, ap₂, arith, below_more, codes, cond, drop}
pub use Rattle.std.proofs.Common.{eqb, false, get_or, inl, inr, int_eq, int_le, int_lt, length, ltb, map, min, nat_abs, nat_lt, neg_ℤ, negsuc, not, of_z, pos, refl, replicate, rules, set}
pub use Rattle.std.proofs.Common.{slice_index, slice_set, subst, suc, sym, take, to_z, true, unwrap_or, w64, zero, ℕ, ℤ, ◌%◌, ◌&&◌, ◌*ℤ◌, ◌*◌, ◌++◌, ◌+ℤ◌}
pub use Rattle.std.proofs.Common.{◌+◌, ◌-◌, ◌/◌, ◌<ℤ◌, ◌<◌, ◌==◌, ◌||◌, ◌↔◌, ◌∙◌, ◌∷◌, ◌≡◌, ◌≢◌, ◌≤ℤ◌, ◌≤◌}
pub use Rattle.std.proofs.Math.Decide.{dec_lt, ℕ_discrete}
pub use Rattle.std.proofs.Math.Nat.{mul-le-mul}
pub use Rattle.std.proofs.Math.Seq.{take-append_seam}
pub use Rattle.std.proofs.lemmas.Bool.{and_from, and_parts, cases_Bool, cases_eq, cases_lt, cond_both, eq-eqb, eqb-true, false_from_ne_true, false≢true, ltb-false, ne_eqb, or_parts}
pub use Rattle.std.proofs.lemmas.Bool.{true≢false}
pub use Rattle.std.proofs.lemmas.Bool.Decides.{Decides-int_eq}
pub use Rattle.std.proofs.lemmas.Fmt.{length-decimal-le, length_signed_le}
pub use Rattle.std.proofs.lemmas.Grind.{flat_map-append}
pub use Rattle.std.proofs.lemmas.Int.{ints, to_z_pos}
pub use Rattle.std.proofs.lemmas.List.{append_assoc, append_cancel_left, drop_more, ext_get_or, get_or-map, get_or-replicate, get_or-set_other, get_or-set_same, get_or-take}
pub use Rattle.std.proofs.lemmas.List.{get_or_append_left, get_or_default, get_or_past, get_or_push, get_or_read, length-append, length-map, length-replicate, length-set, length-take-le}
pub use Rattle.std.proofs.lemmas.List.{length_push, map-append, map_more, take-append-le, take_all, take_more}
pub use Rattle.std.proofs.lemmas.List.Elements.{All-append, All-cons, All-from_get_or, All-from_recursion, All-get_or, All-head, All-map, All-nil, All-push, All-replicate, All-tail}
pub use Rattle.std.proofs.lemmas.List.Elements.{All-weaker}
pub use Rattle.std.proofs.lemmas.List.Folds.{list_all-append}
pub use Rattle.std.proofs.lemmas.List.FromFn.{get_or-map-range_with_len, get_or-range_with_len, length-map-range_with_len, length-range_with_len, map-range_with_len_more}
pub use Rattle.std.proofs.lemmas.Option.{same_Some}
pub use Rattle.std.proofs.lemmas.Result.{IfOk-weaker}
pub use Rattle.std.specs.Fmt.{decimal, signed_decimal}
pub use Rattle.std.specs.List.{AllByRecursion, flat_map, list_all, range_with_len}
pub use Rattle.std.specs.List.Sorted.{IsStrictlyIncreasing}
pub use Rattle.std.specs.Option.{option_map}
pub use Rattle.std.specs.declared.alloc.AllocError.{AllocError}
pub use Rattle.mb_base.specs.Rows.{Row, rows}
pub use Rattle.mb_base.specs.Streams.{Extends}
pub use Rattle.graph_theory.proofs.Barriers.{barrier_excludes}
pub use Rattle.graph_theory.proofs.Comparisons.{int_le-true, int_le-yes}
pub use Rattle.graph_theory.proofs.Duality.{weak_duality}
pub use Rattle.graph_theory.proofs.Edges.{edge_at-weight}
pub use Rattle.graph_theory.proofs.Handshake.{handshake-perfect}
pub use Rattle.graph_theory.proofs.Members.{all_holds, holds_all, member-mapped, members_counted, range-ascending, same_length, same_tests}
pub use Rattle.graph_theory.proofs.SumLemmas.{int_sum_to-constant, int_sum_to-le, int_sum_to-within, sum_to-add, sum_to-append, sum_to-same, times-int_sum_to, times-le, times-two}
pub use Rattle.graph_theory.proofs.Walks.{vertices-length, vertices-within, walk-numbers}
pub use Rattle.graph_theory.specs.Barrier.{IsBarrier}
pub use Rattle.graph_theory.specs.Duals.{AreDuals, DualSet, IsNumber, IsSetWithin, dual_of, dual_value, no_set, set_at, slack}
pub use Rattle.graph_theory.specs.Graph.{IsEdgeNumber, IsEdgeWithin, IsGraph, IsPerfect, IsWeight, Multigraph, degree, edge_at, edge_of, no_edge, weight}
pub use Rattle.graph_theory.specs.Limits.{HasSize, IsWithinLimits, Size}
pub use Rattle.graph_theory.specs.Nested.{AreAscending, AreNested, AreSame}
pub use Rattle.graph_theory.specs.OddSets.{AreEarlier, HasItemForm, HaveItemForm, IsGivenWithin, given_at, listed_sets, no_given}
pub use Rattle.graph_theory.specs.Parts.{IsOddPart, IsSplitPart, IsVertexSet, holds}
pub use Rattle.graph_theory.specs.Sums.{int_sum_to, sum_to}
pub use Rattle.graph_theory.specs.Walk.{AllDiffer, IsCircuit, IsWalk, walk_end, walk_vertices, walk_weight}
pub use Rattle.graph_theory.specs.declared.edge.Edge.{Edge}
pub use Rattle.graph_theory.specs.declared.limits.TheConstants.{GRAPH_EDGE_LIMIT, GRAPH_VERTEX_LIMIT, NUMBER_LIMIT}
pub use Rattle.graph_theory.specs.declared.odd_set.OddSet.{OddSet}
pub use Rattle.gallai_theory.specs.Decomposition.{Alternates, IsDecomposed, IsEvenPath}
pub use Rattle.gallai_theory.specs.Laws.{LoopsMatterNot, PathsDecompose}
pub use Rattle.gallai_theory.specs.Matchings.{edges_used}
pub use Rattle.mb_problem.proofs.CountBounds.{nothing-used}
pub use Rattle.mb_problem.proofs.EdgeLemmas.{edge-ends, edges-count, network-graph}
pub use Rattle.mb_problem.proofs.KindLaws.{IsInForm, IsNoLarger, even-no-larger, feasible-counts, feasible-form, feasible-most, feasible-places, feasible-walk, kind-back, kind-short}
pub use Rattle.mb_problem.proofs.KindLaws.{never-excluded, odd-ports, only-bottleneck, only-gallai, split-ports, two-searches}
pub use Rattle.mb_problem.proofs.WalkSteps.{walk-start}
pub use Rattle.mb_problem.specs.Degrees.{AreDegrees}
pub use Rattle.mb_problem.specs.Feasible.{AreEnds, IsFeasible, IsMatching, IsWalkWith, weight_by, weight_of}
pub use Rattle.mb_problem.specs.Heaviest.{greater_of, greatest_to, heaviest, used_weight}
pub use Rattle.mb_problem.specs.Joins.{HasNoNegativeEvenSet, ListsJoin, listed_counts, odd_between}
pub use Rattle.mb_problem.specs.Kinds.{are_duals, asks_conservative, edge_use_of, obstruction_of, form_of, kind_text, need_of, proof_of, searches_of}
pub use Rattle.mb_problem.specs.Marks.{AreMarks}
pub use Rattle.mb_problem.specs.Measured.{HasPlaces}
pub use Rattle.mb_problem.specs.Network.{IsInstanceEdge, IsNetwork, Network, graph_of, high_of, instance_edge_at, plain, plain_graph, value_of, vertices}
pub use Rattle.mb_problem.specs.Ready.{HasEnds, HasEndsBy, HasWeightsBy, HasWeightsFromZero, IsReady}
pub use Rattle.mb_problem.specs.Size.{bounded, is_loop_at, most_by, odd_at, ports_size, size_of}
pub use Rattle.mb_problem.specs.Values.{total_weight, value_beside, value_by, value_for}
pub use Rattle.mb_problem.specs.declared.answer.Answer.{Answer}
pub use Rattle.mb_problem.specs.declared.answer.Answer.TheVariants.{Counts, Nothing, Walk}
pub use Rattle.mb_problem.specs.declared.answer.Parity.{Parity}
pub use Rattle.mb_problem.specs.declared.answer.Parity.TheVariants.{Empty, OddDegrees, Values}
pub use Rattle.mb_problem.specs.declared.gadget.GadgetForm.{GadgetForm}
pub use Rattle.mb_problem.specs.declared.instance.InstanceEdge.{InstanceEdge}
pub use Rattle.mb_problem.specs.declared.kind.AnswerForm.{AnswerForm}
pub use Rattle.mb_problem.specs.declared.kind.BestProof.{BestProof}
pub use Rattle.mb_problem.specs.declared.kind.BestProof.TheVariants.{Duals, LighterBarrier, OuterPaths}
pub use Rattle.mb_problem.specs.declared.kind.DualValue.{DualValue}
pub use Rattle.mb_problem.specs.declared.kind.DualValue.TheVariants.{BesideAll, FourTimes, Opposite, Twice}
pub use Rattle.mb_problem.specs.declared.kind.EdgeUse.{EdgeUse}
pub use Rattle.mb_problem.specs.declared.kind.Obstruction.{Obstruction}
pub use Rattle.mb_problem.specs.declared.kind.Obstruction.TheVariants.{Barrier, Never, OddPart, SplitPart}
pub use Rattle.mb_problem.specs.declared.kind.Kind.{Kind}
pub use Rattle.mb_problem.specs.declared.kind.Kind.TheVariants.{Bottleneck, Gallai, Perfect, Postman}
pub use Rattle.mb_problem.specs.declared.kind.Cost.TheVariants.{Total}
pub use Rattle.mb_problem.specs.declared.kind.Precondition.{Precondition}
pub use Rattle.mb_problem.specs.declared.kind.Precondition.TheVariants.{Ends, EndsAndWeightsFromZero, Unrestricted, WeightsFromZero}
pub use Rattle.mb_problem.specs.declared.limits.TheConstants.{EDGE_LIMIT, VALUE_LIMIT, VERTEX_LIMIT}
pub use Rattle.gadget_base.proofs.Blocks.{All-tabled, is-tabled, tabled-at, tabled-length, tabled-more, tabled-same}
pub use Rattle.gadget_base.proofs.Links.{perfect-reached, plain-graph, plain-length, with_loops-at}
pub use Rattle.gadget_base.proofs.Listed.{few-steps, list-weight, list_from_perfect, times_each-length, weight_of_list}
pub use Rattle.gadget_base.proofs.Times.{differ-once}
pub use Rattle.gadget_base.specs.Blocks.{tabled}
pub use Rattle.gadget_base.specs.Certified.{IsPerfectList, IsReached, ReachesAll, gadget_graph}
pub use Rattle.gadget_base.specs.Gadgets.{graph_by, ports_graph}
pub use Rattle.gadget_base.specs.Lighter.{lighter_than}
pub use Rattle.gadget_base.specs.Links.{links_below, with_loops}
pub use Rattle.gadget_base.specs.Listed.{ListsCounts, times, times_each}
pub use Rattle.gadget_cap.proofs.Extracted.{bounded-small}
pub use Rattle.gadget_tjoin.proofs.Laws.{reaches-joins}
pub use Rattle.gadget_tjoin.proofs.WalkParity.{walk-short}
pub use Rattle.gadget_tjoin.specs.Joins.{ReachesJoins}
pub use Rattle.doc_format.proofs.InOrder.{all_joined, all_mapped}
pub use Rattle.doc_format.proofs.PartLaws.{edges_ascend, kept_where, odd_ascends, outer_ascends, paths_ascend, split_ascends, vertices_ascend}
pub use Rattle.doc_format.proofs.Stretches.{IsTail, before, keyed, many_ranked, one_in_order, one_ranked, only, sets_in_order}
pub use Rattle.doc_format.proofs.WholeBack.{holds_the_same, reads_back, text_back, text_holds}
pub use Rattle.doc_format.specs.Form.{AscendsBy, IsDocument, admits, in_order, is_barrier, is_never}
pub use Rattle.doc_format.specs.Items.{is_item, item_number, item_text}
pub use Rattle.doc_format.specs.Law.{GivesAgain, HasKeptNumbers, IsKept, SaysTheSame}
pub use Rattle.doc_format.specs.Parts.{Body, Role, ascends, at_most_one, blank, edge_number, fields_of, has_any, is_counts, is_formed, is_odd_part, is_split_part, is_walk, item_passes}
pub use Rattle.doc_format.specs.Parts.{node_number, numbers_of, parts_of, proves_best, set_count, set_dual, set_number, use_count, vertex_dual, vertex_number}
pub use Rattle.doc_format.specs.Reading.{HoldsDocument, IsFirstRefused, body_of, head_of}
pub use Rattle.doc_format.specs.Spelling.{after_space, answer, asked, document_text, head_row, letter, part_row, parts_text, row_text, spaced, with_count}
pub use Rattle.doc_format.specs.Status.{status_text}
pub use Rattle.doc_format.specs.declared.document.Document.{Document}
pub use Rattle.doc_format.specs.declared.error.DocError.{DocError}
pub use Rattle.doc_format.specs.declared.head.Head.{Head}
pub use Rattle.doc_format.specs.declared.part.CountLine.{CountLine}
pub use Rattle.doc_format.specs.declared.part.DualLine.{DualLine}
pub use Rattle.doc_format.specs.declared.part.MemberLine.{MemberLine}
pub use Rattle.doc_format.specs.declared.part.Part.{Part}
pub use Rattle.doc_format.specs.declared.part.Part.TheVariants.{Count, Dual, Even, Odd, Outer, Set, Split}
pub use Rattle.doc_format.specs.declared.part.PathLine.{PathLine}
pub use Rattle.doc_format.specs.declared.part.SetItem.{SetItem}
pub use Rattle.doc_format.specs.declared.part.SetItem.TheVariants.{Reference, Vertex}
pub use Rattle.doc_format.specs.declared.part.SetLine.{SetLine}
pub use Rattle.doc_format.specs.declared.part.WalkLine.{WalkLine}
pub use Rattle.doc_format.specs.declared.status.DocStatus.{DocStatus}
pub use Rattle.doc_format.specs.declared.status.DocStatus.TheVariants.{Infeasible, NonConservative, Optimal}
pub use Rattle.conservative_paths.specs.Within.{EvenSetsDecide, IsNegativeCircuitWithin}
pub use Rattle.gadget_parity.specs.Sides.{path_kind}
pub use Rattle.certificates.proofs.AscentLemmas.{ascends-below}
pub use Rattle.certificates.proofs.BarrierLemmas.{barrier-set, forms-where_none, numbers-ascend, set_lines-more, up_to-more, vertex_set}
pub use Rattle.certificates.proofs.DualLemmas.{duals-numbers, duals_size, given-earlier, given-numbers, given-within, has_duals, members-within}
pub use Rattle.certificates.proofs.GadgetLemmas.{few_vertices}
pub use Rattle.certificates.proofs.KindLemmas.{excluded}
pub use Rattle.certificates.proofs.Lighter.{heaviest-none}
pub use Rattle.certificates.proofs.OuterLemmas.{best-by_paths}
pub use Rattle.certificates.proofs.ProvedTruth.{proved_true, proved_true-pathless}
pub use Rattle.certificates.proofs.RangeLemmas.{first_of_all}
pub use Rattle.certificates.proofs.SameClaims.{proved-same, truth-same}
pub use Rattle.certificates.proofs.TruthLemmas.{best-by_barrier, best-by_value, no_answer, not_conservative, reached-weighs}
pub use Rattle.certificates.proofs.WithinLemmas.{are-within, barrier-in, counts-in, duals-in, in-range, number-in, odd-in, outer-in, paths-in, sets-in, split-in, walk-in}
pub use Rattle.certificates.specs.Certificates.{HasAllPaths, HasAllPathsBy, HasAllWantedPaths, HasBarrierBeside, HasBarrierByStatus, HasBarrierFor, HasDecomposition, HasDuals, HasDualsBy}
pub use Rattle.certificates.specs.Certificates.{HasFeasibleAnswer, HasLighterBarrier, HasLineForm, HasNegativeCircuit, HasPartFor, HasStatedWeight, HasValueBy, HasWantedPart, HaveForm}
pub use Rattle.certificates.specs.Certificates.{HavePathForm, HavePathsBy, HaveSlack, HaveSlackBy, HaveWantedPaths, IsStatedPath, listed, vertices_first}
pub use Rattle.certificates.specs.Claims.{answer_by, answer_of, count_of, counts_of, duals_of, members_of, numbers, path_starts, references_in, set_of, sets_of, stated_counts, vertices_in}
pub use Rattle.certificates.specs.Claims.{walk_of}
pub use Rattle.certificates.specs.Excluded.{HasNoAnswer, IsExcludedByBarrier, IsExcludedFor}
pub use Rattle.certificates.specs.Proved.{IsProved, ProvesBest, ProvesByDuals, ProvesByPaths, ProvesByStatus, ProvesOptimal, StatesTruth, StatesTruthBy}
pub use Rattle.certificates.specs.Ranges.{all_in_range, all_in_range_for, checked, first_fault, first_out_of_range, first_outside, in_range, is_between, is_dual, is_set_dual, is_up_to}
pub use Rattle.certificates.specs.Ranges.{is_within}
pub use Rattle.certificates.specs.Within.{AreSetLinesWithin, AreWithin, IsCountWithin, IsDualWithin, IsItemWithin, IsPathWithin, IsSetDual, IsSetLineWithin, IsUpTo, IsWalkWithin}
pub use Rattle.graph_theory.proofs.Passing.{lines-push, members-passing, passing, passing-ascends, passing-few, passing-holds, passing-only, passing-range}
