-- The names that proofs about graphs cite, passed on from one place. Declares nothing.
pub use Rattle.std.proofs.Common.{All, AllPairs, Bool, Err, FitsSigned, IfErr, IfNone, IfOk, IfSome, IsPermutation, IsSome, IsTrue, List, MatchOption, None, Ok, OnErr, OnOk, Option, Result}
pub use Rattle.std.proofs.Common.{Some, [], add-one, ap, append_assoc, ap₂, arith, below_more, codes, cond, count_by, drop, drop-cons, eqb, false, flat_map, get_or, inl, inr, int_lt}
pub use Rattle.std.proofs.Common.{is_some, leb, length, length-append, ltb, map, max, min, nat_abs, nat_eq, nat_le, nat_lt, neg_ℤ, not, of_z, pos, refl, replicate, rules, set, slice_index}
pub use Rattle.std.proofs.Common.{slice_index_or, slice_set, string_bytes, subst, suc, sum_by, swap_remove, sym, take, to_z, true, vec_len, zero, zero-add, ℕ, ℤ, ⊎_elim, ◌%◌}
pub use Rattle.std.proofs.Common.{◌&&◌, ◌*ℤ◌, ◌*◌, ◌++◌, ◌+ℤ◌, ◌+◌, ◌-ℤ◌, ◌-◌, ◌/◌, ◌<ℤ◌, ◌<◌, ◌==◌, ◌^◌, ◌||◌, ◌↔◌}
pub use Rattle.std.proofs.Common.{◌∙◌, ◌∷◌, ◌≡◌, ◌≢◌, ◌≤ℤ◌, ◌≤◌, ◌⊎◌}
pub use Rattle.std.proofs.Math.Bool.{and-false, beq, or-false, or-true, or_assoc}
pub use Rattle.std.proofs.Math.Decide.{dec_lt, ℕ_discrete}
pub use Rattle.std.proofs.Math.Nat.{le-min, mul-le-mul, mul-le-mul_left, mul-le-mul_right}
pub use Rattle.std.proofs.Math.Seq.{get_or-append_seam, take-append-add}
pub use Rattle.std.proofs.lemmas.Bool.{and_from, and_left, and_parts, and_right, both_ways, cases_Bool, cases_eq, cases_lt, cases_order, cond-false, cond-true, cond_both, eq-eqb, eqb-false}
pub use Rattle.std.proofs.lemmas.Bool.{eqb-true, false_from_ne_true, false≢true, le-leb, le-ltb, leb-true, lt-leb, lt-ltb, ltb-true, ne_eqb, not-true, not_from_false, or_cases, or_from}
pub use Rattle.std.proofs.lemmas.Bool.{or_left, or_parts, or_right, true_from_ne_false, true≢false}
pub use Rattle.std.proofs.lemmas.Bool.Decides.{nat_tests}
pub use Rattle.std.proofs.lemmas.Cmp.{nat_eq_equiv}
pub use Rattle.std.proofs.lemmas.Grind.{common_steps}
pub use Rattle.std.proofs.lemmas.Int.{SFits-int_wrap, by_lt_z, int_wrap-add_left, int_wrap-add_right, int_wrap_fits, ints, quot-rem, rem_is, to_z-of_z, wraps}
pub use Rattle.std.proofs.lemmas.List.{append-nil, at_drop_more, drop-append-le, drop-drop, drop-set, drop-set-add, drop-set-lt, drop_at, drop_more, ext_get_or, get_or-append-add}
pub use Rattle.std.proofs.lemmas.List.{get_or-drop, get_or-map, get_or-replicate, get_or-set_other, get_or-set_same, get_or-take, get_or_append_left, get_or_default, get_or_past}
pub use Rattle.std.proofs.lemmas.List.{get_or_push, get_or_read, length-drop, length-map, length-replicate, length-set, length-take, length-take-le, length_push, map-append, map_more}
pub use Rattle.std.proofs.lemmas.List.{map_push, nil_from_length, same_lists, set-get_or, take-append-drop, take-append-le, take-map, take-set-le, take_all, take_at, take_more}
pub use Rattle.std.proofs.lemmas.List.{take_more_set, with_items_is}
pub use Rattle.std.proofs.lemmas.List.Concat.{flat_map-cons}
pub use Rattle.std.proofs.lemmas.List.Elements.{All-append, All-cons, All-drop, All-filter, All-from_get_or, All-from_recursion, All-get_or, All-head, All-map, All-nil, All-push}
pub use Rattle.std.proofs.lemmas.List.Elements.{All-replicate, All-set, All-tail, All-take, All-weaker, filter_more, filter_passes, recursion_from_All}
pub use Rattle.std.proofs.lemmas.List.Filters.{dedup_is, length-filter_both}
pub use Rattle.std.proofs.lemmas.List.Folds.{find-append, list_all-append, list_any_at}
pub use Rattle.std.proofs.lemmas.List.FromFn.{get_or-map-range_with_len, get_or-range_with_len, length-map-range_with_len, length-range_with_len}
pub use Rattle.std.proofs.lemmas.List.Kept.{AllPairs-from_increasing, IsStrictlyIncreasing-filter}
pub use Rattle.std.proofs.lemmas.List.Sorted.{Contains-permutation, IsNonDecreasingBy-from_sort, IsPermutation-swap_remove, IsPermutation-sym, answers_always, length_permutation}
pub use Rattle.std.proofs.lemmas.List.Sorted.{list_any-IsPermutation}
pub use Rattle.std.proofs.lemmas.List.Splits.{slice_split-cons_no, slice_split-cons_yes}
pub use Rattle.std.proofs.lemmas.List.Sums.{AllPass-from_list_all, list_all-from_AllPass, sum_by-append, sum_by-cons}
pub use Rattle.std.proofs.lemmas.Map.Keys.{IsDistinct-IsPermutation, IsDistinct-head, IsDistinct-push, IsDistinct-tail, IsStrictlyIncreasing-from_distinct}
pub use Rattle.std.proofs.lemmas.Map.Made.{length-from_same_keys, length-le_from_is_member}
pub use Rattle.std.proofs.lemmas.Map.Views.{any-filter_same}
pub use Rattle.std.proofs.lemmas.Nat.{div-mul-add, mod-mul-add, mul-le}
pub use Rattle.std.proofs.lemmas.Option.{same_Some}
pub use Rattle.std.proofs.lemmas.Result.{IfOk-weaker, err_from_is_err_and}
pub use Rattle.std.specs.Global.{Vec}
pub use Rattle.std.specs.Int.{int_min, int_wrap}
pub use Rattle.std.specs.Int.RustNames.{int_div, int_rem}
pub use Rattle.std.specs.Io.KnownBytes.{Consumes, IsAtEnd}
pub use Rattle.std.specs.List.{AllAdjacentBelow, AllByRecursion, IsAllAdjacentAnswer, IsDistinct, after_first, filter, list_all, list_any, onto_first, position, position_or_len}
pub use Rattle.std.specs.List.{range_with_len, slice_split}
pub use Rattle.std.specs.List.Sorted.{IsStrictlyIncreasing}
pub use Rattle.std.specs.Option.{option_map, option_or}
pub use Rattle.std.specs.Prelude.{⊤}
pub use Rattle.std.specs.Set.{is_member}
pub use Rattle.std.specs.Str.Lines.{strip_carriage_return}
pub use Rattle.std.specs.Vec.{vec_capacity, with_item, with_items}
pub use Rattle.std.specs.declared.alloc.AllocError.{AllocError}
pub use lib.Signed.{quot_z}
pub use mir.Syntax.{w128, w64}
pub use Rattle.graph_theory.proofs.Around.{around-ascending, around-at, around-has, around-is, edges_below-count, edges_below-missed, edges_below-touched, number_at}
pub use Rattle.graph_theory.proofs.Barriers.{IsOddComponent, barrier_excludes, component_at, crossed-le, have_heads, head-within, heads_apart, held_once, odd_count-unique}
pub use Rattle.graph_theory.proofs.BlockSums.{block-once, cond_off, sum_to-blocks, sum_to-both, sum_to-cond, sum_to-const, sum_to-grows, sum_to-hit, sum_to-hit_from, sum_to-miss}
pub use Rattle.graph_theory.proofs.BlockSums.{sum_to-none, sum_to-ones, sum_to-only, test-small}
pub use Rattle.graph_theory.proofs.Components.{AreApart, closed_has, component-outside, component-unique, component-within, component_from, together-free, together-push, together-refl}
pub use Rattle.graph_theory.proofs.Components.{together-sym, together-trans, together-within}
pub use Rattle.graph_theory.proofs.Crossings.{crosses-same, crossing_sums, crossings, degree_sum, degrees_in_set}
pub use Rattle.graph_theory.proofs.Duality.{weak_duality}
pub use Rattle.graph_theory.proofs.Edges.{edge_back, edge_of-place, edge_of-weight, edge_of_within, ends_at-some, number_of-place, other_end-u, other_end-within, touches-u, touches-v}
pub use Rattle.graph_theory.proofs.Handshake.{handshake, handshake-perfect}
pub use Rattle.graph_theory.proofs.Members.{all_holds, ascending-differ, differ-cons, differ-head, differ-tail, differ_counted, eqb-turned, first_less, holds-append, holds-of_take}
pub use Rattle.graph_theory.proofs.Members.{holds-push, holds-take, holds_all, holds_at, holds_first, holds_place, increasing-push, least_first, mapped-member, member-mapped}
pub use Rattle.graph_theory.proofs.Members.{members_at_most, members_counted, members_sum, not_before, only-member, pairs_tail, range-ascending, range-has, range-only, same_length-differ}
pub use Rattle.graph_theory.proofs.Members.{same_list, same_tests}
pub use Rattle.graph_theory.proofs.OddParts.{odd_part_excludes}
pub use Rattle.graph_theory.proofs.Steps.{ends_of_step, one_if, one_if-other, one_if-same, used_ends}
pub use Rattle.graph_theory.proofs.SumLemmas.{int_sum_to-add, int_sum_to-at_none, int_sum_to-at_one, int_sum_to-cond, int_sum_to-le, int_sum_to-more, int_sum_to-one, int_sum_to-pos}
pub use Rattle.graph_theory.proofs.SumLemmas.{int_sum_to-same, int_sum_to-swap, int_sum_to-zero, one_if-most, plus-times, sum_to-add, sum_to-append, sum_to-at_one, sum_to-has, sum_to-le}
pub use Rattle.graph_theory.proofs.SumLemmas.{sum_to-longer, sum_to-more, sum_to-most, sum_to-one, sum_to-pairs, sum_to-same, sum_to-step, sum_to-swap, sum_to-times, sum_to-zero, times-le}
pub use Rattle.graph_theory.proofs.SumLemmas.{times-one_if, times_within}
pub use Rattle.graph_theory.proofs.Walks.{leaves_none-walk, left-length, left-push, split_part_excludes, start-within, start_held, vertices-length, vertices-push, walk-front, walk-numbers}
pub use Rattle.graph_theory.specs.Barrier.{AreTogether, IsBarrier, IsComponent, IsOddCount, IsOddHead}
pub use Rattle.graph_theory.specs.Duals.{AreDuals, DualSet, HasForm, IsNumber, IsSetWithin, crossed_by, dual_of, dual_value, no_set, set_at, slack}
pub use Rattle.graph_theory.specs.Graph.{CountsNoneAt, HasNoLoop, IsEdgeNumber, IsEdgeWithin, IsGraph, IsPerfect, IsWeight, Multigraph, degree, edge_at, edge_of, edges_around, edges_below}
pub use Rattle.graph_theory.specs.Graph.{ends_at, is_loop, no_edge, other_end, touches, weight}
pub use Rattle.graph_theory.specs.Limits.{Size}
pub use Rattle.graph_theory.specs.Nested.{AreAscending, AreLaminar, AreNested, AreSame, HoldsOrMisses, most_blossoms}
pub use Rattle.graph_theory.specs.OddSets.{AreEarlier, HasItemForm, HaveItemForm, IsGivenWithin, given_at, items_with, lies_below, lies_in, listed_set, listed_sets, members_in, no_given}
pub use Rattle.graph_theory.specs.Parts.{IsOddPart, IsSplitPart, IsVertexSet, crosses, holds}
pub use Rattle.graph_theory.specs.Sums.{int_sum_to, sum_to}
pub use Rattle.graph_theory.specs.Walk.{AllDiffer, IsCircuit, IsWalk, walk_end, walk_left, walk_vertices, walk_weight}
