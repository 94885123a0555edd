-- A finished search is a certificate: its matching is perfect, and its duals prove that none weighs less.
use Rattle.alt_forest.proofs.Common.{◌≡◌, ℕ, ◌+◌, ◌<◌, ℤ, pos, ◌-ℤ◌, ◌*ℤ◌, ◌≤ℤ◌, Bool, true, false, cond, List, length, drop, refl, sym, ap, ◌∙◌}
use Rattle.alt_forest.proofs.Common.{subst, arith, Option, All, slice_index, get_or, AllByRecursion, ints, length-take-le, length-drop, All-from_recursion, recursion_from_All}
use Rattle.alt_forest.proofs.Common.{All-from_get_or, All-take, All-drop, All-map, Edge, IsPerfect, IsEdgeNumber, no_edge, edge_at, edge_of, weight, DualSet, AreDuals, IsSetWithin, HasForm}
use Rattle.alt_forest.proofs.Common.{IsNumber, no_set, set_at, slack, dual_value, holds, edge_of_within, edge_of-place, number_of-place, crossings, Blossom, IsNested, HasDuals, dual_at}
use Rattle.alt_forest.proofs.Common.{members_of, names_of, duals_across, vertex_duals, name_range, name_is_node, range_vertex, vertex_is_node, members_form, sorted_form, slack_listed}
use Rattle.alt_forest.proofs.Common.{slack_of, IsSound, state_of, edge_in, nested_of}
use Rattle.alt_forest.specs.declared.search.Search.{Search}
use Rattle.blossom_arena.specs.Slack.{AreListed}
use Rattle.augment.specs.Matching.{is_edge, mate_counts}
use Rattle.augment.proofs.Counts.{is_edge-true}
use Rattle.mwpm_engine.specs.declared.outcome.Outcome.{Outcome}
use Rattle.mwpm_engine.specs.Solutions.{IsSolved, IsWithinBound, AreAscending}
use Rattle.mwpm_engine.specs.Solving.{sets_at, solution_of, CountsWeights, HasBoundedDuals, IsUnpacked}
use Rattle.search_start.specs.Proving.{proving}
use Rattle.search_start.proofs.ProvingSets.{IsProving, each_proving}
use Rattle.mwpm_engine.proofs.BoundedDuals.{each_vertex_dual}
use Rattle.mwpm_engine.proofs.CertificateMates.{length-mate_numbers, mate_kept, matching_same, count_at}
use Rattle.mwpm_engine.proofs.CertificateSets.{each_known, set_of, few_sets, few_members, nested_sets, IsOf, each_of, sets_listed}
use Rattle.mwpm_engine.proofs.CertificateValue.{left_once, crossings_same, value_met}

-- the duals stand on the graph's vertices
duals_on_graph : (s : Search) → IsSound s → HasDuals s.graph.vertices s.arena.duals s.arena.blossoms
duals_on_graph s sound = subst (λ n. HasDuals n s.arena.duals s.arena.blossoms) sound.shape.arena sound.shape.family.duals

-- a dual for each vertex
one_dual_each : (s : Search) → IsSound s → length (vertex_duals s.graph.vertices s.arena.duals) ≡ s.graph.vertices
one_dual_each s sound =
    length-take-le s.graph.vertices (drop 1 s.arena.duals) (omega (arith, (duals_on_graph s sound).one_each, length-drop 1 s.arena.duals))

-- what holds of each blossom's dual holds of the sets' duals
each_set_dual : (P : ℤ → Type 0) (ys : List ℤ) (bs : List Blossom) → ((a : ℕ) → holds (names_of bs) a ≡ true → P (dual_at ys a))
    → All (λ (t : DualSet). P t.dual) (sets_at ys bs (proving ys bs))
each_set_dual P ys bs each = All-map (λ (t : DualSet). P t.dual) (set_of ys bs) (proving ys bs) (λ k d low. each (get_or (proving ys bs) k d) (each_proving ys bs k d low).named)

-- a slack of the certificate is one of the search
slack_same : (s : Search) (sets : List DualSet) (e : ℕ) → IsSound s → CountsWeights s → AreListed s.arena.duals s.arena.blossoms sets → IsEdgeNumber s.graph e
    → slack (vertex_duals s.graph.vertices s.arena.duals) sets (edge_of s.graph e) ≡ slack_of (state_of s) e
slack_same s sets e sound counts listed is =
    slack_listed s.graph.vertices s.arena.duals s.arena.blossoms sets (edge_of s.graph e) (edge_of_within s.graph e sound.shape.graph.graph.ends is) listed
    ∙ ap (λ d. d -ℤ duals_across (dual_at s.arena.duals) s.arena.blossoms (edge_of s.graph e)) (sym (counts e is))

set_form : (n : ℕ) (ys : List ℤ) (bs : List Blossom) (t : DualSet) → IsNested n bs → IsOf ys bs t → HasForm t.members × IsSetWithin n t
set_form n ys bs t nested is =
    let form = sorted_form n (members_of bs is.node) t.members (members_form n bs is.node nested is.named) is.ascending is.members in
    (form.0, record { positive = is.positive; in_range = form.1 })

-- the certificate's duals are feasible
feasible : (s : Search) (sets : List DualSet) → IsSound s → CountsWeights s → AreListed s.arena.duals s.arena.blossoms sets
    → AllByRecursion (IsOf s.arena.duals s.arena.blossoms) sets
    → AreDuals s.graph (vertex_duals s.graph.vertices s.arena.duals) sets
feasible s sets sound counts listed each =
    let n = s.graph.vertices in
    let all = All-from_recursion (IsOf s.arena.duals s.arena.blossoms) sets each in
    record {
      one_each = one_dual_each s sound;
      sets_within = λ k d low. (set_form n s.arena.duals s.arena.blossoms (get_or sets k d) (nested_of s sound.shape) (all k d low)).1;
      forms = λ k d low. (set_form n s.arena.duals s.arena.blossoms (get_or sets k d) (nested_of s sound.shape) (all k d low)).0;
      slacks = All-from_get_or (λ (e : Edge). pos 0 ≤ℤ slack (vertex_duals n s.arena.duals) sets e) s.graph.edges no_edge (λ k low.
          subst (λ (e : Edge). pos 0 ≤ℤ slack (vertex_duals n s.arena.duals) sets e) (edge_of-place s.graph k)
          (subst (λ x. pos 0 ≤ℤ x) (sym (slack_same s sets (k + 1) sound counts listed (number_of-place s.graph k low))) (sound.state.slacks (k + 1) (number_of-place s.graph k low))));
    }

-- an edge counts only where it is a mate, and has no slack there
times_none : (t : Bool) (z : ℤ) → (t ≡ true → z ≡ pos 0) → pos (cond t 1 0) *ℤ z ≡ pos 0
times_none true z tight = ap (λ x. pos 1 *ℤ x) (tight refl)
times_none false z tight = omega (arith, ints)

no_slack : (s : Search) (sets : List DualSet) (k : ℕ) → IsUnpacked s → CountsWeights s → AreListed s.arena.duals s.arena.blossoms sets → k < length s.graph.edges
    → pos (slice_index (mate_counts s.graph (edge_in s.mates.items)) k) *ℤ slack (vertex_duals s.graph.vertices s.arena.duals) sets (edge_at s.graph k) ≡ pos 0
no_slack s sets k done counts listed low =
    let m = edge_in s.mates.items in let is = number_of-place s.graph k low in
    let within = edge_of_within s.graph (k + 1) done.sound.shape.graph.graph.ends is in
    let u = (edge_of s.graph (k + 1)).u in
    ap (λ (e : Edge). pos (slice_index (mate_counts s.graph m) k) *ℤ slack (vertex_duals s.graph.vertices s.arena.duals) sets e) (sym (edge_of-place s.graph k))
    ∙ ap (λ c. pos c *ℤ slack (vertex_duals s.graph.vertices s.arena.duals) sets (edge_of s.graph (k + 1))) (count_at s.graph m k low)
    ∙ times_none (is_edge (m u) (k + 1)) (slack (vertex_duals s.graph.vertices s.arena.duals) sets (edge_of s.graph (k + 1)))
    (λ h. slack_same s sets (k + 1) done.sound counts listed is ∙ (done.tight u (k + 1) (range_vertex s.graph.vertices u within.u_low within.u_high) (is_edge-true (m u) (k + 1) h)).tight)

-- the matching leaves each set once
each_once : (s : Search) (sets : List DualSet) (j : ℕ) → IsUnpacked s → AllByRecursion (IsOf s.arena.duals s.arena.blossoms) sets → j < length sets
    → crossings s.graph (mate_counts s.graph (edge_in s.mates.items)) (set_at sets j).members ≡ 1
each_once s sets j done each low =
    let counts = mate_counts s.graph (edge_in s.mates.items) in
    let is = All-from_recursion (IsOf s.arena.duals s.arena.blossoms) sets each j no_set low in
    crossings_same s.graph counts (set_at sets j).members (members_of s.arena.blossoms is.node) is.members ∙ left_once s.graph counts s.arena.blossoms is.node done.leaves is.named

-- so its value is twice the matching's weight
value_is : (s : Search) (sets : List DualSet) → IsUnpacked s → CountsWeights s → AreListed s.arena.duals s.arena.blossoms sets
    → AllByRecursion (IsOf s.arena.duals s.arena.blossoms) sets
    → dual_value (vertex_duals s.graph.vertices s.arena.duals) sets ≡ pos 2 *ℤ weight s.graph (mate_counts s.graph (edge_in s.mates.items))
value_is s sets done counts listed each =
    value_met s.graph (vertex_duals s.graph.vertices s.arena.duals) sets (mate_counts s.graph (edge_in s.mates.items)) done.sound.shape.graph.graph (one_dual_each s done.sound) done.perfect
    (λ k low. no_slack s sets k done counts listed low)
    (λ j low. each_once s sets j done each low)

-- what an engine keeps of a search whose blossoms have been opened proves its matching least
pub solved : (s : Search) (outcome : Option Outcome) → IsUnpacked s → CountsWeights s → HasBoundedDuals s → IsSolved (solution_of s outcome (proving s.arena.duals s.arena.blossoms))
solved s outcome done counts bounded =
    let n = s.graph.vertices in let ys = s.arena.duals in let bs = s.arena.blossoms in
    let nested = nested_of s done.sound.shape in let duals = duals_on_graph s done.sound in
    let known = each_known n ys bs nested duals.blossoms in
    let each : (sets : List DualSet) → AreAscending (sets_at ys bs (proving ys bs)) sets → AllByRecursion (IsOf ys bs) sets =
    λ sets same. each_of ys bs (proving ys bs) sets (recursion_from_All (IsProving ys bs) (proving ys bs) (each_proving ys bs)) same in
    let matching = matching_same s.graph (edge_in s.mates.items) done.sound.shape.graph.graph.ends in
    record {
      one_each = length-mate_numbers (edge_in s.mates.items) n;
      each_mate = λ v low high. mate_kept s.graph (edge_in s.mates.items) v done.sound.shape.graph.graph.ends low high (done.mates v (range_vertex n v low high));
      perfect = subst (IsPerfect s.graph) (sym matching) done.perfect;
      duals = λ sets same. feasible s sets done.sound counts (sets_listed ys bs bs sets known same) (each sets same);
      value = λ sets same.
          value_is s sets done counts (sets_listed ys bs bs sets known same) (each sets same) ∙ ap (λ c. pos 2 *ℤ weight s.graph c) (sym matching);
      nested = nested_sets n ys bs nested;
      size_limit = few_sets n ys bs nested;
      few_members = few_members n ys bs nested known;
      in_range = All-take IsNumber n (drop 1 ys) (All-drop IsNumber 1 ys duals.in_range);
      sets_in_range = each_set_dual IsNumber ys bs (λ a name. let range = name_range n bs a nested name in duals.in_range a (pos 0) (omega (arith, range.1, duals.one_each)));
      bounded = each_vertex_dual (IsWithinBound n) n ys (one_dual_each s done.sound) (λ v low high. bounded v (vertex_is_node n bs v (range_vertex n v low high)));
      sets_bounded = each_set_dual (IsWithinBound n) ys bs (λ a name. bounded a (name_is_node n bs a name));
    }
