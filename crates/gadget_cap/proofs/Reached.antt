-- The feasible answers are the counts within the rooms that have the values as degrees, and each has its perfect matching.
use Rattle.mb_problem.proofs.Common.{◌≡◌, ℕ, ltb, ◌+◌, ◌-◌, ◌<◌, ◌≤◌, Bool, true, false, cond, min, ap, ◌∙◌, subst, arith, List, length, slice_index, All}
use Rattle.mb_problem.proofs.Common.{Option, None, Some, IfSome, ints, lt-ltb, get_or_default, degree, IsPerfect, Network, IsNetwork, graph_of, instance_edge_at, value_of, value_u, value_v}
use Rattle.mb_problem.proofs.Common.{bounded, room_of, unit_room_of, IsFeasible, IsBMatching, HasCounts, DegreesMeet, WithinCapacities, limited, within_capacity}
use Rattle.mb_problem.specs.declared.answer.Answer.TheVariants.{Counts, Walk, Nothing}
use Rattle.gadget_base.proofs.Common.{capped_graph, ReachesAll, perfect_from_degrees, values-most}
use Rattle.gadget_cap.specs.Capped.{capped_kind, capped_room}
use Rattle.gadget_cap.proofs.GateLemmas.{all_counts, value, copies_and_gates}
use Rattle.gadget_cap.proofs.Through.{IsWithinRooms, through, takes_first}
use Rattle.gadget_cap.proofs.Ends.{capped-within}

bounded-limit : (limit : Option ℕ) (x most : ℕ) → x ≤ bounded limit most → IfSome limit (λ c. x ≤ c)
bounded-limit None x most h = tt
bounded-limit (Some c) x most h = let under : x ≤ min c most = h in let e : x ≤ c = omega arith in e

-- within the capacities, where no degree passes its value, is within the rooms
pub rooms-of_capacities : (i : Network) (counts : List ℕ) → IsNetwork i → HasCounts i counts → DegreesMeet i counts (λ v d. d ≤ value_of i v) → WithinCapacities i counts
    → IsWithinRooms i (room_of i) counts
rooms-of_capacities i counts net size most within = record {
  one_each = size;
  degrees = most;
  rooms = λ k b. within_capacity (instance_edge_at i k).capacity (min (value_u i k) (value_v i k)) (slice_index counts k) (within k b) (limited i counts (value_of i) net most k b);
}

pub capacities-of_rooms : (i : Network) (counts : List ℕ) → ((k : ℕ) → k < length i.edges → slice_index counts k ≤ room_of i k) → WithinCapacities i counts
capacities-of_rooms i counts rooms k b = bounded-limit (instance_edge_at i k).capacity (slice_index counts k) (min (value_u i k) (value_v i k)) (rooms k b)

-- the feasible answers of both kinds

within_rooms : (unit : Bool) (i : Network) (counts : List ℕ) → IsNetwork i → IsFeasible (capped_kind unit) i (Counts counts) → IsWithinRooms i (capped_room unit i) counts
within_rooms true i counts net feasible = record {
  one_each = feasible.0.one_each;
  degrees = values-most i counts feasible.0;
  rooms = λ k b.
      let small = limited i counts (value_of i) net (values-most i counts feasible.0) k b in
      let size : length counts ≡ length i.edges = feasible.0.one_each in
      let once : slice_index counts k ≤ 1 = feasible.1 k 0 (omega arith) in
      omega arith;
}
within_rooms false i counts net feasible = rooms-of_capacities i counts net feasible.0.one_each (values-most i counts feasible.0) feasible.1

at_most_once : (i : Network) (counts : List ℕ) → length counts ≡ length i.edges → ((k : ℕ) → k < length i.edges → slice_index counts k ≤ unit_room_of i k)
    → All (λ c. c ≤ 1) counts
at_most_once i counts size rooms k d b =
    let within : slice_index counts k ≤ min 1 (min (value_u i k) (value_v i k)) = rooms k (omega arith) in
    subst (λ c. c ≤ 1) (get_or_default counts k 0 d b) (omega arith)

pub feasible_within : (unit : Bool) (i : Network) (counts : List ℕ) → IsBMatching i counts → ((k : ℕ) → k < length i.edges → slice_index counts k ≤ capped_room unit i k)
    → IsFeasible (capped_kind unit) i (Counts counts)
feasible_within true i counts matching rooms = (matching, at_most_once i counts matching.one_each rooms)
feasible_within false i counts matching rooms = (matching, capacities-of_rooms i counts rooms)

-- where the degrees are the values, no copy stays free
through-perfect : (i : Network) (room : ℕ → ℕ) (counts : List ℕ) → IsNetwork i → IsBMatching i counts → IsWithinRooms i room counts → IsPerfect (capped_graph i room)
    (all_counts i room (through i room counts))
through-perfect i room counts net matching answer =
    let takes = takes_first i room counts net answer in
    let taking = all_counts i room (through i room counts) in
    perfect_from_degrees (capped_graph i room) taking (capped-within i room net) takes.one_each
    (copies_and_gates i room (λ v. degree (capped_graph i room) taking v ≡ 1)
    (λ t c b l.
    let all : degree (graph_of i) counts (t + 1) ≡ value i (t + 1 - 1) = matching.degrees (t + 1) (omega arith) (omega arith) in
    let back : value i (t + 1 - 1) ≡ value i t = ap (value i) (let e : t + 1 - 1 ≡ t = omega arith in e) in
    let on : ltb c (degree (graph_of i) counts (t + 1)) ≡ true = lt-ltb c (degree (graph_of i) counts (t + 1)) (omega arith) in
    takes.copies t c b l ∙ ap (λ (p : Bool). cond {A = ℕ} p 1 0) on)
    takes.gates)

pub reached : (unit : Bool) (i : Network) → IsNetwork i → ReachesAll (capped_kind unit) i
reached true i net (Counts counts) feasible =
    let answer = within_rooms true i counts net feasible in
    let same = (takes_first i (unit_room_of i) counts net answer).weighs in
    record {
      counts = all_counts i (unit_room_of i) (through i (unit_room_of i) counts);
      perfect = through-perfect i (unit_room_of i) counts net feasible.0 answer;
      weighs = omega (arith, ints, same);
    }
reached true i net (Walk start edges) feasible = absurd feasible
reached true i net Nothing feasible = absurd feasible
reached false i net (Counts counts) feasible =
    let answer = within_rooms false i counts net feasible in
    record {
      counts = all_counts i (room_of i) (through i (room_of i) counts);
      perfect = through-perfect i (room_of i) counts net feasible.0 answer;
      weighs = omega (arith, ints, (takes_first i (room_of i) counts net answer).weighs);
    }
reached false i net (Walk start edges) feasible = absurd feasible
reached false i net Nothing feasible = absurd feasible
