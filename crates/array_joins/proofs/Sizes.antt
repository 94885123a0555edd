-- How many numbers there are at most.
use Rattle.mb_problem.proofs.Common.{◌≡◌, ℕ, suc, ◌+◌, ◌*◌, ◌≤◌, pos, ℤ, List, [], ◌∷◌, ◌++◌, length, map, Option, refl, ap, sym, ◌∙◌, subst, arith, length-append}
use Rattle.mb_problem.proofs.Common.{length-map, Network, vertices, odd_at}
use Rattle.mb_problem.specs.declared.answer.Parity.TheVariants.{Values}
use Rattle.gadget_base.proofs.Common.{tabled-length}
use Rattle.array_call.specs.declared.calling.ArrayStatus.{ArrayStatus}
use Rattle.array_call.specs.declared.calling.ArrayStatus.TheVariants as status
use Rattle.array_call.specs.Arrays.{Arrays, edge_at, edge_count}
use Rattle.array_call.specs.Layout.{all_items, offset_at, offsets}
use Rattle.array_joins.specs.declared.outcome.TerminalFault.{TerminalFault}
use Rattle.array_joins.specs.declared.outcome.SetOutcome.{SetOutcome}
use Rattle.array_joins.specs.declared.outcome.SetOutcome.TheVariants.{Joined, NoJoin, Faulty, TooLarge}
use Rattle.array_joins.specs.Sets.{set_at, set_count, terminal_sets}
use Rattle.array_joins.specs.Terminals.{first_fault, network_with}
use Rattle.array_joins.specs.Outcomes.{AnswersMarked, AnswersEach}
use Rattle.array_joins.specs.Numbers.{outcome_number, detail_number, edge_numbers, edge_lists, numbers_of, joins_room}
use Rattle.array_joins.specs.Answers.{graph_network, GivesJoins}
use Rattle.array_joins.proofs.Leasts.{join-few}

edges-few : (fault : Option TerminalFault) (i : Network) (o : SetOutcome) → AnswersMarked fault i o → length (edge_numbers o) ≤ length i.edges
edges-few fault i (Joined join weight) is =
    let few : length join.edges ≤ length i.edges = join-few i (odd_at Values i) join.edges is.2.join in
    let all : length (edge_numbers (Joined join weight)) ≡ length join.edges = length-map join.edges pos in
    omega (arith, few, all)
edges-few fault i NoJoin is = omega arith
edges-few fault i (Faulty first) is = omega arith
edges-few fault i TooLarge is = omega arith

each-one : (i : Network) (sets : List (List ℕ)) (os : List SetOutcome) → AnswersEach i sets os → length os ≡ length sets
each-one i [] [] is = refl
each-one i [] (o ∷ os) is = absurd is
each-one i (s ∷ sets) [] is = absurd is
each-one i (s ∷ sets) (o ∷ os) is = ap suc (each-one i sets os is.1)

more-times : (n m : ℕ) → suc n * m ≡ m + n * m
more-times n m = omega arith

all-few : (i : Network) (sets : List (List ℕ)) (os : List SetOutcome) → AnswersEach i sets os → length (all_items (edge_lists os)) ≤ length os * length i.edges
all-few i [] [] is = omega arith
all-few i [] (o ∷ os) is = absurd is
all-few i (s ∷ sets) [] is = absurd is
all-few i (s ∷ sets) (o ∷ os) is =
    let first : length (edge_numbers o) ≤ length i.edges = edges-few (first_fault (vertices i) s) (network_with i s) o is.0 in
    let rest : length (all_items (edge_lists os)) ≤ length os * length i.edges = all-few i sets os is.1 in
    let both : length (all_items (edge_lists (o ∷ os))) ≡ length (edge_numbers o) + length (all_items (edge_lists os)) = length-append (edge_numbers o) (all_items (edge_lists os)) in
    let times : length (o ∷ os) * length i.edges ≡ length i.edges + length os * length i.edges = more-times (length os) (length i.edges) in
    omega (arith, first, rest, both, times)

numbers-length : (os : List SetOutcome) → length (numbers_of os) ≡ 3 * length os + 1 + length (all_items (edge_lists os))
numbers-length os =
    let lists = edge_lists os in
    let all = all_items lists in
    let behind = offsets lists ++ all in
    let one : length (numbers_of os) ≡ length (map outcome_number os) + length (map detail_number os ++ behind) = length-append (map outcome_number os) (map detail_number os ++ behind) in
    let two : length (map detail_number os ++ behind) ≡ length (map detail_number os) + length behind = length-append (map detail_number os) behind in
    let three : length behind ≡ length (offsets lists) + length all = length-append (offsets lists) all in
    let ends : length (offsets lists) ≡ length lists + 1 = tabled-length (offset_at lists) (length lists + 1) in
    omega (arith, one, two, three, ends, length-map os outcome_number, length-map os detail_number, length-map os edge_numbers)

-- an answer to each set
done-few : (a : Arrays) (starts terminals : List ℕ) (os : List SetOutcome) → AnswersEach (graph_network a) (terminal_sets starts terminals) os
    → length (numbers_of os) ≤ joins_room (set_count starts) (edge_count a)
done-few a starts terminals os is =
    let i : Network = graph_network a in
    let count : length os ≡ set_count starts = each-one i (terminal_sets starts terminals) os is ∙ tabled-length (set_at starts terminals) (set_count starts) in
    let edges : length i.edges ≡ edge_count a = tabled-length (edge_at a) (edge_count a) in
    let few : length (all_items (edge_lists os)) ≤ length os * length i.edges = all-few i (terminal_sets starts terminals) os is in
    let most : length os * length i.edges ≡ set_count starts * edge_count a = ap (λ (n : ℕ). n * length i.edges) count ∙ ap (λ (m : ℕ). set_count starts * m) edges in
    omega (arith, numbers-length os, count, few, most)

pub joins-few : (a : Arrays) (starts terminals : List ℕ) (numbers : List ℤ) (s : ArrayStatus) → GivesJoins a starts terminals numbers s
    → length numbers ≤ joins_room (set_count starts) (edge_count a)
joins-few a starts terminals numbers status.Done g =
    subst (λ (zs : List ℤ). length zs ≤ joins_room (set_count starts) (edge_count a)) (sym g.1.2) (done-few a starts terminals g.1.0 g.1.1)
joins-few a starts terminals numbers status.Rejected g = absurd g
joins-few a starts terminals numbers status.Malformed g = (let two : length numbers ≡ 2 = ap (λ (zs : List ℤ). length zs) g.2 in omega (arith, two))
joins-few a starts terminals numbers status.TooLarge g = absurd g
joins-few a starts terminals numbers status.OutOfMemory g = (let none : length numbers ≡ 0 = ap (λ (zs : List ℤ). length zs) g in omega (arith, none))
