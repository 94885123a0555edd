-- One answer more, the steps of one search more, and arrays without terminals.
use Rattle.mb_problem.proofs.Common.{◌≡◌, ℕ, ◌+◌, ◌<◌, ◌≤◌, ◌||◌, List, [], ◌∷◌, ◌++◌, Option, None, Some, refl, ap, ap₂, sym, ◌∙◌, subst, arith, cond-false, slice_index_or}
use Rattle.mb_problem.proofs.Common.{Network, IsWithinLimits, sum_to-grows, sum_to-more, length, Result, Ok, Err, IfOk, option_or, option_map, pos}
use Rattle.std.proofs.lemmas.Bool.{le-ltb}
use Rattle.graph_theory.specs.declared.limits.TheConstants.{GRAPH_VERTEX_LIMIT, GRAPH_EDGE_LIMIT}
use Rattle.graph_theory.specs.Limits.{Size}
use Rattle.mb_problem.specs.declared.kind.Kind.TheVariants.{TJoin}
use Rattle.mwpm_engine.specs.Solutions.{most_steps}
use Rattle.gadget_base.proofs.Common.{tabled, tabled-length, tabled-more, tabled-same}
use Rattle.array_call.specs.declared.calling.ArrayAnswer.{ArrayAnswer}
use Rattle.array_call.specs.declared.calling.ArrayStatus.TheVariants.{Malformed}
use Rattle.array_call.specs.declared.rule.ArrayFault.{ArrayFault}
use Rattle.array_call.specs.declared.rule.ArrayRule.TheVariants.{Starts}
use Rattle.array_call.specs.Arrays.{Arrays, value_at}
use Rattle.array_call.specs.Faults.{array_fault, fault}
use Rattle.array_call.specs.Rules.{number_of_rule}
use Rattle.array_joins.specs.Sets.{set_at, set_count, starts_fault}
use Rattle.array_joins.specs.declared.outcome.SetOutcome.{SetOutcome}
use Rattle.array_joins.specs.declared.outcome.SetOutcome.TheVariants.{Joined, NoJoin, Faulty, TooLarge}
use Rattle.array_joins.specs.declared.outcome.TerminalFault.{TerminalFault}
use Rattle.array_joins.specs.Terminals.{HasNoTerminals, network_with}
use Rattle.array_joins.specs.Marked.{sound_part}
use Rattle.array_joins.specs.Outcomes.{AnswersMarked, AnswersSet, AnswersEach, search_steps, steps_by, set_steps, steps_before, all_steps}
use Rattle.array_joins.specs.Answers.{graph_network, joins_fault, GivesJoins}

pub each-more : (i : Network) (sets : List (List ℕ)) (os : List SetOutcome) (s : List ℕ) (o : SetOutcome) → AnswersEach i sets os → AnswersSet i s o
    → AnswersEach i (sets ++ s ∷ []) (os ++ o ∷ [])
each-more i [] [] s o each one = (one, tt)
each-more i [] (p ∷ os) s o each one = absurd each
each-more i (r ∷ sets) [] s o each one = absurd each
each-more i (r ∷ sets) (p ∷ os) s o each one = (each.0, each-more i sets os s o each.1 one)

-- within the limits a set has the steps of one search
pub searched : (size : Size) → IsWithinLimits size → search_steps size ≡ most_steps size
searched size within =
    cond-false _ _ _ (ap₂ (λ a b. a || b) (le-ltb GRAPH_VERTEX_LIMIT size.vertices within.vertices) (le-ltb GRAPH_EDGE_LIMIT size.edges within.edges))

-- the graph of arrays without values has no terminals
pub no-terminals : (a : Arrays) → a.values ≡ [] → HasNoTerminals (graph_network a)
no-terminals a none =
    tabled-same (value_at TJoin a) (λ k. 0) a.vertices (λ k b. ap (λ (vs : List ℕ). slice_index_or vs k 0) none)
    ∙ ap (tabled (λ k. 0)) (sym (tabled-length (value_at TJoin a) a.vertices))

-- behind terminals with a fault it doesn't matter how many are marked
pub marked-answers : (fault : Option TerminalFault) (i : Network) (ts : List ℕ) (o : SetOutcome) → AnswersMarked fault (network_with i (sound_part fault ts)) o
    → AnswersMarked fault (network_with i ts) o
marked-answers None i ts o is = is
marked-answers (Some f) i ts (Joined join weight) is = absurd (let e : Some f ≡ None = is.0 in cc)
marked-answers (Some f) i ts NoJoin is = absurd (let e : Some f ≡ None = is.0 in cc)
marked-answers (Some f) i ts (Faulty first) is = is
marked-answers (Some f) i ts TooLarge is = absurd (let e : Some f ≡ None = is.0 in cc)

pub marked-steps : (fault : Option TerminalFault) (i : Network) (ts : List ℕ) → steps_by fault (network_with i (sound_part fault ts)) ≡ steps_by fault (network_with i ts)
marked-steps None i ts = refl
marked-steps (Some f) i ts = refl

-- the steps of the searches before an index and of the one there
pub steps-grow : (i : Network) (starts ts : List ℕ) (k : ℕ) → k < set_count starts → steps_before i starts ts k + set_steps i (set_at starts ts k) ≤ all_steps i starts ts
steps-grow i starts ts k below = sum_to-grows (λ j. set_steps i (set_at starts ts j)) k (set_count starts) below

pub steps-more : (i : Network) (starts ts : List ℕ) (k : ℕ) → steps_before i starts ts (k + 1) ≡ steps_before i starts ts k + set_steps i (set_at starts ts k)
steps-more i starts ts k = sum_to-more (λ j. set_steps i (set_at starts ts j)) k

-- what the answer to a set counts
pub counted : (i j : Network) (starts ts set : List ℕ) (k before at after : ℕ) → k < set_count starts → j ≡ i → set ≡ set_at starts ts k
    → at ≤ before + steps_before i starts ts k → after ≤ at + set_steps j set → after ≤ before + (steps_before i starts ts k + set_steps i (set_at starts ts k))
counted i j starts ts set k before at after below same is first then =
    let here : set_steps j set ≡ set_steps i (set_at starts ts k) = ap₂ set_steps same is in
    omega (arith, here, first, then)

-- one set more is answered
pub set-answered : (i j : Network) (starts ts set : List ℕ) (k : ℕ) (os ps : List SetOutcome) (o : SetOutcome) → j ≡ i → set ≡ set_at starts ts k → ps ≡ os ++ o ∷ []
    → AnswersEach i (tabled (set_at starts ts) k) os → AnswersSet j set o → AnswersEach i (tabled (set_at starts ts) (k + 1)) ps
set-answered i j starts ts set k os ps o same is more each one =
    let here : AnswersSet i (set_at starts ts k) o = subst (λ (m : Network). AnswersSet m (set_at starts ts k) o) same (subst (λ (s : List ℕ). AnswersSet j s o) is one) in
    subst (AnswersEach i (tabled (set_at starts ts) (k + 1))) (sym more)
    (subst (λ (sets : List (List ℕ)). AnswersEach i sets (os ++ o ∷ [])) (sym (tabled-more (set_at starts ts) k))
    (each-more i (tabled (set_at starts ts) k) os (set_at starts ts k) o each here))

-- a wrong start of faultless arrays
pub start-given : {E : Type 0} (a : Arrays) (starts ts : List ℕ) (index : ℕ) (r : Result ArrayAnswer E) → array_fault TJoin a ≡ None
    → starts_fault starts (length ts) ≡ Some index → IfOk r (λ x. x.numbers.items ≡ pos (number_of_rule Starts) ∷ pos index ∷ []) → IfOk r (λ x. x.status ≡ Malformed)
    → IfOk r (λ x. GivesJoins a starts ts x.numbers.items x.status)
start-given a starts ts index (Ok x) none start numbers status =
    let first : joins_fault a starts ts ≡ Some (fault Starts index) =
    ap (λ (o : Option ArrayFault). option_or o (option_map (λ (k : ℕ). fault Starts k) (starts_fault starts (length ts)))) none ∙ ap (option_map (λ (k : ℕ). fault Starts k)) start in
    subst (GivesJoins a starts ts x.numbers.items) (sym status) (fault Starts index, first, numbers)
start-given a starts ts index (Err e) none start numbers status = tt
