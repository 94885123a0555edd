use Rattle.certificates.proofs.Common.{◌≡◌, ℕ, ℤ, pos, ◌+ℤ◌, ◌*ℤ◌, ◌≤ℤ◌, neg_ℤ, List, Bool, true, false, Result, Ok, Err, refl, sym, ap, ◌∙◌, subst, arith, ints, IfOk, inl, inr}
use Rattle.certificates.proofs.Common.{walk_weight, Kind, Network, Answer, Counts, Walk, Nothing, IsFeasible, weight_of, value_for, gadget_graph, graph_by}
use Rattle.certificates.proofs.Common.{are_duals, proof_of, form_of, Obstruction, Precondition, HasEndsBy, HasWeightsBy, GadgetForm, Parity, Empty, Values, OddDegrees, path_kind}
use Rattle.std.specs.Prelude.{◌-ℤ◌, ◌⊎◌}
use Rattle.mb_problem.proofs.Common.{gadget_of, first_with, like-with, read-with}
use Rattle.mb_problem.specs.declared.kind.WalkStart.{WalkStart}
use Rattle.mb_problem.specs.declared.kind.AnswerForm.TheVariants as form
use Rattle.mb_problem.specs.declared.gadget.GadgetForm.TheVariants.{Itself, Doubled, Copies, Capped, Ports, PathPorts, Halves, Sides, Unweighted}
use Rattle.mb_problem.specs.declared.gadget.Capacities.{Capacities}
use Rattle.mb_problem.specs.declared.gadget.Capacities.TheVariants.{Own, Unit as Once}
use Rattle.mb_problem.specs.Kinds.{start_of}
use Rattle.mb_problem.specs.Values.{total_weight}
use Rattle.solve_answers.specs.Chosen.{IsChosenAnswer, StartsBy}
use Rattle.solve_answers.specs.Open.{IsOpen, HasNoPartFor}
use Rattle.solve_answers.specs.Stands.{HasFewSteps, IsAnswerTo}
use Rattle.solve_answers.proofs.reading.answer.Goals as goal

twice-same : (w z : ℤ) → w ≡ z → (pos 2 *ℤ w) ≤ℤ (pos 2 *ℤ z)
twice-same w z h = omega (arith, ints, h)

twice-below : (w z : ℤ) → w ≤ℤ z → (pos 2 *ℤ w) ≤ℤ (pos 2 *ℤ z)
twice-below w z h = omega (arith, ints, h)

turned : (w z : ℤ) → neg_ℤ z ≤ℤ (pos 2 *ℤ w) → neg_ℤ (pos 4 *ℤ w) ≤ℤ (pos 2 *ℤ z)
turned w z h = omega (arith, ints, h)

doubled : (w z : ℤ) → (pos 2 *ℤ w) ≤ℤ z → (pos 4 *ℤ w) ≤ℤ (pos 2 *ℤ z)
doubled w z h = omega (arith, ints, h)

toured : (t w z : ℤ) → w ≡ t +ℤ z → (pos 2 *ℤ (w -ℤ t)) ≤ℤ (pos 2 *ℤ z)
toured t w z h = omega (arith, ints, h)

-- ---- the first kind with the certificate graph has as open an instance, and its answers are those of the kind

opened : (kind : Kind) (gadget : GadgetForm) (i : Network) → gadget_of kind ≡ gadget → are_duals (proof_of kind) ≡ true → IsOpen kind i → IsOpen (first_with gadget) i
opened kind gadget i is duals ready =
    let like = read-with kind gadget is duals in
    record {
      no_part = subst (λ (e : Obstruction). HasNoPartFor e i) (sym like.obstruction) ready.no_part;
      ends = subst (λ (n : Precondition). HasEndsBy n i) (sym like.reaches.need) ready.ends;
      weights = subst (λ (n : Precondition). HasWeightsBy n i) (sym like.reaches.need) ready.weights;
      even_sets = λ asks. ready.even_sets (sym like.conservative ∙ asks);
    }

chosen_too : (kind first : Kind) (i : Network) (a : Answer) → start_of first ≡ start_of kind → IsChosenAnswer first i a → IsChosenAnswer kind i a
chosen_too kind first i (Counts counts) same chosen = tt
chosen_too kind first i (Walk start edges) same chosen = subst (λ (s : WalkStart). StartsBy s i start) same chosen
chosen_too kind first i Nothing same chosen = tt

-- what such an answer of the first kind weighs beside the edges, and that this is enough
module _ (gadget : GadgetForm) (kind : Kind) (i : Network) (edges : List ℕ) (is : gadget_of kind ≡ gadget) (duals : are_duals (proof_of kind) ≡ true) where
  abbrev first : Kind
  first = first_with gadget

  module _ (P : ℤ → ℤ → Type 0) (pays : (w z : ℤ) → P w z → value_for first i w ≤ℤ (pos 2 *ℤ z)) where
    abbrev weighs_so : Answer → Type 0
    weighs_so a = P (weight_of first i a) (walk_weight (gadget_graph first i) edges)

    module _ {E : Type 0} where
      gives : (r : Result Answer E) → IfOk r (IsFeasible first i) → IfOk r (HasFewSteps i) → IfOk r (IsChosenAnswer first i) → IfOk r weighs_so
          → IfOk r (IsAnswerTo kind i edges)
      gives (Ok a) feasible few chosen weighs =
          let like = read-with kind gadget is duals in
          let pay = pays (weight_of first i a) (walk_weight (gadget_graph first i) edges) weighs in
          let here = subst (λ (v : ℤ). v ≤ℤ (pos 2 *ℤ walk_weight (gadget_graph first i) edges)) (like.value i a) pay in
          record {
            feasible = like.feasible i a feasible;
            few_steps = few;
            chosen = chosen_too kind first i a like.start chosen;
            pays = subst (λ (g : GadgetForm). value_for kind i (weight_of kind i a) ≤ℤ (pos 2 *ℤ walk_weight (graph_by g i) edges)) (like-with kind gadget is).gadget here;
          }
      gives (Err e) feasible few chosen weighs = tt

      by-counts : (counts : List ℕ) (r : Result Answer E) → IfOk r (λ a. a ≡ Counts counts) → IfOk r (IsFeasible first i) → IfOk r weighs_so → IfOk r (IsAnswerTo kind i edges)
      by-counts counts (Ok a) same feasible weighs = gives (Ok a) feasible (subst (HasFewSteps i) (sym same) tt) (subst (IsChosenAnswer first i) (sym same) tt) weighs
      by-counts counts (Err e) same feasible weighs = tt

-- ---- which first kind it is

own_weights : (kind : Kind) (gadget : GadgetForm) → gadget ≡ gadget_of kind → are_duals (proof_of kind) ≡ true → (gadget ≡ Itself) ⊎ (gadget ≡ Unweighted) → gadget_of kind ≡ Itself
own_weights kind gadget same duals (inl is) = sym same ∙ is
own_weights kind gadget same duals (inr is) = (let not = (read-with kind Unweighted (sym same ∙ is) duals).reaches.duals in absurd (cc))

ports_counts : (kind : Kind) (parity : Parity) → gadget_of kind ≡ Ports parity → are_duals (proof_of kind) ≡ true → form_of kind ≡ form.Counts → gadget_of kind ≡ Ports Values
ports_counts kind Empty is duals counts = (let same = (like-with kind (Ports Empty) is).gadget ∙ is in absurd (cc))
ports_counts kind Values is duals counts = is
ports_counts kind OddDegrees is duals counts = (let same = (read-with kind (Ports OddDegrees) is duals).form ∙ counts in absurd (cc))

ports_walk : (kind : Kind) (parity : Parity) → gadget_of kind ≡ Ports parity → are_duals (proof_of kind) ≡ true → form_of kind ≡ form.Walk → gadget_of kind ≡ Ports OddDegrees
ports_walk kind Empty is duals walk = (let same = (like-with kind (Ports Empty) is).gadget ∙ is in absurd (cc))
ports_walk kind Values is duals walk = (let same = (read-with kind (Ports Values) is duals).form ∙ walk in absurd (cc))
ports_walk kind OddDegrees is duals walk = is

by-sides : {E : Type 0} (odd : Bool) (kind : Kind) (i : Network) (edges : List ℕ) (r : Result Answer E) → gadget_of kind ≡ Sides odd → are_duals (proof_of kind) ≡ true
    → IfOk r (IsFeasible (path_kind odd) i) → IfOk r (HasFewSteps i) → IfOk r (IsChosenAnswer (path_kind odd) i)
    → IfOk r (λ a. weight_of (path_kind odd) i a ≤ℤ walk_weight (gadget_graph (path_kind odd) i) edges) → IfOk r (IsAnswerTo kind i edges)
by-sides true kind i edges r is duals feasible few chosen weighs = gives (Sides true) kind i edges is duals (λ w z. w ≤ℤ z) twice-below r feasible few chosen weighs
by-sides false kind i edges r is duals feasible few chosen weighs = gives (Sides false) kind i edges is duals (λ w z. w ≤ℤ z) twice-below r feasible few chosen weighs

-- ---- a row for each form

pub returns-in-Itself : goal.returns-in-Itself
returns-in-Itself c =
    let e = c.extract_plain.ensures in
    let is = own_weights c.args.kind c.gadget.result c.gadget.ensures c.requires.duals c.in-Itself.is in
    by-counts Itself c.args.kind c.args.instance.now c.args.edges.now is c.requires.duals (λ w z. w ≡ z) twice-same _ c.extract_plain.result e.counted e.feasible e.weighs

pub returns-in-Doubled : goal.returns-in-Doubled
returns-in-Doubled c =
    let e = c.extract_double.ensures in
    let is = sym c.gadget.ensures ∙ c.in-Doubled.is in
    by-counts Doubled c.args.kind c.args.instance.now c.args.edges.now is c.requires.duals (λ w z. neg_ℤ z ≤ℤ (pos 2 *ℤ w)) turned _ c.extract_double.result e.answer e.feasible e.heavier

pub returns-in-Copies : goal.returns-in-Copies
returns-in-Copies c =
    let e = c.extract_copies.ensures in
    let is = sym c.gadget.ensures ∙ c.in-Copies.is in
    by-counts Copies c.args.kind c.args.instance.now c.args.edges.now is c.requires.duals (λ w z. w ≡ z) twice-same _ c.extract_copies.result e.answer e.feasible e.weighs

pub returns-in-Capped-Own : goal.returns-in-Capped-Own
returns-in-Capped-Own c =
    let e = c.extract.ensures in
    let is = sym c.gadget.ensures ∙ c.in-Capped-Own.is ∙ ap (λ (limit : Capacities). Capped limit) c.in-Capped-Own.field-0-is in
    by-counts (Capped Own) c.args.kind c.args.instance.now c.args.edges.now is c.requires.duals (λ w z. w ≡ z) twice-same _ c.extract.result e.counts e.feasible e.weighs

pub returns-in-Capped-Unit : goal.returns-in-Capped-Unit
returns-in-Capped-Unit c =
    let e = c.extract-in-Capped-Unit.ensures in
    let is = sym c.gadget.ensures ∙ c.in-Capped-Unit.is ∙ ap (λ (limit : Capacities). Capped limit) c.in-Capped-Unit.field-0-is in
    by-counts (Capped Once) c.args.kind c.args.instance.now c.args.edges.now is c.requires.duals (λ w z. w ≡ z) twice-same _ c.extract-in-Capped-Unit.result e.counts e.feasible e.weighs

pub returns-in-Counts : goal.returns-in-Counts
returns-in-Counts c =
    let e = c.extract_join.ensures in
    let is = ports_counts c.args.kind c.in-Ports.field-0 (sym c.gadget.ensures ∙ c.in-Ports.is) c.requires.duals (sym c.form.ensures ∙ c.in-Counts.is) in
    gives (Ports Values) c.args.kind c.args.instance.now c.args.edges.now is c.requires.duals (λ w z. w ≡ z) twice-same c.extract_join.result e.feasible e.few_steps e.chosen e.weighs

pub extract_tour-requires-clause-connected : goal.extract_tour-requires-clause-connected
extract_tour-requires-clause-connected c =
    let is = ports_walk c.args.kind c.in-Ports.field-0 (sym c.gadget.ensures ∙ c.in-Ports.is) c.requires.duals (sym c.form.ensures ∙ c.in-Walk.is) in
    (opened c.args.kind (Ports OddDegrees) c.args.instance.now is c.requires.duals c.requires.well_formed).no_part

pub returns-in-Walk : goal.returns-in-Walk
returns-in-Walk c =
    let t = total_weight c.args.instance.now in
    let e = c.extract_tour.ensures in
    let is = ports_walk c.args.kind c.in-Ports.field-0 (sym c.gadget.ensures ∙ c.in-Ports.is) c.requires.duals (sym c.form.ensures ∙ c.in-Walk.is) in
    gives (Ports OddDegrees) c.args.kind c.args.instance.now c.args.edges.now is c.requires.duals (λ w z. w ≡ t +ℤ z) (toured t)
    c.extract_tour.result e.feasible e.few_steps e.chosen e.weighs

pub extract_path-requires-clause-ends : goal.extract_path-requires-clause-ends
extract_path-requires-clause-ends c = (opened c.args.kind PathPorts c.args.instance.now (sym c.gadget.ensures ∙ c.in-PathPorts.is) c.requires.duals c.requires.well_formed).ends

pub extract_path-requires-clause-even_sets : goal.extract_path-requires-clause-even_sets
extract_path-requires-clause-even_sets c =
    (opened c.args.kind PathPorts c.args.instance.now (sym c.gadget.ensures ∙ c.in-PathPorts.is) c.requires.duals c.requires.well_formed).even_sets refl

pub returns-in-PathPorts : goal.returns-in-PathPorts
returns-in-PathPorts c =
    let e = c.extract_path.ensures in
    let is = sym c.gadget.ensures ∙ c.in-PathPorts.is in
    gives PathPorts c.args.kind c.args.instance.now c.args.edges.now is c.requires.duals (λ w z. w ≤ℤ z) twice-below c.extract_path.result e.feasible e.few_steps e.chosen e.weighs

pub returns-in-Halves : goal.returns-in-Halves
returns-in-Halves c =
    let e = c.extract-in-Halves.ensures in
    let is = sym c.gadget.ensures ∙ c.in-Halves.is in
    by-counts Halves c.args.kind c.args.instance.now c.args.edges.now is c.requires.duals (λ w z. (pos 2 *ℤ w) ≤ℤ z) doubled _ c.extract-in-Halves.result e.answer e.feasible e.lighter

pub returns-in-Sides : goal.returns-in-Sides
returns-in-Sides c =
    let e = c.extract_parity.ensures in
    let is = sym c.gadget.ensures ∙ c.in-Sides.is in
    by-sides c.in-Sides.odd c.args.kind c.args.instance.now c.args.edges.now c.extract_parity.result is c.requires.duals e.feasible e.few_steps e.chosen e.weighs
