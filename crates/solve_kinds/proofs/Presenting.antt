-- A document that presents a solution proves its answer best.
use Rattle.certificates.proofs.Common.{◌≡◌, ℕ, ◌+◌, ◌<◌, ℤ, pos, ◌≤ℤ◌, ◌*ℤ◌, true, List, [], ◌++◌, length, map, get_or, All, Option, IfSome}
use Rattle.certificates.proofs.Common.{nat_abs, refl, sym, ap, ◌∙◌, subst, arith, ints, length-map, All-get_or, Multigraph, IsGraph, weight, IsPerfect, AreDuals, dual_value}
use Rattle.certificates.proofs.Common.{listed_sets, weak_duality, Kind, BestProof, Duals, LighterBarrier, OuterPaths, Answer, Counts, Walk, Nothing, Values, form_of, proof_of, are_duals}
use Rattle.certificates.proofs.Common.{Network, IsNetwork, vertices, graph_of, IsFeasible, weight_of, value_for, feasible-form, feasible-places, gadget_graph, IsReached, ReachesAll}
use Rattle.certificates.proofs.Common.{Document, SetLine, WalkLine, DocStatus, Body, parts_of, at_most_one, all_in_range_for, vertices_first, HaveForm, answer_of, numbers, duals_of, sets_of}
use Rattle.certificates.proofs.Common.{set_of, IsProved, ProvesByDuals, ProvesBest, ProvesOptimal, ProvesByStatus, IsWalkWithin, IsDualWithin, IsSetLineWithin, AreSetLinesWithin, AreWithin}
use Rattle.certificates.proofs.Common.{reached-weighs, in-range, true≢false}
use Rattle.mwpm_engine.specs.Solutions.{Solution, matching_of, IsSolved}
use Rattle.graph_parts.specs.OddParts.{IsFirstOddPart, is_terminal}
use Rattle.document_lines.specs.Lines.{line_of}
use Rattle.solve_answers.specs.Chosen.{StartsFirst, IsChosenAnswer, IsFirstMetPart, IsChosen}
use Rattle.solve_kinds.specs.Presented.{Presents}
use Rattle.solve_answers.proofs.SettlingSets.{none_if}
use Rattle.solve_kinds.proofs.AnswerForms.{stated-by}
use Rattle.solve_answers.proofs.InRange.{counts_in, duals_in, sets_in, walk_in}
use Rattle.solve_kinds.proofs.SolvedSets.{lines-duals, lines-value}
use Rattle.solve_kinds.proofs.WalkLines.{line-within}
use Rattle.doc_format.specs.declared.part.Part.TheVariants as part

-- a solution of the kind's graph
pub record Solves (kind : Kind) (i : Network) (s : Solution) : Type 0 where
  pub duals : are_duals (proof_of kind) ≡ true
  pub network : IsNetwork i
  pub graph : s.graph ≡ gadget_graph kind i
  pub is_graph : IsGraph (gadget_graph kind i)
  pub reached : ReachesAll kind i
  pub solved : IsSolved s

pub are-duals : (kind : Kind) (i : Network) (s : Solution) (d : Document) → IsSolved s → Presents kind i s d → AreDuals s.graph (duals_of d) (listed_sets s.graph.vertices (sets_of d))
are-duals kind i s d solved p =
    subst (λ (ys : List ℤ). AreDuals s.graph ys (listed_sets s.graph.vertices (sets_of d))) (sym p.duals) (lines-duals s d.sets solved p.sets)

are-within : (kind : Kind) (i : Network) (s : Solution) (d : Document) → Solves kind i s → Presents kind i s d → AreWithin kind i d
are-within kind i s d of p =
    let n = vertices i in
    let m = length i.edges in
    let k = (gadget_graph kind i).vertices in
    let same : s.graph.vertices ≡ k = ap (λ (g : Multigraph). g.vertices) of.graph in
    let walk = subst (λ (line : Option WalkLine). IfSome line (IsWalkWithin n m)) (sym p.states.walk) (line-within kind i p.states.answer of.network p.states.feasible) in
    let duals = subst (λ (v : ℕ). All (IsDualWithin v) d.duals) same p.duals_within in
    let sets = subst (λ (v : ℕ). AreSetLinesWithin v d.sets) same p.sets.within in
    let each : (j : ℕ) (z : SetLine) → j < length d.sets → z ≡ get_or d.sets j z → IsSetLineWithin k (0 + j) z =
    λ j z below is. (let place : j ≡ 0 + j = omega arith in subst (λ (q : ℕ). IsSetLineWithin k q z) place (sets j z below is)) in
    record {
      weight = p.states.number;
      parts = ap (λ (b : Body). all_in_range_for kind i (parts_of b)) p.only
          ∙ counts_in n m k 0 d.counts (at_most_one part.Walk d.walk ++ (map part.Dual d.duals ++ (map part.Set d.sets ++ []))) p.states.counts_within
          (walk_in n m k 0 d.walk (map part.Dual d.duals ++ (map part.Set d.sets ++ [])) walk
          (duals_in n m k 0 d.duals (map part.Set d.sets ++ []) duals (sets_in n m k 0 d.sets each)));
    }

-- The value lies between those of two perfect matchings, and no perfect matching weighs less than the solution's: so it
-- is the value of the duals.
value-met : (kind : Kind) (i : Network) (g : Multigraph) (s : Solution) (d : Document) → g ≡ gadget_graph kind i → s.graph ≡ g → IsGraph g → IsSolved s
    → are_duals (proof_of kind) ≡ true →
    ReachesAll kind i → (p : Presents kind i s d) → dual_value (duals_of d) (listed_sets s.graph.vertices (sets_of d)) ≡ value_for kind i (weight_of kind i p.states.answer)
value-met kind i g s d is graph is_graph solved best reached p =
    let sets = listed_sets s.graph.vertices (sets_of d) in
    let r : IsReached kind i p.states.answer = reached-weighs (proof_of kind) kind i p.states.answer best (reached p.states.answer p.states.feasible) in
    let there : Multigraph → Type 0 = λ h. (counts : List ℕ) × IsPerfect h counts × ((pos 2 *ℤ weight h counts) ≤ℤ value_for kind i (weight_of kind i p.states.answer)) in
    let other : there g = subst there (sym is) (r.counts, r.perfect, r.weighs) in
    let duals : AreDuals g (duals_of d) sets = subst (λ (h : Multigraph). AreDuals h (duals_of d) sets) graph (are-duals kind i s d solved p) in
    let below : dual_value (duals_of d) sets ≤ℤ (pos 2 *ℤ weight g other.0) = weak_duality g (duals_of d) sets other.0 is_graph duals other.1 in
    let most : (pos 2 *ℤ weight g other.0) ≤ℤ value_for kind i (weight_of kind i p.states.answer) = other.2 in
    let pays : value_for kind i (weight_of kind i p.states.answer) ≤ℤ (pos 2 *ℤ weight s.graph (matching_of s.graph s.mates)) = p.states.pays in
    let same : dual_value (duals_of d) sets ≡ pos 2 *ℤ weight s.graph (matching_of s.graph s.mates) =
    ap (λ (ys : List ℤ). dual_value ys sets) p.duals ∙ lines-value s d.sets solved p.sets in
    omega (arith, ints)

have-form : (kind : Kind) (i : Network) (s : Solution) (d : Document) → Presents kind i s d → HaveForm d
have-form kind i s d p k below =
    record {
      sorted = λ z is.
          (let first : vertices_first (get_or d.sets k z).items ≡ true = All-get_or (λ z. vertices_first z.items ≡ true) d.sets k z below p.sets.sorted in
          ap (λ (y : SetLine). vertices_first y.items) is ∙ first);
      items = p.sets.forms k (omega (arith, below, length-map d.sets set_of));
    }

-- duals prove the answer best, where they are what does
best-by : (proof : BestProof) (kind : Kind) (i : Network) (d : Document) → are_duals proof ≡ true → ProvesByDuals kind i d → ProvesBest proof kind i d
best-by (Duals value) kind i d duals p = p
best-by LighterBarrier kind i d duals p = absurd (cc)
best-by OuterPaths kind i d duals p = absurd (cc)

proves-optimal : (kind : Kind) (i : Network) (s : Solution) (d : Document) → Solves kind i s → Presents kind i s d → ProvesOptimal kind i d
proves-optimal kind i s d of p =
    let is : answer_of kind i d ≡ p.states.answer =
    stated-by (form_of kind) i d p.states.answer (feasible-form kind i p.states.answer p.states.feasible)
    (feasible-places kind i p.states.answer p.states.feasible) p.states.lists p.states.walk in
    record {
      feasible = subst (IsFeasible kind i) (sym is) p.states.feasible;
      weighs = ap (weight_of kind i) is ∙ sym p.states.weight;
      best = best-by (proof_of kind) kind i d of.duals (record {
        forms = have-form kind i s d p;
        duals = subst (λ (h : Multigraph). AreDuals h (duals_of d) (listed_sets h.vertices (sets_of d))) of.graph (are-duals kind i s d of.solved p);
        value = ap (λ (h : Multigraph). dual_value (duals_of d) (listed_sets h.vertices (sets_of d))) (sym of.graph)
            ∙ value-met kind i (gadget_graph kind i) s d refl of.graph of.is_graph of.solved of.duals of.reached p ∙ ap (value_for kind i) (sym p.states.weight);
      });
    }

pub proved-optimal : (kind : Kind) (i : Network) (s : Solution) (d : Document) → Solves kind i s → Presents kind i s d → IsProved kind i d
proved-optimal kind i s d of p = record {
  same_kind = p.states.kind_is;
  in_range = in-range kind i d (are-within kind i s d of p);
  proves = subst (λ (t : DocStatus). ProvesByStatus t kind i d) (sym p.states.status) (proves-optimal kind i s d of p);
}

started : (kind : Kind) (i : Network) (answer : Answer) → IsChosenAnswer kind i answer → IfSome (line_of answer) (λ w. StartsFirst kind i (nat_abs w.start))
started kind i (Counts counts) c = tt
started kind i (Walk start edges) c = c
started kind i Nothing c = tt

pub chosen-optimal : (kind : Kind) (i : Network) (s : Solution) (d : Document) → are_duals (proof_of kind) ≡ true → Presents kind i s d → IsChosen kind i d
chosen-optimal kind i s d duals p = record {
  walk = λ best. subst (λ (line : Option WalkLine). IfSome line (λ w. StartsFirst kind i (nat_abs w.start))) (sym p.states.walk) (started kind i p.states.answer p.states.chosen);
  odd = none_if (λ t. IsFirstOddPart (graph_of i) (is_terminal Values i) (numbers t.members)) d.odd (ap (λ (b : Body). b.odd) p.only);
  split = none_if (λ q. IsFirstMetPart (graph_of i) (numbers q.members)) d.split (ap (λ (b : Body). b.split) p.only);
  once = p.sets.once;
  beside = λ k best. absurd (true≢false (sym duals ∙ ap (λ (x : Kind). are_duals (proof_of x)) k));
}
