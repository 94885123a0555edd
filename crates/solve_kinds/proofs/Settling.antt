-- Computed documents settle an instance.
use Rattle.certificates.proofs.Common.{◌≡◌, ℕ, ◌≤◌, true, false, List, ◌∷◌, ◌++◌, length, map, All, refl, sym, ap, ◌∙◌, subst, flat_map, true≢false}
use Rattle.certificates.proofs.Common.{GRAPH_VERTEX_LIMIT, Kind, BestProof, Duals, LighterBarrier, OuterPaths, proof_of}
use Rattle.certificates.proofs.Common.{are_duals, Network, Document, DocStatus, Optimal, Infeasible, NonConservative, Part, Count, CountLine, DualLine}
use Rattle.certificates.proofs.Common.{SetLine, IsDocument, Body, body_of, answer, asked, row_text, head_row, part_row, document_text}
use Rattle.certificates.proofs.Common.{IsDualWithin, proved_true-pathless}
use Rattle.mwpm_engine.specs.Solutions.{Solution, IsSolved}
use Rattle.least_joins.proofs.Listing.{listing}
use Rattle.document_lines.proofs.DualLines.{lines_to, lines-duals, lines-ascend, lines-within}
use Rattle.solve_kinds.specs.Presented.{StatesAnswer, Presents, PresentsBriefly, PresentsFor}
use Rattle.solve_answers.specs.declared.detail.Detail.{Detail}
use Rattle.solve_answers.specs.declared.detail.Detail.TheVariants.{Full, Brief}
use Rattle.solve_answers.specs.Details.{is_brief}
use Rattle.solve_answers.specs.Settled.{Settles, SettlesBare, IsWrittenFor, SettlesFor}
use Rattle.solve_answers.specs.Solved.{HasTrueStatus, HasFitWeights}
use Rattle.solve_kinds.proofs.Forms.{form-completed}
use Rattle.solve_answers.proofs.InRange.{sets-formed}
use Rattle.solve_kinds.proofs.Presenting.{Solves, proved-optimal, chosen-optimal}
use Rattle.solve_kinds.proofs.ShortDocuments.{short-line, short-optimal}
use Rattle.solve_kinds.proofs.SolvedSets.{solved-lines}

pub settles-optimal : (kind : Kind) (i : Network) (s : Solution) (d : Document) → s.graph.vertices ≤ GRAPH_VERTEX_LIMIT → HasFitWeights kind i → Solves kind i s →
    Presents kind i s d → Settles kind i d
settles-optimal kind i s d few fit of p =
    let proved = proved-optimal kind i s d of p in
    record {
      proved = proved;
      truth = proved_true-pathless kind i d (λ paths. absurd (true≢false (sym of.duals ∙ ap are_duals paths))) of.network of.is_graph of.reached proved;
      exact = subst (HasTrueStatus kind i) (sym p.states.status) ((p.states.answer, p.states.feasible), fit);
      chosen = chosen-optimal kind i s d of.duals p;
      short_walk = short-line i p.states.answer d.walk p.states.walk p.states.few_steps;
      size_limit = short-optimal kind i s d of.network few of.solved p;
    }

-- ---- what is written

-- a document that settles the instance is written as itself
pub settles-for : (detail : Detail) (kind : Kind) (i : Network) (d : Document) → SettlesBare kind i d → SettlesFor detail kind i d
settles-for Full kind i d h = h.0
settles-for Brief kind i d h = record { whole = d; settles = h.0; status = refl; weight = refl; counts = refl; walk = refl; text = refl; bare = λ brief. h.1 }

-- in full a document is written as itself
pub written-for : (detail : Detail) (kind : Kind) (i : Network) (d : Document) → SettlesFor detail kind i d → IsWrittenFor kind i detail d
written-for Full kind i d h = record { whole = d; settles = h; status = refl; weight = refl; counts = refl; walk = refl; text = refl; bare = λ brief. absurd (cc) }
written-for Brief kind i d h = h

-- in brief the text tells of the answer alone

same-asked : (proof : BestProof) (b c : Body) → b.walk ≡ c.walk → b.outer ≡ c.outer → b.barrier ≡ c.barrier → asked proof b ≡ asked proof c
same-asked (Duals value) b c walk outer barrier = rw walk refl
same-asked LighterBarrier b c walk outer barrier = rw walk refl
same-asked OuterPaths b c walk outer barrier = rw (walk, outer, barrier) refl

same-answer : (status : DocStatus) (kind : Kind) (b c : Body) → b.counts ≡ c.counts → asked (proof_of kind) b ≡ asked (proof_of kind) c
    → answer status kind b ≡ answer status kind c
same-answer Optimal kind b c counts others = ap (λ (xs : List CountLine). map Count xs ++ asked (proof_of kind) b) counts ∙ ap (λ (ps : List Part). map Count c.counts ++ ps) others
same-answer Infeasible kind b c counts others = ap (λ (xs : List CountLine). map Count xs ++ asked (proof_of kind) b) counts ∙ ap (λ (ps : List Part). map Count c.counts ++ ps) others
same-answer NonConservative kind b c counts others = rw counts refl

-- the answer is the same beside other duals and sets
pub states-with : (kind : Kind) (i : Network) (s : Solution) (d : Document) (duals : List DualLine) (sets : List SetLine)
    (form : IsDocument d.status d.kind d.weight (record (body_of d) { duals = duals; sets = sets })) → StatesAnswer kind i s d →
    StatesAnswer kind i s (record d { duals = duals; sets = sets; form = form })
states-with kind i s d duals sets form a = record {
  status = a.status;
  kind_is = a.kind_is;
  answer = a.answer;
  feasible = a.feasible;
  few_steps = a.few_steps;
  chosen = a.chosen;
  lists = a.lists;
  walk = a.walk;
  pays = a.pays;
  weight = a.weight;
  number = a.number;
  ascending = a.ascending;
  counts_within = a.counts_within;
  few_counts = a.few_counts;
}

-- the duals and the sets of a solution, as lines
abbrev duals_in : Solution → List DualLine
duals_in s = lines_to s.duals (length s.duals)

abbrev sets_in : (s : Solution) → IsSolved s → List SetLine
sets_in s solved = (solved-lines s solved).0

form-of : (kind : Kind) (i : Network) (s : Solution) (d : Document) (best : are_duals (proof_of kind) ≡ true) (solved : IsSolved s) → PresentsBriefly kind i s d →
    IsDocument d.status d.kind d.weight (record (body_of d) { duals = duals_in s; sets = sets_in s solved })
form-of kind i s d best solved p =
    form-completed kind i s d (duals_in s) (sets_in s solved) best p (lines-ascend s.duals (length s.duals))
    (sets-formed s.graph.vertices (sets_in s solved) (solved-lines s solved).1.within)

-- the document with these
abbrev completed : (kind : Kind) (i : Network) (s : Solution) (d : Document) → are_duals (proof_of kind) ≡ true → IsSolved s → PresentsBriefly kind i s d → Document
completed kind i s d best solved p = record d { duals = duals_in s; sets = sets_in s solved; form = form-of kind i s d best solved p }

brief-text : (kind : Kind) (i : Network) (s : Solution) (d : Document) (best : are_duals (proof_of kind) ≡ true) (solved : IsSolved s) (p : PresentsBriefly kind i s d) →
    document_text d true ≡ document_text (completed kind i s d best solved p) true
brief-text kind i s d best solved p =
    ap (λ (ps : List Part). flat_map row_text (head_row d.status d.kind d.weight ∷ map part_row ps))
    (let whole = body_of (completed kind i s d best solved p) in same-answer d.status d.kind (body_of d) whole refl (same-asked (proof_of d.kind) (body_of d) whole refl refl refl))

presents-completed : (kind : Kind) (i : Network) (s : Solution) (d : Document) (best : are_duals (proof_of kind) ≡ true) (solved : IsSolved s) (p : PresentsBriefly kind i s d) →
    Presents kind i s (completed kind i s d best solved p)
presents-completed kind i s d best solved p =
    let ys = s.duals in
    let listed = listing s.sets in
    let one_each : length ys ≡ s.graph.vertices = (solved.duals listed.0 listed.1).one_each in
    record {
      states = states-with kind i s d (duals_in s) (sets_in s solved) (form-of kind i s d best solved p) p.states;
      duals = lines-duals ys;
      duals_within = subst (λ (n : ℕ). All (IsDualWithin s.graph.vertices) (lines_to ys n)) (sym one_each) (lines-within ys s.graph.vertices one_each solved.in_range);
      sets = (solved-lines s solved).1;
      only = ap (λ (b : Body). record b { duals = duals_in s; sets = sets_in s solved }) p.only;
    }

pub settles-presented : (detail : Detail) (kind : Kind) (i : Network) (s : Solution) (d : Document) → s.graph.vertices ≤ GRAPH_VERTEX_LIMIT → HasFitWeights kind i → Solves kind i s →
    PresentsFor (is_brief detail) kind i s d → SettlesFor detail kind i d
settles-presented Full kind i s d few fit of p = settles-optimal kind i s d few fit of p
settles-presented Brief kind i s d few fit of p = record {
  whole = completed kind i s d of.duals of.solved p;
  settles = settles-optimal kind i s (completed kind i s d of.duals of.solved p) few fit of (presents-completed kind i s d of.duals of.solved p);
  status = refl;
  weight = refl;
  counts = refl;
  walk = refl;
  text = brief-text kind i s d of.duals of.solved p;
  bare = λ brief. record { duals = ap (λ (b : Body). b.duals) p.only; sets = ap (λ (b : Body). b.sets) p.only };
}

pub states-for : (detail : Detail) (kind : Kind) (i : Network) (s : Solution) (d : Document) → PresentsFor (is_brief detail) kind i s d → StatesAnswer kind i s d
states-for Full kind i s d p = p.states
states-for Brief kind i s d p = p.states
