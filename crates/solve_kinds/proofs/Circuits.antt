-- A document of a circuit of weight below 0 proves that weights aren't conservative.
use Rattle.certificates.proofs.Common.{◌≡◌, ℕ, ◌+◌, ◌*◌, ◌≤◌, pos, ◌<ℤ◌, true, List, [], length, map, Option, Some, MatchOption, nat_abs, refl, sym, ap, ◌∙◌}
use Rattle.certificates.proofs.Common.{subst, arith, ints, IsCircuit, walk_weight, walk-numbers, Kind, Answer, Values, asks_conservative, IsWalkWith, Network, IsNetwork, vertices, graph_of}
use Rattle.certificates.proofs.Common.{gadget_graph, differ-once, IsNegativeCircuitWithin, Document, DocStatus, NonConservative, WalkLine, Body, blank, at_most_one, parts_of, body_of}
use Rattle.certificates.proofs.Common.{parts_text, all_in_range_for, in-range, numbers, set_of, sets_of, HasNegativeCircuit, ProvesByStatus, StatesTruthBy, IsWalkWithin, AreWithin}
use Rattle.certificates.proofs.Common.{not_conservative}
use Rattle.certificates.proofs.Common.{IsInForm, few-steps}
use Rattle.graph_parts.specs.OddParts.{IsFirstOddPart, is_terminal}
use Rattle.doc_format.specs.declared.part.Part.TheVariants.{Walk}
use Rattle.document_lines.specs.Lines.{line_of, walk_line}
use Rattle.document_lines.proofs.Ascents.{numbers-pos}
use Rattle.document_lines.proofs.Listing.{none-named}
use Rattle.solve_answers.specs.Chosen.{IsFirstMetPart}
use Rattle.solve_answers.specs.Settled.{Settles, SettlesBare}
use Rattle.solve_answers.specs.Solved.{HasTrueStatus}
use Rattle.solve_kinds.proofs.Forms.{has_edges, some-edges}
use Rattle.solve_answers.proofs.InRange.{walk_in}
use Rattle.solve_answers.proofs.LineSizes.{head_circuit-size}
use Rattle.solve_answers.proofs.SettlingSets.{none_if}
use Rattle.solve_answers.proofs.Short.{IsShortLine, line-size, short-document}
use Rattle.solve_kinds.proofs.ShortDocuments.{short-walk, short-line}
use Rattle.solve_kinds.proofs.WalkLines.{walk-within}
use Rattle.mb_problem.specs.declared.kind.AnswerForm.TheVariants as form
use Rattle.mb_problem.specs.declared.answer.Answer.TheVariants as answers

-- no part but the line of a circuit
pub record StatesCircuit (kind : Kind) (answer : Answer) (d : Document) : Type 0 where
  pub status : d.status ≡ NonConservative
  pub kind_is : d.kind ≡ kind
  pub weight : d.weight ≡ pos 0
  pub body : body_of d ≡ record blank { walk = line_of answer }

has-circuit : (i : Network) (start : ℕ) (edges : List ℕ) (line : Option WalkLine) → IsCircuit (graph_of i) start edges → walk_weight (graph_of i) edges <ℤ pos 0 →
    line ≡ Some (walk_line start edges)
    → MatchOption line ⊥ (λ w. IsCircuit (graph_of i) (nat_abs w.start) (numbers w.edges) × (walk_weight (graph_of i) (numbers w.edges) <ℤ pos 0))
has-circuit i start edges line circuit negative is =
    subst (λ (o : Option WalkLine). MatchOption o ⊥ (λ w. IsCircuit (graph_of i) (nat_abs w.start) (numbers w.edges) × (walk_weight (graph_of i) (numbers w.edges) <ℤ pos 0))) (sym is)
    (subst (λ (es : List ℕ). IsCircuit (graph_of i) start es × (walk_weight (graph_of i) es <ℤ pos 0)) (sym (numbers-pos edges)) (circuit, negative))

within-circuit : (kind : Kind) (i : Network) (start : ℕ) (edges : List ℕ) (d : Document) → IsWalkWithin (vertices i) (length i.edges) (walk_line start edges) →
    StatesCircuit kind (answers.Walk start edges) d → AreWithin kind i d
within-circuit kind i start edges d within p =
    record {
      weight = rw p.weight (omega (arith, ints), omega (arith, ints));
      parts = ap (λ (b : Body). all_in_range_for kind i (parts_of b)) p.body ∙ walk_in (vertices i) (length i.edges) (gadget_graph kind i).vertices 0
          (Some (walk_line start edges)) [] within refl;
    }

settles : (kind : Kind) (i : Network) (start : ℕ) (edges : List ℕ) (d : Document) → asks_conservative kind ≡ true → IsNetwork i → IsCircuit (graph_of i) start edges →
    walk_weight (graph_of i) edges <ℤ pos 0 → StatesCircuit kind (answers.Walk start edges) d → Settles kind i d
settles kind i start edges d asks network circuit negative p =
    let some : 1 ≤ length edges = circuit.some in
    let within = walk-within i start edges network circuit.walk (omega arith) in
    let size : length edges ≤ length i.edges * 1 = few-steps 1 i edges (walk-numbers (graph_of i) start edges circuit.walk) (λ k b. differ-once edges (k + 1) circuit.edges_differ) in
    let walk : d.walk ≡ Some (walk_line start edges) = ap (λ (b : Body). b.walk) p.body in
    let has : HasNegativeCircuit i d = has-circuit i start edges d.walk circuit negative walk in
    let row : IsShortLine Walk 2800000 (Some (walk_line start edges)) =
    short-walk (vertices i) (length i.edges) start edges network.few_vertices network.few_edges (omega (arith, size)) within in
    let text = line-size Walk 2800000 (Some (walk_line start edges)) row in
    let same : length (parts_text (parts_of (body_of d))) ≡ length (parts_text (at_most_one Walk (Some (walk_line start edges)))) =
    ap (λ (b : Body). length (parts_text (parts_of b))) p.body in
    record {
      proved = record {
        same_kind = p.kind_is;
        in_range = in-range kind i d (within-circuit kind i start edges d within p);
        proves = subst (λ (t : DocStatus). ProvesByStatus t kind i d)
            (sym p.status) has;
      };
      truth = subst (λ (t : DocStatus). StatesTruthBy t kind i d) (sym p.status) (not_conservative i d has);
      exact = subst (HasTrueStatus kind i) (sym p.status) (asks, not_conservative i d has);
      chosen = record {
        walk = λ best. absurd (let same = sym p.status ∙ best in cc);
        odd = none_if (λ t. IsFirstOddPart (graph_of i) (is_terminal Values i) (numbers t.members)) d.odd (ap (λ (b : Body). b.odd) p.body);
        split = none_if (λ q. IsFirstMetPart (graph_of i) (numbers q.members)) d.split (ap (λ (b : Body). b.split) p.body);
        once = none-named (sets_of d) (ap (λ (b : Body). map set_of b.sets) p.body);
        beside = λ k best. absurd (let same = sym p.status ∙ best in cc);
      };
      short_walk = short-line i (answers.Walk start edges) d.walk walk (omega (arith, size));
      size_limit = short-document kind d (rw (p.status, p.kind_is) (head_circuit-size kind d.weight)) (omega (arith, text, same));
    }

pub settles-circuit : (kind : Kind) (i : Network) (join : List ℕ) (answer : Answer) (d : Document) → asks_conservative kind ≡ true → IsNetwork i →
    IsWalkWith (λ start edges. IsNegativeCircuitWithin (graph_of i) join start edges) ⊥ answer → StatesCircuit kind answer d → SettlesBare kind i d
settles-circuit kind i join (answers.Counts counts) d asks network circuit p = absurd circuit
settles-circuit kind i join (answers.Walk start edges) d asks network circuit p =
    (settles kind i start edges d asks network circuit.circuit circuit.negative p, record { duals = ap (λ (b : Body). b.duals) p.body; sets = ap (λ (b : Body). b.sets) p.body })
settles-circuit kind i join answers.Nothing d asks network circuit p = absurd circuit

-- a circuit has edges
circuit-form : (i : Network) (join : List ℕ) (answer : Answer) → IsWalkWith (λ start edges. IsNegativeCircuitWithin (graph_of i) join start edges) ⊥ answer
    → IsInForm form.Walk answer
circuit-form i join (answers.Counts counts) circuit = absurd circuit
circuit-form i join (answers.Walk start edges) circuit = circuit.circuit.some
circuit-form i join answers.Nothing circuit = absurd circuit

pub circuit-edges : (i : Network) (join : List ℕ) (answer : Answer) (line : Option WalkLine)
    → IsWalkWith (λ start edges. IsNegativeCircuitWithin (graph_of i) join start edges) ⊥ answer →
    line ≡ line_of answer → has_edges line ≡ true
circuit-edges i join answer line circuit is = ap has_edges is ∙ some-edges form.Walk answer (circuit-form i join answer circuit)
