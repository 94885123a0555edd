-- A document that says the same as another, on whatever lines, claims the same and proves it as well.
use Rattle.mb_problem.proofs.Common.{◌≡◌, ℕ, ℤ, ◌+◌, ◌<◌, ◌%◌, pos, ◌<ℤ◌, cond, eqb, List, [], ◌∷◌, length, get_or, map, All, true, Option, None, Some}
use Rattle.mb_problem.proofs.Common.{nat_abs, refl, sym, ap, subst, ◌∙◌, MatchOption, arith, option_map, range_with_len, get_or-map, get_or_default, length-map, same_Some, All-nil}
use Rattle.mb_problem.proofs.Common.{All-cons, All-head, All-tail, All-map, All-weaker, IsBarrier, holds, IsOddPart, IsSplitPart, IsEvenPath, IsDecomposed, OddSet, AreDuals, IsNumber}
use Rattle.mb_problem.proofs.Common.{dual_value, HasItemForm, listed_sets, IsCircuit, walk_weight, form_of, obstruction_of, proof_of, Network, vertices, graph_of, value_of, IsFeasible}
use Rattle.mb_problem.proofs.Common.{IsBest}
use Rattle.mb_problem.proofs.Common.{weight_of, AreMissed, BorderMissed, value_for}
use Rattle.std.specs.Ordering.{int_eq}
use Rattle.mb_problem.specs.declared.kind.Kind.{Kind}
use Rattle.mb_problem.specs.declared.answer.Answer.TheVariants.{Counts}
use Rattle.gadget_base.proofs.Common.{gadget_graph, lighter_than}
use Rattle.mb_problem.specs.declared.kind.AnswerForm.{AnswerForm}
use Rattle.mb_problem.specs.declared.kind.Obstruction.{Obstruction}
use Rattle.mb_problem.specs.declared.kind.Obstruction.TheVariants.{Barrier, OddPart, SplitPart, Never}
use Rattle.mb_problem.specs.declared.kind.BestProof.{BestProof}
use Rattle.mb_problem.specs.declared.kind.BestProof.TheVariants.{Duals, LighterBarrier, OuterPaths}
use Rattle.doc_format.specs.declared.status.DocStatus.{DocStatus}
use Rattle.doc_format.specs.declared.status.DocStatus.TheVariants.{Optimal, Infeasible, NonConservative}
use Rattle.doc_format.specs.declared.part.CountLine.{CountLine}
use Rattle.doc_format.specs.declared.part.WalkLine.{WalkLine}
use Rattle.doc_format.specs.declared.part.DualLine.{DualLine}
use Rattle.doc_format.specs.declared.part.SetItem.{SetItem}
use Rattle.doc_format.specs.declared.part.SetLine.{SetLine}
use Rattle.doc_format.specs.declared.part.MemberLine.{MemberLine}
use Rattle.doc_format.specs.declared.part.PathLine.{PathLine}
use Rattle.doc_format.specs.declared.part.Part.{Part}
use Rattle.doc_format.specs.declared.part.Part.TheVariants.{Set}
use Rattle.doc_format.specs.declared.document.Document.{Document}
use Rattle.doc_format.specs.Parts.{Body, parts_of, set_count}
use Rattle.doc_format.proofs.PartLaws.{bare, line_laws}
use Rattle.doc_format.specs.Reading.{body_of}
use Rattle.doc_format.specs.Law.{unnumbered, SaysTheSame}
use Rattle.doc_format.proofs.WholeBack.{same_bodies}
use Rattle.certificates.specs.Claims.{numbers, count_of, walk_of, answer_by, answer_of, duals_of, set_of, sets_of, members_of, stated_counts, path_starts}
use Rattle.certificates.specs.Ranges.{is_within, all_in_range}
use Rattle.certificates.specs.Within.{AreWithin}
use Rattle.certificates.specs.Certificates.{vertices_first, HasLineForm, listed, HasBarrierFor, HasPartFor, HasNegativeCircuit, IsStatedPath, HavePathForm, HasAllPaths, HasDecomposition}
use Rattle.certificates.specs.Proved.{ProvesBest, ProvesOptimal, ProvesByStatus, IsProved, StatesSetsBy, StatesTruthBy, StatesTruth}
use Rattle.certificates.proofs.WithinLemmas.{are-within, in-range}
use Rattle.mb_problem.specs.declared.kind.AnswerForm.TheVariants as form

-- ---- what is claimed doesn't hang on the numbers of lines

set_count-bare : (part : Part) → set_count (unnumbered part) ≡ set_count part
set_count-bare (Set z) = refl
set_count-bare other = refl

all-bare : (n m p k : ℕ) (parts : List Part) → all_in_range n m p k (map unnumbered parts) ≡ all_in_range n m p k parts
all-bare n m p k [] = refl
all-bare n m p k (part ∷ parts) = rw ((line_laws 0 part).same_numbers (is_within n m p k), set_count-bare part, all-bare n m p (k + set_count part) parts) refl

count-bare : (xs : List CountLine) (e : ℕ) → count_of (map (λ (x : CountLine). record x { line = 0 }) xs) e ≡ count_of xs e
count-bare [] e = refl
count-bare (x ∷ xs) e = ap (λ (k : ℕ). cond (int_eq x.edge (pos e)) (nat_abs x.count) k) (count-bare xs e)

walk-bare : (w : Option WalkLine) → walk_of (option_map (λ (w : WalkLine). record w { line = 0 }) w) ≡ walk_of w
walk-bare None = refl
walk-bare (Some w) = refl

duals-bare : (ys : List DualLine) → map (λ y. y.dual) (map (λ (y : DualLine). record y { line = 0 }) ys) ≡ map (λ y. y.dual) ys
duals-bare [] = refl
duals-bare (y ∷ ys) = ap (λ (l : List ℤ). y.dual ∷ l) (duals-bare ys)

sets-bare : (zs : List SetLine) → map set_of (map (λ (z : SetLine). record z { line = 0 }) zs) ≡ map set_of zs
sets-bare [] = refl
sets-bare (z ∷ zs) = ap (λ (l : List OddSet). set_of z ∷ l) (sets-bare zs)

items-bare : (zs : List SetLine) → map (λ z. z.items) (map (λ (z : SetLine). record z { line = 0 }) zs) ≡ map (λ z. z.items) zs
items-bare [] = refl
items-bare (z ∷ zs) = ap (λ (l : List (List SetItem)). z.items ∷ l) (items-bare zs)

members-bare : (o : Option MemberLine) → members_of (option_map (λ (u : MemberLine). record u { line = 0 }) o) ≡ members_of o
members-bare None = refl
members-bare (Some u) = refl

starts-bare : (rs : List PathLine) → map (λ r. nat_abs r.vertex) (map (λ (r : PathLine). record r { line = 0 }) rs) ≡ map (λ r. nat_abs r.vertex) rs
starts-bare [] = refl
starts-bare (r ∷ rs) = ap (λ (l : List ℕ). nat_abs r.vertex ∷ l) (starts-bare rs)

-- a fact about each path that the numbers of lines don't change
paths-fact : (P : ℤ → List ℤ → Type 0) (rs : List PathLine) → All (λ r. P r.vertex r.edges) (map (λ (r : PathLine). record r { line = 0 }) rs) →
    All (λ r. P r.vertex r.edges) rs
paths-fact P [] h = All-nil (λ (r : PathLine). P r.vertex r.edges)
paths-fact P (r ∷ rs) h =
    let Q = λ (r : PathLine). P r.vertex r.edges in
    let first : PathLine = record r { line = 0 } in
    let rest = map (λ (r : PathLine). record r { line = 0 }) rs in
    All-cons Q r rs (All-head Q first rest h) (paths-fact P rs (All-tail Q first rest h))

-- a fact about the one line of a letter

member-fact : (P : List ℕ → Type 0) (o p : Option MemberLine) → option_map (λ (u : MemberLine). record u { line = 0 }) o ≡ option_map (λ (u : MemberLine). record u { line = 0 }) p →
    MatchOption o ⊥ (λ u. P (numbers u.members)) → MatchOption p ⊥ (λ u. P (numbers u.members))
member-fact P None p same fact = absurd fact
member-fact P (Some u) None same fact = absurd cc
member-fact P (Some u) (Some v) same fact =
    let lines : Some (record u { line = 0 }) ≡ Some (record v { line = 0 }) = same in
    let members : u.members ≡ v.members = ap (λ (l : MemberLine). l.members) (same_Some (record u { line = 0 }) (record v { line = 0 }) lines) in
    subst (λ (ms : List ℤ). P (numbers ms)) members fact

circuit-fact : (P : ℤ → List ℤ → Type 0) (o p : Option WalkLine) → option_map (λ (w : WalkLine). record w { line = 0 }) o ≡ option_map (λ (w : WalkLine). record w { line = 0 }) p →
    MatchOption o ⊥ (λ w. P w.start w.edges) → MatchOption p ⊥ (λ w. P w.start w.edges)
circuit-fact P None p same fact = absurd fact
circuit-fact P (Some w) None same fact = absurd cc
circuit-fact P (Some w) (Some v) same fact =
    let lines : record w { line = 0 } ≡ record v { line = 0 } = same_Some (record w { line = 0 }) (record v { line = 0 }) same in
    let start : w.start ≡ v.start = ap (λ (l : WalkLine). l.start) lines in
    let edges : w.edges ≡ v.edges = ap (λ (l : WalkLine). l.edges) lines in
    subst (λ (es : List ℤ). P v.start es) edges (subst (λ (s : ℤ). P s w.edges) start fact)

module _ (kind : Kind) (i : Network) (d e : Document) (same : SaysTheSame d e) where
  bodies : bare (body_of d) ≡ bare (body_of e)
  bodies = same_bodies d e same

  -- a claim that the numbers of lines don't change is the same of both
  claimed : {A : Type 0} (claim : Body → A) → ((b : Body) → claim (bare b) ≡ claim b) → claim (body_of d) ≡ claim (body_of e)
  claimed claim plain = sym (plain (body_of d)) ∙ ap claim bodies ∙ plain (body_of e)

  within_same : AreWithin kind i d → AreWithin kind i e
  within_same within =
      let n = vertices i in
      let m = length i.edges in
      let p = (gadget_graph kind i).vertices in
      record {
        weight = subst IsNumber same.weight within.weight;
        parts =
            sym (all-bare n m p 0 (parts_of (body_of e)))
            ∙ ap (all_in_range n m p 0) (sym same.parts)
            ∙ all-bare n m p 0 (parts_of (body_of d))
            ∙ within.parts;
      }

  answers_same : (f : AnswerForm) → answer_by f i d ≡ answer_by f i e
  answers_same form.Counts =
      ap (λ (f : ℕ → ℕ). Counts (map f (range_with_len 1 (length i.edges)))) (claimed (λ b. count_of b.counts) (λ b k t. count-bare b.counts t k))
  answers_same form.Walk = claimed (λ b. walk_of b.walk) (λ b. walk-bare b.walk)

  answer_same : answer_of kind i d ≡ answer_of kind i e
  answer_same = answers_same (form_of kind)

  duals_same : duals_of d ≡ duals_of e
  duals_same = claimed (λ b. map (λ y. y.dual) b.duals) (λ b. duals-bare b.duals)

  sets_same : sets_of d ≡ sets_of e
  sets_same = claimed (λ b. map set_of b.sets) (λ b. sets-bare b.sets)

  items_same : map (λ z. z.items) d.sets ≡ map (λ z. z.items) e.sets
  items_same = claimed (λ b. map (λ z. z.items) b.sets) (λ b. items-bare b.sets)

  lines_same : length d.sets ≡ length e.sets
  lines_same = sym (length-map d.sets set_of) ∙ ap length sets_same ∙ length-map e.sets set_of

  form_same : (k : ℕ) → k < length e.sets → HasLineForm d k → HasLineForm e k
  form_same k below form =
      let none : SetLine = record { line = 0; dual = pos 0; items = [] } in
      let here : k < length d.sets = omega (arith, lines_same) in
      let y = get_or d.sets k none in
      let as_read : y ≡ get_or d.sets k y = get_or_default d.sets k none y here in
      record {
        sorted = λ z is.
            (let first : get_or (map (λ (z : SetLine). z.items) d.sets) k [] ≡ y.items = get_or-map (λ (z : SetLine). z.items) d.sets k none [] here in
            let other : get_or (map (λ (z : SetLine). z.items) e.sets) k [] ≡ (get_or e.sets k z).items = get_or-map (λ (z : SetLine). z.items) e.sets k z [] below in
            let both : y.items ≡ z.items = sym first ∙ ap (λ (l : List (List SetItem)). get_or l k []) items_same ∙ other ∙ ap (λ (z : SetLine). z.items) (sym is) in
            ap vertices_first (sym both) ∙ form.sorted y as_read);
        items = subst (λ (zs : List OddSet). HasItemForm zs k) sets_same form.items;
      }

  listed_same : listed kind i d ≡ listed kind i e
  listed_same = ap (listed_sets (gadget_graph kind i).vertices) sets_same

  outer_same : members_of d.outer ≡ members_of e.outer
  outer_same = claimed (λ b. members_of b.outer) (λ b. members-bare b.outer)

  starts_same : path_starts d ≡ path_starts e
  starts_same = claimed (λ b. map (λ r. nat_abs r.vertex) b.paths) (λ b. starts-bare b.paths)

  counts_same : stated_counts i d ≡ stated_counts i e
  counts_same = ap (λ (f : ℕ → ℕ). map f (range_with_len 1 (length i.edges))) (claimed (λ b. count_of b.counts) (λ b k t. count-bare b.counts t k))

  -- an r line is a stated path, by its vertex and its edges
  abbrev IsPathOf : Document → ℤ → List ℤ → Type 0
  IsPathOf t v es = (holds (members_of t.outer) (nat_abs v) ≡ true) × IsEvenPath (graph_of i) (stated_counts i t) (nat_abs v) (numbers es)

  paths_same : HavePathForm i d → HavePathForm i e
  paths_same have =
      let plain : PathLine → PathLine = λ (r : PathLine). record r { line = 0 } in
      let Q : PathLine → Type 0 = λ (r : PathLine). IsPathOf e r.vertex r.edges in
      let each : All Q d.paths = All-weaker (IsStatedPath i d) Q (λ r h. (
        ap (λ (set : List ℕ). holds set (nat_abs r.vertex)) (sym outer_same) ∙ h.member,
        subst (λ (cs : List ℕ). IsEvenPath (graph_of i) cs (nat_abs r.vertex) (numbers r.edges)) counts_same h.path,
      ))
      d.paths have in
      let lines : map plain d.paths ≡ map plain e.paths = ap (λ (b : Body). b.paths) bodies in
      let there : All Q (map plain e.paths) = subst (λ (rs : List PathLine). All Q rs) lines (All-map Q plain d.paths each) in
      All-weaker Q (IsStatedPath i e) (λ r h. record { member = h.0; path = h.1 }) e.paths (paths-fact (IsPathOf e) e.paths there)

  all_same : HasAllPaths d → HasAllPaths e
  all_same all = member-fact (λ set. (v : ℕ) → holds set v ≡ true → holds (path_starts e) v ≡ true) d.outer e.outer (ap (λ (b : Body). b.outer) bodies)
      (subst (λ (starts : List ℕ). MatchOption d.outer ⊥ (λ line. (v : ℕ) → holds (numbers line.members) v ≡ true → holds starts v ≡ true)) starts_same all)

  decomposed_same : HasDecomposition kind i d → HasDecomposition kind i e
  decomposed_same h =
      member-fact (IsDecomposed (gadget_graph kind i) (nat_abs e.weight) (members_of e.outer)) d.barrier e.barrier (ap (λ (b : Body). b.barrier) bodies)
      (subst (λ (w : ℤ). MatchOption d.barrier ⊥ (λ u. IsDecomposed (gadget_graph kind i) (nat_abs w) (members_of e.outer) (numbers u.members))) same.weight
      (subst (λ (set : List ℕ). MatchOption d.barrier ⊥ (λ u. IsDecomposed (gadget_graph kind i) (nat_abs d.weight) set (numbers u.members))) outer_same h))

  barrier_same : (x : Obstruction) → HasBarrierFor x kind i d → HasBarrierFor x kind i e
  barrier_same Barrier h = member-fact (IsBarrier (gadget_graph kind i)) d.barrier e.barrier (ap (λ (b : Body). b.barrier) bodies) h
  barrier_same OddPart h = h
  barrier_same SplitPart h = h
  barrier_same Never h = h

  part_same : (x : Obstruction) → HasPartFor x i d → HasPartFor x i e
  part_same Barrier h = h
  part_same OddPart h = member-fact (IsOddPart (graph_of i) (λ v. eqb (value_of i v % 2) 1)) d.odd e.odd (ap (λ (b : Body). b.odd) bodies) h
  part_same SplitPart h = member-fact (IsSplitPart (graph_of i)) d.split e.split (ap (λ (b : Body). b.split) bodies) h
  part_same Never h = h

  circuit_same : HasNegativeCircuit i d → HasNegativeCircuit i e
  circuit_same h =
      circuit-fact (λ s es. IsCircuit (graph_of i) (nat_abs s) (numbers es) × (walk_weight (graph_of i) (numbers es) <ℤ pos 0)) d.walk e.walk (ap (λ (b : Body). b.walk) bodies) h

  -- ---- the same proof

  best_same : (proof : BestProof) → ProvesBest proof kind i d → ProvesBest proof kind i e
  best_same (Duals value) p = record {
    forms = λ k below. form_same k below (p.forms k (omega (arith, lines_same)));
    duals = subst (λ (ys : List ℤ). AreDuals (gadget_graph kind i) ys (listed kind i e)) duals_same
        (subst (AreDuals (gadget_graph kind i) (duals_of d)) listed_same p.duals);
    value = ap (λ (ys : List ℤ). dual_value ys (listed kind i e)) (sym duals_same)
        ∙ ap (dual_value (duals_of d)) (sym listed_same)
        ∙ p.value
        ∙ ap (value_for kind i) same.weight;
  }
  best_same LighterBarrier p = λ some.
      member-fact (IsBarrier (lighter_than e.weight (gadget_graph kind i))) d.barrier e.barrier (ap (λ (b : Body). b.barrier) bodies)
      (subst (λ (w : ℤ). MatchOption d.barrier ⊥ (λ u. IsBarrier (lighter_than w (gadget_graph kind i)) (numbers u.members))) same.weight (p some))
  best_same OuterPaths p = record { paths = paths_same p.paths; all = all_same p.all; decomposed = decomposed_same p.decomposed }

  optimal_same : ProvesOptimal kind i d → ProvesOptimal kind i e
  optimal_same p = record {
    feasible = subst (IsFeasible kind i) answer_same p.feasible;
    weighs = ap (weight_of kind i) (sym answer_same) ∙ p.weighs ∙ same.weight;
    best = best_same (proof_of kind) p.best;
  }

  proves_same : (s : DocStatus) → ProvesByStatus s kind i d → ProvesByStatus s kind i e
  proves_same Optimal p = optimal_same p
  proves_same Infeasible p = (barrier_same (obstruction_of kind) p.0, part_same (obstruction_of kind) p.1)
  proves_same NonConservative p = circuit_same p

  pub proved-same : IsProved kind i d → IsProved kind i e
  proved-same p = record {
    same_kind = sym same.kind ∙ p.same_kind;
    in_range = in-range kind i e (within_same (are-within kind i d p.in_range));
    proves = subst (λ (s : DocStatus). ProvesByStatus s kind i e) same.status (proves_same d.status p.proves);
  }

  stated_sets_same : (proof : BestProof) → StatesSetsBy proof i d → StatesSetsBy proof i e
  stated_sets_same (Duals value) t = tt
  stated_sets_same LighterBarrier t = tt
  stated_sets_same OuterPaths t = (
    member-fact (AreMissed i) d.outer e.outer (ap (λ (b : Body). b.outer) bodies) t.0,
    member-fact (BorderMissed i) d.barrier e.barrier (ap (λ (b : Body). b.barrier) bodies) t.1,
  )

  states_same : (s : DocStatus) → StatesTruthBy s kind i d → StatesTruthBy s kind i e
  states_same Optimal t = (subst (IsBest kind i) answer_same t.0, ap (weight_of kind i) (sym answer_same) ∙ t.1 ∙ same.weight, stated_sets_same (proof_of kind) t.2)
  states_same Infeasible t = t
  states_same NonConservative t = t

  pub truth-same : StatesTruth kind i d → StatesTruth kind i e
  truth-same t = subst (λ (s : DocStatus). StatesTruthBy s kind i e) same.status (states_same d.status t)
