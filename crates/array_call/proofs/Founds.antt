-- The document that is built of parts has them if any document has, and none has them if none is built.
use Rattle.certificates.proofs.Common.{◌≡◌, ◌≢◌, ℕ, ℤ, pos, ◌≤ℤ◌, true, false, not, List, length, map, All, IfSome, true≢false, refl, sym, ap, ◌∙◌, subst, ascends, are_duals, counts_of}
use Rattle.certificates.proofs.Common.{asks_conservative, obstruction_of, form_of, proof_of, is_never, Kind, AnswerForm, LighterBarrier, OuterPaths, only-bottleneck, only-gallai, Document}
use Rattle.certificates.proofs.Common.{Optimal, Infeasible, NonConservative, arith, ints, All-map, length-map, length-map-range_with_len, count_of}
use Rattle.certificates.proofs.Common.{◌++◌, append-nil, Body, body_of, Obstruction, MemberLine}
use Rattle.solve_answers.specs.Excluding.{set_body}
use Rattle.array_call.specs.Layout.{status_number, start_number, walk_numbers, answer_numbers, listed_members, excluding, leads, lists, set_list}
use Rattle.array_call.specs.Sheets.{Sheet, IsAnswerOn, number_at}
use Rattle.array_call.specs.Documents.{IsSheetOf, AreNoDocument, IsMadeOf, HasLists}
use Rattle.array_call.proofs.ListsBack.{lists-count}
use Rattle.array_call.proofs.Alike.{alike-by-duals, alike-by-barrier, alike-by-paths, alike-excluded, alike-walk, barrier-alone, paths-alone, set-ascends, has-obstruction, asks-for}
use Rattle.array_call.proofs.Alike.{as-optimal, as-infeasible, as-nonconservative, a-status}
use Rattle.mb_problem.specs.declared.kind.AnswerForm.TheVariants as form
use Rattle.mb_problem.specs.declared.kind.Obstruction.TheVariants as obstruction
use Rattle.mb_problem.specs.declared.kind.Kind.TheVariants as kinds

unascending : (xs ys : List ℤ) → ascends xs ≡ false → xs ≡ ys → ascends ys ≡ true → ⊥
unascending xs ys falls same rises = true≢false (sym rises ∙ ap ascends (sym same) ∙ falls)

naturals-all : (ns : List ℕ) → All (λ z. pos 0 ≤ℤ z) (map pos ns)
naturals-all ns = All-map (λ z. pos 0 ≤ℤ z) pos ns (λ k d b. omega (arith, ints))

numbers-length : (d : Document) (m : ℕ) → length (answer_numbers form.Counts m d) ≡ m
numbers-length d m = length-map (counts_of d.counts m) pos ∙ length-map-range_with_len (count_of d.counts) 1 m

answered : (f : AnswerForm) (m : ℕ) (d : Document) → IsAnswerOn f m (answer_numbers f m d)
answered form.Counts m d = (numbers-length d m, naturals-all (counts_of d.counts m))
answered form.Walk m d = tt

-- numbers that are no answer of the form are no document's
pub unanswered : (kind : Kind) (m : ℕ) (s : Sheet) → (IsAnswerOn (form_of kind) m s.answer → ⊥) → AreNoDocument kind m s
unanswered kind m s none = λ d h. none (subst (λ (t : Sheet). IsAnswerOn (form_of kind) m t.answer) (sym h.same_sheet) (answered (form_of kind) m d))

module _ (kind : Kind) (m : ℕ) (s : Sheet) (d : Document) (h : IsSheetOf kind m s d) where
  has-lists : HasLists s (lists d.sets d.paths)
  has-lists = record {
    count = lists-count d ∙ ap (λ (t : Sheet). length t.leads) (sym h.same_sheet);
    offsets = ap (λ (t : Sheet). t.offsets) h.same_sheet;
    items = ap (λ (t : Sheet). t.items) h.same_sheet;
  }

  status-is : (z : ℤ) → number_at s.head 0 ≡ z → status_number d.status ≡ z
  status-is z is = sym (ap (λ (t : Sheet). number_at t.head 0) h.same_sheet) ∙ is

  optimal-is : number_at s.head 0 ≡ pos 1 → d.status ≡ Optimal
  optimal-is is = as-optimal d.status (status-is (pos 1) is)

  infeasible-is : number_at s.head 0 ≡ pos 2 → d.status ≡ Infeasible
  infeasible-is is = as-infeasible d.status (status-is (pos 2) is)

  nonconservative-is : number_at s.head 0 ≡ pos 3 → d.status ≡ NonConservative
  nonconservative-is is = as-nonconservative d.status (status-is (pos 3) is)

  weight-is : (z : ℤ) → z ≡ number_at s.head 1 → z ≡ d.weight
  weight-is z is = is ∙ ap (λ (t : Sheet). number_at t.head 1) h.same_sheet

  start-is : (b : Document) → IfSome b.walk (λ w. w.start ≡ number_at s.head 2) → IfSome b.walk (λ w. w.start ≡ start_number d.walk)
  start-is b start = subst (λ (z : ℤ). IfSome b.walk (λ w. w.start ≡ z)) (ap (λ (t : Sheet). number_at t.head 2) h.same_sheet) start

  answer-is : (xs : List ℤ) → xs ≡ s.answer → xs ≡ answer_numbers (form_of kind) m d
  answer-is xs is = is ∙ ap (λ (t : Sheet). t.answer) h.same_sheet

  duals-is : (xs : List ℤ) → xs ≡ s.duals → xs ≡ map (λ y. y.dual) d.duals
  duals-is xs is = is ∙ ap (λ (t : Sheet). t.duals) h.same_sheet

  leads-is : (xs : List ℤ) → xs ≡ s.leads → xs ≡ leads d.sets d.paths
  leads-is xs is = is ∙ ap (λ (t : Sheet). t.leads) h.same_sheet

  excluding-is : (xs : List ℤ) → xs ≡ s.excluding → xs ≡ excluding d
  excluding-is xs is = is ∙ ap (λ (t : Sheet). t.excluding) h.same_sheet

-- offsets that are those of no lists are no document's
pub unlisted : (kind : Kind) (m : ℕ) (s : Sheet) → ((xss : List (List ℤ)) → HasLists s xss → ⊥) → AreNoDocument kind m s
unlisted kind m s missing = λ d h. missing (lists d.sets d.paths) (has-lists kind m s d h)

-- nor are numbers that begin with no status
pub no-status : (kind : Kind) (m : ℕ) (s : Sheet) → number_at s.head 0 ≢ pos 1 → number_at s.head 0 ≢ pos 2 → number_at s.head 0 ≢ pos 3 → AreNoDocument kind m s
no-status kind m s one two three = λ d h.
    let is = ap (λ (t : Sheet). number_at t.head 0) h.same_sheet in
    a-status d.status (λ e. one (is ∙ e)) (λ e. two (is ∙ e)) (λ e. three (is ∙ e))

-- ---- optimal, proved by duals

pub made-by-duals : (kind : Kind) (m : ℕ) (s : Sheet) (b : Document) → are_duals (proof_of kind) ≡ true → number_at s.head 0 ≡ pos 1 → b.kind ≡ kind → b.status ≡ Optimal →
    b.weight ≡ number_at s.head 1 → answer_numbers (form_of kind) m b ≡ s.answer → IfSome b.walk (λ w. w.start ≡ number_at s.head 2) → map (λ y. y.dual) b.duals ≡ s.duals →
    map (λ z. z.dual) b.sets ≡ s.leads → ((xss : List (List ℤ)) → HasLists s xss → map set_list b.sets ≡ xss) → IsMadeOf kind m s b
made-by-duals kind m s b duals status is-b status-b weight answer start vertices starts sets = λ d h.
    h.same_sheet
    ∙ alike-by-duals kind m d b duals h.same_kind is-b (optimal-is kind m s d h status) status-b (weight-is kind m s d h _ weight) (answer-is kind m s d h _ answer)
    (start-is kind m s d h b start) (duals-is kind m s d h _ vertices) (leads-is kind m s d h _ starts) (sets (lists d.sets d.paths) (has-lists kind m s d h))

-- ---- optimal, proved by a barrier of lighter edges

pub falls-by-barrier : (kind : Kind) (m : ℕ) (s : Sheet) → proof_of kind ≡ LighterBarrier → number_at s.head 0 ≡ pos 1 → ascends s.excluding ≡ false → AreNoDocument kind m s
falls-by-barrier kind m s proof status falls = λ d h.
    unascending s.excluding (excluding d) falls (excluding-is kind m s d h _ refl)
    (barrier-alone d (optimal-is kind m s d h status) (h.same_kind ∙ sym (only-bottleneck kind proof))).ascending

bottleneck-made : (m : ℕ) (s : Sheet) (b : Document) → number_at s.head 0 ≡ pos 1 → b.kind ≡ kinds.Bottleneck → b.status ≡ Optimal → b.weight ≡ number_at s.head 1 →
    answer_numbers form.Counts m b ≡ s.answer → listed_members b.barrier ≡ s.excluding → IsMadeOf kinds.Bottleneck m s b
bottleneck-made m s b status is-b status-b weight answer members = λ d h.
    h.same_sheet
    ∙ alike-by-barrier m d b h.same_kind is-b (optimal-is kinds.Bottleneck m s d h status) status-b (weight-is kinds.Bottleneck m s d h _ weight)
    (answer-is kinds.Bottleneck m s d h _ answer) (excluding-is kinds.Bottleneck m s d h _ members)

-- counts of as many edges as there are counts
sized : (m : ℕ) (s : Sheet) (b : Document) → IsAnswerOn form.Counts m s.answer → map pos (counts_of b.counts (length s.answer)) ≡ s.answer → answer_numbers form.Counts m b ≡ s.answer
sized m s b answer counts = subst (λ (n : ℕ). map pos (counts_of b.counts n) ≡ s.answer) answer.0 counts

pub made-by-barrier : (kind : Kind) (m : ℕ) (s : Sheet) (b : Document) → proof_of kind ≡ LighterBarrier → IsAnswerOn (form_of kind) m s.answer → number_at s.head 0 ≡ pos 1 → b.kind ≡ kind →
    b.status ≡ Optimal → b.weight ≡ number_at s.head 1 → map pos (counts_of b.counts (length s.answer)) ≡ s.answer → listed_members b.barrier ≡ s.excluding → IsMadeOf kind m s b
made-by-barrier kind m s b proof answer status is-b status-b weight counts members =
    let is = only-bottleneck kind proof in
    subst (λ (k : Kind). IsMadeOf k m s b) is
    (bottleneck-made m s b status (is-b ∙ sym is) status-b weight (sized m s b (subst (λ (k : Kind). IsAnswerOn (form_of k) m s.answer) (sym is) answer) counts) members)

-- ---- optimal, proved by paths

pub falls-by-paths : (kind : Kind) (m : ℕ) (s : Sheet) → proof_of kind ≡ OuterPaths → number_at s.head 0 ≡ pos 1 → ascends s.excluding ≡ false → AreNoDocument kind m s
falls-by-paths kind m s proof status falls = λ d h.
    unascending s.excluding (excluding d) falls (excluding-is kind m s d h _ refl)
    (paths-alone d (optimal-is kind m s d h status) (h.same_kind ∙ sym (only-gallai kind proof))).ascending

pub leads-fall : (kind : Kind) (m : ℕ) (s : Sheet) → proof_of kind ≡ OuterPaths → number_at s.head 0 ≡ pos 1 → ascends s.leads ≡ false → AreNoDocument kind m s
leads-fall kind m s proof status falls = λ d h.
    unascending s.leads (leads d.sets d.paths) falls (leads-is kind m s d h _ refl)
    (paths-alone d (optimal-is kind m s d h status) (h.same_kind ∙ sym (only-gallai kind proof))).ascending-leads

gallai-made : (m : ℕ) (s : Sheet) (b : Document) → number_at s.head 0 ≡ pos 1 → b.kind ≡ kinds.Gallai → b.status ≡ Optimal → b.weight ≡ number_at s.head 1 →
    answer_numbers form.Counts m b ≡ s.answer → map (λ r. r.vertex) b.paths ≡ s.leads → ((xss : List (List ℤ)) → HasLists s xss → map (λ r. r.edges) b.paths ≡ xss) →
    listed_members b.barrier ≡ s.excluding → IsMadeOf kinds.Gallai m s b
gallai-made m s b status is-b status-b weight answer starts edges members = λ d h.
    h.same_sheet
    ∙ alike-by-paths m d b h.same_kind is-b (optimal-is kinds.Gallai m s d h status) status-b (weight-is kinds.Gallai m s d h _ weight) (answer-is kinds.Gallai m s d h _ answer)
    (leads-is kinds.Gallai m s d h _ starts) (edges (lists d.sets d.paths) (has-lists kinds.Gallai m s d h)) (excluding-is kinds.Gallai m s d h _ members)

pub made-by-paths : (kind : Kind) (m : ℕ) (s : Sheet) (b : Document) → proof_of kind ≡ OuterPaths → IsAnswerOn (form_of kind) m s.answer → number_at s.head 0 ≡ pos 1 → b.kind ≡ kind →
    b.status ≡ Optimal → b.weight ≡ number_at s.head 1 → map pos (counts_of b.counts (length s.answer)) ≡ s.answer → map (λ r. r.vertex) b.paths ≡ s.leads →
    ((xss : List (List ℤ)) → HasLists s xss → map (λ r. r.edges) b.paths ≡ xss) → listed_members b.barrier ≡ s.excluding → IsMadeOf kind m s b
made-by-paths kind m s b proof answer status is-b status-b weight counts starts edges members =
    let is = only-gallai kind proof in
    subst (λ (k : Kind). IsMadeOf k m s b) is
    (gallai-made m s b status (is-b ∙ sym is) status-b weight (sized m s b (subst (λ (k : Kind). IsAnswerOn (form_of k) m s.answer) (sym is) answer) counts) starts edges members)

-- ---- infeasible

pub never-excluded-so : (kind : Kind) (m : ℕ) (s : Sheet) → number_at s.head 0 ≡ pos 2 → is_never (obstruction_of kind) ≡ true → AreNoDocument kind m s
never-excluded-so kind m s status never = λ d h.
    true≢false (sym (has-obstruction kind d (infeasible-is kind m s d h status) h.same_kind) ∙ ap not never)

pub falls-excluded : (kind : Kind) (m : ℕ) (s : Sheet) → number_at s.head 0 ≡ pos 2 → ascends s.excluding ≡ false → AreNoDocument kind m s
falls-excluded kind m s status falls = λ d h.
    unascending s.excluding (excluding d) falls (excluding-is kind m s d h _ refl) (set-ascends kind d (infeasible-is kind m s d h status) h.same_kind)

pub made-excluded : (kind : Kind) (m : ℕ) (s : Sheet) (b : Document) → number_at s.head 0 ≡ pos 2 → b.kind ≡ kind → b.status ≡ Infeasible → excluding b ≡ s.excluding → IsMadeOf kind m s b
made-excluded kind m s b status is-b status-b members = λ d h.
    h.same_sheet ∙ alike-excluded kind m d b h.same_kind is-b (infeasible-is kind m s d h status) status-b (excluding-is kind m s d h _ members)

abbrev members_in : Body → List ℤ
members_in b = listed_members b.barrier ++ (listed_members b.odd ++ listed_members b.split)

members-of-set : (e : Obstruction) (u : MemberLine) → is_never e ≡ false → members_in (set_body e u) ≡ u.members
members-of-set obstruction.Barrier u some = append-nil u.members
members-of-set obstruction.OddPart u some = append-nil u.members
members-of-set obstruction.SplitPart u some = refl
members-of-set obstruction.Never u some = absurd cc

pub members-stated : (kind : Kind) (u : MemberLine) (b : Document) → is_never (obstruction_of kind) ≡ false → body_of b ≡ set_body (obstruction_of kind) u → excluding b ≡ u.members
members-stated kind u b some body = ap members_in body ∙ members-of-set (obstruction_of kind) u some

-- ---- weights that aren't conservative

pub unasked : (kind : Kind) (m : ℕ) (s : Sheet) → number_at s.head 0 ≡ pos 3 → asks_conservative kind ≡ false → AreNoDocument kind m s
unasked kind m s status never = λ d h. true≢false (sym (asks-for kind d (nonconservative-is kind m s d h status) h.same_kind) ∙ never)

pub made-walk : (kind : Kind) (m : ℕ) (s : Sheet) (b : Document) → asks_conservative kind ≡ true → number_at s.head 0 ≡ pos 3 → b.kind ≡ kind → b.status ≡ NonConservative →
    walk_numbers b.walk ≡ s.answer → IfSome b.walk (λ w. w.start ≡ number_at s.head 2) → IsMadeOf kind m s b
made-walk kind m s b asks status is-b status-b edges start = λ d h.
    h.same_sheet
    ∙ alike-walk kind m d b asks h.same_kind is-b (nonconservative-is kind m s d h status) status-b (answer-is kind m s d h _ edges) (start-is kind m s d h b start)
