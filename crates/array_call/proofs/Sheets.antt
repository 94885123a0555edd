-- The lines of an answer in numbers, and the forms of their documents.
use Rattle.certificates.proofs.Common.{◌≡◌, ℕ, ◌≤◌, ℤ, pos, ◌≤ℤ◌, Bool, true, List, [], length, map, All, Option, None, Some, refl, sym, ap, subst, arith, list_all, ints}
use Rattle.certificates.proofs.Common.{and_from, All-weaker, All-map, All-nil, Kind, AnswerForm, form_of, proof_of, are_duals, asks_conservative, Optimal, NonConservative, CountLine}
use Rattle.certificates.proofs.Common.{WalkLine, DualLine, SetLine, Part, blank, at_most_one, has_any, is_counts, is_walk, is_formed, admits, AscendsBy, IsDocument, all_joined, all_mapped}
use Rattle.certificates.proofs.Common.{IsCountWithin, passing, passing-range}
use Rattle.document_lines.specs.Lines.{is_used, line_at}
use Rattle.solve_kinds.proofs.Forms.{dual-taken, set-taken, ordered-four}
use Rattle.certificates.proofs.Common.{Document, counts_of}
use Rattle.array_call.specs.Layout.{answer_numbers}
use Rattle.array_call.specs.Documents.{StatesNumbers}
use Rattle.array_call.specs.Sheets.{IsCountOn, HasEdges, HasItems, AreIn, IsAnswerOn}
use Rattle.array_call.proofs.SetItems.{sets-formed}
use Rattle.mb_problem.specs.declared.kind.AnswerForm.TheVariants as form
use Rattle.doc_format.specs.declared.part.Part.TheVariants as part
use Rattle.document_lines.proofs.CountLines.{lines_to}

-- ---- counts

pub on-edges : (m : ℕ) (x : CountLine) → IsCountWithin m x → IsCountOn m x
on-edges m x h = (h.0, (let low : pos 1 ≤ℤ x.count = h.1.low in omega (arith, ints, low)))

line-on : (cs : List ℕ) (m v : ℕ) → (1 ≤ v) × (v ≤ m) → IsCountOn m (line_at cs v)
line-on cs m v h = (let low : 1 ≤ v = h.0 in let high : v ≤ m = h.1 in (record { low = omega (arith, ints, low); high = omega (arith, ints, high) }, omega (arith, ints)))

pub lines-on : (cs : List ℕ) (m : ℕ) → All (IsCountOn m) (lines_to cs m)
lines-on cs m =
    All-map (IsCountOn m) (line_at cs) (passing (is_used cs) m)
    (All-weaker (λ v. (1 ≤ v) × (v ≤ m)) (λ v. IsCountOn m (line_at cs v)) (line-on cs m) (passing (is_used cs) m) (passing-range (is_used cs) m))

pub counts-on : (f : AnswerForm) (m : ℕ) (answer : List ℤ) (counts : List CountLine) (walk : Option WalkLine) → AreIn f (length answer) counts walk → IsAnswerOn f m answer
    → All (IsCountOn m) counts
counts-on form.Counts m answer counts walk h is = subst (λ (k : ℕ). All (IsCountOn k) counts) is.0 h.1
counts-on form.Walk m answer counts walk h is = subst (All (IsCountOn m)) (sym h.0) (All-nil (IsCountOn m))

-- an answer on m edges is one on as many edges as it has numbers
pub of-its-length : (f : AnswerForm) (m : ℕ) (answer : List ℤ) → IsAnswerOn f m answer → IsAnswerOn f (length answer) answer
of-its-length form.Counts m answer is = (refl, is.1)
of-its-length form.Walk m answer is = tt

-- and its numbers are those of lines with this many counts
pub stated : (f : AnswerForm) (m : ℕ) (d : Document) (answer : List ℤ) → IsAnswerOn f m answer → StatesNumbers f (length answer) d.counts d.walk answer → answer_numbers f m d ≡ answer
stated form.Counts m d answer is states = subst (λ (k : ℕ). map pos (counts_of d.counts k) ≡ answer) is.0 states
stated form.Walk m d answer is states = states

-- ---- forms

walk-formed : (walk : Option WalkLine) → HasEdges walk → list_all is_formed (at_most_one part.Walk walk) ≡ true
walk-formed None h = refl
walk-formed (Some w) h = and_from (has_any w.edges) true h refl

ascend-in : (f : AnswerForm) (n : ℕ) (counts : List CountLine) (walk : Option WalkLine) → AreIn f n counts walk → AscendsBy (λ x. x.edge) counts
ascend-in form.Counts n counts walk h = h.0
ascend-in form.Walk n counts walk h = subst (λ (xs : List CountLine). AscendsBy (λ x. x.edge) xs) (sym h.0) refl

edges-in : (f : AnswerForm) (n : ℕ) (counts : List CountLine) (walk : Option WalkLine) → AreIn f n counts walk → HasEdges walk
edges-in form.Counts n counts walk h = subst HasEdges (sym h.2) tt
edges-in form.Walk n counts walk h = h.1

one-letter : (p : Part → Bool) (walk : Option WalkLine) → ((w : WalkLine) → p (part.Walk w) ≡ true) → list_all p (at_most_one part.Walk walk) ≡ true
one-letter p None h = refl
one-letter p (Some w) h = and_from (p (part.Walk w)) true (h w) refl

counts-letters : (f : AnswerForm) (n : ℕ) (p : Part → Bool) (counts : List CountLine) (walk : Option WalkLine) →
    ((x : CountLine) → p (part.Count x) ≡ is_counts f) → AreIn f n counts walk → list_all p (map part.Count counts) ≡ true
counts-letters form.Counts n p counts walk takes h = all_mapped p part.Count counts takes
counts-letters form.Walk n p counts walk takes h = ap (λ (xs : List CountLine). list_all p (map part.Count xs)) h.0

walk-letters : (f : AnswerForm) (n : ℕ) (p : Part → Bool) (counts : List CountLine) (walk : Option WalkLine) →
    ((w : WalkLine) → p (part.Walk w) ≡ is_walk f) → AreIn f n counts walk → list_all p (at_most_one part.Walk walk) ≡ true
walk-letters form.Counts n p counts walk takes h = ap (λ (w : Option WalkLine). list_all p (at_most_one part.Walk w)) h.2
walk-letters form.Walk n p counts walk takes h = one-letter p walk takes

pub form-laid : (kind : Kind) (weight : ℤ) (n : ℕ) (counts : List CountLine) (walk : Option WalkLine) (duals : List DualLine) (sets : List SetLine) →
    are_duals (proof_of kind) ≡ true → AreIn (form_of kind) n counts walk → AscendsBy (λ y. y.vertex) duals → All HasItems sets →
    IsDocument Optimal kind weight (record blank { counts = counts; walk = walk; duals = duals; sets = sets })
form-laid kind weight n counts walk duals sets best has vertices items =
    let p = admits Optimal kind in
    let f = form_of kind in
    record {
      headed = refl;
      no_weight = λ h. absurd (cc);
      letters = all_joined p (map part.Count counts) _ (counts-letters f n p counts walk (λ x. refl) has)
          (all_joined p (at_most_one part.Walk walk) _ (walk-letters f n p counts walk (λ w. refl) has)
          (all_joined p (map part.Dual duals) _ (all_mapped p part.Dual duals (λ y. dual-taken (proof_of kind) best))
          (all_joined p (map part.Set sets) [] (all_mapped p part.Set sets (λ z. set-taken (proof_of kind) best)) refl)));
      ordered = ordered-four counts walk duals sets (ascend-in f n counts walk has) vertices;
      formed = all_joined is_formed (map part.Count counts) _ (all_mapped is_formed part.Count counts (λ x. refl))
          (all_joined is_formed (at_most_one part.Walk walk) _ (walk-formed walk (edges-in f n counts walk has))
          (all_joined is_formed (map part.Dual duals) _ (all_mapped is_formed part.Dual duals (λ x. refl))
          (all_joined is_formed (map part.Set sets) [] (sets-formed sets items) refl)));
    }

-- the line of a circuit
pub form-circuit : (kind : Kind) (walk : Option WalkLine) → asks_conservative kind ≡ true → HasEdges walk → IsDocument NonConservative kind (pos 0) (record blank { walk = walk })
form-circuit kind None asks some = record { headed = asks; no_weight = λ h. refl; letters = refl; ordered = refl; formed = refl }
form-circuit kind (Some w) asks some = record { headed = asks; no_weight = λ h. refl; letters = refl; ordered = refl; formed = and_from (has_any w.edges) true some refl }
