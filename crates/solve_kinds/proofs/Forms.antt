-- The forms of documents of best answers.
use Rattle.certificates.proofs.Common.{◌||◌, ◌≡◌, ℕ, ◌≤◌, ℤ, pos, Bool, true, false, List, [], ◌∷◌, ◌++◌, length, map, Option, None, Some, refl, sym, ap, subst}
use Rattle.certificates.proofs.Common.{◌∙◌, arith, list_all, list_all-append, and_from, Kind, AnswerForm, Answer, Counts, Walk, Nothing, form_of, proof_of, are_duals, Network}
use Rattle.certificates.proofs.Common.{IsFeasible, feasible-form, Optimal, CountLine, WalkLine, DualLine, SetLine, Part, BestProof, Duals, LighterBarrier, OuterPaths, Document, Body}
use Rattle.certificates.proofs.Common.{blank, proves_best, is_counts, is_walk, is_formed, has_any, at_most_one, admits, in_order, AscendsBy, IsDocument, body_of, IsTail, before}
use Rattle.certificates.proofs.Common.{many_ranked, one_ranked, keyed, sets_in_order, one_in_order, IsInForm}
use Rattle.mwpm_engine.specs.Solutions.{Solution}
use Rattle.document_lines.specs.Lines.{ListsAnswer, line_of}
use Rattle.solve_kinds.specs.Presented.{PresentsBriefly}
use Rattle.mb_problem.specs.declared.kind.AnswerForm.TheVariants as form
use Rattle.doc_format.specs.declared.part.Part.TheVariants as part
use Rattle.doc_format.specs.declared.letter.Letter.TheVariants as letter

letters : {A : Type 0} (p : Part → Bool) (made : A → Part) (xs : List A) → ((x : A) → p (made x) ≡ true) → list_all p (map made xs) ≡ true
letters p made [] each = refl
letters p made (x ∷ xs) each = and_from (p (made x)) (list_all p (map made xs)) (each x) (letters p made xs each)

joined : (p : Part → Bool) (xs ys : List Part) → list_all p xs ≡ true → list_all p ys ≡ true → list_all p (xs ++ ys) ≡ true
joined p xs ys f h = list_all-append p xs ys ∙ and_from (list_all p xs) (list_all p ys) f h

-- the lines of an answer have its letter

count-letters : (f : AnswerForm) (p : Part → Bool) (answer : Answer) (counts : List CountLine) → ((x : CountLine) → p (part.Count x) ≡ is_counts f) → IsInForm f answer →
    ListsAnswer answer counts → list_all p (map part.Count counts) ≡ true
count-letters form.Counts p answer counts takes has lists = letters p part.Count counts takes
count-letters form.Walk p (Counts cs) counts takes has lists = absurd has
count-letters form.Walk p (Walk start edges) counts takes has lists = ap (λ (xs : List CountLine). list_all p (map part.Count xs)) lists
count-letters form.Walk p Nothing counts takes has lists = ap (λ (xs : List CountLine). list_all p (map part.Count xs)) lists

walk-letters : (f : AnswerForm) (p : Part → Bool) (answer : Answer) → ((w : WalkLine) → p (part.Walk w) ≡ is_walk f) → IsInForm f answer →
    list_all p (at_most_one part.Walk (line_of answer)) ≡ true
walk-letters f p (Counts cs) takes has = refl
walk-letters f p Nothing takes has = refl
walk-letters form.Counts p (Walk start edges) takes has = absurd has
walk-letters form.Walk p (Walk start edges) takes has = and_from (p (part.Walk _)) true (takes _) refl

-- a walk has edges, where there is one
abbrev pub has_edges : Option WalkLine → Bool
has_edges None = true
has_edges (Some w) = has_any w.edges

some-any : (edges : List ℕ) → 1 ≤ length edges → has_any (map pos edges) ≡ true
some-any [] h = absurd (omega arith)
some-any (e ∷ edges) h = refl

pub some-edges : (f : AnswerForm) (answer : Answer) → IsInForm f answer → has_edges (line_of answer) ≡ true
some-edges f (Counts cs) has = refl
some-edges f Nothing has = refl
some-edges form.Counts (Walk start edges) has = absurd has
some-edges form.Walk (Walk start edges) has = some-any edges has

-- four letters stand in order

pub ordered-four : (counts : List CountLine) (walk : Option WalkLine) (duals : List DualLine) (sets : List SetLine) → AscendsBy (λ x. x.edge) counts
    → AscendsBy (λ y. y.vertex) duals →
    in_order (map part.Count counts ++ (at_most_one part.Walk walk ++ (map part.Dual duals ++ (map part.Set sets ++ [])))) ≡ true
ordered-four counts walk duals sets edges vertices =
    let none : IsTail 4 [] = record { order = refl; beyond = refl } in
    let three = before 3 (map part.Set sets) [] (many_ranked 4 part.Set sets (λ z. refl)) (sets_in_order sets) none in
    let two = before 2 (map part.Dual duals) _ (many_ranked 3 part.Dual duals (λ y. refl)) (keyed part.Dual (λ (y : DualLine). y.vertex) duals (λ x y h. h) vertices) three in
    let one = before 1 (at_most_one part.Walk walk) _ (one_ranked 2 part.Walk walk (λ w. refl)) (one_in_order part.Walk walk) two in
    (before 0 (map part.Count counts) _ (many_ranked 1 part.Count counts (λ x. refl)) (keyed part.Count (λ (x : CountLine). x.edge) counts (λ x y h. h) edges) one).order

pub walk-formed : (walk : Option WalkLine) → has_edges walk ≡ true → list_all is_formed (at_most_one part.Walk walk) ≡ true
walk-formed None h = refl
walk-formed (Some w) h = and_from (has_any w.edges) true h refl

-- the body of counts, a walk, duals and sets
abbrev pub four : List CountLine → Option WalkLine → List DualLine → List SetLine → Body
four counts walk duals sets = record blank { counts = counts; walk = walk; duals = duals; sets = sets }

-- y and z lines stand in it

pub dual-taken : (proof : BestProof) → are_duals proof ≡ true → (proves_best letter.Dual proof || false) ≡ true
dual-taken (Duals value) duals = refl
dual-taken LighterBarrier duals = absurd (cc)
dual-taken OuterPaths duals = absurd (cc)

pub set-taken : (proof : BestProof) → are_duals proof ≡ true → (proves_best letter.Set proof || false) ≡ true
set-taken (Duals value) duals = refl
set-taken LighterBarrier duals = absurd (cc)
set-taken OuterPaths duals = absurd (cc)

pub form-optimal : (kind : Kind) (weight : ℤ) (answer : Answer) (counts : List CountLine) (walk : Option WalkLine) (duals : List DualLine) (sets : List SetLine) →
    are_duals (proof_of kind) ≡ true → IsInForm (form_of kind) answer → ListsAnswer answer counts → walk ≡ line_of answer → AscendsBy (λ x. x.edge) counts
    → AscendsBy (λ y. y.vertex) duals →
    list_all is_formed (map part.Set sets) ≡ true → IsDocument Optimal kind weight (four counts walk duals sets)
form-optimal kind weight answer counts walk duals sets best has lists line edges vertices formed =
    let p = admits Optimal kind in
    record {
      headed = refl;
      no_weight = λ h. absurd (cc);
      letters = joined p (map part.Count counts) (at_most_one part.Walk walk ++ (map part.Dual duals ++ (map part.Set sets ++ [])))
          (count-letters (form_of kind) p answer counts (λ x. refl) has lists)
          (joined p (at_most_one part.Walk walk) (map part.Dual duals ++ (map part.Set sets ++ []))
          (ap (λ (w : Option WalkLine). list_all p (at_most_one part.Walk w)) line ∙ walk-letters (form_of kind) p answer (λ w. refl) has)
          (joined p (map part.Dual duals) (map part.Set sets ++ []) (letters p part.Dual duals (λ y. dual-taken (proof_of kind) best))
          (joined p (map part.Set sets) [] (letters p part.Set sets (λ z. set-taken (proof_of kind) best)) refl)));
      ordered = ordered-four counts walk duals sets edges vertices;
      formed = joined is_formed (map part.Count counts) (at_most_one part.Walk walk ++ (map part.Dual duals ++ (map part.Set sets ++ []))) (letters is_formed part.Count counts (λ x. refl))
          (joined is_formed (at_most_one part.Walk walk) (map part.Dual duals ++ (map part.Set sets ++ [])) (walk-formed walk (ap has_edges line ∙ some-edges (form_of kind) answer has))
          (joined is_formed (map part.Dual duals) (map part.Set sets ++ []) (letters is_formed part.Dual duals (λ x. refl))
          (joined is_formed (map part.Set sets) [] formed refl)));
    }

-- a document of an answer alone, and one with duals and sets besides

pub form-answered : (kind : Kind) (i : Network) (weight : ℤ) (answer : Answer) (counts : List CountLine) (walk : Option WalkLine) → are_duals (proof_of kind) ≡ true →
    IsFeasible kind i answer → ListsAnswer answer counts → walk ≡ line_of answer → AscendsBy (λ x. x.edge) counts → IsDocument Optimal kind weight (four counts walk [] [])
form-answered kind i weight answer counts walk best feasible lists line edges =
    form-optimal kind weight answer counts walk [] [] best (feasible-form kind i answer feasible) lists line edges refl refl

pub form-completed : (kind : Kind) (i : Network) (s : Solution) (d : Document) (duals : List DualLine) (sets : List SetLine) → are_duals (proof_of kind) ≡ true
    → PresentsBriefly kind i s d →
    AscendsBy (λ y. y.vertex) duals → list_all is_formed (map part.Set sets) ≡ true → IsDocument d.status d.kind d.weight (record (body_of d) { duals = duals; sets = sets })
form-completed kind i s d duals sets best p vertices formed =
    let a = p.states in
    let form = form-optimal kind d.weight a.answer d.counts d.walk duals sets best (feasible-form kind i a.answer a.feasible) a.lists a.walk a.ascending vertices formed in
    subst (λ (b : Body). IsDocument d.status d.kind d.weight (record b { duals = duals; sets = sets })) (sym p.only) (rw (a.status, a.kind_is) form)
