-- An answer without its certificate has at most 9 + 2m numbers.
use Rattle.certificates.proofs.Common.{◌≡◌, ℕ, ◌+◌, ◌*◌, ◌≤◌, pos, ℤ, List, [], ◌∷◌, ◌++◌, length, Option, None, Some, IfSome, refl, ap, ◌∙◌, subst, arith, length-append}
use Rattle.certificates.proofs.Common.{length-map, length-map-range_with_len, tabled-length, Kind, AnswerForm, form_of, Document, WalkLine, count_of, counts_of}
use Rattle.solve_answers.specs.declared.detail.Detail.TheVariants.{Brief}
use Rattle.solve_answers.specs.Settled.{Settles}
use Rattle.array_call.specs.declared.calling.ArrayStatus.{ArrayStatus}
use Rattle.array_call.specs.Arrays.{Arrays, edge_at, edge_count, network_of}
use Rattle.array_call.specs.Layout.{answer_numbers, walk_numbers, start_number, head}
use Rattle.array_call.specs.Answers.{Gives, size_without_proof}
use Rattle.mb_problem.specs.declared.kind.AnswerForm.TheVariants as form
use Rattle.array_call.specs.declared.calling.ArrayStatus.TheVariants as status

walk-size : (m : ℕ) (walk : Option WalkLine) → IfSome walk (λ w. length w.edges ≤ 2 * m) → length (walk_numbers walk) ≤ 2 * m
walk-size m None short = omega arith
walk-size m (Some w) short = short

-- a count for each edge, or the edges of the walk
answer-size : (f : AnswerForm) (m : ℕ) (d : Document) → IfSome d.walk (λ w. length w.edges ≤ 2 * m) → length (answer_numbers f m d) ≤ 2 * m
answer-size form.Counts m d short =
    let counted : length (answer_numbers form.Counts m d) ≡ m = length-map (counts_of d.counts m) pos ∙ length-map-range_with_len (count_of d.counts) 1 m in
    omega (arith, counted)
answer-size form.Walk m d short = walk-size m d.walk short

settled-size : (kind : Kind) (a : Arrays) (d : Document) → Settles kind (network_of kind a) d → length (answer_numbers (form_of kind) (edge_count a) d) ≤ 2 * edge_count a
settled-size kind a d settles =
    answer-size (form_of kind) (edge_count a) d
    (subst (λ (m : ℕ). IfSome d.walk (λ w. length w.edges ≤ 2 * m)) (tabled-length (edge_at a) (edge_count a)) settles.short_walk)

-- the head, the answer and the offset of no set
laid-size : (first answer : List ℤ) → length first ≡ 8 → length (first ++ (answer ++ pos 0 ∷ [])) ≡ 9 + length answer
laid-size first answer eight =
    let front : length (first ++ (answer ++ pos 0 ∷ [])) ≡ length first + length (answer ++ pos 0 ∷ []) = length-append first (answer ++ pos 0 ∷ []) in
    let behind : length (answer ++ pos 0 ∷ []) ≡ length answer + 1 = length-append answer (pos 0 ∷ []) in
    omega (arith, front, behind, eight)

pub given-size : (kind : Kind) (a : Arrays) (numbers : List ℤ) (s : ArrayStatus) → Gives Brief kind a numbers s → length numbers ≤ size_without_proof (edge_count a)
given-size kind a numbers status.Done g =
    let answer = answer_numbers (form_of kind) (edge_count a) g.0 in
    let few : length answer ≤ 2 * edge_count a = settled-size kind a g.0 g.2 in
    let first = head g.0.status g.0.weight (start_number g.0.walk) (pos (length answer)) (pos 0) (pos 0) (pos 0) (pos 0) in
    let whole : length numbers ≡ 9 + length answer = ap (λ (zs : List ℤ). length zs) g.3 ∙ laid-size first answer refl in
    omega (arith, whole, few)
given-size kind a numbers status.Rejected g = absurd g
given-size kind a numbers status.Malformed g = (let two : length numbers ≡ 2 = ap (λ (zs : List ℤ). length zs) g.2 in omega (arith, two))
given-size kind a numbers status.TooLarge g = (let two : length numbers ≡ 2 = ap (λ (zs : List ℤ). length zs) g.2 in omega (arith, two))
given-size kind a numbers status.OutOfMemory g = (let none : length numbers ≡ 0 = ap (λ (zs : List ℤ). length zs) g in omega (arith, none))
