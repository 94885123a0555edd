use Rattle.certificates.proofs.Common.{◌≡◌, ℕ, ℤ, List, map, All, IfSome, Option, rules, sym, subst, ap, ◌∙◌, Kind, PathLine, form_of, only-gallai}
use Rattle.array_call.specs.Sheets.{IsCountOn, IsAnswerOn, sheet_of}
use Rattle.array_call.specs.Documents.{HasLists}
use Rattle.array_call.proofs.Founds.{falls-by-paths, leads-fall, made-by-paths}
use Rattle.array_call.proofs.building.by_paths.Goals as goal

pub returns-clause-counts : goal.returns-clause-counts
returns-clause-counts c =
    let answer = c.args.parts.now.answer.now in
    let counts = subst (λ (k : Kind). IsAnswerOn (form_of k) c.args.m answer) (sym (only-gallai c.args.kind c.requires.proof)) c.requires.answer in
    subst (λ (m : ℕ). All (IsCountOn m) c.in_ok-greatest.field-0.counts) counts.0 c.in_ok-greatest.ensures.counts

pub returns-then-not-is_ascending-clause-found : goal.returns-then-not-is_ascending-clause-found
returns-then-not-is_ascending-clause-found c = leads-fall c.args.kind c.args.m (sheet_of c.args.parts.now) c.requires.proof c.requires.status (sym c.if-not-is_ascending.ensures)

pub returns-then-not-is_ascending-2-clause-found : goal.returns-then-not-is_ascending-2-clause-found
returns-then-not-is_ascending-2-clause-found c =
    falls-by-paths c.args.kind c.args.m (sheet_of c.args.parts.now) c.requires.proof c.requires.status (sym c.if-not-is_ascending-2.ensures)

pub returns-clause-found : goal.returns-clause-found
returns-clause-found c =
    let s = sheet_of c.args.parts.now in
    let e = c.in_ok-greatest.ensures in
    let vertices : map (λ (r : PathLine). r.vertex) c.in-Some.paths.items ≡ c.args.parts.now.leads.now = search rules in
    let paths : (xss : List (List ℤ)) → HasLists s xss → map (λ (r : PathLine). r.edges) c.in-Some.paths.items ≡ xss =
    subst (λ (o : Option _). IfSome o (λ v. (xss : List (List ℤ)) → HasLists s xss → map (λ (r : PathLine). r.edges) v.items ≡ xss)) c.in-Some.is c.in_ok-paths.ensures.lists in
    made-by-paths c.args.kind c.args.m s c.in_ok-greatest.field-0 c.requires.proof c.requires.answer c.requires.status e.kind e.status e.weight e.answer
    (ap (λ (rs : List PathLine). map (λ (r : PathLine). r.vertex) rs) e.paths ∙ vertices)
    (λ xss has. ap (λ (rs : List PathLine). map (λ (r : PathLine). r.edges) rs) e.paths ∙ paths xss has) e.border
