use Rattle.certificates.proofs.Common.{◌≡◌, ℤ, List, map, IfSome, Option, ap, ◌∙◌, subst, rules, SetLine}
use Rattle.array_call.specs.Layout.{set_list}
use Rattle.array_call.specs.Sheets.{sheet_of}
use Rattle.array_call.specs.Documents.{HasLists}
use Rattle.array_call.proofs.Founds.{made-by-duals}
use Rattle.array_call.proofs.building.by_duals.Goals as goal

pub returns-clause-found : goal.returns-clause-found
returns-clause-found c =
    let s = sheet_of c.args.parts.now in
    let e = c.in_ok-optimal.ensures in
    let duals : map (λ (z : SetLine). z.dual) c.in-Some.sets.items ≡ c.args.parts.now.leads.now = search rules in
    let sets : (xss : List (List ℤ)) → HasLists s xss → map set_list c.in-Some.sets.items ≡ xss =
    subst (λ (o : Option _). IfSome o (λ v. (xss : List (List ℤ)) → HasLists s xss → map set_list v.items ≡ xss)) c.in-Some.is c.in_ok-sets.ensures.lists in
    made-by-duals c.args.kind c.args.m s c.in_ok-optimal.field-0 c.requires.duals c.requires.status e.kind e.status e.weight e.answer e.start e.duals
    (ap (λ (zs : List SetLine). map (λ (z : SetLine). z.dual) zs) e.sets ∙ duals)
    (λ xss has. ap (λ (zs : List SetLine). map set_list zs) e.sets ∙ sets xss has)
