use Rattle.certificates.proofs.Common.{◌≡◌, pos, true, false, not, refl, sym, ap, ◌∙◌, subst, true≢false, and_from, Kind, Obstruction, Barrier, OddPart, SplitPart, Never}
use Rattle.certificates.proofs.Common.{obstruction_of, Head, Body, MemberLine, blank, ascends, is_never, IsDocument, Infeasible}
use Rattle.doc_format.proofs.OnePartMore.{formed-as}
use Rattle.solve_answers.specs.Excluding.{set_body}
use Rattle.solve_answers.proofs.obstruction.infeasible_by.Goals as goal

-- the three places and nothing else make the whole
placed : (e : Obstruction) (u : MemberLine) → record blank { barrier = (set_body e u).barrier; odd = (set_body e u).odd; split = (set_body e u).split } ≡ set_body e u
placed Barrier u = refl
placed OddPart u = refl
placed SplitPart u = refl
placed Never u = refl

form : (e : Obstruction) (kind : Kind) (u : MemberLine) → obstruction_of kind ≡ e → is_never e ≡ false → ascends u.members ≡ true →
    IsDocument Infeasible kind (pos 0) (set_body e u)
form Barrier kind u is some order = record { headed = rw is refl; no_weight = λ h. refl; letters = rw is refl; ordered = refl; formed = and_from (ascends u.members) true order refl }
form OddPart kind u is some order = record { headed = rw is refl; no_weight = λ h. refl; letters = rw is refl; ordered = refl; formed = and_from (ascends u.members) true order refl }
form SplitPart kind u is some order = record { headed = rw is refl; no_weight = λ h. refl; letters = rw is refl; ordered = refl; formed = and_from (ascends u.members) true order refl }
form Never kind u is some order = absurd (true≢false some)

pub new-document-requires : goal.new-document-requires
new-document-requires c = record { table = record { status = ap not c.requires.kind; no_weight = λ h. refl } }

pub invariant_of-document : goal.invariant_of-document
invariant_of-document c =
    let kind = c.args.kind in
    let u = c.args.line in
    let e = c.obstruction.result in
    let is = sym c.obstruction.ensures in
    let some = subst (λ (x : Obstruction). is_never x ≡ false) is c.requires.kind in
    let lines = c.placed-barrier.result in
    let p = c.placed-barrier.ensures in
    let made : IsDocument Infeasible kind (pos 0) (record blank { barrier = lines.0; odd = lines.1; split = lines.2 }) =
    rw (p.barrier, p.odd, p.split, placed e u) (form e kind u is some c.requires.ascending) in
    record {
      form = formed-as c.new-document.result _ blank (λ (b : Body). record b { barrier = lines.0; odd = lines.1; split = lines.2 })
          c.new-document.ensures.head c.new-document.ensures.body made;
    }

pub returns : goal.returns
returns c =
    let u = c.args.line in
    let lines = c.placed-barrier.result in
    let p = c.placed-barrier.ensures in
    let head = c.new-document.ensures.head in
    let body : record blank { barrier = lines.0; odd = lines.1; split = lines.2 } ≡ set_body (obstruction_of c.args.kind) u =
    rw (p.barrier, p.odd, p.split) (placed c.obstruction.result u ∙ ap (λ (e : Obstruction). set_body e u) c.obstruction.ensures) in
    record {
      status = ap (λ (h : Head). h.status) head;
      kind_is = ap (λ (h : Head). h.kind) head;
      weight = ap (λ (h : Head). h.weight) head;
      body = ap (λ (b : Body). record b { barrier = lines.0; odd = lines.1; split = lines.2 }) c.new-document.ensures.body ∙ body;
    }
