use Rattle.graph_theory.proofs.Common.{◌≡◌, ◌∙◌, true, and_parts, sym}
use Rattle.doc_format.specs.Form.{parts_of}
use Rattle.doc_format.specs.Reading.{body_of}
use Rattle.doc_format.specs.Order.{follows}
use Rattle.doc_format.proofs.Following.{last_part}
use Rattle.doc_format.proofs.draft.Draft.push.Goals as goal

pub returns-clause-last : goal.returns-clause-last
returns-clause-last c =
    let d = c.args.self.now in
    let may : follows d.last c.args.part ≡ true = (and_parts _ _ (sym c.may_take.ensures ∙ c.if-not-may_take.false)).1 in
    last_part d.last (parts_of (body_of d.document)) c.args.part c.place_of-place.result
    (parts_of (body_of c.add.new.self)) c.requires.last may c.place_of-place.ensures.rank c.place_of-place.ensures.key c.in_ok-add.ensures.parts
