use Rattle.certificates.proofs.Common.{List, length, All, sym, subst, AnswerForm, form_of, CountLine, DualLine, SetLine, Body, blank, AscendsBy}
use Rattle.doc_format.proofs.OnePartMore.{formed-as}
use Rattle.array_call.specs.Sheets.{IsCountOn, IsAnswerOn, AreIn, HasItems}
use Rattle.array_call.specs.Documents.{StatesNumbers}
use Rattle.array_call.proofs.Sheets.{form-laid, counts-on, of-its-length, stated}
use Rattle.array_call.proofs.building.optimal.Goals as goal

pub answer_lines-requires : goal.answer_lines-requires
answer_lines-requires c =
    let answer = c.args.parts.now.answer.now in
    record {
      answer = subst (λ (f : AnswerForm). IsAnswerOn f (length answer) answer) (sym c.form.ensures) (of-its-length (form_of c.args.kind) c.args.m answer c.requires.answer);
    }

pub invariant_of-document : goal.invariant_of-document
invariant_of-document c =
    let n = length c.args.parts.now.answer.now in
    let counts : List CountLine = c.from_vec-counts.result in
    let duals : List DualLine = c.from_vec-duals.result in
    let sets : List SetLine = c.from_vec-sets.result in
    let walk = c.in_ok-answer.answer.walk in
    let laid : AreIn (form_of c.args.kind) n c.in_ok-answer.answer.counts.items walk =
    subst (λ (f : AnswerForm). AreIn f n c.in_ok-answer.answer.counts.items walk) c.form.ensures c.in_ok-answer.ensures.form in
    let has : AreIn (form_of c.args.kind) n counts walk = subst (λ (xs : List CountLine). AreIn (form_of c.args.kind) n xs walk) (sym c.from_vec-counts.ensures) laid in
    record {
      form = formed-as c.new-document.result _ blank (λ (b : Body). record b { counts = counts; walk = walk; duals = duals; sets = sets })
          c.new-document.ensures.head c.new-document.ensures.body
          (form-laid c.args.kind _ n counts walk duals sets c.requires.duals has
          (subst (λ (ys : List DualLine). AscendsBy (λ y. y.vertex) ys) (sym c.from_vec-duals.ensures) c.in_ok-dual_lines.ensures.ascending)
          (subst (All HasItems) (sym c.from_vec-sets.ensures) c.requires.items));
    }

pub returns-clause-counts : goal.returns-clause-counts
returns-clause-counts c =
    let answer = c.args.parts.now.answer.now in
    let walk = c.in_ok-answer.answer.walk in
    let laid : AreIn (form_of c.args.kind) (length answer) c.in_ok-answer.answer.counts.items walk =
    subst (λ (f : AnswerForm). AreIn f (length answer) c.in_ok-answer.answer.counts.items walk) c.form.ensures c.in_ok-answer.ensures.form in
    subst (All (IsCountOn c.args.m)) (sym c.from_vec-counts.ensures)
    (counts-on (form_of c.args.kind) c.args.m answer c.in_ok-answer.answer.counts.items walk laid c.requires.answer)

pub returns-clause-answer : goal.returns-clause-answer
returns-clause-answer c =
    let answer = c.args.parts.now.answer.now in
    let walk = c.in_ok-answer.answer.walk in
    let states : StatesNumbers (form_of c.args.kind) (length answer) c.in_ok-answer.answer.counts.items walk answer =
    subst (λ (f : AnswerForm). StatesNumbers f (length answer) c.in_ok-answer.answer.counts.items walk answer) c.form.ensures c.in_ok-answer.ensures.numbers in
    stated (form_of c.args.kind) c.args.m _ answer c.requires.answer
    (subst (λ (xs : List CountLine). StatesNumbers (form_of c.args.kind) (length answer) xs walk answer) (sym c.from_vec-counts.ensures) states)
