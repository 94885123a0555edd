use Rattle.certificates.proofs.Common.{Document, Option, form_of, subst}
use Rattle.array_call.specs.Sheets.{sheet_of}
use Rattle.array_call.specs.Documents.{IsFound, IsMadeOf, AreNoDocument}
use Rattle.array_call.proofs.OneSheet.{unparted, sheet-of-document, made-of-all}
use Rattle.array_call.proofs.checking.document_in.Goals as goal

pub returns-in_default-clause-none : goal.returns-in_default-clause-none
returns-in_default-clause-none c = λ none d same is. unparted (form_of c.args.kind) c.args.m c.args.numbers.now d (c.parted.ensures.none c.in_default.is) is

pub returns-in_default-2-clause-none : goal.returns-in_default-2-clause-none
returns-in_default-2-clause-none c = λ none d same is.
    let s = sheet_of c.in-Some.parts in
    let found : AreNoDocument c.args.kind c.args.m s = subst (λ (o : Option Document). IsFound c.args.kind c.args.m s o) c.in_default-2.is c.in_ok-document.ensures.found in
    found d (sheet-of-document c.args.kind c.args.m c.args.numbers.now s d c.in-Some.ensures.parts same is)

pub returns-in-Ok-false-clause-none : goal.returns-in-Ok-false-clause-none
returns-in-Ok-false-clause-none c = λ none d same is.
    let s = sheet_of c.in-Some.parts in
    let b = c.in-Some-2.document in
    let made : IsMadeOf c.args.kind c.args.m s b = subst (λ (o : Option Document). IsFound c.args.kind c.args.m s o) c.in-Some-2.is c.in_ok-document.ensures.found in
    c.in-Ok-false.ensures.no c.in-Ok-false.field-0-test (made-of-all c.args.kind c.args.m c.args.numbers.now s d b c.in-Some.ensures.parts same is made)
