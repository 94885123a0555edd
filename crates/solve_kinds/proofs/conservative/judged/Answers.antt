use Rattle.certificates.proofs.Common.{refl, ap, ◌∙◌, Head, Body, blank}
use Rattle.doc_format.proofs.OnePartMore.{formed-as}
use Rattle.solve_kinds.proofs.Circuits.{circuit-edges, settles-circuit}
use Rattle.solve_kinds.proofs.SetForms.{form-nonconservative}
use Rattle.solve_kinds.proofs.Searches.{fit-weights}
use Rattle.solve_kinds.proofs.conservative.judged.Goals as goal

pub is_negative-requires : goal.is_negative-requires
is_negative-requires c = record { network = c.requires.network; even = c.requires.even.join }

pub negative_circuit-requires : goal.negative_circuit-requires
negative_circuit-requires c = record { even = c.requires.even.join; negative = c.in_ok-is_negative.ensures.below c.if-not-branch.false }

pub returns-then-not-branch : goal.returns-then-not-branch
returns-then-not-branch c =
    let low = c.in_ok-is_negative.ensures.above c.if-not-branch.true in
    fit-weights c.args.kind c.args.instance.now c.args.even.now.edges c.requires.network c.laws.ensures.conservative c.requires.even low

pub new-document-requires : goal.new-document-requires
new-document-requires c = record { table = record { status = c.requires.kind; no_weight = λ h. refl } }

pub invariant_of-document : goal.invariant_of-document
invariant_of-document c =
    record {
      form = formed-as c.new-document.result _ blank (λ (b : Body). record b { walk = c.in_ok-walk.walk }) c.new-document.ensures.head c.new-document.ensures.body
          (form-nonconservative c.args.kind c.in_ok-walk.walk c.requires.kind
          (circuit-edges c.args.instance.now c.args.even.now.edges c.in_ok-circuit.circuit c.in_ok-walk.walk c.in_ok-circuit.ensures.circuit c.in_ok-walk.ensures));
    }

pub returns : goal.returns
returns c = settles-circuit c.args.kind c.args.instance.now c.args.even.now.edges c.in_ok-circuit.circuit _ c.requires.kind c.requires.network c.in_ok-circuit.ensures.circuit (record {
  status = ap (λ (h : Head). h.status) c.new-document.ensures.head;
  kind_is = ap (λ (h : Head). h.kind) c.new-document.ensures.head;
  weight = ap (λ (h : Head). h.weight) c.new-document.ensures.head;
  body = ap (λ (b : Body). record b { walk = c.in_ok-walk.walk }) c.new-document.ensures.body ∙ ap (λ w. record blank { walk = w }) c.in_ok-walk.ensures;
})
