use Rattle.certificates.proofs.Common.{rules, Body, blank}
use Rattle.doc_format.proofs.OnePartMore.{formed-as}
use Rattle.array_call.proofs.Sheets.{form-circuit}
use Rattle.array_call.proofs.building.circuit.Goals as goal

pub invariant_of-document : goal.invariant_of-document
invariant_of-document c =
    record {
      form = formed-as c.new-document.result _ blank (λ (b : Body). record b { walk = c.in_ok-walk.walk }) c.new-document.ensures.head c.new-document.ensures.body
          (form-circuit c.args.kind c.in_ok-walk.walk (search rules) c.in_ok-walk.ensures.some);
    }
