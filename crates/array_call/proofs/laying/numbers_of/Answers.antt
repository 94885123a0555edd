use Rattle.certificates.proofs.Common.{All, List, sym, subst, SetLine}
use Rattle.array_call.specs.Sheets.{HasItems}
use Rattle.array_call.proofs.SetItems.{document-items}
use Rattle.array_call.proofs.laying.numbers_of.Goals as goal

pub laid-requires-2 : goal.laid-requires-2
laid-requires-2 c = subst (λ (sets : List SetLine). All HasItems sets) (sym c.as_slice-2.ensures) (document-items c.args.document.now)
