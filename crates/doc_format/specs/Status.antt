-- The words that documents have for statuses.
use Rattle.std.specs.Prelude.{ℕ, List, Option, None, Some, codes, bytes_eq, if◌then◌else◌}
use Rattle.doc_format.specs.declared.status.DocStatus.{DocStatus}
use Rattle.doc_format.specs.declared.status.DocStatus.TheVariants.{Optimal, Infeasible}
use Rattle.doc_format.specs.declared.status.DocStatus.TheVariants.{NonConservative}

abbrev pub status_text : DocStatus → List ℕ
status_text Optimal = codes "OPTIMAL"
status_text Infeasible = codes "INFEASIBLE"
status_text NonConservative = codes "NONCONSERVATIVE"

-- the status of this text, if it is one's
abbrev pub status_named : List ℕ → Option DocStatus
status_named text =
    if bytes_eq text (status_text Optimal) then Some Optimal else
    (if bytes_eq text (status_text Infeasible) then Some Infeasible else
    (if bytes_eq text (status_text NonConservative) then Some NonConservative else None))
