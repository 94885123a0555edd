-- The numbers of a document that was solved are those that a reader keeps.
use Rattle.certificates.proofs.Common.{◌≤◌, false, length, arith, IsWithinLimits, Kind, Network, IsNetwork, size_of, Document, document_text, HasKeptNumbers}
use Rattle.certificates.proofs.Common.{IsProved, few_vertices, are-within}
use Rattle.solve_answers.specs.Settled.{byte_limit_of}
use Rattle.solve_answers.proofs.Short.{limit-most}
use Rattle.check_text.proofs.KeptNumbers.{kept_numbers}

pub kept : (kind : Kind) (i : Network) (d : Document) → IsNetwork i → IsWithinLimits (size_of kind i) → IsProved kind i d → length (document_text d false) ≤ byte_limit_of kind →
    HasKeptNumbers d
kept kind i d network fits p small =
    let few = network.few_vertices in
    let short = network.few_edges in
    let certified = few_vertices kind i fits in
    let most = limit-most kind in
    kept_numbers kind i d (are-within kind i d p.in_range) (omega arith) (omega arith) (omega arith) (omega arith)
