-- What excludes the answers of a kind: a barrier and a part together.
use Rattle.mb_problem.proofs.Common.{◌≡◌, Option, None, Some, MatchOption, refl, IsOddPart, IsSplitPart, obstruction_of, Network, IsNetwork, graph_of, odd-excludes, split-excludes}
use Rattle.mb_problem.proofs.Common.{has_odd_value}
use Rattle.mb_problem.specs.declared.kind.Kind.{Kind}
use Rattle.mb_problem.specs.declared.kind.Obstruction.{Obstruction}
use Rattle.mb_problem.specs.declared.kind.Obstruction.TheVariants.{Barrier, OddPart, SplitPart, Never}
use Rattle.doc_format.specs.declared.document.Document.{Document}
use Rattle.doc_format.specs.declared.part.MemberLine.{MemberLine}
use Rattle.certificates.specs.Claims.{numbers}
use Rattle.certificates.specs.Certificates.{HasPartFor, HasWantedPart}
use Rattle.certificates.specs.Excluded.{HasNoAnswer, IsExcludedFor, IsExcludedByBarrier}

by_odd : (kind : Kind) (i : Network) (line : Option MemberLine) → obstruction_of kind ≡ OddPart → IsNetwork i →
    MatchOption line ⊥ (λ t. IsOddPart (graph_of i) (has_odd_value i) (numbers t.members)) → HasNoAnswer kind i
by_odd kind i None is ok part answer feasible = part
by_odd kind i (Some t) is ok part answer feasible = odd-excludes kind i (numbers t.members) answer is ok part feasible

by_split : (kind : Kind) (i : Network) (line : Option MemberLine) → obstruction_of kind ≡ SplitPart → MatchOption line ⊥ (λ q. IsSplitPart (graph_of i) (numbers q.members)) →
    HasNoAnswer kind i
by_split kind i None is part answer feasible = part
by_split kind i (Some q) is part answer feasible = split-excludes kind i (numbers q.members) answer is part feasible

by_obstruction : (e : Obstruction) (kind : Kind) (i : Network) (d : Document) → obstruction_of kind ≡ e → IsNetwork i → IsExcludedFor e kind i → HasPartFor e i d → HasNoAnswer kind i
by_obstruction Barrier kind i d is ok barrier part = barrier
by_obstruction OddPart kind i d is ok barrier part = by_odd kind i d.odd is ok part
by_obstruction SplitPart kind i d is ok barrier part = by_split kind i d.split is part
by_obstruction Never kind i d is ok barrier part = absurd barrier

-- what the barrier of a kind and its part exclude together: all answers
pub excluded : (kind : Kind) (i : Network) (d : Document) → IsNetwork i → IsExcludedByBarrier kind i → HasWantedPart kind i d → HasNoAnswer kind i
excluded kind i d ok barrier part = by_obstruction (obstruction_of kind) kind i d refl ok barrier part
