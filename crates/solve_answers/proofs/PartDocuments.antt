-- Parts and barriers that exclude all answers of a kind.
use Rattle.certificates.proofs.Common.{◌≡◌, ℕ, ◌≤◌, true, false, List, length, refl, sym, ap, ◌∙◌, subst, true≢false, GRAPH_VERTEX_LIMIT}
use Rattle.certificates.proofs.Common.{Multigraph, IsGraph, IsPerfect, IsBarrier, IsVertexSet, IsSplitPart, barrier_excludes, Kind, Obstruction, Barrier, OddPart, SplitPart, Never, Values}
use Rattle.certificates.proofs.Common.{ListsJoin, listed_counts, obstruction_of, Network, IsNetwork, graph_of, odd_at, gadget_graph, ReachesAll, Document, is_barrier, is_never, HasNoAnswer}
use Rattle.certificates.proofs.Common.{no_answer}
use Rattle.graph_parts.specs.Connected.{HasConnectedEdges}
use Rattle.graph_parts.specs.OddParts.{IsFirstOddPart, is_terminal}
use Rattle.solve_answers.specs.Chosen.{IsFirstMetPart}
use Rattle.solve_answers.specs.Excluding.{StatesSet}
use Rattle.solve_answers.specs.Open.{HasNoPartFor}
use Rattle.solve_answers.specs.Settled.{Settles}
use Rattle.solve_answers.specs.Solved.{HasFitWeights}
use Rattle.solve_answers.proofs.Excluding.{ExcludesBy}
use Rattle.solve_answers.proofs.SettlingSets.{settles-infeasible}

-- what is known where no part was found

pub no-odd_part : (kind : Kind) (i : Network) (es : List ℕ) → obstruction_of kind ≡ OddPart → ListsJoin i (odd_at Values i) es → HasNoPartFor (obstruction_of kind) i
no-odd_part kind i es is lists = subst (λ (e : Obstruction). HasNoPartFor e i) (sym is) (listed_counts es (length i.edges), lists.join)

pub no-split_part : (kind : Kind) (i : Network) → obstruction_of kind ≡ SplitPart → HasConnectedEdges (graph_of i) → HasNoPartFor (obstruction_of kind) i
no-split_part kind i is connected = subst (λ (e : Obstruction). HasNoPartFor e i) (sym is) connected

-- no part is looked for where a barrier or nothing excludes answers
-- the document of a set that excludes all answers by a part

by-part : (e : Obstruction) (kind : Kind) (i : Network) (set : List ℕ) (d : Document) → obstruction_of kind ≡ e → is_never e ≡ false → is_barrier e ≡ false → IsNetwork i →
    HasFitWeights kind i → ExcludesBy e kind i set → StatesSet kind set d → Settles kind i d
by-part e kind i set d is some plain network fit x p =
    let never : is_never (obstruction_of kind) ≡ false = ap is_never is ∙ some in
    let barrier : is_barrier (obstruction_of kind) ≡ false = ap is_barrier is ∙ plain in
    settles-infeasible kind i set d network never (λ t. absurd (true≢false (sym t ∙ barrier))) (λ t. absurd (true≢false (sym t ∙ barrier))) fit
    (subst (λ (y : Obstruction). ExcludesBy y kind i set) (sym is) x) p

pub settles-odd : (kind : Kind) (i : Network) (set : List ℕ) (d : Document) → obstruction_of kind ≡ OddPart → IsNetwork i → HasFitWeights kind i →
    IsFirstOddPart (graph_of i) (is_terminal Values i) set → StatesSet kind set d → Settles kind i d
settles-odd kind i set d is network fit x p = by-part OddPart kind i set d is refl refl network fit x p

pub settles-split : (kind : Kind) (i : Network) (set : List ℕ) (d : Document) → obstruction_of kind ≡ SplitPart → IsNetwork i → HasFitWeights kind i
    → IsSplitPart (graph_of i) set →
    IsFirstMetPart (graph_of i) set → StatesSet kind set d → Settles kind i d
settles-split kind i set d is network fit x y p = by-part SplitPart kind i set d is refl refl network fit (x, y) p

-- .. or by a barrier

pub barred : (kind : Kind) (i : Network) (g : Multigraph) (set : List ℕ) → obstruction_of kind ≡ Barrier → g ≡ gadget_graph kind i → IsGraph g → ReachesAll kind i
    → IsBarrier g set → HasNoAnswer kind i
barred kind i g set excluded is graph reached barrier =
    no_answer kind i excluded reached (λ counts perfect. barrier_excludes g set counts graph barrier (subst (λ (h : Multigraph). IsPerfect h counts) (sym is) perfect))

barrier-there : (e : Obstruction) (kind : Kind) (i : Network) (set : List ℕ) → is_barrier e ≡ true → IsVertexSet (gadget_graph kind i).vertices set
    → IsBarrier (gadget_graph kind i) set →
    ExcludesBy e kind i set
barrier-there Barrier kind i set t is barrier = (is, barrier)
barrier-there OddPart kind i set t is barrier = absurd (cc)
barrier-there SplitPart kind i set t is barrier = absurd (cc)
barrier-there Never kind i set t is barrier = absurd (cc)

pub never-no : (e : Obstruction) → is_barrier e ≡ true → is_never e ≡ false
never-no Barrier t = refl
never-no OddPart t = refl
never-no SplitPart t = refl
never-no Never t = absurd (cc)

only-barrier : (e : Obstruction) → is_barrier e ≡ true → e ≡ Barrier
only-barrier Barrier t = refl
only-barrier OddPart t = absurd (cc)
only-barrier SplitPart t = absurd (cc)
only-barrier Never t = absurd (cc)

pub settles-barred : (kind : Kind) (i : Network) (g : Multigraph) (set : List ℕ) (d : Document) → g ≡ gadget_graph kind i → IsGraph g → g.vertices ≤ GRAPH_VERTEX_LIMIT
    → ReachesAll kind i →
    is_barrier (obstruction_of kind) ≡ true → IsNetwork i → HasFitWeights kind i → IsVertexSet g.vertices set → IsBarrier g set → StatesSet kind set d → Settles kind i d
settles-barred kind i g set d is graph few reached t network fit in_range barrier p =
    settles-infeasible kind i set d network (never-no (obstruction_of kind) t) (λ _. subst (λ (h : Multigraph). h.vertices ≤ GRAPH_VERTEX_LIMIT) is few)
    (λ _. barred kind i g set (only-barrier (obstruction_of kind) t) is graph reached barrier) fit
    (barrier-there (obstruction_of kind) kind i set t (subst (λ (h : Multigraph). IsVertexSet h.vertices set) is in_range) (subst (λ (h : Multigraph). IsBarrier h set) is barrier)) p
