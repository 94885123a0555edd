-- What is shown kind by kind, each fact once: a row a kind.
use Rattle.graph_theory.proofs.Common.{◌≡◌, ℕ, ◌≤◌, ◌<◌, ◌⊎◌, inl, inr, max, ◌∙◌, refl, sym, ap, subst, arith, ℤ, ◌≤ℤ◌, Bool, true, false, cond, eqb, List}
use Rattle.graph_theory.proofs.Common.{length, slice_index, Option, Some, replicate, ⊤, eqb-true, ints, Size, IsWalk, IsOddPart, IsSplitPart, walk-numbers}
use Rattle.mb_problem.specs.declared.kind.Kind.{Kind}
use Rattle.mb_problem.specs.declared.kind.Kind.TheVariants.{Perfect, Match, BMatch, CapMatch, FFactor, TJoin, Postman, Path, Interval, OddPath, EvenPath, Bottleneck, Gallai}
use Rattle.mb_problem.specs.declared.kind.AnswerForm.{AnswerForm}
use Rattle.mb_problem.specs.declared.kind.Obstruction.TheVariants.{OddPart, SplitPart, Never}
use Rattle.mb_problem.specs.declared.kind.BestProof.{BestProof}
use Rattle.mb_problem.specs.declared.kind.BestProof.TheVariants.{Duals, LighterBarrier, OuterPaths}
use Rattle.mb_problem.specs.declared.kind.VertexValue.TheVariants.{End}
use Rattle.mb_problem.specs.declared.gadget.GadgetForm.{GadgetForm}
use Rattle.mb_problem.specs.declared.gadget.GadgetForm.TheVariants.{Itself, Doubled, Copies, Capped, Ports, PathPorts, Halves, Sides, Unweighted}
use Rattle.mb_problem.specs.declared.gadget.Capacities.TheVariants.{Own, Unit as Once}
use Rattle.mb_problem.specs.declared.answer.Parity.TheVariants.{Empty, Values, OddDegrees}
use Rattle.mb_problem.specs.declared.answer.Answer.{Answer}
use Rattle.mb_problem.specs.declared.answer.Answer.TheVariants.{Counts, Walk, Nothing}
use Rattle.mb_problem.specs.Kinds.{kind_text, kind_named, kind_number, kind_numbered, form_of, obstruction_of, vertex_value_of, edge_use_of, asks_conservative, searches_of, gadget_of}
use Rattle.mb_problem.specs.Kinds.{proof_of, are_duals, need_of, start_of}
use Rattle.mb_problem.specs.Words.{IsField}
use Rattle.mb_problem.specs.Network.{Network, IsNetwork, graph_of, instance_edge_at, high_of}
use Rattle.mb_problem.specs.Feasible.{IsFeasible, IsAsGood, weight_of}
use Rattle.mb_problem.specs.Ready.{HasEnds, HasNeededEnds}
use Rattle.mb_problem.specs.Measured.{HasPlaces}
use Rattle.mb_problem.specs.Size.{most_by, size_by, size_of, certified_by, certified_size, ports_size, odd_at}
use Rattle.mb_problem.specs.Values.{total_weight, value_for}
use Rattle.mb_problem.proofs.EdgeLemmas.{edges-count}
use Rattle.mb_problem.proofs.CountBounds.{once, limited, valued, within_capacity, empty-matching}
use Rattle.mb_problem.proofs.PartTruths.{has_odd_value, odd_part-join, odd_part-path, split_part-tour, split_part-none}
use Rattle.mb_problem.specs.declared.kind.AnswerForm.TheVariants as form

-- the one has no more vertices than the other, and no more edges
pub record IsNoLarger (a b : Size) : Type 0 where
  pub vertices : a.vertices ≤ b.vertices
  pub edges : a.edges ≤ b.edges

-- counts, or a walk, which has an edge unless it is the empty one
abbrev pub IsInForm : AnswerForm → Answer → Type 0
IsInForm form.Counts (Counts counts) = ⊤
IsInForm form.Counts (Walk start edges) = ⊥
IsInForm form.Counts Nothing = ⊥
IsInForm form.Walk (Counts counts) = ⊥
IsInForm form.Walk (Walk start edges) = 1 ≤ length edges
IsInForm form.Walk Nothing = ⊤

-- ---- words and numbers

pub kind-back : (kind : Kind) → kind_named (kind_text kind) ≡ Some kind
kind-back Perfect = refl
kind-back Match = refl
kind-back BMatch = refl
kind-back CapMatch = refl
kind-back FFactor = refl
kind-back TJoin = refl
kind-back Postman = refl
kind-back Path = refl
kind-back Interval = refl
kind-back OddPath = refl
kind-back EvenPath = refl
kind-back Bottleneck = refl
kind-back Gallai = refl

pub kind-short : (kind : Kind) → length (kind_text kind) ≤ 10
kind-short Perfect = omega arith
kind-short Match = omega arith
kind-short BMatch = omega arith
kind-short CapMatch = omega arith
kind-short FFactor = omega arith
kind-short TJoin = omega arith
kind-short Postman = omega arith
kind-short Path = omega arith
kind-short Interval = omega arith
kind-short OddPath = omega arith
kind-short EvenPath = omega arith
kind-short Bottleneck = omega arith
kind-short Gallai = omega arith

pub kind-field : (kind : Kind) → IsField (kind_text kind)
kind-field Perfect = (omega arith, refl)
kind-field Match = (omega arith, refl)
kind-field BMatch = (omega arith, refl)
kind-field CapMatch = (omega arith, refl)
kind-field FFactor = (omega arith, refl)
kind-field TJoin = (omega arith, refl)
kind-field Postman = (omega arith, refl)
kind-field Path = (omega arith, refl)
kind-field Interval = (omega arith, refl)
kind-field OddPath = (omega arith, refl)
kind-field EvenPath = (omega arith, refl)
kind-field Bottleneck = (omega arith, refl)
kind-field Gallai = (omega arith, refl)

pub number-back : (kind : Kind) → kind_numbered (kind_number kind) ≡ Some kind
number-back Perfect = refl
number-back Match = refl
number-back BMatch = refl
number-back CapMatch = refl
number-back FFactor = refl
number-back TJoin = refl
number-back Postman = refl
number-back Path = refl
number-back Interval = refl
number-back OddPath = refl
number-back EvenPath = refl
number-back Bottleneck = refl
number-back Gallai = refl

abbrev kind_some : Kind → Option Kind
kind_some kind = Some kind

some_kind : (a b : Kind) → kind_some a ≡ Some b → a ≡ b
some_kind a b is = cc

by_test : (b : Bool) (n m : ℕ) (kind this : Kind) (rest : Option Kind) → eqb n m ≡ b → kind_number this ≡ m → (rest ≡ Some kind → kind_number kind ≡ n) → cond b (Some this) rest ≡ Some kind
    → kind_number kind ≡ n
by_test true n m kind this rest test number later is = ap kind_number (sym (some_kind this kind is)) ∙ number ∙ sym (eqb-true n m test)
by_test false n m kind this rest test number later is = later is

-- a number that names a kind is that kind's
pub numbered-number : (kind : Kind) (n : ℕ) → kind_numbered n ≡ Some kind → kind_number kind ≡ n
numbered-number kind n is =
    by_test (eqb n 1) n 1 kind Perfect _ refl refl (λ is.
    by_test (eqb n 2) n 2 kind Match _ refl refl (λ is.
    by_test (eqb n 3) n 3 kind BMatch _ refl refl (λ is.
    by_test (eqb n 4) n 4 kind CapMatch _ refl refl (λ is.
    by_test (eqb n 5) n 5 kind FFactor _ refl refl (λ is.
    by_test (eqb n 6) n 6 kind TJoin _ refl refl (λ is.
    by_test (eqb n 7) n 7 kind Postman _ refl refl (λ is.
    by_test (eqb n 8) n 8 kind Path _ refl refl (λ is.
    by_test (eqb n 9) n 9 kind Interval _ refl refl (λ is.
    by_test (eqb n 10) n 10 kind OddPath _ refl refl (λ is.
    by_test (eqb n 11) n 11 kind EvenPath _ refl refl (λ is.
    by_test (eqb n 12) n 12 kind Bottleneck _ refl refl (λ is.
    by_test (eqb n 13) n 13 kind Gallai _ refl refl (λ is.
    absurd (cc)) is) is) is) is) is) is) is) is) is) is) is) is) is

-- ---- the forms of answers

-- a feasible answer has its kind's form
pub feasible-form : (kind : Kind) (i : Network) (answer : Answer) → IsFeasible kind i answer → IsInForm (form_of kind) answer
feasible-form Perfect i (Counts counts) f = tt
feasible-form Match i (Counts counts) f = tt
feasible-form BMatch i (Counts counts) f = tt
feasible-form CapMatch i (Counts counts) f = tt
feasible-form FFactor i (Counts counts) f = tt
feasible-form TJoin i (Counts counts) f = tt
feasible-form Postman i (Counts counts) f = f
feasible-form Path i (Counts counts) f = f
feasible-form Interval i (Counts counts) f = tt
feasible-form OddPath i (Counts counts) f = f
feasible-form EvenPath i (Counts counts) f = f
feasible-form Bottleneck i (Counts counts) f = tt
feasible-form Gallai i (Counts counts) f = tt
feasible-form Perfect i (Walk start edges) f = f
feasible-form Match i (Walk start edges) f = f
feasible-form BMatch i (Walk start edges) f = f
feasible-form CapMatch i (Walk start edges) f = f
feasible-form FFactor i (Walk start edges) f = f
feasible-form TJoin i (Walk start edges) f = f
feasible-form Postman i (Walk start edges) f = f.some
feasible-form Path i (Walk start edges) f = f.some
feasible-form Interval i (Walk start edges) f = f
feasible-form OddPath i (Walk start edges) f = f.path.some
feasible-form EvenPath i (Walk start edges) f = f.path.some
feasible-form Bottleneck i (Walk start edges) f = f
feasible-form Gallai i (Walk start edges) f = f
feasible-form Perfect i Nothing f = f
feasible-form Match i Nothing f = f
feasible-form BMatch i Nothing f = f
feasible-form CapMatch i Nothing f = f
feasible-form FFactor i Nothing f = f
feasible-form TJoin i Nothing f = f
feasible-form Postman i Nothing f = tt
feasible-form Path i Nothing f = absurd f
feasible-form Interval i Nothing f = f
feasible-form OddPath i Nothing f = absurd f
feasible-form EvenPath i Nothing f = absurd f
feasible-form Bottleneck i Nothing f = f
feasible-form Gallai i Nothing f = f

-- a walk that is feasible goes along edges, and has one
pub feasible-walk : (kind : Kind) (i : Network) (start : ℕ) (edges : List ℕ) → IsFeasible kind i (Walk start edges) → IsWalk (graph_of i) start edges × (1 ≤ length edges)
feasible-walk Perfect i start edges f = absurd f
feasible-walk Match i start edges f = absurd f
feasible-walk BMatch i start edges f = absurd f
feasible-walk CapMatch i start edges f = absurd f
feasible-walk FFactor i start edges f = absurd f
feasible-walk TJoin i start edges f = absurd f
feasible-walk Postman i start edges f = (f.closed.0, f.some)
feasible-walk Path i start edges f = (f.walk, f.some)
feasible-walk Interval i start edges f = absurd f
feasible-walk OddPath i start edges f = (f.path.walk, f.path.some)
feasible-walk EvenPath i start edges f = (f.path.walk, f.path.some)
feasible-walk Bottleneck i start edges f = absurd f
feasible-walk Gallai i start edges f = absurd f

-- counts that are feasible are one for each edge
pub feasible-counts : (kind : Kind) (i : Network) (counts : List ℕ) → IsFeasible kind i (Counts counts) → length counts ≡ length i.edges
feasible-counts Perfect i counts f = f.one_each ∙ edges-count i
feasible-counts Match i counts f = f.one_each
feasible-counts BMatch i counts f = f.one_each
feasible-counts CapMatch i counts f = f.0.one_each
feasible-counts FFactor i counts f = f.0.one_each
feasible-counts TJoin i counts f = f.one_each
feasible-counts Postman i counts f = absurd f
feasible-counts Path i counts f = absurd f
feasible-counts Interval i counts f = f.0.one_each
feasible-counts OddPath i counts f = absurd f
feasible-counts EvenPath i counts f = absurd f
feasible-counts Bottleneck i counts f = f.one_each ∙ edges-count i
feasible-counts Gallai i counts f = f.one_each

-- and none of them is more than an answer may use the edge
pub feasible-most : (kind : Kind) (i : Network) (counts : List ℕ) → IsNetwork i → IsFeasible kind i (Counts counts) → (k : ℕ) → k < length i.edges → slice_index counts k
    ≤ most_by (edge_use_of kind) i (instance_edge_at i k)
feasible-most Perfect i counts network f k below = once i counts (f.one_each ∙ edges-count i) f.at_most_one k below
feasible-most Match i counts network f k below = once i counts f.one_each f.at_most_once k below
feasible-most BMatch i counts network f k below = valued i counts network f k below
feasible-most CapMatch i counts network f k below = within_capacity (instance_edge_at i k).capacity _ (slice_index counts k) (f.1 k below) (valued i counts network f.0 k below)
feasible-most FFactor i counts network f k below = once i counts f.0.one_each f.1 k below
feasible-most TJoin i counts network f k below = once i counts f.one_each f.at_most_once k below
feasible-most Postman i counts network f k below = absurd f
feasible-most Path i counts network f k below = absurd f
feasible-most Interval i counts network f k below =
    within_capacity (instance_edge_at i k).capacity _ (slice_index counts k) (f.1 k below) (limited i counts (high_of i) network (λ v low high. (f.0.degrees v low high).1) k below)
feasible-most OddPath i counts network f k below = absurd f
feasible-most EvenPath i counts network f k below = absurd f
feasible-most Bottleneck i counts network f k below = once i counts (f.one_each ∙ edges-count i) f.at_most_one k below
feasible-most Gallai i counts network f k below = once i counts f.one_each f.at_most_once k below

-- a feasible answer has one count for each edge, or numbers of edges
pub feasible-places : (kind : Kind) (i : Network) (answer : Answer) → IsFeasible kind i answer → HasPlaces i answer
feasible-places kind i (Counts counts) f = feasible-counts kind i counts f
feasible-places kind i (Walk start edges) f = walk-numbers (graph_of i) start edges (feasible-walk kind i start edges f).0
feasible-places kind i Nothing f = tt

-- ---- values, and what excludes answers

-- a value that asks for no more belongs to an answer that is as good
pub value-order : (kind : Kind) (i : Network) (a b : ℤ) → value_for kind i a ≤ℤ value_for kind i b → IsAsGood kind a b
value-order Perfect i a b h = omega (arith, ints)
value-order Match i a b h = omega (arith, ints)
value-order BMatch i a b h = omega (arith, ints)
value-order CapMatch i a b h = omega (arith, ints)
value-order FFactor i a b h = omega (arith, ints)
value-order TJoin i a b h = omega (arith, ints)
value-order Postman i a b h = let t = total_weight i in omega (arith, ints)
value-order Path i a b h = omega (arith, ints)
value-order Interval i a b h = omega (arith, ints)
value-order OddPath i a b h = omega (arith, ints)
value-order EvenPath i a b h = omega (arith, ints)
value-order Bottleneck i a b h = omega (arith, ints)
value-order Gallai i a b h = omega (arith, ints)

-- the kind whose answers a barrier of lighter edges proves best
pub only-bottleneck : (kind : Kind) → proof_of kind ≡ LighterBarrier → Bottleneck ≡ kind
only-bottleneck Perfect is = absurd (cc)
only-bottleneck Match is = absurd (cc)
only-bottleneck BMatch is = absurd (cc)
only-bottleneck CapMatch is = absurd (cc)
only-bottleneck FFactor is = absurd (cc)
only-bottleneck TJoin is = absurd (cc)
only-bottleneck Postman is = absurd (cc)
only-bottleneck Path is = absurd (cc)
only-bottleneck Interval is = absurd (cc)
only-bottleneck OddPath is = absurd (cc)
only-bottleneck EvenPath is = absurd (cc)
only-bottleneck Bottleneck is = refl
only-bottleneck Gallai is = absurd (cc)

-- the kind whose answers paths from outer vertices prove best
pub only-gallai : (kind : Kind) → proof_of kind ≡ OuterPaths → Gallai ≡ kind
only-gallai Perfect is = absurd (cc)
only-gallai Match is = absurd (cc)
only-gallai BMatch is = absurd (cc)
only-gallai CapMatch is = absurd (cc)
only-gallai FFactor is = absurd (cc)
only-gallai TJoin is = absurd (cc)
only-gallai Postman is = absurd (cc)
only-gallai Path is = absurd (cc)
only-gallai Interval is = absurd (cc)
only-gallai OddPath is = absurd (cc)
only-gallai EvenPath is = absurd (cc)
only-gallai Bottleneck is = absurd (cc)
only-gallai Gallai is = refl

-- some answer is feasible, where nothing excludes answers
pub never-excluded : (kind : Kind) (i : Network) → obstruction_of kind ≡ Never → (answer : Answer) × IsFeasible kind i answer
never-excluded Perfect i is = absurd (cc)
never-excluded Match i is = (Counts (replicate {A = ℕ} (length i.edges) 0), empty-matching i)
never-excluded BMatch i is = absurd (cc)
never-excluded CapMatch i is = absurd (cc)
never-excluded FFactor i is = absurd (cc)
never-excluded TJoin i is = absurd (cc)
never-excluded Postman i is = absurd (cc)
never-excluded Path i is = absurd (cc)
never-excluded Interval i is = absurd (cc)
never-excluded OddPath i is = absurd (cc)
never-excluded EvenPath i is = absurd (cc)
never-excluded Bottleneck i is = absurd (cc)
never-excluded Gallai i is = (Counts (replicate {A = ℕ} (length i.edges) 0), empty-matching i)

-- an odd part excludes all answers of a kind that odd parts exclude
pub odd-excludes : (kind : Kind) (i : Network) (set : List ℕ) (answer : Answer) → obstruction_of kind ≡ OddPart → IsNetwork i → IsOddPart (graph_of i) (has_odd_value i) set
    → IsFeasible kind i answer → ⊥
odd-excludes Perfect i set answer is ok part f = absurd (cc)
odd-excludes Match i set answer is ok part f = absurd (cc)
odd-excludes BMatch i set answer is ok part f = absurd (cc)
odd-excludes CapMatch i set answer is ok part f = absurd (cc)
odd-excludes FFactor i set answer is ok part f = absurd (cc)
odd-excludes Postman i set answer is ok part f = absurd (cc)
odd-excludes Interval i set answer is ok part f = absurd (cc)
odd-excludes OddPath i set answer is ok part f = absurd (cc)
odd-excludes EvenPath i set answer is ok part f = absurd (cc)
odd-excludes Bottleneck i set answer is ok part f = absurd (cc)
odd-excludes Gallai i set answer is ok part f = absurd (cc)
odd-excludes TJoin i set (Counts counts) is ok part f = odd_part-join i set counts ok part f
odd-excludes TJoin i set (Walk start edges) is ok part f = f
odd-excludes TJoin i set Nothing is ok part f = f
odd-excludes Path i set (Counts counts) is ok part f = f
odd-excludes Path i set (Walk start edges) is ok part f = odd_part-path i set start edges ok part f
odd-excludes Path i set Nothing is ok part f = f

-- and a split part of one that split parts exclude
pub split-excludes : (kind : Kind) (i : Network) (set : List ℕ) (answer : Answer) → obstruction_of kind ≡ SplitPart → IsSplitPart (graph_of i) set → IsFeasible kind i answer → ⊥
split-excludes Perfect i set answer is part f = absurd (cc)
split-excludes Match i set answer is part f = absurd (cc)
split-excludes BMatch i set answer is part f = absurd (cc)
split-excludes CapMatch i set answer is part f = absurd (cc)
split-excludes FFactor i set answer is part f = absurd (cc)
split-excludes TJoin i set answer is part f = absurd (cc)
split-excludes Path i set answer is part f = absurd (cc)
split-excludes Interval i set answer is part f = absurd (cc)
split-excludes OddPath i set answer is part f = absurd (cc)
split-excludes EvenPath i set answer is part f = absurd (cc)
split-excludes Bottleneck i set answer is part f = absurd (cc)
split-excludes Gallai i set answer is part f = absurd (cc)
split-excludes Postman i set (Counts counts) is part f = f
split-excludes Postman i set (Walk start edges) is part f = split_part-tour i set start edges part f
split-excludes Postman i set Nothing is part f = split_part-none i set part f

-- where an odd part excludes answers, the graph of certificates is one of ports whose parity is that of the values
pub odd-ports : (kind : Kind) → obstruction_of kind ≡ OddPart → (gadget_of kind ≡ Ports Values) ⊎ (gadget_of kind ≡ PathPorts)
odd-ports Perfect is = absurd (cc)
odd-ports Match is = absurd (cc)
odd-ports BMatch is = absurd (cc)
odd-ports CapMatch is = absurd (cc)
odd-ports FFactor is = absurd (cc)
odd-ports TJoin is = inl refl
odd-ports Postman is = absurd (cc)
odd-ports Path is = inr refl
odd-ports Interval is = absurd (cc)
odd-ports OddPath is = absurd (cc)
odd-ports EvenPath is = absurd (cc)
odd-ports Bottleneck is = absurd (cc)
odd-ports Gallai is = absurd (cc)

-- and where a split part does, that of the numbers of edges
pub split-ports : (kind : Kind) → obstruction_of kind ≡ SplitPart → gadget_of kind ≡ Ports OddDegrees
split-ports Perfect is = absurd (cc)
split-ports Match is = absurd (cc)
split-ports BMatch is = absurd (cc)
split-ports CapMatch is = absurd (cc)
split-ports FFactor is = absurd (cc)
split-ports TJoin is = absurd (cc)
split-ports Postman is = refl
split-ports Path is = absurd (cc)
split-ports Interval is = absurd (cc)
split-ports OddPath is = absurd (cc)
split-ports EvenPath is = absurd (cc)
split-ports Bottleneck is = absurd (cc)
split-ports Gallai is = absurd (cc)

-- ---- what an instance needs

-- the ends that a kind needs are those that its values say
pub ends-needed : (kind : Kind) (i : Network) → (vertex_value_of kind ≡ End → HasEnds i) → HasNeededEnds kind i
ends-needed Perfect i h = tt
ends-needed Match i h = tt
ends-needed BMatch i h = tt
ends-needed CapMatch i h = tt
ends-needed FFactor i h = tt
ends-needed TJoin i h = tt
ends-needed Postman i h = tt
ends-needed Path i h = h refl
ends-needed Interval i h = tt
ends-needed OddPath i h = h refl
ends-needed EvenPath i h = h refl
ends-needed Bottleneck i h = tt
ends-needed Gallai i h = tt

-- ---- sizes and searches

pub as-large : (i : Network) (gadget : GadgetForm) → IsNoLarger (size_by gadget i) (size_by gadget i)
as-large i gadget = record { vertices = omega arith; edges = omega arith }

left-max : (a b : ℕ) → a ≤ max a b
left-max a b = omega arith

right-max : (a b : ℕ) → b ≤ max a b
right-max a b = omega arith

no-larger : (gadget : GadgetForm) (i : Network) → IsNoLarger (certified_by gadget i) (size_by gadget i)
no-larger Itself i = as-large i Itself
no-larger Doubled i = as-large i Doubled
no-larger Copies i = as-large i Copies
no-larger (Capped capacities) i = as-large i (Capped capacities)
no-larger (Ports parity) i = as-large i (Ports parity)
no-larger Halves i = as-large i Halves
no-larger Unweighted i = as-large i Unweighted
no-larger (Sides odd) i = as-large i (Sides odd)
no-larger PathPorts i = record {
  vertices = left-max (ports_size i (odd_at Values i)).vertices (ports_size i (odd_at Empty i)).vertices;
  edges = left-max (ports_size i (odd_at Values i)).edges (ports_size i (odd_at Empty i)).edges;
}

-- the graph that certificates speak of is no larger than the kind's size
pub certified-no-larger : (kind : Kind) (i : Network) → IsNoLarger (certified_size kind i) (size_of kind i)
certified-no-larger kind i = no-larger (gadget_of kind) i

-- nor are the ports that are odd nowhere, where a circuit of negative weight is sought in them
pub even-no-larger : (kind : Kind) (i : Network) → asks_conservative kind ≡ true → IsNoLarger (ports_size i (odd_at Empty i)) (size_of kind i)
even-no-larger Perfect i asks = absurd (cc)
even-no-larger Match i asks = absurd (cc)
even-no-larger BMatch i asks = absurd (cc)
even-no-larger CapMatch i asks = absurd (cc)
even-no-larger FFactor i asks = absurd (cc)
even-no-larger TJoin i asks = absurd (cc)
even-no-larger Postman i asks = absurd (cc)
even-no-larger Interval i asks = absurd (cc)
even-no-larger OddPath i asks = absurd (cc)
even-no-larger EvenPath i asks = absurd (cc)
even-no-larger Bottleneck i asks = absurd (cc)
even-no-larger Gallai i asks = absurd (cc)
even-no-larger Path i asks = record {
  vertices = right-max (ports_size i (odd_at Values i)).vertices (ports_size i (odd_at Empty i)).vertices;
  edges = right-max (ports_size i (odd_at Values i)).edges (ports_size i (odd_at Empty i)).edges;
}

-- a search is made for each kind, and one more where weights have to be conservative
pub two-searches : (kind : Kind) → asks_conservative kind ≡ true → 2 ≤ searches_of kind
two-searches Perfect asks = absurd (cc)
two-searches Match asks = absurd (cc)
two-searches BMatch asks = absurd (cc)
two-searches CapMatch asks = absurd (cc)
two-searches FFactor asks = absurd (cc)
two-searches TJoin asks = absurd (cc)
two-searches Postman asks = absurd (cc)
two-searches Interval asks = absurd (cc)
two-searches OddPath asks = absurd (cc)
two-searches EvenPath asks = absurd (cc)
two-searches Bottleneck asks = absurd (cc)
two-searches Gallai asks = absurd (cc)
two-searches Path asks = omega arith

-- ---- certificate graphs

-- the first kind whose certificate graph is built so; no kind has the ports that are odd nowhere
abbrev pub first_with : GadgetForm → Kind
first_with Itself = Perfect
first_with Doubled = Match
first_with Copies = BMatch
first_with (Capped Own) = CapMatch
first_with (Capped Once) = FFactor
first_with (Ports Empty) = TJoin
first_with (Ports Values) = TJoin
first_with (Ports OddDegrees) = Postman
first_with PathPorts = Path
first_with Halves = Interval
first_with (Sides true) = OddPath
first_with (Sides false) = EvenPath
first_with Unweighted = Gallai

-- each feasible answer of the one kind is one of the other, whose answers duals prove best
pub record ReachesLike (kind first : Kind) : Type 0 where
  pub duals : are_duals (proof_of first) ≡ true
  pub need : need_of first ≡ need_of kind
  pub feasible : (i : Network) (answer : Answer) → IsFeasible kind i answer → IsFeasible first i answer

-- and the other way round, at the same value, if the same is asked of the instance and the answer
pub record IsReadLike (kind first : Kind) : Type 0 where
  pub reaches : ReachesLike kind first
  pub feasible : (i : Network) (answer : Answer) → IsFeasible first i answer → IsFeasible kind i answer
  pub value : (i : Network) (answer : Answer) → value_for first i (weight_of first i answer) ≡ value_for kind i (weight_of kind i answer)
  pub form : form_of first ≡ form_of kind
  pub obstruction : obstruction_of first ≡ obstruction_of kind
  pub conservative : asks_conservative first ≡ asks_conservative kind
  pub start : start_of first ≡ start_of kind

-- what a perfect matching says of the answers of either kind, by what proves an answer of the one best
abbrev pub IsLikeBy : BestProof → Kind → Kind → Type 0
IsLikeBy (Duals value) kind first = IsReadLike kind first
IsLikeBy LighterBarrier kind first = ReachesLike kind first
IsLikeBy OuterPaths kind first = ⊤

-- two kinds with one certificate graph
pub record IsLike (kind first : Kind) : Type 0 where
  pub gadget : gadget_of first ≡ gadget_of kind
  pub answers : IsLikeBy (proof_of kind) kind first

read_as_itself : (kind : Kind) → are_duals (proof_of kind) ≡ true → IsReadLike kind kind
read_as_itself kind duals = record {
  reaches = record { duals = duals; need = refl; feasible = λ i answer f. f };
  feasible = λ i answer f. f;
  value = λ i answer. refl;
  form = refl;
  obstruction = refl;
  conservative = refl;
  start = refl;
}

-- each kind beside the first one with its certificate graph
like_first : (kind : Kind) → IsLike kind (first_with (gadget_of kind))
like_first Perfect = record { gadget = refl; answers = read_as_itself Perfect refl }
like_first Match = record { gadget = refl; answers = read_as_itself Match refl }
like_first BMatch = record { gadget = refl; answers = read_as_itself BMatch refl }
like_first CapMatch = record { gadget = refl; answers = read_as_itself CapMatch refl }
like_first FFactor = record { gadget = refl; answers = read_as_itself FFactor refl }
like_first TJoin = record { gadget = refl; answers = read_as_itself TJoin refl }
like_first Postman = record { gadget = refl; answers = read_as_itself Postman refl }
like_first Path = record { gadget = refl; answers = read_as_itself Path refl }
like_first Interval = record { gadget = refl; answers = read_as_itself Interval refl }
like_first OddPath = record { gadget = refl; answers = read_as_itself OddPath refl }
like_first EvenPath = record { gadget = refl; answers = read_as_itself EvenPath refl }
like_first Bottleneck = record { gadget = refl; answers = record { duals = refl; need = refl; feasible = λ i answer f. f } }
like_first Gallai = record { gadget = refl; answers = tt }

pub like-with : (kind : Kind) (gadget : GadgetForm) → gadget_of kind ≡ gadget → IsLike kind (first_with gadget)
like-with kind gadget is = subst (λ (g : GadgetForm). IsLike kind (first_with g)) is (like_first kind)

read_by : (proof : BestProof) (kind first : Kind) → are_duals proof ≡ true → IsLikeBy proof kind first → IsReadLike kind first
read_by (Duals value) kind first duals like = like
read_by LighterBarrier kind first duals like = absurd (cc)
read_by OuterPaths kind first duals like = absurd (cc)

pub read-with : (kind : Kind) (gadget : GadgetForm) → gadget_of kind ≡ gadget → are_duals (proof_of kind) ≡ true → IsReadLike kind (first_with gadget)
read-with kind gadget is duals = read_by (proof_of kind) kind (first_with gadget) duals (like-with kind gadget is).answers
