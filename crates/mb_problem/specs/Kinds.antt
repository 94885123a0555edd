-- What each kind of problem is, one table for each trait and in it one row for each kind.
use Rattle.std.specs.Prelude.{ℕ, ◌==◌, Bool, true, false, List, Option, None, Some, codes, bytes_eq}
use Rattle.std.specs.Prelude.{if◌then◌else◌}
use Rattle.mb_problem.specs.declared.kind.Kind.{Kind}
use Rattle.mb_problem.specs.declared.kind.Kind.TheVariants.{Perfect, Match, BMatch, CapMatch}
use Rattle.mb_problem.specs.declared.kind.Kind.TheVariants.{FFactor, TJoin, Postman, Path}
use Rattle.mb_problem.specs.declared.kind.Kind.TheVariants.{Interval, OddPath, EvenPath}
use Rattle.mb_problem.specs.declared.kind.Kind.TheVariants.{Bottleneck, Gallai}
use Rattle.mb_problem.specs.declared.kind.AnswerForm.{AnswerForm}
use Rattle.mb_problem.specs.declared.kind.AnswerForm.TheVariants as form
use Rattle.mb_problem.specs.declared.kind.Objective.{Objective}
use Rattle.mb_problem.specs.declared.kind.Objective.TheVariants.{Least, Greatest}
use Rattle.mb_problem.specs.declared.kind.Obstruction.{Obstruction}
use Rattle.mb_problem.specs.declared.kind.Obstruction.TheVariants.{Barrier, OddPart, SplitPart}
use Rattle.mb_problem.specs.declared.kind.Obstruction.TheVariants.{Never}
use Rattle.mb_problem.specs.declared.kind.Precondition.{Precondition}
use Rattle.mb_problem.specs.declared.kind.Precondition.TheVariants as need
use Rattle.mb_problem.specs.declared.kind.VertexValue.{VertexValue}
use Rattle.mb_problem.specs.declared.kind.VertexValue.TheVariants as value
use Rattle.mb_problem.specs.declared.kind.EdgeUse.{EdgeUse}
use Rattle.mb_problem.specs.declared.kind.EdgeUse.TheVariants as use_of
use Rattle.mb_problem.specs.declared.kind.Cost.{Cost}
use Rattle.mb_problem.specs.declared.kind.Cost.TheVariants.{Total, Heaviest, Size}
use Rattle.mb_problem.specs.declared.kind.DualValue.TheVariants.{Twice, Opposite, BesideAll}
use Rattle.mb_problem.specs.declared.kind.DualValue.TheVariants.{FourTimes}
use Rattle.mb_problem.specs.declared.kind.BestProof.{BestProof}
use Rattle.mb_problem.specs.declared.kind.BestProof.TheVariants.{Duals, LighterBarrier, OuterPaths}
use Rattle.mb_problem.specs.declared.kind.WalkStart.{WalkStart}
use Rattle.mb_problem.specs.declared.kind.WalkStart.TheVariants.{Free, LeastMet, LesserEnd}
use Rattle.mb_problem.specs.declared.gadget.GadgetForm.{GadgetForm}
use Rattle.mb_problem.specs.declared.gadget.GadgetForm.TheVariants.{Itself, Doubled, Copies, Capped}
use Rattle.mb_problem.specs.declared.gadget.GadgetForm.TheVariants.{Ports, PathPorts, Halves, Sides}
use Rattle.mb_problem.specs.declared.gadget.GadgetForm.TheVariants.{Unweighted}
use Rattle.mb_problem.specs.declared.gadget.Capacities.TheVariants.{Own, Unit as Once}
use Rattle.mb_problem.specs.declared.answer.Parity.TheVariants.{Values, OddDegrees}

-- the word for a kind
abbrev pub kind_text : Kind → List ℕ
kind_text Perfect = codes "perfect"
kind_text Match = codes "match"
kind_text BMatch = codes "bmatch"
kind_text CapMatch = codes "capmatch"
kind_text FFactor = codes "ffactor"
kind_text TJoin = codes "tjoin"
kind_text Postman = codes "postman"
kind_text Path = codes "path"
kind_text Interval = codes "interval"
kind_text OddPath = codes "oddpath"
kind_text EvenPath = codes "evenpath"
kind_text Bottleneck = codes "bottleneck"
kind_text Gallai = codes "gallai"

-- the kind of this text, if it is one's from the postman's on
abbrev pub kind_named_from_postman : List ℕ → Option Kind
kind_named_from_postman text =
    if bytes_eq text (kind_text Postman) then Some Postman else
    (if bytes_eq text (kind_text Path) then Some Path else
    (if bytes_eq text (kind_text Interval) then Some Interval else
    (if bytes_eq text (kind_text OddPath) then Some OddPath else
    (if bytes_eq text (kind_text EvenPath) then Some EvenPath else
    (if bytes_eq text (kind_text Bottleneck) then Some Bottleneck else
    (if bytes_eq text (kind_text Gallai) then Some Gallai else None))))))

-- the kind of this text, if it is one's
abbrev pub kind_named : List ℕ → Option Kind
kind_named text =
    if bytes_eq text (kind_text Perfect) then Some Perfect else
    (if bytes_eq text (kind_text Match) then Some Match else
    (if bytes_eq text (kind_text BMatch) then Some BMatch else
    (if bytes_eq text (kind_text CapMatch) then Some CapMatch else
    (if bytes_eq text (kind_text FFactor) then Some FFactor else
    (if bytes_eq text (kind_text TJoin) then Some TJoin else kind_named_from_postman text)))))

-- the number by which callers in C name the kind
abbrev pub kind_number : Kind → ℕ
kind_number Perfect = 1
kind_number Match = 2
kind_number BMatch = 3
kind_number CapMatch = 4
kind_number FFactor = 5
kind_number TJoin = 6
kind_number Postman = 7
kind_number Path = 8
kind_number Interval = 9
kind_number OddPath = 10
kind_number EvenPath = 11
kind_number Bottleneck = 12
kind_number Gallai = 13

-- the kind of this number, where one has it
abbrev pub kind_numbered : ℕ → Option Kind
kind_numbered number =
    if number == 1 then Some Perfect else
    (if number == 2 then Some Match else
    (if number == 3 then Some BMatch else
    (if number == 4 then Some CapMatch else
    (if number == 5 then Some FFactor else
    (if number == 6 then Some TJoin else
    (if number == 7 then Some Postman else
    (if number == 8 then Some Path else
    (if number == 9 then Some Interval else
    (if number == 10 then Some OddPath else
    (if number == 11 then Some EvenPath else
    (if number == 12 then Some Bottleneck else
    (if number == 13 then Some Gallai else None))))))))))))

-- what an answer consists of
abbrev pub form_of : Kind → AnswerForm
form_of Perfect = form.Counts
form_of Match = form.Counts
form_of BMatch = form.Counts
form_of CapMatch = form.Counts
form_of FFactor = form.Counts
form_of TJoin = form.Counts
form_of Postman = form.Walk
form_of Path = form.Walk
form_of Interval = form.Counts
form_of OddPath = form.Walk
form_of EvenPath = form.Walk
form_of Bottleneck = form.Counts
form_of Gallai = form.Counts

-- what proves that there is no feasible answer
abbrev pub obstruction_of : Kind → Obstruction
obstruction_of Perfect = Barrier
obstruction_of Match = Never
obstruction_of BMatch = Barrier
obstruction_of CapMatch = Barrier
obstruction_of FFactor = Barrier
obstruction_of TJoin = OddPart
obstruction_of Postman = SplitPart
obstruction_of Path = OddPart
obstruction_of Interval = Barrier
obstruction_of OddPath = Barrier
obstruction_of EvenPath = Barrier
obstruction_of Bottleneck = Barrier
obstruction_of Gallai = Never

-- what an instance must have besides
abbrev pub need_of : Kind → Precondition
need_of Perfect = need.Unrestricted
need_of Match = need.Unrestricted
need_of BMatch = need.Unrestricted
need_of CapMatch = need.Unrestricted
need_of FFactor = need.Unrestricted
need_of TJoin = need.Unrestricted
need_of Postman = need.WeightsFromZero
need_of Path = need.Ends
need_of Interval = need.Unrestricted
need_of OddPath = need.EndsAndWeightsFromZero
need_of EvenPath = need.EndsAndWeightsFromZero
need_of Bottleneck = need.Unrestricted
need_of Gallai = need.Unrestricted

-- what the value of a vertex says
abbrev pub vertex_value_of : Kind → VertexValue
vertex_value_of Perfect = value.Unused
vertex_value_of Match = value.Unused
vertex_value_of BMatch = value.Degree
vertex_value_of CapMatch = value.Degree
vertex_value_of FFactor = value.Degree
vertex_value_of TJoin = value.Parity
vertex_value_of Postman = value.Unused
vertex_value_of Path = value.End
vertex_value_of Interval = value.Bounds
vertex_value_of OddPath = value.End
vertex_value_of EvenPath = value.End
vertex_value_of Bottleneck = value.Unused
vertex_value_of Gallai = value.Unused

-- the value of a vertex that an instance gives none
abbrev pub default_by : VertexValue → ℕ
default_by value.Unused = 0
default_by value.Degree = 1
default_by value.Parity = 0
default_by value.End = 0
default_by value.Bounds = 0

abbrev pub default_value_of : Kind → ℕ
default_value_of kind = default_by (vertex_value_of kind)

-- whether an instance gives each vertex two bounds for its degree, in place of a value
abbrev pub are_bounds : VertexValue → Bool
are_bounds value.Unused = false
are_bounds value.Degree = false
are_bounds value.Parity = false
are_bounds value.End = false
are_bounds value.Bounds = true

abbrev pub has_bounds : Kind → Bool
has_bounds kind = are_bounds (vertex_value_of kind)

-- how often an answer may use an edge
abbrev pub edge_use_of : Kind → EdgeUse
edge_use_of Perfect = use_of.Once
edge_use_of Match = use_of.Once
edge_use_of BMatch = use_of.AnyNumber
edge_use_of CapMatch = use_of.WithinCapacity
edge_use_of FFactor = use_of.Once
edge_use_of TJoin = use_of.Once
edge_use_of Postman = use_of.AnyNumber
edge_use_of Path = use_of.Once
edge_use_of Interval = use_of.WithinBounds
edge_use_of OddPath = use_of.Once
edge_use_of EvenPath = use_of.Once
edge_use_of Bottleneck = use_of.Once
edge_use_of Gallai = use_of.Once

-- whether a best answer weighs the least or the most
abbrev pub sense_of : Kind → Objective
sense_of Perfect = Least
sense_of Match = Greatest
sense_of BMatch = Least
sense_of CapMatch = Least
sense_of FFactor = Least
sense_of TJoin = Least
sense_of Postman = Least
sense_of Path = Least
sense_of Interval = Least
sense_of OddPath = Least
sense_of EvenPath = Least
sense_of Bottleneck = Least
sense_of Gallai = Greatest

-- how the graph is built whose perfect matchings stand for the answers
abbrev pub gadget_of : Kind → GadgetForm
gadget_of Perfect = Itself
gadget_of Match = Doubled
gadget_of BMatch = Copies
gadget_of CapMatch = Capped Own
gadget_of FFactor = Capped Once
gadget_of TJoin = Ports Values
gadget_of Postman = Ports OddDegrees
gadget_of Path = PathPorts
gadget_of Interval = Halves
gadget_of OddPath = Sides true
gadget_of EvenPath = Sides false
gadget_of Bottleneck = Itself
gadget_of Gallai = Unweighted

-- what an answer weighs
abbrev pub measure_of : Kind → Cost
measure_of Perfect = Total
measure_of Match = Total
measure_of BMatch = Total
measure_of CapMatch = Total
measure_of FFactor = Total
measure_of TJoin = Total
measure_of Postman = Total
measure_of Path = Total
measure_of Interval = Total
measure_of OddPath = Total
measure_of EvenPath = Total
measure_of Bottleneck = Heaviest
measure_of Gallai = Size

-- what proves that an answer is a best one
abbrev pub proof_of : Kind → BestProof
proof_of Perfect = Duals Twice
proof_of Match = Duals Opposite
proof_of BMatch = Duals Twice
proof_of CapMatch = Duals Twice
proof_of FFactor = Duals Twice
proof_of TJoin = Duals Twice
proof_of Postman = Duals BesideAll
proof_of Path = Duals Twice
proof_of Interval = Duals FourTimes
proof_of OddPath = Duals Twice
proof_of EvenPath = Duals Twice
proof_of Bottleneck = LighterBarrier
proof_of Gallai = OuterPaths

-- duals prove an answer best
abbrev pub are_duals : BestProof → Bool
are_duals (Duals value) = true
are_duals LighterBarrier = false
are_duals OuterPaths = false

-- whether answers are asked for only if no circuit weighs less than 0
abbrev pub asks_conservative : Kind → Bool
asks_conservative Perfect = false
asks_conservative Match = false
asks_conservative BMatch = false
asks_conservative CapMatch = false
asks_conservative FFactor = false
asks_conservative TJoin = false
asks_conservative Postman = false
asks_conservative Path = true
asks_conservative Interval = false
asks_conservative OddPath = false
asks_conservative EvenPath = false
asks_conservative Bottleneck = false
asks_conservative Gallai = false

-- where the walk of a solved document starts
abbrev pub start_of : Kind → WalkStart
start_of Perfect = Free
start_of Match = Free
start_of BMatch = Free
start_of CapMatch = Free
start_of FFactor = Free
start_of TJoin = Free
start_of Postman = LeastMet
start_of Path = LesserEnd
start_of Interval = Free
start_of OddPath = LesserEnd
start_of EvenPath = LesserEnd
start_of Bottleneck = Free
start_of Gallai = Free

-- how many searches are made at most
abbrev pub searches_of : Kind → ℕ
searches_of Perfect = 1
searches_of Match = 1
searches_of BMatch = 1
searches_of CapMatch = 1
searches_of FFactor = 1
searches_of TJoin = 1
searches_of Postman = 1
searches_of Path = 2
searches_of Interval = 1
searches_of OddPath = 1
searches_of EvenPath = 1
searches_of Bottleneck = 17
searches_of Gallai = 1

-- whether instances of the kind are made for trials
abbrev pub is_drawn : Kind → Bool
is_drawn Perfect = true
is_drawn Match = true
is_drawn BMatch = true
is_drawn CapMatch = true
is_drawn FFactor = true
is_drawn TJoin = true
is_drawn Postman = true
is_drawn Path = true
is_drawn Interval = false
is_drawn OddPath = false
is_drawn EvenPath = false
is_drawn Bottleneck = false
is_drawn Gallai = false
