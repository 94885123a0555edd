-- The command that the words of a command line are.
use Rattle.std.specs.Prelude.{◌≡◌, ℕ, ◌<◌, ◌≤◌, ◌-◌, ◌^◌, List, [], ◌∷◌, codes, Bool, true, false}
use Rattle.std.specs.Prelude.{not, ◌&&◌, ◌||◌, ◌==◌, nat_le, if◌then◌else◌, Option, None, Some}
use Rattle.std.specs.Option.{option_map, option_and_then}
use Rattle.std.specs.Str.{bytes_eq}
use Rattle.mb_base.specs.Text.{natural}
use Rattle.mb_problem.specs.declared.kind.Kind.{Kind}
use Rattle.mb_problem.specs.declared.kind.VertexValue.{VertexValue}
use Rattle.mb_problem.specs.declared.kind.VertexValue.TheVariants.{Unused, Degree, Parity, End}
use Rattle.mb_problem.specs.declared.kind.VertexValue.TheVariants.{Bounds}
use Rattle.mb_problem.specs.declared.limits.TheConstants.{VERTEX_LIMIT, EDGE_LIMIT}
use Rattle.mb_problem.specs.Kinds.{kind_named, vertex_value_of, is_drawn}
use Rattle.solve_answers.specs.declared.detail.Detail.{Detail}
use Rattle.solve_answers.specs.declared.detail.Detail.TheVariants.{Full, Brief}
use Rattle.match_cli.specs.declared.command.Command.{Command}
use Rattle.match_cli.specs.declared.command.Command.TheVariants.{Solve, Check, Trial}

-- the command that solves the kind of this name
abbrev pub solve_named : Detail → List ℕ → Option Command
solve_named detail name = option_map (λ kind. Solve kind detail) (kind_named name)

-- how much of an answer `solve` states with the flag or without it
abbrev pub detail_by : Bool → Detail
detail_by true = Brief
detail_by false = Full

-- the flag of brief answers stands after the kind or before it
abbrev pub solve_briefly : List ℕ → List ℕ → Option Command
solve_briefly a b = if bytes_eq b (codes "--brief") then solve_named Brief a
    else (if bytes_eq a (codes "--brief") then solve_named Brief b else None)

abbrev pub check_named : List ℕ → Option Command
check_named name = option_map (λ kind. Check kind) (kind_named name)

-- the number that digits spell, if it is at most the limit
abbrev pub natural_within : ℕ → List ℕ → Option ℕ
natural_within limit word = option_and_then (λ n. if nat_le n limit then Some n
    else None) (natural word)

-- the values mark two ends
abbrev pub marks_ends : VertexValue → Bool
marks_ends Unused = false
marks_ends Degree = false
marks_ends Parity = false
marks_ends End = true
marks_ends Bounds = false

-- there are the two vertices that an edge has, and those that values mark as ends
abbrev pub has_ends : Kind → ℕ → ℕ → Bool
has_ends kind n m = nat_le 2 n || ((m == 0) && not (marks_ends (vertex_value_of kind)))

-- an instance of the kind and of this size can be made
abbrev pub is_made : Kind → ℕ → ℕ → Bool
is_made kind n m = is_drawn kind && has_ends kind n m

abbrev pub trial : Kind → ℕ → ℕ → ℕ → Option Command
trial kind start n m = if is_made kind n m then Some (Trial kind start n m) else None

-- the command that tries a made instance: the name of a kind, a start below 2^64, and numbers of
-- vertices and edges within the limits
abbrev pub trial_by : List ℕ → List ℕ → List ℕ → List ℕ → Option Command
trial_by name start n m =
    option_and_then (λ kind. option_and_then (λ s. option_and_then (λ vertices. option_and_then
    (λ edges. trial kind s vertices edges)
    (natural_within EDGE_LIMIT m)) (natural_within VERTEX_LIMIT n))
    (natural_within (2 ^ 64 - 1) start)) (kind_named name)

-- the command that the words after the program's name are
abbrev pub after_name : List (List ℕ) → Option Command
after_name (a ∷ b ∷ []) =
    if bytes_eq a (codes "solve") then solve_named Full b else
    (if bytes_eq a (codes "check") then check_named b else None)
after_name (a ∷ b ∷ c ∷ []) = if bytes_eq a (codes "solve") then solve_briefly b c else None
after_name (a ∷ b ∷ c ∷ d ∷ e ∷ []) = if bytes_eq a (codes "trial") then trial_by b c d e else None
after_name _ = None

-- the first word, whatever it is, stands for the program's name
abbrev pub command_of : List (List ℕ) → Option Command
command_of [] = None
command_of (name ∷ words) = after_name words

-- the numbers of a trial: within the limits of instances, with the ends of an edge, and those that
-- values mark
pub record IsTrialSize (kind : Kind) (n m : ℕ) : Type 0 where
  pub vertices : n ≤ VERTEX_LIMIT
  pub edges : m ≤ EDGE_LIMIT
  pub ends : 0 < m → 2 ≤ n
  pub path : vertex_value_of kind ≡ End → 2 ≤ n

abbrev pub HasRanges : Command → Type 0
HasRanges (Solve kind detail) = Unit {0}
HasRanges (Check kind) = Unit {0}
HasRanges (Trial kind start n m) = IsTrialSize kind n m
