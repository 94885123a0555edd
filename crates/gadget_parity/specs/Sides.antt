-- Paths of an odd or an even number of edges between the two ends of an instance (Schrijver,
-- Combinatorial Optimization, volume A, chapter 29).
use Rattle.std.specs.Prelude.{Bool, true, false}
use Rattle.mb_problem.specs.declared.kind.Kind.{Kind}
use Rattle.mb_problem.specs.declared.kind.Kind.TheVariants.{OddPath, EvenPath}

-- the kind of paths of an odd number of edges, or of an even one
abbrev pub path_kind : Bool → Kind
path_kind true = OddPath
path_kind false = EvenPath
