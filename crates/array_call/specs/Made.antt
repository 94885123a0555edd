-- What making an instance of arrays answers.
use Rattle.std.specs.Prelude.{◌≡◌, None, Some, Result, Ok, Err}
use Rattle.mb_problem.specs.declared.kind.Kind.{Kind}
use Rattle.mb_problem.specs.Network.{Network}
use Rattle.array_call.specs.declared.error.ArrayError.{ArrayError}
use Rattle.array_call.specs.declared.error.ArrayError.TheVariants.{Malformed, TooLarge, OutOfMemory}
use Rattle.array_call.specs.Arrays.{Arrays, network_of}
use Rattle.array_call.specs.Faults.{array_fault}

-- the arrays are an instance of the kind
abbrev pub IsFaultless : Kind → Arrays → Type 0
IsFaultless kind a = array_fault kind a ≡ None

-- the instance that the arrays are, or their first fault
abbrev pub Makes : Kind → Arrays → Result Network ArrayError → Type 0
Makes kind a (Ok i) = IsFaultless kind a × (i ≡ network_of kind a)
Makes kind a (Err (Malformed f)) = array_fault kind a ≡ Some f
Makes kind a (Err (TooLarge vertices edges)) = ⊥
Makes kind a (Err OutOfMemory) = Unit {0}
