use Rattle.graph_theory.proofs.Common.{◌≡◌, ◌++◌, drop}
use Rattle.brute_force.specs.Digits.{digits}
use Rattle.brute_force.proofs.digits.digits_of.Given as goal

abbrev pub invariant-loop-most : goal.invariant-loop-most
invariant-loop-most l = l.list.items ++ digits (drop l.most-index l.mosts) l.rest ≡ digits l.mosts l.code
