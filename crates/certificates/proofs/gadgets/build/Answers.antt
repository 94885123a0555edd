use Rattle.mb_problem.proofs.Common.{refl}
use Rattle.mb_problem.specs.declared.gadget.GadgetForm.TheVariants.{Itself, Doubled, Copies, PathPorts, Halves}
use Rattle.certificates.proofs.GadgetLemmas.{reaches-with, reaches-ports, reaches-sides, reaches-unweighted}
use Rattle.certificates.proofs.gadgets.build.Goals as goal

pub returns-in-Itself-clause-reached : goal.returns-in-Itself-clause-reached
returns-in-Itself-clause-reached c = rw c.in-Itself.is (reaches-with Itself c.args.instance.now (λ weights. c.plain.ensures.reached))

pub returns-in-Doubled-clause-reached : goal.returns-in-Doubled-clause-reached
returns-in-Doubled-clause-reached c = rw c.in-Doubled.is (reaches-with Doubled c.args.instance.now (λ weights. c.double.ensures.reached))

pub returns-in-Copies-clause-reached : goal.returns-in-Copies-clause-reached
returns-in-Copies-clause-reached c = rw c.in-Copies.is (reaches-with Copies c.args.instance.now (λ weights. c.copies.ensures.reached))

pub returns-in-Ports-clause-reached : goal.returns-in-Ports-clause-reached
returns-in-Ports-clause-reached c = rw c.in-Ports.is (reaches-ports c.in-Ports.parity c.args.instance.now c.ports.ensures.tjoin c.ports.ensures.postman)

pub returns-in-PathPorts-clause-reached : goal.returns-in-PathPorts-clause-reached
returns-in-PathPorts-clause-reached c = rw c.in-PathPorts.is (reaches-with PathPorts c.args.instance.now (λ weights. c.ports-in-PathPorts.ensures.path refl))

pub returns-in-Halves-clause-reached : goal.returns-in-Halves-clause-reached
returns-in-Halves-clause-reached c = rw c.in-Halves.is (reaches-with Halves c.args.instance.now (λ weights. c.interval.ensures.reached))

pub returns-in-Sides-clause-reached : goal.returns-in-Sides-clause-reached
returns-in-Sides-clause-reached c = rw c.in-Sides.is (reaches-sides c.in-Sides.odd c.args.instance.now c.parity.ensures.reached)

pub returns-in-Unweighted-clause-reached : goal.returns-in-Unweighted-clause-reached
returns-in-Unweighted-clause-reached c = rw c.in-Unweighted.is (reaches-unweighted c.args.instance.now)
