use Rattle.cert_check.proofs.infeasible.has_wanted_barrier.Goals as goal

pub returns-in-Barrier-clause-exact : goal.returns-in-Barrier-clause-exact
returns-in-Barrier-clause-exact c = rw (← c.obstruction.ensures, c.in-Barrier.is) c.has_barrier.ensures.exact

pub returns-in-Barrier-clause-none : goal.returns-in-Barrier-clause-none
returns-in-Barrier-clause-none c = rw (← c.obstruction.ensures, c.in-Barrier.is) c.has_barrier.ensures.none
