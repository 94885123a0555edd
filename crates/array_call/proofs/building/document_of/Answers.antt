use Rattle.array_call.proofs.building.document_of.Goals as goal

pub returns-in-2-clause-found : goal.returns-in-2-clause-found
returns-in-2-clause-found c = c.infeasible.ensures.found c.args.m

pub returns-in-3-clause-found : goal.returns-in-3-clause-found
returns-in-3-clause-found c = c.nonconservative.ensures.found c.args.m
