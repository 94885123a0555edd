use Rattle.mb_problem.proofs.EdgeLemmas.{network-push}
use Rattle.mb_problem.proofs.instance.Instance.push.Goals as goal

pub returns-clause-network : goal.returns-clause-network
returns-clause-network c = network-push c.args.self.now c.self.inside.edges.items c.push.new.self.items c.self.inside.values.items c.self.inside.lows.items c.self.inside.highs.items
    c.args.edge c.self.view_is
    c.self.invariant c.requires.room c.requires.edge c.in_ok-push.ensures.items

pub invariant_of-self-2 : goal.invariant_of-self-2
invariant_of-self-2 c = network-push c.args.self.now c.self.inside.edges.items c.push.new.self.items c.self.inside.values.items c.self.inside.lows.items c.self.inside.highs.items
    c.args.edge c.self.view_is
    c.self.invariant c.requires.room c.requires.edge c.in_ok-push.ensures.items
