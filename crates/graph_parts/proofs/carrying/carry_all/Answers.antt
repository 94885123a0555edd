use Rattle.graph_theory.proofs.Common.{rules, ◌≡◌, List, [], subst}
use Rattle.graph_parts.specs.declared.links.Link.{Link}
use Rattle.graph_parts.proofs.LinkLemmas.{tree-pop}
use Rattle.graph_parts.proofs.FlagLemmas.{IsCarried, carried-start, carried-step, carried-all}
use Rattle.graph_parts.proofs.carrying.carry_all.Goals as goal

pub loop-link-init : goal.loop-link-init
loop-link-init c = record {
  flags = c.requires.flags;
  taken = c.requires.taken;
  carried = carried-start c.args.graph.now c.args.links.items c.args.flags.now c.requires.flags c.requires.vertices c.requires.forest;
  balanced = λ odd even. even;
}

pub carry-requires-clause-link : goal.carry-requires-clause-link
carry-requires-clause-link c =
    let C : List Link → Type 0 = λ ls. IsCarried c.args.graph.now ls c.loop-link.flags in
    let is = subst C c.in-Some.ensures.items c.loop-link.invariant.carried in
    (tree-pop c.args.graph.now is.roots c.pop.new.self.items c.in-Some.link is.tree).link

pub loop-link-preserved : goal.loop-link-preserved
loop-link-preserved c =
    let C : List Link → Type 0 = λ ls. IsCarried c.args.graph.now ls c.loop-link.flags in
    let is = subst C c.in-Some.ensures.items c.loop-link.invariant.carried in
    record {
      flags = c.carry.ensures.flags;
      taken = c.carry.ensures.taken;
      carried = carried-step c.args.graph.now c.pop.new.self.items c.in-Some.link c.loop-link.flags c.carry.new.flags is c.carry.ensures.cleared;
      balanced = λ odd even. c.carry.ensures.balanced odd (c.loop-link.invariant.balanced odd even);
    }

pub returns-clause-roots : goal.returns-clause-roots
returns-clause-roots c =
    let none : c.loop-link.left.items ≡ [] = search rules in
    let C : List Link → Type 0 = λ ls. IsCarried c.args.graph.now ls c.loop-link.flags in
    carried-all c.args.graph.now c.loop-link.flags (subst C none c.loop-link.invariant.carried)

pub returns-clause-flags : goal.returns-clause-flags
returns-clause-flags c = c.loop-link.invariant.flags

pub returns-clause-taken : goal.returns-clause-taken
returns-clause-taken c = c.loop-link.invariant.taken

pub returns-clause-balanced : goal.returns-clause-balanced
returns-clause-balanced c = c.loop-link.invariant.balanced
