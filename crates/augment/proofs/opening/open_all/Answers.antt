use Rattle.alt_forest.proofs.Common.{◌∙◌, sym, subst, slice_index, edge_in}
use Rattle.augment.specs.Opening.{CanOpen}
use Rattle.augment.proofs.Ready.{can_open, next_step}
use Rattle.augment.proofs.opening.open_all.Goals as goal

pub open-requires-clause-possible : goal.open-requires-clause-possible
open-requires-clause-possible c =
    let v = c.loop-b.invariant in
    subst (CanOpen c.args.graph.now c.args.arena.now (edge_in c.loop-b.mates.items) c.in-Some.b) (sym c.entry_for.ensures)
    (can_open c.args.graph.now c.args.arena.now (λ a. slice_index c.args.inner.now a) (edge_in c.args.mates.now.items) (edge_in c.loop-b.mates.items) c.requires.possible
    c.in-Some.b c.next.new.self (rw c.in-Some.ensures.steps at v.opening) c.requires.inner)

pub loop-b-preserved : goal.loop-b-preserved
loop-b-preserved c =
    let v = c.loop-b.invariant in let e = c.open.ensures in
    record {
      opening = next_step c.args.graph.now c.args.arena.now (λ a. slice_index c.args.inner.now a) (edge_in c.args.mates.now.items)
          (edge_in c.loop-b.mates.items) c.requires.possible c.in-Some.b
          c.next.new.self (rw c.in-Some.ensures.steps at v.opening) (edge_in c.open.new.mates.items) (rw c.entry_for.ensures at e.opens) e.bare e.spread;
      len = e.len ∙ v.len;
    }
