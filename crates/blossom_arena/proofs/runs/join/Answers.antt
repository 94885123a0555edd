use Rattle.graph_theory.proofs.Common.{◌∙◌, ap, arith}
use Rattle.blossom_arena.specs.declared.runs.Run.{Run}
use Rattle.blossom_arena.specs.Fields.{run_of}
use Rattle.blossom_arena.proofs.LinkLists.{drop_next}
use Rattle.blossom_arena.proofs.runs.join.Goals as goal

pub overflow_add-size : goal.overflow_add-size
overflow_add-size c =
    let size = ap (λ (r : Run). r.size) (c.find_run-run.ensures ∙ ap (run_of c.args.count c.args.kept.now) c.number.ensures) in
    omega (arith, size, rw (drop_next c.args.circuit.now c.loop-link.link-index c.link-item.result c.loop-link-test.true c.link-item.is) at c.loop-link.invariant.sum, c.requires.size_limit)

pub loop-link-preserved : goal.loop-link-preserved
loop-link-preserved c =
    let i = c.loop-link.invariant in
    let next = drop_next c.args.circuit.now c.loop-link.link-index c.link-item.result c.loop-link-test.true c.link-item.is in
    record {
      rest = rw (c.find_run-run.ensures, c.number.ensures) (rw next at i.rest);
      last = rw (c.find_run-run.ensures, c.number.ensures) (rw next at i.last);
      sum = rw (c.find_run-run.ensures, c.number.ensures) (omega (arith, rw next at i.sum));
      longest = rw (c.longer-longest.ensures, c.find_run-run.ensures, c.number.ensures) (rw next at i.longest);
      len = i.len;
      place = rw (c.find_run-run.ensures, c.number.ensures) (rw next at i.within).0;
      within = (rw next at i.within).1;
    }
