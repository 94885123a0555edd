use Rattle.graph_theory.proofs.Common.{List, length, arith}
use Rattle.mb_problem.specs.declared.instance.InstanceEdge.{InstanceEdge}
use Rattle.dimacs_read.specs.declared.keep.Line.TheVariants as found
use Rattle.dimacs_read.specs.Line.{is_valued}
use Rattle.dimacs_read.proofs.ReadSteps.{read_more}
use Rattle.dimacs_read.proofs.reader.keep_plain.Goals as goal

pub plain-preserved : goal.plain-preserved
plain-preserved c =
    let plain = c.in-Some.ensures in let edges : List InstanceEdge = c.plain.edges.items in
    record {
      reads = λ bounds bytes values read.
          rw (c.in_ok-push.ensures.items, c.first_negative_edge.ensures)
          (read_more bounds bytes c.plain.line c.plain.rest.now plain.text c.in-Some.after.now c.args.header values edges c.plain.negative (found.Edge c.in-Some.edge) plain.begins
          (plain.given bounds (is_valued values) (length values)) (c.plain.invariant.reads bounds bytes values read));
      shorter = omega (arith, plain.begins.shorter, c.plain.invariant.shorter);
      short = omega (arith, plain.begins.shorter, c.plain.invariant.short);
    }
