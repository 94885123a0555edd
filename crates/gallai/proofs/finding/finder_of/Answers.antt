use Rattle.mb_problem.proofs.Common.{List, ℕ, length, ap, ◌∙◌, subst, graph_of, edges-count}
use Rattle.mb_problem.specs.Degrees.{AreDegrees}
use Rattle.gadget_base.proofs.Common.{times_each-length}
use Rattle.gallai.proofs.finding.finder_of.Goals as goal

pub degrees_of-requires : goal.degrees_of-requires
degrees_of-requires c =
    let i = c.args.instance.now in
    ap length (c.deref.ensures.value ∙ c.in_ok-counts.ensures) ∙ times_each-length (graph_of i) c.args.matching.now ∙ edges-count i

pub returns : goal.returns
returns c =
    let i = c.args.instance.now in
    record {
      counts_are = c.in_ok-counts.ensures;
      one_each = times_each-length (graph_of i) c.args.matching.now ∙ edges-count i;
      degrees = subst (λ (counts : List ℕ). AreDegrees i counts c.in_ok-degrees.degrees.items) c.deref.ensures.value c.in_ok-degrees.ensures;
    }
