use Rattle.mb_problem.proofs.Common.{◌≡◌, ap, sym, subst, ◌∙◌, weight, graph_of, IsBMatching}
use Rattle.mb_problem.specs.declared.answer.Answer.TheVariants.{Counts}
use Rattle.gadget_match.specs.Extracted.{gathered}
use Rattle.gadget_match.proofs.CopyBack.{gathered-feasible, gathered-weighs, copies-few, pair-numbers}
use Rattle.gadget_match.proofs.gathering.extract_copies.Goals as goal

pub count_pairs-requires-clause-numbers : goal.count_pairs-requires-clause-numbers
count_pairs-requires-clause-numbers c = pair-numbers c.args.instance.now c.args.edges.now c.requires.perfect

pub count_pairs-requires-clause-size_limit : goal.count_pairs-requires-clause-size_limit
count_pairs-requires-clause-size_limit c = copies-few c.args.instance.now c.args.edges.now c.in_ok-starts.ensures.network c.requires.perfect

pub returns : goal.returns
returns c =
    let i = c.args.instance.now in
    let edges = c.args.edges.now in
    let is : c.from_vec.result ≡ gathered i edges = c.from_vec.ensures ∙ c.in_ok-counts.ensures.counts in
    record {
      feasible = subst (IsBMatching i) (sym is) (gathered-feasible i edges c.in_ok-starts.ensures.network c.requires.perfect);
      weighs = ap (weight (graph_of i)) is ∙ gathered-weighs i edges c.requires.perfect;
      answer = ap Counts is;
    }
