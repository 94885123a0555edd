use Rattle.graph_theory.proofs.Common.{◌≡◌, ◌∙◌, ap}
use Rattle.mb_problem.specs.declared.answer.Answer.TheVariants.{Counts}
use Rattle.gadget_cap.specs.Capped.{capped_room}
use Rattle.gadget_cap.specs.Places.{entry_counts}
use Rattle.gadget_cap.proofs.Extracted.{few-listed, extracted-feasible, extracted-weight}
use Rattle.gadget_cap.proofs.entries.extract.Goals as goal

pub count_entries-requires-clause-size_limit : goal.count_entries-requires-clause-size_limit
count_entries-requires-clause-size_limit c = λ net. few-listed c.args.unit c.args.instance.now c.args.edges.now net c.requires.perfect

pub returns : goal.returns
returns c =
    let i = c.args.instance.now in
    let is : c.from_vec.result ≡ entry_counts i (capped_room c.args.unit i) c.args.edges.now = c.from_vec.ensures ∙ c.in_ok-counts.ensures.counts in
    record {
      counts = ap Counts is;
      feasible = rw is (extracted-feasible c.args.unit i c.args.edges.now c.count_entries.ensures.network c.requires.perfect);
      weighs = rw is (extracted-weight c.args.unit i c.args.edges.now c.count_entries.ensures.network c.requires.perfect);
    }
