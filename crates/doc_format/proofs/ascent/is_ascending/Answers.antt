use Rattle.graph_theory.proofs.Common.{rules, int_lt, answers_always}
use Rattle.doc_format.proofs.Ascents.{ascends_by}
use Rattle.doc_format.proofs.ascent.is_ascending.Goals as goal

pub returns : goal.returns
returns c = ascends_by c.args.numbers.now c.is_sorted_by.result (c.is_sorted_by.ensures.cases int_lt (answers_always _ _ _ (λ f a r g called. search rules)))
