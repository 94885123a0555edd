use Rattle.graph_theory.proofs.Common.{rules, nat_lt, answers_always}
use Rattle.dual_check.proofs.ListLemmas.{ascending_by}
use Rattle.dual_check.proofs.sets.do_vertices_ascend.Goals as goal

pub returns : goal.returns
returns c = ascending_by c.args.vertices.now c.is_sorted_by.result (c.is_sorted_by.ensures.cases nat_lt (answers_always _ _ _ (λ f a r g called. search rules)))
