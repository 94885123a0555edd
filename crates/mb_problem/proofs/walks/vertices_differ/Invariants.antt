use Rattle.graph_theory.proofs.Common.{◌≡◌, ◌+◌, take, get_or, walk_vertices}
use Rattle.mb_problem.specs.Network.{graph_of, vertices}
use Rattle.mb_problem.specs.Marks.{AreMarks}
use Rattle.mb_problem.proofs.MarkLemmas.{DifferBelow}
use Rattle.mb_problem.proofs.walks.vertices_differ.Given as goal

abbrev pub invariant-loop-e : goal.invariant-loop-e
invariant-loop-e l = record {
  here : l.at ≡ get_or (walk_vertices (graph_of l.instance) l.fn.start l.edges) l.e-index 0;
  marks : AreMarks (vertices l.instance) l.marks.items (take (l.e-index + 1) (walk_vertices (graph_of l.instance) l.fn.start l.edges));
  differ : DifferBelow (walk_vertices (graph_of l.instance) l.fn.start l.edges) (l.e-index + 1);
}
