use Rattle.graph_theory.proofs.Common.{◌≡◌, ◌+◌, ◌≤◌, ℕ, List, length}
use Rattle.graph_parts.specs.Marks.{MarksSet}
use Rattle.graph_parts.specs.Heads.{SeenBelow}
use Rattle.graph_parts.proofs.HeadLemmas.{CountsBelow}
use Rattle.graph_parts.proofs.InsideLemmas.{InsideBelow}
use Rattle.graph_parts.proofs.odd.count_odd_within.Given as goal

abbrev pub invariant-loop-number : goal.invariant-loop-number
invariant-loop-number l = record {
  size : length l.seen.items ≡ l.graph.vertices + 1;
  seen : (removed : List ℕ) → MarksSet l.out removed → SeenBelow l.graph removed (l.number + 1) l.seen.items;
  counts : (removed : List ℕ) → MarksSet l.out removed → CountsBelow l.graph removed (l.number + 1) l.count;
  value_limit : l.count ≤ l.number;
  inside : (removed : List ℕ) → MarksSet l.out removed → InsideBelow l.graph removed l.inside (l.number + 1);
}
