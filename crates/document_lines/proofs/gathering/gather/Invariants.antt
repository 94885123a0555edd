use Rattle.graph_theory.proofs.Common.{◌≡◌, ◌<◌, length, All}
use Rattle.document_lines.proofs.GatherSteps.{AreGathered}
use Rattle.document_lines.proofs.gathering.gather.Given as goal

abbrev pub invariant-loop-member : goal.invariant-loop-member
invariant-loop-member l = record {
  last_size : length l.last ≡ length l.fn.last;
  seen_size : length l.seen ≡ length l.fn.seen;
  within : All (λ m. m < length l.fn.last) l.member-iterator;
  gathered : AreGathered l.number l.fn.last l.fn.members l.member-iterator l.last l.seen l.vertices.items l.references.items;
}
