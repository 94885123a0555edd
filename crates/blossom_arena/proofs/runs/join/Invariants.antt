use Rattle.graph_theory.proofs.Common.{◌≡◌, ◌+◌, ◌<◌, drop, vec_len, AllByRecursion}
use Rattle.blossom_arena.specs.declared.runs.Run.{Run}
use Rattle.blossom_arena.specs.Fields.{empty_run, joined, joined_size, joined_tail, longest_of, runs_of}
use Rattle.blossom_arena.proofs.runs.join.Given as goal

abbrev pub invariant-loop-link : goal.invariant-loop-link
invariant-loop-link l = record {
  rest : joined l.followers.items l.tail (runs_of l.count l.kept (drop l.link-index l.circuit)) ≡ joined l.fn.followers.items 0 (runs_of l.count l.kept l.circuit);
  last : joined_tail l.tail (runs_of l.count l.kept (drop l.link-index l.circuit)) ≡ joined_tail 0 (runs_of l.count l.kept l.circuit);
  sum : l.size + joined_size (runs_of l.count l.kept (drop l.link-index l.circuit)) ≡ joined_size (runs_of l.count l.kept l.circuit);
  longest : longest_of l.longest (runs_of l.count l.kept (drop l.link-index l.circuit)) ≡ longest_of empty_run (runs_of l.count l.kept l.circuit);
  len : vec_len l.followers ≡ vec_len l.fn.followers;
  place : l.tail < vec_len l.fn.followers;
  within : AllByRecursion (λ (r : Run). r.tail < vec_len l.fn.followers) (runs_of l.count l.kept (drop l.link-index l.circuit));
}
