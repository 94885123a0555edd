use Rattle.graph_theory.proofs.Common.{◌≡◌, ◌<◌, drop, vec_len, AllByRecursion}
use Rattle.blossom_arena.specs.declared.links.Link.{Link}
use Rattle.blossom_arena.specs.Tables.{threaded}
use Rattle.blossom_arena.proofs.tables.thread.Given as goal

abbrev pub invariant-loop-place : goal.invariant-loop-place
invariant-loop-place l = record {
  rest : threaded l.nexts.items (drop l.place l.circuit) l.after ≡ threaded l.fn.nexts.items l.circuit l.after;
  len : vec_len l.nexts ≡ vec_len l.fn.nexts;
  within : AllByRecursion (λ (k : Link). k.node < vec_len l.fn.nexts) (drop l.place l.circuit);
}
