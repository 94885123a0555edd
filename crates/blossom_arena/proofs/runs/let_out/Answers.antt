use Rattle.graph_theory.proofs.Common.{◌<◌, ℕ, AllByRecursion, sym, subst}
use Rattle.blossom_arena.specs.Fields.{vertices_of}
use Rattle.blossom_arena.proofs.runs.let_out.Goals as goal

pub place-requires : goal.place-requires
place-requires c = record {
  vertices = rw c.of.ensures (subst (λ (n : ℕ). AllByRecursion (λ v. v < n) (vertices_of c.args.followers.now c.args.run)) (sym c.requires.places) c.requires.within);
  set = rw c.requires.places c.requires.core;
}
