use Rattle.graph_theory.proofs.Common.{◌∙◌, ℕ, sym, ap₂, arith}
use Rattle.blossom_arena.proofs.Undone.{range, walk_kept, ring_kept}
use Rattle.blossom_arena.specs.Family.{ring_of, Family}
use Rattle.blossom_arena.proofs.arena.Arena.ring.Goals as goal

pub find_kept-kept-requires : goal.find_kept-kept-requires
find_kept-kept-requires c = omega (arith, (range c.self.inside _ c.args.b c.number.result c.self.invariant c.self.view_is c.requires c.number.ensures).0)

pub of-requires : goal.of-requires
of-requires c =
    walk_kept c.self.inside _ c.args.b c.number.result c.self.invariant c.self.view_is c.requires c.number.ensures
    c.find_kept-kept.result (sym c.find_kept-kept.ensures) c.deref.result.now c.deref-2.result.now c.deref.ensures.value c.deref-2.ensures.value

pub returns-clause-ring : goal.returns-clause-ring
returns-clause-ring c =
    c.of.ensures ∙ ring_kept c.self.inside _ c.args.b c.number.result c.self.invariant c.self.view_is c.requires c.number.ensures
    c.find_kept-kept.result (sym c.find_kept-kept.ensures) c.deref.result.now c.deref-2.result.now c.deref.ensures.value c.deref-2.ensures.value
    ∙ ap₂ (λ (f : Family) (x : ℕ). ring_of f.blossoms x) c.self.view_is c.number.ensures
