use Rattle.graph_theory.proofs.Common.{◌∙◌, ℕ, ◌<◌, List, sym, ap, subst, length, arith, AllByRecursion}
use Rattle.blossom_arena.specs.Family.{names_of}
use Rattle.blossom_arena.specs.Fields.{blossoms_of, order_of}
use Rattle.blossom_arena.proofs.Nested.{blossoms_few}
use Rattle.blossom_arena.proofs.Sound.{order_names, order_within, blossoms_len, order_read}
use Rattle.blossom_arena.proofs.arena.Arena.blossoms.Goals as goal

pub overflow_cast-len : goal.overflow_cast-len
overflow_cast-len c =
    omega (
      arith,
      c.len.ensures,
      blossoms_len c.self.inside,
      blossoms_few c.self.inside.vertex_count (blossoms_of c.self.inside) c.self.invariant.family.nested,
      c.self.invariant.family.size_limit,
    )

pub of-requires : goal.of-requires
of-requires c =
    subst (AllByRecursion (λ x. x < length c.deref.result.now)) (sym (order_read c.self.inside _ _ _ c.self.invariant c.len.ensures c.deref.ensures.value c.index.ensures))
    (subst (λ (t : List ℕ). AllByRecursion (λ x. x < length t) (order_of c.self.inside)) (sym c.deref.ensures.value) (order_within c.self.inside c.self.invariant))

pub returns-clause-blossoms : goal.returns-clause-blossoms
returns-clause-blossoms c =
    c.of.ensures ∙ order_read c.self.inside _ _ _ c.self.invariant c.len.ensures c.deref.ensures.value c.index.ensures
    ∙ sym (order_names c.self.inside) ∙ ap (λ f. names_of f.blossoms) c.self.view_is
