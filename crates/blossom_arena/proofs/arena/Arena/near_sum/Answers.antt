use Rattle.graph_theory.proofs.Common.{◌≡◌, ◌∙◌, ℕ, ◌+◌, ◌%◌, true, sym, ap, subst, arith, rules, to_z, of_z, ℤ, ◌+ℤ◌, ints, w64}
use Rattle.graph_theory.proofs.Common.{int_wrap, int_wrap_fits, wraps}
use Rattle.blossom_arena.specs.declared.arena.Arena.TheInside.{Inside}
use Rattle.blossom_arena.specs.Family.{Family, is_vertex, is_node, outermost, dual_at}
use Rattle.blossom_arena.specs.Fields.{IsSound, family_of, inner_of}
use Rattle.blossom_arena.specs.Placement.{placement_of}
use Rattle.blossom_arena.specs.Slack.{held_by}
use Rattle.blossom_arena.proofs.Cores.{wrapped}
use Rattle.blossom_arena.proofs.Nested.{vertex_range}
use Rattle.blossom_arena.proofs.Sets.{outermost_node}
use Rattle.blossom_arena.proofs.arena.Arena.near_sum.Goals as goal

-- the part that is read
read : (a : Inside) (f : Family) (v x : ℕ) → IsSound a → family_of a ≡ f → is_vertex f.vertex_count v ≡ true → x ≡ v
    → (placement_of a.partition).inner x ≡ int_wrap w64 (inner_of (dual_at f.duals) f.blossoms v)
read a f v x s view is same =
    ap (placement_of a.partition).inner same ∙ s.partition.inner v (subst (λ (g : Family). is_vertex g.vertex_count v ≡ true) (sym view) is)
    ∙ ap (λ (g : Family). int_wrap w64 (inner_of (dual_at g.duals) g.blossoms v)) view

pub inner-inner-requires : goal.inner-inner-requires
inner-inner-requires c =
    let iv = subst (λ f. is_vertex f.vertex_count c.args.vertex ≡ true) (sym c.self.view_is) c.requires.vertex in
    omega (arith, (vertex_range _ c.args.vertex iv).1, c.number.ensures, c.self.invariant.places.partition)

pub dual-requires : goal.dual-requires
dual-requires c =
    subst (λ x. is_node c.args.self.now.vertex_count c.args.self.now.blossoms x ≡ true) (sym c.outermost.ensures.node)
    (outermost_node c.args.self.now.vertex_count c.args.self.now.blossoms c.args.vertex c.requires.vertex)

pub returns : goal.returns
returns c =
    let f : Family = c.args.self.now in
    let v : ℕ = c.args.vertex in
    let part : ℤ = inner_of (dual_at f.duals) f.blossoms v in
    let sum : ℤ = dual_at f.duals v +ℤ held_by (dual_at f.duals) f.blossoms v in
    let inner : c.inner-inner.result ≡ int_wrap w64 part =
    c.inner-inner.ensures ∙ read c.self.inside f v c.number.result c.self.invariant c.self.view_is c.requires.vertex c.number.ensures in
    let outer : c.dual.result ≡ dual_at f.duals (outermost f.blossoms v) = c.dual.ensures.dual ∙ ap (dual_at f.duals) c.outermost.ensures.node in
    let added : to_z w64 ((of_z w64 c.inner-inner.result + of_z w64 c.dual.result) % 18446744073709551616) ≡ int_wrap w64 (c.inner-inner.result +ℤ c.dual.result) = search (rules, wraps) in
    let whole : part +ℤ c.dual.result ≡ sum = omega (arith, ints, outer) in
    record {
      near_sum = added ∙ wrapped c.inner-inner.result part c.dual.result sum inner whole ∙ int_wrap_fits w64 sum (omega (arith, ints, c.requires.near.0, c.requires.near.1));
      is_family = c.outermost.ensures.is_family;
    }
