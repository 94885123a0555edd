use Rattle.graph_theory.proofs.Common.{◌≡◌, ◌∙◌, ℕ, ◌<◌, List, refl, sym, ap, ap₂, subst, length, arith, ints, rules, to_z, of_z, ℤ, ◌+ℤ◌, slice_set, AllByRecursion, w64, w128}
use Rattle.graph_theory.proofs.Common.{IsNumber}
use Rattle.blossom_arena.specs.Family.{Family, dual_at}
use Rattle.blossom_arena.specs.Fields.{vertices_of}
use Rattle.blossom_arena.specs.Placement.{all_added, placement_of}
use Rattle.blossom_arena.specs.Slack.{IsNearSum}
use Rattle.blossom_arena.proofs.Held.{dual_number}
use Rattle.blossom_arena.proofs.Sound.{node_low, read_within, read_members}
use Rattle.blossom_arena.proofs.Duals.{raised_outer, raised_child}
use Rattle.blossom_arena.proofs.arena.Arena.add_dual.Goals as goal

pub raise-requires : goal.raise-requires
raise-requires c =
    let back : to_z w128 (of_z w128 c.args.d) ≡ c.args.d = search rules in
    let low = node_low c.self.inside _ c.args.node c.number-number.result c.self.invariant c.self.view_is c.requires.node c.number-number.ensures in
    record {
      place = omega (arith, low, c.self.invariant.family.duals.one_each);
      in_range = rw (back, c.number-number.ensures) (subst (λ (f : Family). IsNumber (dual_at f.duals c.args.node +ℤ c.args.d)) (sym c.self.view_is) c.requires.in_range);
    }

pub index-requires : goal.index-requires
index-requires c =
    omega (arith, node_low c.self.inside _ c.args.node c.number-number.result c.self.invariant c.self.view_is c.requires.node c.number-number.ensures, c.self.invariant.places.parents)

pub invariant_of-self : goal.invariant_of-self
invariant_of-self c =
    let written : c.raise.new.self.values ≡ slice_set c.self.inside.duals.values c.number-number.result (dual_at c.self.inside.duals.values c.number-number.result +ℤ c.args.d) =
    search rules in
    raised_outer c.self.inside _ c.args.node c.number-number.result c.args.d c.raise.new.self c.self.invariant c.self.view_is c.requires.node c.number-number.ensures
    c.requires.in_range c.requires.not_below written c.raise.ensures.motions c.index.result.now c.index.ensures c.if-index-eq0.true

pub returns-then-index-eq0-clause-is_family : goal.returns-then-index-eq0-clause-is_family
returns-then-index-eq0-clause-is_family c = (invariant_of-self c).family

pub of-requires : goal.of-requires
of-requires c =
    read_within c.self.inside _ c.args.node c.number-number.result c.self.invariant c.self.view_is c.requires.node c.number-number.ensures
    c.deref.result.now c.find_run.result c.deref.ensures.value c.find_run.ensures

pub add_each-requires : goal.add_each-requires
add_each-requires c =
    let within = read_within c.self.inside _ c.args.node c.number-number.result c.self.invariant c.self.view_is c.requires.node c.number-number.ensures
    c.deref.result.now c.find_run.result c.deref.ensures.value c.find_run.ensures in
    subst (λ (vs : List ℕ). AllByRecursion (λ v. v < length c.self.inside.partition.sets) vs) (sym c.of.ensures)
    (subst (λ m. AllByRecursion (λ v. v < m) (vertices_of c.deref.result.now c.find_run.result))
    (ap length c.deref.ensures.value ∙ c.self.invariant.places.followers ∙ sym c.self.invariant.places.partition) within)

-- what is added is the difference of two duals
near : (x y d : ℤ) → IsNumber x → IsNumber y → y ≡ x +ℤ d → IsNearSum d
near x y d is then e = (omega (arith, ints, is.0, is.1, then.0, then.1, e), omega (arith, ints, is.0, is.1, then.0, then.1, e))

pub narrowed-requires : goal.narrowed-requires
narrowed-requires c =
    let back : to_z w128 (of_z w128 c.args.d) ≡ c.args.d = search rules in
    let ys = c.self.inside.duals.values in
    let before : IsNumber (dual_at ys c.args.node) = dual_number ys c.args.node c.self.invariant.family.duals.in_range in
    let after : IsNumber (dual_at ys c.args.node +ℤ c.args.d) =
    subst (λ (f : Family). IsNumber (dual_at f.duals c.args.node +ℤ c.args.d)) (sym c.self.view_is) c.requires.in_range in
    subst IsNearSum (sym back) (near (dual_at ys c.args.node) (dual_at ys c.args.node +ℤ c.args.d) c.args.d before after refl)

pub invariant_of-self-2 : goal.invariant_of-self-2
invariant_of-self-2 c =
    let written : c.raise.new.self.values ≡ slice_set c.self.inside.duals.values c.number-number.result (dual_at c.self.inside.duals.values c.number-number.result +ℤ c.args.d) =
    search rules in
    let wide : to_z w128 (of_z w128 c.args.d) ≡ c.args.d = search rules in
    let narrow : to_z w64 (of_z w64 c.narrowed.result) ≡ c.narrowed.result = search rules in
    let back = narrow ∙ c.narrowed.ensures ∙ wide in
    let members = c.of.ensures ∙ read_members c.self.inside _ c.args.node c.number-number.result c.self.invariant c.self.view_is c.requires.node c.number-number.ensures
    c.deref.result.now c.find_run.result c.deref.ensures.value c.find_run.ensures in
    raised_child c.self.inside _ c.args.node c.number-number.result c.args.d c.raise.new.self c.self.invariant c.self.view_is c.requires.node c.number-number.ensures
    c.requires.in_range c.requires.not_below written c.raise.ensures.motions c.index.result.now c.index.ensures c.add_each.new.self c.if-index-eq0.false
    (c.add_each.ensures.placement ∙ ap₂ (all_added (placement_of c.self.inside.partition)) members back)

pub returns-clause-is_family : goal.returns-clause-is_family
returns-clause-is_family c = (invariant_of-self-2 c).family
