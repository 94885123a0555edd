-- What a change of one dual keeps.
use Rattle.graph_theory.proofs.Common.{nat_tests, ◌≡◌, ℕ, ◌+◌, ◌<◌, true, eqb, List, length, sym, ap, ◌∙◌, subst, arith, ◌≢◌, ℤ, pos, ◌+ℤ◌, ◌≤ℤ◌}
use Rattle.graph_theory.proofs.Common.{slice_set, slice_index_or, eqb-true, cond_both, length-set, get_or_default, All-set, IsNumber}
use Rattle.blossom_arena.proofs.Parents.{parent_child}
use Rattle.blossom_arena.proofs.Asked.{outer_test}
use Rattle.blossom_arena.proofs.Marks.{parent_at}
use Rattle.blossom_arena.proofs.Sound.{node_seen, node_low}
use Rattle.blossom_arena.proofs.Held.{each_low}
use Rattle.blossom_arena.specs.declared.arena.Arena.TheInside.{Inside}
use Rattle.blossom_arena.specs.Family.{Blossom, Family, is_node, members_of, IsNested, HasDuals, HasMotions, dual_at}
use Rattle.blossom_arena.specs.declared.label.Label.{Label}
use Rattle.blossom_arena.specs.Moving.{DualTable}
use Rattle.blossom_arena.specs.Fields.{IsPlacement, IsSound, blossoms_of, core_at, family_of, parent_of}
use Rattle.blossom_arena.specs.Placement.{Placement, SetTables, all_added, placement_of}
use Rattle.blossom_arena.proofs.Lists.{set_at}
use Rattle.blossom_arena.proofs.Nested.{name_range}
use Rattle.blossom_arena.proofs.RaisedSums.{placement_child, placement_outer}
use Rattle.blossom_arena.proofs.Spreads.{all_added_rest}

pub duals_set : (n : ℕ) (bs : List Blossom) (ys : List ℤ) (node : ℕ) (y : ℤ) → IsNested n bs → node < length ys → IsNumber y → (n < node → pos 0 ≤ℤ y)
    → HasDuals n ys bs → HasDuals n (slice_set ys node y) bs
duals_set n bs ys node y nested high is fine h = record {
  one_each = length-set ys node y ∙ h.one_each;
  in_range = All-set IsNumber ys node y is h.in_range;
  blossoms = each_low (dual_at ys) (dual_at (slice_set ys node y)) bs h.blossoms (λ x m low. subst (λ z. pos 0 ≤ℤ z) (sym (set_at ys node x y (pos 0) high))
      (cond_both (eqb node x) y (dual_at ys x) (λ z. pos 0 ≤ℤ z) (λ e. fine (omega (arith, eqb-true node x e, (name_range n bs x nested m).0))) (λ e. low)));
}

-- other duals and their sums leave the rest as it was
pub sound_with_duals : (a : Inside) (duals : DualTable) (p : SetTables) → IsSound a → HasDuals a.vertex_count duals.values (blossoms_of a)
    → HasMotions a.vertex_count duals.motions (blossoms_of a) → length p.sets ≡ a.vertex_count + 1
    → IsPlacement a.vertex_count (core_at a.vertex_count a.kept) (blossoms_of a) (dual_at duals.values) (placement_of p) → IsSound (record a { duals = duals; partition = p })
sound_with_duals a duals p s h m len placement = record {
  family = record { size_limit = s.family.size_limit; nested = s.family.nested; duals = h; motions = m };
  places = record {
    parents = s.places.parents;
    nexts = s.places.nexts;
    edges = s.places.edges;
    older = s.places.older;
    newer = s.places.newer;
    partition = len;
    followers = s.places.followers;
  };
  partition = placement;
  parents = s.parents;
  order = s.order;
  runs = s.runs;
  kept = s.kept;
  only = s.only;
  room = s.room;
}

-- a dual that is raised: the sums stay where no node holds the node, else each of its vertices has as much more
module _ (a : Inside) (f : Family) (x y : ℕ) (d : ℤ) (duals : DualTable) (s : IsSound a) (view : family_of a ≡ f) (seen : is_node f.vertex_count f.blossoms x ≡ true) (same : y ≡ x)
    (in_range : IsNumber (dual_at f.duals x +ℤ d)) (not_below : f.vertex_count < x → pos 0 ≤ℤ (dual_at f.duals x +ℤ d))
    (written : duals.values ≡ slice_set a.duals.values y (dual_at a.duals.values y +ℤ d)) (still : duals.motions ≡ a.duals.motions) where
  abbrev n : ℕ
  n = a.vertex_count

  abbrev bs : List Blossom
  bs = blossoms_of a

  is : is_node n bs y ≡ true
  is = node_seen a f x y s view seen same

  place : y < length a.duals.values
  place = omega (arith, node_low a f x y s view seen same, s.family.duals.one_each)

  raised : IsNumber (dual_at a.duals.values y +ℤ d) × (n < y → pos 0 ≤ℤ (dual_at a.duals.values y +ℤ d))
  raised = subst (λ (z : ℕ). IsNumber (dual_at a.duals.values z +ℤ d) × (n < z → pos 0 ≤ℤ (dual_at a.duals.values z +ℤ d))) (sym same)
      (subst (λ (g : Family). IsNumber (dual_at g.duals x +ℤ d) × (g.vertex_count < x → pos 0 ≤ℤ (dual_at g.duals x +ℤ d))) (sym view) (in_range, not_below))

  h : HasDuals n duals.values bs
  h = subst (λ (zs : List ℤ). HasDuals n zs bs) (sym written)
      (duals_set n bs a.duals.values y (dual_at a.duals.values y +ℤ d) s.family.nested place raised.0 raised.1 s.family.duals)

  motions : HasMotions n duals.motions bs
  motions = subst (λ (ms : List Label). HasMotions n ms bs) (sym still) s.family.motions

  module _ (p : ℕ) (read : p ≡ slice_index_or a.parents.items y p) where
    parent : p ≡ parent_of bs y
    parent = read ∙ get_or_default a.parents.items y p 0 (omega (arith, node_low a f x y s view seen same, s.places.parents)) ∙ parent_at a s y is

    pub raised_outer : p ≡ 0 → IsSound (record a { duals = duals; partition = a.partition })
    raised_outer zero =
        sound_with_duals a duals a.partition s h motions s.places.partition
        (subst (λ (ys : List ℤ). IsPlacement n (core_at n a.kept) bs (dual_at ys) (placement_of a.partition)) (sym written)
        (placement_outer n bs (core_at n a.kept) a.duals.values (placement_of a.partition) y d s.family.nested place s.partition
        (grind (arith, nat_tests, outer_test n bs y s.family.nested is, parent))))

    pub raised_child : (q : SetTables) → p ≢ 0 → placement_of q ≡ all_added (placement_of a.partition) (members_of bs y) d → IsSound (record a { duals = duals; partition = q })
    raised_child q held sums =
        sound_with_duals a duals q s h motions
        (ap (λ (z : Placement). z.places) sums ∙ ap (λ (z : Placement). z.places) (all_added_rest (placement_of a.partition) (members_of bs y) d) ∙ s.places.partition)
        (subst (λ (ys : List ℤ). IsPlacement n (core_at n a.kept) bs (dual_at ys) (placement_of q)) (sym written)
        (subst (IsPlacement n (core_at n a.kept) bs (dual_at (slice_set a.duals.values y (dual_at a.duals.values y +ℤ d)))) (sym sums)
        (placement_child n bs (core_at n a.kept) a.duals.values (placement_of a.partition) y d s.family.nested place s.partition
        is (parent_child bs y (λ z. held (parent ∙ z))))))
