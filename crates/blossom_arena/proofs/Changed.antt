-- What a change of the duals of outermost nodes keeps.
use Rattle.graph_theory.proofs.Common.{nat_tests, ◌≡◌, ℕ, ◌<◌, true, List, length, sym, ap, ◌∙◌, subst, arith, ℤ, pos, ◌+ℤ◌, ◌≤ℤ◌, slice_set}
use Rattle.graph_theory.proofs.Common.{get_or_default, get_or-set_other, length-set, IsNumber}
use Rattle.blossom_arena.specs.declared.arena.Arena.TheInside.{Inside}
use Rattle.blossom_arena.specs.declared.label.Label.{Label}
use Rattle.blossom_arena.specs.declared.label.Label.TheVariants.{Out}
use Rattle.blossom_arena.specs.Changes.{label_at, share, gain}
use Rattle.blossom_arena.specs.Family.{Blossom, Family, HasDuals, HasMotions, dual_at, is_child, is_outermost}
use Rattle.blossom_arena.specs.Moving.{DualTable}
use Rattle.blossom_arena.specs.Fields.{IsPlacement, IsSound, blossoms_of, core_at, family_of, inner_of}
use Rattle.blossom_arena.specs.Placement.{placement_of}
use Rattle.blossom_arena.proofs.Duals.{sound_with_duals}
use Rattle.blossom_arena.proofs.Held.{dual_number, inner_stays, alone, each_low}
use Rattle.blossom_arena.proofs.Lists.{by_test}
use Rattle.blossom_arena.proofs.Nested.{name_range}
use Rattle.blossom_arena.proofs.RaisedSums.{placement_same}
pub use Rattle.blossom_arena.proofs.Held.{held-sum, outer_sum}

-- what an arena wants of a change
pub record IsChange (f : Family) (d : ℤ) : Type 0 where
  pub in_range : (x : ℕ) → is_outermost f.vertex_count f.blossoms x ≡ true → IsNumber (dual_at f.duals x +ℤ share d (label_at f.motions x))
  pub not_below : (x : ℕ) → is_outermost f.vertex_count f.blossoms x ≡ true → f.vertex_count < x → pos 0 ≤ℤ (dual_at f.duals x +ℤ share d (label_at f.motions x))

module _ (a : Inside) (f : Family) (d : ℤ) (s : IsSound a) (view : family_of a ≡ f)
    (in_range : (x : ℕ) → is_outermost f.vertex_count f.blossoms x ≡ true → IsNumber (dual_at f.duals x +ℤ share d (label_at f.motions x)))
    (not_below : (x : ℕ) → is_outermost f.vertex_count f.blossoms x ≡ true → f.vertex_count < x → pos 0 ≤ℤ (dual_at f.duals x +ℤ share d (label_at f.motions x))) where
  c : IsChange (family_of a) d
  c = subst (λ g. IsChange g d) (sym view) (record { in_range = in_range; not_below = not_below })

  abbrev n : ℕ
  n = a.vertex_count

  abbrev bs : List Blossom
  bs = blossoms_of a

  abbrev ys : List ℤ
  ys = a.duals.values

  abbrev ms : List Label
  ms = a.duals.motions

  abbrev here : ℕ → ℤ
  here = gain (family_of a) d

  -- what isn't outermost rests
  gain_is : (x : ℕ) → here x ≡ share d (label_at ms x)
  gain_is x = let rests = s.family.motions.inside x in grind (arith, rests)

  -- a property of each sum
  either : (P : ℤ → Type 0) (x : ℕ) → (is_outermost n bs x ≡ true → P (dual_at ys x +ℤ share d (label_at ms x))) → P (dual_at ys x)
      → P (dual_at ys x +ℤ share d (label_at ms x))
  either P x gains stays = by_test (is_outermost n bs x) gains
      (λ t. subst (λ (l : Label). P (dual_at ys x +ℤ share d l)) (sym (s.family.motions.inside x t)) (subst P (alone (dual_at ys x)) stays))

  pub numbers : (x : ℕ) → IsNumber (dual_at ys x +ℤ share d (label_at ms x))
  numbers x = either IsNumber x (c.in_range x) (dual_number ys x s.family.duals.in_range)

  child_none : (x : ℕ) → is_child bs x ≡ true → here x ≡ pos 0
  child_none x child = grind (arith, child)

  module _ (t : DualTable) (each : (x : ℕ) → dual_at t.values x ≡ dual_at ys x +ℤ share d (label_at ms x)) (len : length t.values ≡ length ys) (same : t.motions ≡ ms) where
    pub advanced_at : (x : ℕ) → dual_at t.values x ≡ dual_at ys x +ℤ here x
    advanced_at x = each x ∙ ap (λ z. dual_at ys x +ℤ z) (sym (gain_is x))

    advanced_duals : HasDuals n t.values bs
    advanced_duals = record {
      one_each = len ∙ s.family.duals.one_each;
      in_range = λ i e low. subst IsNumber (get_or_default t.values i (pos 0) e low) (subst IsNumber (sym (each i)) (numbers i));
      blossoms = each_low (dual_at ys) (dual_at t.values) bs s.family.duals.blossoms
          (λ x m low. subst (λ z. pos 0 ≤ℤ z) (sym (each x)) (either (λ z. pos 0 ≤ℤ z) x (λ o. c.not_below x o (name_range n bs x s.family.nested m).0) low));
    }

    pub advance_sound : IsSound (record a { duals = t })
    advance_sound =
        let all : dual_at t.values ≡ (λ x. dual_at ys x +ℤ here x) = λ i x. advanced_at x i in
        sound_with_duals a t a.partition s advanced_duals (subst (λ (ls : List Label). HasMotions n ls bs) (sym same) s.family.motions) s.places.partition
        (placement_same n (core_at n a.kept) bs (dual_at ys) (dual_at t.values) (placement_of a.partition)
        (λ v iv. ap (λ y. inner_of y bs v) all ∙ inner_stays n (dual_at ys) here bs v iv s.family.nested child_none) s.partition)

-- motions that change, and the duals as they were
module _ (a : Inside) (s : IsSound a) (t : DualTable) (same : t.values ≡ a.duals.values) where
  pub motions_sound : HasMotions a.vertex_count t.motions (blossoms_of a) → IsSound (record a { duals = t })
  motions_sound h =
      sound_with_duals a t a.partition s (subst (λ (ys : List ℤ). HasDuals a.vertex_count ys (blossoms_of a)) (sym same) s.family.duals) h s.places.partition
      (subst (λ (ys : List ℤ). IsPlacement a.vertex_count (core_at a.vertex_count a.kept) (blossoms_of a) (dual_at ys) (placement_of a.partition)) (sym same) s.partition)

-- an outermost node that moves
pub motions_with : (n : ℕ) (bs : List Blossom) (ms : List Label) (node : ℕ) (l : Label) → is_outermost n bs node ≡ true → HasMotions n ms bs
    → HasMotions n (slice_set ms node l) bs
motions_with n bs ms node l outer h = record {
  one_each = length-set ms node l ∙ h.one_each;
  inside = λ x e. let was = h.inside x e in grind (arith, nat_tests, get_or-set_other ms node x l Out, was);
}
