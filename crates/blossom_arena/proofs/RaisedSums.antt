-- The sums at vertices where a dual changes.
use Rattle.graph_theory.proofs.Common.{◌≡◌, ℕ, ◌<◌, true, List, length, sym, ap, ◌∙◌, arith, ℤ, ◌+ℤ◌, slice_set, int_wrap, ints, holds}
use Rattle.std.specs.Int.{w64}
use Rattle.blossom_arena.specs.Family.{Blossom, dual_at, is_child, is_node, is_outermost, is_vertex, members_of, IsNested}
use Rattle.blossom_arena.specs.Fields.{inner_of, IsPlacement}
use Rattle.blossom_arena.specs.Placement.{Placement, all_added}
use Rattle.blossom_arena.proofs.Held.{inner_child, inner_outer}
use Rattle.blossom_arena.proofs.Lists.{by_test}
use Rattle.blossom_arena.proofs.Sets.{members_new}
use Rattle.blossom_arena.proofs.Spreads.{all_added_inner, all_added_rest}
use Rattle.blossom_arena.proofs.Cores.{wrapped, each_placed}

-- a dual that changes: that of an outermost node is in no sum, any other one in those of its vertices
module _ (n : ℕ) (bs : List Blossom) (core_of : ℕ → ℕ) (ys : List ℤ) (p : Placement) (node : ℕ) (d : ℤ) (nested : IsNested n bs) (place : node < length ys)
    (h : IsPlacement n core_of bs (dual_at ys) p) where
  abbrev raised : List ℤ
  raised = slice_set ys node (dual_at ys node +ℤ d)

  pub placement_outer : is_outermost n bs node ≡ true → IsPlacement n core_of bs (dual_at raised) p
  placement_outer outer = record { tops = h.tops; inner = λ v iv. h.inner v iv ∙ ap (int_wrap w64) (sym (inner_outer n bs v nested iv ys node d outer place)); sets = h.sets }

  pub placement_child : is_node n bs node ≡ true → is_child bs node ≡ true → IsPlacement n core_of bs (dual_at raised) (all_added p (members_of bs node) d)
  placement_child is child =
      each_placed n core_of bs (dual_at raised) (all_added p (members_of bs node) d) (λ v iv.
      let rest = all_added_rest p (members_of bs node) d in
      let sum = inner_child n bs v nested iv ys node d is child place in
      let was = h.inner v iv in
      record {
        top = ap (λ (q : Placement). q.top (q.set v)) rest ∙ h.tops v iv;
        set = ap (λ (q : Placement). q.set v) rest ∙ h.sets v iv;
        inner = all_added_inner p (members_of bs node) d v (members_new n bs node nested is) ∙ by_test (holds (members_of bs node) v)
            (λ m. rw m (wrapped (p.inner v) (inner_of (dual_at ys) bs v) d (inner_of (dual_at raised) bs v) was (let now = rw m at sum in omega (arith, ints, now))))
            (λ m. rw m (was ∙ ap (int_wrap w64) (let now = rw m at sum in let still : inner_of (dual_at ys) bs v ≡ inner_of (dual_at raised) bs v = omega (arith, ints, now) in still)));
      })

-- another function of the duals with the same sums
pub placement_same : (n : ℕ) (core_of : ℕ → ℕ) (bs : List Blossom) (y z : ℕ → ℤ) (p : Placement)
    → ((v : ℕ) → is_vertex n v ≡ true → inner_of z bs v ≡ inner_of y bs v) → IsPlacement n core_of bs y p → IsPlacement n core_of bs z p
placement_same n core_of bs y z p sums h = record { tops = h.tops; inner = λ v iv. h.inner v iv ∙ ap (int_wrap w64) (sym (sums v iv)); sets = h.sets }
