-- The fields of an arena without blossoms.
use Rattle.graph_theory.proofs.Common.{◌≡◌, ◌∙◌, ℕ, ◌+◌, ◌≤◌, ◌<◌, false, cond, List, [], length, refl, sym, ap, subst, arith, get_or, Option, None, ℤ, pos}
use Rattle.graph_theory.proofs.Common.{replicate, slice_index, count_by, is_some, AllByRecursion, both_ways, le-leb, ints, length-replicate, get_or-replicate, holds, most_blossoms, IsNumber}
use Rattle.graph_theory.proofs.Common.{int_wrap, int_wrap_fits}
use Rattle.std.specs.Int.{w64}
use Rattle.slab.specs.Slab.{get}
use Rattle.graph_theory.specs.declared.limits.TheConstants.{GRAPH_VERTEX_LIMIT}
use Rattle.blossom_arena.proofs.Cores.{each_placed}
use Rattle.graph_theory.proofs.Members.{everywhere}
use Rattle.blossom_arena.specs.declared.runs.Kept.{Kept}
use Rattle.blossom_arena.specs.declared.arena.Arena.TheInside.{Inside}
use Rattle.blossom_arena.specs.Tables.{walk}
use Rattle.blossom_arena.specs.Family.{Blossom, IsNested, HasDuals, HasMotions, empty_family, dual_at}
use Rattle.blossom_arena.specs.declared.label.Label.TheVariants.{Out}
use Rattle.blossom_arena.specs.Moving.{DualTable, empty_table}
use Rattle.blossom_arena.specs.Fields.{IsPlacement, IsSound, blossoms_of, build, core_at, family_of, kept_of, key_of, order_of, own_run, parent_entry, inner_of, IsOrder}
use Rattle.blossom_arena.specs.Placement.{AreAlone, placement_of}
use Rattle.blossom_arena.proofs.Nested.{vertex_range}
use Rattle.blossom_arena.proofs.Sound.{rings}

pub record IsFresh (a : Inside) : Type 0 where
  pub size_limit : a.vertex_count ≤ GRAPH_VERTEX_LIMIT
  pub slots : a.kept.slots ≡ []
  pub room : a.kept.capacity ≡ most_blossoms a.vertex_count
  pub duals : a.duals ≡ empty_table (a.vertex_count + most_blossoms a.vertex_count + 1)
  pub parents_len : length a.parents.items ≡ a.vertex_count + most_blossoms a.vertex_count + 1
  pub parents : (x : ℕ) → x ≤ a.vertex_count + most_blossoms a.vertex_count → slice_index a.parents.items x ≡ parent_entry a.vertex_count [] x
  pub nexts : length a.nexts.items ≡ a.vertex_count + most_blossoms a.vertex_count + 1
  pub edges : length a.edges.items ≡ a.vertex_count + most_blossoms a.vertex_count + 1
  pub older : a.older.items ≡ replicate (a.vertex_count + most_blossoms a.vertex_count + 1) 0
  pub newer : a.newer.items ≡ replicate (a.vertex_count + most_blossoms a.vertex_count + 1) 0
  pub partition : AreAlone (placement_of a.partition) (a.vertex_count + 1)
  pub followers : length a.followers.items ≡ a.vertex_count + 1

module _ (a : Inside) (h : IsFresh a) where
  abbrev n : ℕ
  n = a.vertex_count

  abbrev places : ℕ
  places = n + most_blossoms n + 1

  no_order : order_of a ≡ []
  no_order = ap (λ ss. walk (count_by is_some ss) a.older.items (slice_index a.older.items 0)) h.slots

  pub no_blossoms : blossoms_of a ≡ []
  no_blossoms = ap (build (rings a)) no_order

  zero_at : (t : List ℕ) (x : ℕ) → t ≡ replicate places 0 → x < places → get_or t x 0 ≡ 0
  zero_at t x e low = ap (λ s. get_or s x 0) e ∙ get_or-replicate places x 0 0 low

  alone : IsPlacement n (core_at n a.kept) [] (dual_at a.duals.values) (placement_of a.partition)
  alone = each_placed n (core_at n a.kept) [] (dual_at a.duals.values) (placement_of a.partition) (λ v iv.
      let range = vertex_range n v iv in
      let low : v < n + 1 = omega (arith, range.1) in
      record {
        top = ap (placement_of a.partition).top (h.partition.set v low) ∙ h.partition.top v low;
        set = h.partition.set v low ∙ sym (ap (λ q. (cond q (own_run v) (kept_of n a.kept v).run).core) (le-leb v n range.1));
        inner = h.partition.inner v low ∙ sym (int_wrap_fits w64 (pos 0) (omega (arith, ints)))
            ∙ ap (int_wrap w64) (let none : pos 0 ≡ inner_of (dual_at a.duals.values) [] v = omega (arith, ints) in none);
      })

  no_duals : HasDuals n (replicate places (pos 0)) []
  no_duals = record {
    one_each = length-replicate places (pos 0);
    in_range = λ k d low. subst IsNumber (sym (get_or-replicate places k (pos 0) d (omega (arith, low, length-replicate {A = ℤ} places (pos 0)))))
        (omega (arith, ints), omega (arith, ints));
    blossoms = tt;
  }

  no_motions : HasMotions n (replicate places Out) []
  no_motions = record { one_each = length-replicate places Out; inside = λ x e. everywhere Out places x }

  pub fresh_family : family_of a ≡ empty_family n
  fresh_family = ap (λ bs. record { vertex_count = n; duals = a.duals.values; motions = a.duals.motions; blossoms = bs }) no_blossoms
      ∙ ap (λ (t : DualTable). record { vertex_count = n; duals = t.values; motions = t.motions; blossoms = [] }) h.duals

  pub fresh_sound : IsSound a
  fresh_sound = record {
    family = record {
      size_limit = h.size_limit;
      nested = subst (IsNested n) (sym no_blossoms) tt;
      duals = subst (HasDuals n a.duals.values) (sym no_blossoms) (subst (λ (t : DualTable). HasDuals n t.values []) (sym h.duals) no_duals);
      motions = subst (HasMotions n a.duals.motions) (sym no_blossoms) (subst (λ (t : DualTable). HasMotions n t.motions []) (sym h.duals) no_motions);
    };
    places = record {
      parents = h.parents_len;
      nexts = h.nexts;
      edges = h.edges;
      older = ap length h.older ∙ length-replicate places 0;
      newer = ap length h.newer ∙ length-replicate places 0;
      partition = h.partition.places;
      followers = h.followers;
    };
    partition = subst (λ (bs : List Blossom). IsPlacement n (core_at n a.kept) bs (dual_at a.duals.values) (placement_of a.partition)) (sym no_blossoms) alone;
    parents = λ x high. h.parents x high ∙ ap (λ bs. parent_entry n bs x) (sym no_blossoms);
    order = subst (IsOrder a.older.items a.newer.items 0) (sym no_order) (zero_at a.older.items 0 h.older (omega arith), zero_at a.newer.items 0 h.newer (omega arith));
    runs = λ x e. absurd (both_ways false refl (ap (λ xs. holds xs x) (sym no_order) ∙ e));
    kept = subst (AllByRecursion _) (sym no_order) tt;
    only = λ x low some. absurd (both_ways (is_some (get a.kept (key_of n x))) (ap (λ (ss : List (Option Kept)). is_some (get_or ss (key_of n x) None)) h.slots) some);
    room = h.room;
  }
