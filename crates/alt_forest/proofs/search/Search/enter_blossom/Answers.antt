use Rattle.graph_theory.proofs.Common.{◌≡◌, ◌∙◌, ℕ, ℤ, ◌+ℤ◌, Option, Some, true, refl, sym, ap, subst, arith, ints, rules, to_z, of_z, w128, holds}
use Rattle.graph_theory.proofs.Common.{◌≢◌, ⊎_elim, both_ways}
use Rattle.blossom_arena.proofs.Held.{dual_number}
use Rattle.blossom_arena.proofs.Nested.{outermost_parts}
use Rattle.blossom_arena.specs.Family.{names_of, dual_at}
use Rattle.blossom_arena.specs.declared.label.Label.TheVariants.{Inner}
use Rattle.search_heap.specs.declared.item.Item.TheVariants.{Blossom}
use Rattle.search_heap.specs.Moments.{Moments, IsItem, moment_of}
use Rattle.alt_forest.specs.declared.search.Search.{Search}
use Rattle.alt_forest.specs.State.{IsOutermost}
use Rattle.alt_forest.specs.Searches.{HasShape, IsSound, state_of}
use Rattle.alt_forest.proofs.Places.{outer_range}
use Rattle.alt_forest.proofs.Duals.{low_at}
use Rattle.alt_forest.proofs.Queues.{sound_set, node_item, blossom_set, blossom_other}
use Rattle.alt_forest.proofs.search.Search.enter_blossom.Goals as goal

pub moment_after-moment-requires : goal.moment_after-moment-requires
moment_after-moment-requires c =
    let s = c.args.self.now in let back : to_z w128 (of_z w128 c.from.result) ≡ c.dual.result = search rules in
    let name : holds (names_of s.arena.blossoms) c.args.node ≡ true = sym c.is_blossom.ensures.blossom ∙ c.if-not-is_blossom.false in
    let most = (dual_number s.arena.duals c.args.node c.dual.ensures.is_family.duals.in_range).1 in
    record {
      low = c.requires.low;
      high = c.requires.high;
      left_low = rw (back, c.dual.ensures.dual) (low_at (dual_at s.arena.duals) s.arena.blossoms c.args.node c.requires.sound.state.duals name);
      left_high = omega (arith, ints, back, c.dual.ensures.dual, most);
    }

item : (s : Search) (a : ℕ) → HasShape s → IsOutermost (state_of s) a → IsItem s.queue (Blossom a)
item s a h is = let range = outer_range s a h is in node_item s a h range.0 range.1

pub set-requires : goal.set-requires
set-requires c = item c.args.self.now c.args.node c.requires.sound.shape c.requires.outermost

pub returns-then-eq : goal.returns-then-eq
returns-then-eq c =
    let s = c.args.self.now in let here = item s c.args.node c.requires.sound.shape c.requires.outermost in
    let back : to_z w128 (of_z w128 c.from.result) ≡ c.dual.result = search rules in
    let moment : to_z w128 (of_z w128 c.moment_after-moment.result) ≡ c.moment_after-moment.result = search rules in
    let name : holds (names_of s.arena.blossoms) c.args.node ≡ true = sym c.is_blossom.ensures.blossom ∙ c.if-not-is_blossom.false in
    let inner : c.label.result ≡ Inner = search rules in
    record {
      frame = refl;
      sound = subst (λ (q : Moments). IsSound (record s { queue = q })) (sym c.set.ensures) (sound_set s (Blossom c.args.node) _ c.requires.sound);
      entered = λ named is lab. ap (λ (q : Moments). moment_of q (Blossom c.args.node)) c.set.ensures ∙ blossom_set s.queue c.args.node _ here
          ∙ ap (λ (x : ℤ). let o : Option ℤ = Some x in o) (moment ∙ c.moment_after-moment.ensures ∙ ap (λ (x : ℤ). s.clock +ℤ x) (back ∙ c.dual.ensures.dual));
      none = λ h. absurd (⊎_elim (λ no. both_ways _ no name) (λ ne. ne (sym c.label.ensures.label ∙ inner)) h);
      others = λ b ne. ap (λ (q : Moments). moment_of q (Blossom b)) c.set.ensures ∙ blossom_other s.queue c.args.node b _ here ne;
      edges = ap (λ (q : Moments). q.edges) c.set.ensures;
    }

pub dual-requires : goal.dual-requires
dual-requires c = rw c.requires.sound.shape.arena (outermost_parts c.args.self.now.graph.vertices c.args.self.now.arena.blossoms c.args.node c.requires.outermost).0

pub returns-then-not-is_blossom : goal.returns-then-not-is_blossom
returns-then-not-is_blossom c =
    let unnamed = sym c.is_blossom.ensures.blossom ∙ c.if-not-is_blossom.true in
    record { frame = refl; sound = c.requires.sound; entered = λ named. absurd (both_ways _ unnamed named); none = λ h. refl; others = λ b ne. refl; edges = refl }

pub returns-else-eq : goal.returns-else-eq
returns-else-eq c =
    let other : c.label.result ≢ Inner = search rules in
    record { frame = refl; sound = c.requires.sound; entered = λ named is lab. absurd (other (c.label.ensures.label ∙ lab)); none = λ h. refl; others = λ b ne. refl; edges = refl }
