use Rattle.alt_forest.proofs.Common.{◌≡◌, ◌∙◌, ℕ, ℤ, pos, ◌+ℤ◌, ◌≤ℤ◌, NUMBER_LIMIT, Option, Some, ap, ap₂, sym, subst, arith, rules, to_z, of_z, FitsSigned, ints, w64}
use Rattle.alt_forest.proofs.Common.{dual_at, dual_number, Moments, moment_of, IsItem, IsOutermost, HasShape, state_of, outer_range, outermost_parts, blossom_set, blossom_other}
use Rattle.alt_forest.specs.declared.search.Search.{Search}
use Rattle.search_heap.specs.declared.item.Item.TheVariants.{Blossom}
use Rattle.search_keys.specs.declared.bounds.EventBounds.{EventBounds}
use Rattle.search_keys.specs.Bounds.{HasPlaces}
use Rattle.search_keys.proofs.Lowered.{places_with}
use Rattle.search_keys.proofs.bounds.EventBounds.enter_blossom.Goals as goal

item : (s : Search) (b : EventBounds) (a : ℕ) → HasShape s → HasPlaces s.graph b → IsOutermost (state_of s) a → IsItem b.moments (Blossom a)
item s b a h places is = let range = outer_range s a h is in (range.0, omega (arith, range.1, places.nodes))

-- the clock and a dual add up to a number that fits
fits_here : (s : Search) (a : ℕ) (dual : ℤ) → HasShape s → dual ≡ dual_at s.arena.duals a → pos 0 ≤ℤ s.clock → s.clock ≤ℤ NUMBER_LIMIT → FitsSigned w64 (s.clock +ℤ dual)
fits_here s a dual h is low high = let in_range = dual_number s.arena.duals a h.family.duals.in_range in omega (arith, ints, is, low, high, in_range.0, in_range.1)

pub set-requires : goal.set-requires
set-requires c = item c.args.search.now c.args.self.now c.args.node c.requires.sound.shape c.requires.places c.requires.outermost

pub overflow_add-moment : goal.overflow_add-moment
overflow_add-moment c =
    let s = c.args.search.now in let now : to_z w64 (of_z w64 s.clock) ≡ s.clock = search rules in
    let left : to_z w64 (of_z w64 c.dual.result) ≡ c.dual.result = search rules in
    subst (FitsSigned w64) (sym (ap₂ ◌+ℤ◌ now left)) (fits_here s c.args.node c.dual.result c.requires.sound.shape c.dual.ensures.dual c.requires.low c.requires.high)

pub returns-then-eq-clause-entered : goal.returns-then-eq-clause-entered
returns-then-eq-clause-entered c = λ name is lab.
    let s = c.args.search.now in let is = item s c.args.self.now c.args.node c.requires.sound.shape c.requires.places c.requires.outermost in
    let dual : c.dual.result ≡ dual_at s.arena.duals c.args.node = c.dual.ensures.dual in
    let fits = fits_here s c.args.node c.dual.result c.requires.sound.shape dual c.requires.low c.requires.high in
    let back : to_z w64 (of_z w64 (to_z w64 (of_z w64 s.clock) +ℤ to_z w64 (of_z w64 c.dual.result))) ≡ s.clock +ℤ c.dual.result = search rules in
    ap (λ (q : Moments). moment_of q (Blossom c.args.node)) c.set.ensures
    ∙ blossom_set c.args.self.now.moments c.args.node _ is
    ∙ ap (λ (x : ℤ). let o : Option ℤ = Some x in o) (back ∙ ap (λ (x : ℤ). s.clock +ℤ x) dual)

pub returns-then-eq-clause-places : goal.returns-then-eq-clause-places
returns-then-eq-clause-places c = subst (λ (q : Moments). HasPlaces c.args.search.now.graph (record c.args.self.now { moments = q })) (sym c.set.ensures)
    (places_with c.args.search.now.graph c.args.self.now c.args.node _ c.requires.places)

pub dual-requires : goal.dual-requires
dual-requires c = rw c.requires.sound.shape.arena (outermost_parts c.args.search.now.graph.vertices c.args.search.now.arena.blossoms c.args.node c.requires.outermost).0

pub returns-then-eq-clause-others : goal.returns-then-eq-clause-others
returns-then-eq-clause-others c = λ a ne.
    let s = c.args.search.now in let is = item s c.args.self.now c.args.node c.requires.sound.shape c.requires.places c.requires.outermost in
    ap (λ (q : Moments). moment_of q (Blossom a)) c.set.ensures ∙ blossom_other c.args.self.now.moments c.args.node a _ is ne
