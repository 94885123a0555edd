use Rattle.alt_forest.proofs.Common.{◌≡◌, ◌∙◌, ℕ, ℤ, ◌+ℤ◌, sym, ap, subst, rules, to_z, of_z, w64, gain, dual_at, state_of}
use Rattle.alt_forest.specs.declared.search.Search.{Search}
use Rattle.dual_change.specs.Changes.{IsWithin, StaysInRange}
use Rattle.dual_change.proofs.Raised.{raised_low, raised_range, raised_state, raised_sound}
use Rattle.dual_change.proofs.raise.raise_trees.Goals as goal

pub advance-requires-clause-in_range : goal.advance-requires-clause-in_range
advance-requires-clause-in_range c =
    let s : Search = c.args.search.now in let d : to_z w64 (of_z w64 c.args.d) ≡ c.args.d = search rules in
    raised_range s (to_z w64 (of_z w64 c.args.d)) c.requires.sound.shape c.requires.listed (subst (StaysInRange (state_of s)) (sym d) c.requires.in_range)

pub advance-requires-clause-not_below : goal.advance-requires-clause-not_below
advance-requires-clause-not_below c =
    let s : Search = c.args.search.now in let d : to_z w64 (of_z w64 c.args.d) ≡ c.args.d = search rules in
    raised_low s (to_z w64 (of_z w64 c.args.d)) c.requires.sound.shape c.requires.sound c.requires.listed (subst (IsWithin (state_of s)) (sym d) c.requires.within)

pub returns-clause-state : goal.returns-clause-state
returns-clause-state c =
    let s : Search = c.args.search.now in let d : to_z w64 (of_z w64 c.args.d) ≡ c.args.d = search rules in
    let each : (a : ℕ) → dual_at c.advance.new.self.duals a ≡ dual_at s.arena.duals a +ℤ gain s.arena c.args.d a = λ a.
    c.advance.ensures.duals a ∙ ap (λ (x : ℤ). dual_at s.arena.duals a +ℤ gain s.arena x a) d in
    raised_state s c.args.d c.requires.sound.shape c.requires.listed c.advance.new.self each
    c.advance.ensures.frame

pub returns-clause-sound : goal.returns-clause-sound
returns-clause-sound c =
    let s : Search = c.args.search.now in let d : to_z w64 (of_z w64 c.args.d) ≡ c.args.d = search rules in
    let each : (a : ℕ) → dual_at c.advance.new.self.duals a ≡ dual_at s.arena.duals a +ℤ gain s.arena c.args.d a = λ a.
    c.advance.ensures.duals a ∙ ap (λ (x : ℤ). dual_at s.arena.duals a +ℤ gain s.arena x a) d in
    raised_sound s c.args.d c.requires.sound.shape c.requires.listed c.advance.new.self each
    c.advance.ensures.frame c.advance.ensures.is_family c.requires.sound c.requires.all_rooted c.requires.within
