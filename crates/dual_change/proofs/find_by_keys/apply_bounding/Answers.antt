use Rattle.alt_forest.proofs.Common.{◌≡◌, ℤ, pos, ◌+ℤ◌, ◌≤ℤ◌, sym, subst, rules, to_z, of_z, w128, NUMBER_LIMIT, state_of}
use Rattle.alt_forest.specs.declared.search.Search.{Search}
use Rattle.dual_change.specs.Changes.{StaysInRange}
use Rattle.dual_change.proofs.Kept.{bounding_later, stale_later}
use Rattle.dual_change.proofs.find_by_keys.apply_bounding.Goals as goal

pub raise-requires-clause-in_range : goal.raise-requires-clause-in_range
raise-requires-clause-in_range g c =
    let s : Search = c.args.search.now in
    let back : to_z w128 (of_z w128 c.args.d) ≡ c.args.d = search rules in
    subst (StaysInRange (state_of s)) (sym back) c.requires.in_range

pub returns-clause-vertex_keys : goal.returns-clause-vertex_keys
returns-clause-vertex_keys g c =
    let s : Search = c.args.search.now in
    let back : to_z w128 (of_z w128 c.args.d) ≡ c.args.d = search rules in
    bounding_later s c.raise.new.search (to_z w128 (of_z w128 c.args.d)) c.requires.sound c.raise.ensures.frame c.raise.ensures.state c.args.bounds.now c.requires.vertex_keys
    (subst (λ (x : ℤ). pos 0 ≤ℤ x) (sym back) c.requires.low) (subst (λ (x : ℤ). (s.clock +ℤ x) ≤ℤ NUMBER_LIMIT) (sym back) c.requires.clock)

pub returns-clause-stale : goal.returns-clause-stale
returns-clause-stale g c =
    let s : Search = c.args.search.now in
    stale_later s c.raise.new.search
    (to_z w128 (of_z w128 c.args.d)) c.requires.sound c.raise.ensures.frame c.raise.ensures.state c.args.bounds.now c.raise.ensures.sound c.requires.vertex_keys
