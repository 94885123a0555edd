use Rattle.graph_theory.proofs.Common.{◌≡◌, ◌∙◌, ◌-◌, ℕ, ℤ, ap, refl, subst, arith, rules, to_z, of_z, w64}
use Rattle.search_heap.specs.declared.buckets.Buckets.{Buckets}
use Rattle.search_heap.specs.Rising.{IsFound, IsSpread, end_at}
use Rattle.search_heap.proofs.Filings.{gathered_found, none_has, refile_starts}
use Rattle.search_heap.proofs.buckets.Buckets.advance.Goals as goal

pub returns-in_default-clause-found : goal.returns-in_default-clause-found
returns-in_default-clause-found c = λ s m is.
    let b = c.args.self.now in
    let none : (x : ℕ) → IsFound b x → ⊥ = search rules in
    absurd (none_has b c.requires none (c.in_default.ensures.none c.requires.home c.requires.homed) s m is)

pub overflow_sub-list : goal.overflow_sub-list
overflow_sub-list c = omega (arith, (c.in-Some.ensures.some c.requires.home c.requires.homed).low)

pub spread-requires-clause-after : goal.spread-requires-clause-after
spread-requires-clause-after c = omega (arith, (c.in-Some.ensures.some c.requires.home c.requires.homed).low)

pub refile-requires : goal.refile-requires
refile-requires c =
    let low = c.in-Some.ensures.some c.requires.home c.requires.homed in let b = c.gather-least.new.self in
    let kept : to_z w64 (of_z w64 c.gather-least.result) ≡ c.gather-least.result = search rules in
    refile_starts b (record b { ends = c.spread.new.ends }) c.in-Some.list c.gather-least.result refl low.low low.high c.gather-least.ensures.gathered
    (subst (λ (z : ℤ). IsSpread b.ends.items c.spread.new.ends.items z (c.in-Some.list - 1)) kept c.spread.ensures)

pub returns-clause-found : goal.returns-clause-found
returns-clause-found c = λ s m is.
    let kept : to_z w64 (of_z w64 c.gather-least.result) ≡ c.gather-least.result = search rules in
    gathered_found c.gather-least.new.self c.refile.new.self c.in-Some.list c.gather-least.result c.gather-least.ensures.gathered (ap (λ (y : Buckets). y.slots) c.refile.ensures.frame)
    c.refile.ensures.moments (ap (λ (y : Buckets). end_at y.ends.items 0) c.refile.ensures.frame ∙ c.spread.ensures.first ∙ kept)
