use Rattle.graph_theory.proofs.Common.{◌≡◌, ◌∙◌, ℕ, ℤ, pos, List, Option, Some, sym, subst, arith, rules, get_or_read, to_z, of_z, w64}
use Rattle.search_heap.specs.Slots.{IsLeastSlot}
use Rattle.search_heap.specs.Rising.{end_at, moments_of}
use Rattle.search_heap.proofs.Filings.{found_is_least}
use Rattle.search_heap.proofs.buckets.Buckets.least.Goals as goal

pub returns-clause-least : goal.returns-clause-least
returns-clause-least c =
    let b = c.advance.new.self in let slot : ℕ = c.in_ok-slot.slot in
    let kept : to_z w64 (of_z w64 c.index.result.now) ≡ c.index.result.now = search rules in
    let read : c.index.result.now ≡ end_at b.ends.items 0 = get_or_read b.ends.items 0 c.index.result.now (omega (arith, c.advance.ensures.filed.ends.size)) c.index.ensures (pos 0) in
    subst (λ (z : ℤ). IsLeastSlot (moments_of c.args.self.now) (Some (slot, z))) (sym (kept ∙ read))
    (subst (λ (ms : List (Option ℤ)). IsLeastSlot ms (Some (slot, end_at b.ends.items 0))) c.advance.ensures.moments
    (found_is_least b c.advance.ensures.filed slot c.in_ok-slot.ensures.some))
