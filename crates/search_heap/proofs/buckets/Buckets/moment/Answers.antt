use Rattle.graph_theory.proofs.Common.{◌≡◌, ◌∙◌, true, false, is_some, Some, Option, ℤ, pos, ap, sym, arith, rules, get_or_read, to_z, of_z, w64}
use Rattle.search_heap.specs.Rising.{kept_moment, moment_at}
use Rattle.search_heap.proofs.Homes.{moment_of_slot}
use Rattle.search_heap.proofs.Settings.{listed_moment, unlisted_moment}
use Rattle.search_heap.proofs.buckets.Buckets.moment.Goals as goal

pub returns-then-not-is_listed : goal.returns-then-not-is_listed
returns-then-not-is_listed c =
    let b = c.args.self.now in
    let no : is_some (moment_at b c.args.slot) ≡ false = search rules in
    sym (moment_of_slot b c.args.slot c.requires.slot ∙ unlisted_moment b c.args.slot no)

pub returns : goal.returns
returns c =
    let b = c.args.self.now in
    let some : is_some (moment_at b c.args.slot) ≡ true = search rules in
    let at : c.index.result.now ≡ kept_moment b c.args.slot = get_or_read b.moments.items c.args.slot c.index.result.now (omega (arith, c.requires.slot, c.requires.filed.homed.moments))
    c.index.ensures (pos 0) in
    let kept : to_z w64 (of_z w64 c.index.result.now) ≡ c.index.result.now = search rules in
    ap (λ (z : ℤ). let o : Option ℤ = Some z in o) (kept ∙ at) ∙ sym (moment_of_slot b c.args.slot c.requires.slot ∙ listed_moment b c.args.slot some)
