use Rattle.graph_theory.proofs.Common.{◌≡◌, ◌∙◌, true, false, pos, is_some, sym, arith, ints, rules, get_or_read, to_z, of_z, w64}
use Rattle.search_heap.specs.Rising.{kept_moment, moment_at}
use Rattle.search_heap.proofs.Homes.{listed_home}
use Rattle.search_heap.proofs.Settings.{listed_some, lower_skips, lower_steps}
use Rattle.search_heap.proofs.buckets.Buckets.put_back.Goals.{After-index}
use Rattle.search_heap.proofs.buckets.Buckets.put_back.Goals as goal

read : (c : After-index) → c.index.result.now ≡ kept_moment c.args.self.now c.args.slot
read c = get_or_read c.args.self.now.moments.items c.args.slot c.index.result.now (omega (arith, c.requires.slot, c.requires.lowering.homed.moments)) c.index.ensures (pos 0)

pub returns-then-not-is_listed-clause-lowering : goal.returns-then-not-is_listed-clause-lowering
returns-then-not-is_listed-clause-lowering c =
    let b = c.args.self.now in let w = c.requires.lowering in
    let no : is_some (moment_at b c.args.slot) ≡ false = search rules in
    lower_skips b c.args.last c.args.slot w (λ some is. let e : false ≡ true = sym no ∙ listed_home b w.home w.homed c.args.slot c.requires.slot ∙ some in absurd (cc))

pub returns-then-index-last-clause-lowering : goal.returns-then-index-last-clause-lowering
returns-then-index-last-clause-lowering c =
    let at = read (goal.at.returns-then-index-last-clause-lowering c).After-index in
    let one : to_z w64 (of_z w64 c.index.result.now) ≡ c.index.result.now = search rules in
    let other : to_z w64 (of_z w64 c.args.last) ≡ c.args.last = search rules in
    lower_skips c.args.self.now c.args.last c.args.slot c.requires.lowering (λ some is. absurd (omega (arith, ints, at, is, one, other, c.if-index-last.true)))

pub returns-clause-lowering : goal.returns-clause-lowering
returns-clause-lowering c =
    let b = c.args.self.now in let w = c.requires.lowering in let at = read (goal.at.returns-clause-lowering c).After-index in
    let some : is_some (moment_at b c.args.slot) ≡ true = search rules in
    let one : to_z w64 (of_z w64 c.index.result.now) ≡ c.index.result.now = search rules in
    let other : to_z w64 (of_z w64 c.args.last) ≡ c.args.last = search rules in
    lower_steps b c.shift.new.self c.args.last c.args.slot w c.shift.ensures.frame (omega (arith, ints, at, one, other, c.if-index-last.false))
    (c.shift.ensures.homed w.home w.homed (listed_some b w.home c.args.slot w.homed c.requires.slot some))

pub returns-clause-moments : goal.returns-clause-moments
returns-clause-moments c =
    let b = c.args.self.now in let w = c.requires.lowering in let some : is_some (moment_at b c.args.slot) ≡ true = search rules in
    c.shift.ensures.moments w.home w.homed (listed_some b w.home c.args.slot w.homed c.requires.slot some)
