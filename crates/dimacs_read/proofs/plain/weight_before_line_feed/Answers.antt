use Rattle.graph_theory.proofs.Common.{◌≡◌, ◌-◌, pos, take, drop, length, get_or, rules, arith, ints, subst, sym, to_z, of_z, ◌-ℤ◌, neg_ℤ, common_steps}
use Rattle.std.proofs.Common.{w64}
use Rattle.dimacs_read.specs.Plain.{LeadsWithWeight}
use Rattle.dimacs_read.proofs.PlainLemmas.{first_is, plus_weight, minus_weight}
use Rattle.dimacs_read.proofs.plain.weight_before_line_feed.Goals as goal

pub returns-in_ok-size-in-45-clause-leads : goal.returns-in_ok-size-in-45-clause-leads
returns-in_ok-size-in-45-clause-leads c =
    let bytes = c.args.bytes.now in
    let mark : get_or bytes 0 0 ≡ 45 = grind (arith, common_steps) in
    let is : to_z w64 (of_z w64 (pos 0 -ℤ to_z w64 c.in_ok-size-in-45.size)) ≡ neg_ℤ (pos c.in_ok-size-in-45.size) = search rules in
    subst (λ w. LeadsWithWeight bytes w c.in_ok-size-in-45.rest.now) (sym is)
    (minus_weight bytes (take (length bytes - 1) (drop 1 bytes)) c.in_ok-size-in-45.size c.in_ok-size-in-45.rest.now (first_is bytes 45 c.in-45.len_at_least mark)
    c.in_ok-size-in-45.ensures.leads)

pub returns-in_ok-size-in_default-clause-leads : goal.returns-in_ok-size-in_default-clause-leads
returns-in_ok-size-in_default-clause-leads c =
    let is : to_z w64 c.in_ok-size-in_default.size ≡ pos c.in_ok-size-in_default.size = search rules in
    subst (λ w. LeadsWithWeight c.args.bytes.now w c.in_ok-size-in_default.rest.now) (sym is)
    (plus_weight c.args.bytes.now c.in_ok-size-in_default.size c.in_ok-size-in_default.rest.now c.in_ok-size-in_default.ensures.leads)

pub returns-in_ok-size-in-45-clause-range : goal.returns-in_ok-size-in-45-clause-range
returns-in_ok-size-in-45-clause-range c =
    let is : to_z w64 (of_z w64 (pos 0 -ℤ to_z w64 c.in_ok-size-in-45.size)) ≡ neg_ℤ (pos c.in_ok-size-in-45.size) = search rules in
    (omega (arith, ints, is, c.in_ok-size-in-45.ensures.high), omega (arith, ints, is, c.in_ok-size-in-45.ensures.high))
