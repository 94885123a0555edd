use Rattle.graph_theory.proofs.Common.{◌≡◌, ◌-◌, take, drop, length, get_or, rules, arith, Some, None, to_z, of_z, common_steps}
use Rattle.std.proofs.Common.{w64}
use Rattle.dimacs_read.specs.Plain.{IsPlainEdge}
use Rattle.dimacs_read.proofs.PlainLemmas.{two_are, edge_line}
use Rattle.dimacs_read.proofs.plain.plain_edge.Goals as goal

pub returns : goal.returns
returns c =
    let bytes = c.args.bytes.now in
    let first : get_or bytes 0 0 ≡ 101 = grind (arith, common_steps) in
    let second : get_or bytes 1 0 ≡ 32 = grind (arith, common_steps) in
    let front = two_are bytes 101 32 c.in-101.len_at_least first second in
    let u = c.in_ok-u.u in
    let v = c.in_ok-v.v in
    let w = c.in_ok-w.w in
    let who : c.args.earlier ≡ Some c.in_ok-header.header = search rules in
    let back : to_z w64 (of_z w64 w) ≡ w = search rules in
    let few : IsPlainEdge (Some c.in_ok-header.header) bytes (record { u = u; v = v; w = w; capacity = None }) c.in_ok-w.rest.now =
    edge_line c.in_ok-header.header bytes (take (length bytes - 2) (drop 2 bytes)) c.in_ok-u.rest.now c.in_ok-v.rest.now c.in_ok-w.rest.now u v w front c.in_ok-u.ensures.leads
    c.in_ok-v.ensures.leads c.in_ok-w.ensures.leads c.in_ok-u.ensures.low c.in_ok-u.ensures.high c.in_ok-v.ensures.low c.in_ok-v.ensures.high c.in_ok-w.ensures.range in
    rw (who, c.new.ensures, c.new-2.ensures, back) few
