use Rattle.mb_problem.proofs.Common.{◌≡◌, ◌-◌, ◌*◌, ◌/◌, true, false, sym, ◌∙◌, length, ap, arith, ℕ, is_loop, plain, value_of}
use Rattle.gadget_match.specs.Copied.{pairs_between}
use Rattle.gadget_match.proofs.BuildLemmas.{loop-pairs, link-pairs}
use Rattle.gadget_match.proofs.copying.add_pairs.Goals as goal

pub add_clique-requires-clause-room : goal.add_clique-requires-clause-room
add_clique-requires-clause-room c =
    let i = c.args.instance.now in
    let e = c.args.edge.now in
    let loop : is_loop (plain e) ≡ true = sym c.eq.ensures ∙ c.if-eq.true in
    let m : c.copies_of-first.result.1 ≡ value_of i e.u = c.copies_of-first.ensures.count in
    let size : length (pairs_between i e) ≡ c.copies_of-first.result.1 * (c.copies_of-first.result.1 - 1) / 2 = loop-pairs i e loop ∙ ap (λ (x : ℕ). x * (x - 1) / 2) (sym m) in
    omega (arith, size, c.requires.room)

pub add_rectangle-requires-clause-room : goal.add_rectangle-requires-clause-room
add_rectangle-requires-clause-room c =
    let i = c.args.instance.now in
    let e = c.args.edge.now in
    let link : is_loop (plain e) ≡ false = sym c.eq.ensures ∙ c.if-eq.false in
    let m : c.copies_of-first.result.1 ≡ value_of i e.u = c.copies_of-first.ensures.count in
    let n : c.copies_of-second.result.1 ≡ value_of i e.v = c.copies_of-second.ensures.count in
    let size : length (pairs_between i e) ≡ c.copies_of-first.result.1 * c.copies_of-second.result.1 = link-pairs i e link
    ∙ ap (λ (x : ℕ). x * value_of i e.v) (sym m) ∙ ap (λ (x : ℕ). c.copies_of-first.result.1 * x) (sym n) in
    omega (arith, size, c.requires.room)
