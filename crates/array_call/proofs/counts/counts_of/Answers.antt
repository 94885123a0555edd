use Rattle.certificates.proofs.Common.{◌≡◌, ℕ, ◌+◌, ◌-◌, ◌<◌, pos, ℤ, ◌≤ℤ◌, List, length, drop, get_or, nat_abs, refl, ap, ◌∙◌, arith, ints, All-get_or}
use Rattle.certificates.proofs.Common.{CountLine, count_of, length-set}
use Rattle.cert_check.proofs.CountLemmas.{from_one as next-from_one}
use Rattle.array_call.specs.Sheets.{IsCountOn}
use Rattle.array_call.proofs.CountLines.{count-before, all-counts}
use Rattle.array_call.proofs.counts.counts_of.Goals as goal

pub loop-k-preserved : goal.loop-k-preserved
loop-k-preserved c =
    let xs : List CountLine = c.args.lines.now in
    let k = c.loop-k.k in
    let v : List ℤ = c.loop-k.counts.items in
    let d : CountLine = record { line = 0; edge = pos 0; count = pos 0 } in
    let j = length xs - 1 - k in
    let more : k < length xs = c.loop-k-test.true in
    let below : j < length xs = omega (arith, more) in
    let x : CountLine = get_or xs j d in
    let within : IsCountOn c.args.m x = All-get_or (IsCountOn c.args.m) xs j d below c.requires in
    let low : pos 1 ≤ℤ x.edge = within.0.low in
    let high : x.edge ≤ℤ pos c.args.m = within.0.high in
    let p = nat_abs x.edge - 1 in
    let place : x.edge ≡ pos (p + 1) = next-from_one x.edge low in
    let size : length v ≡ c.args.m = c.loop-k.invariant.size in
    let inside : p < length v = omega (arith, ints, place, high, size) in
    let next : length xs - k ≡ j + 1 = omega (arith, more) in
    let last : j ≡ length xs - (k + 1) = omega (arith, more) in
    let step = count-before xs j p v d x below refl place inside
    (λ e (here : e < length v). c.loop-k.invariant.each e (omega (arith, here, size)) ∙ ap (λ (n : ℕ). pos (count_of (drop n xs) (e + 1))) next) in
    record {
      size = ap length c.put.ensures ∙ length-set v p (pos (nat_abs x.count)) ∙ size;
      each = λ e here.
          ap (λ (zs : List ℤ). get_or zs e (pos 0)) c.put.ensures
          ∙ step e (omega (arith, here, size))
          ∙ ap (λ (n : ℕ). pos (count_of (drop n xs) (e + 1))) last;
    }

pub returns : goal.returns
returns c =
    let xs : List CountLine = c.args.lines.now in
    let all : length xs - c.loop-k.k ≡ 0 = omega (arith, c.loop-k-test.false) in
    all-counts xs c.args.m c.loop-k.counts.items c.loop-k.invariant.size
    (λ e inside. c.loop-k.invariant.each e inside ∙ ap (λ (n : ℕ). pos (count_of (drop n xs) (e + 1))) all)
