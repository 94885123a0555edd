use Rattle.mb_problem.proofs.Common.{◌≡◌, ℕ, ◌+◌, ◌-◌, ◌%◌, ◌<◌, ◌++◌, ◌∷◌, [], ap, ap₂, sym, ◌∙◌, arith, List, length}
use Rattle.mb_problem.proofs.Common.{slice_index, get_or_read, vertices, port_count, odd_at}
use Rattle.mb_problem.specs.Size.{odd_by}
use Rattle.gadget_base.proofs.Common.{tabled-length, tabled-at, tabled-more}
use Rattle.gadget_tjoin.proofs.groups.group_sizes.Goals as goal

pub ports_by-ports-requires : goal.ports_by-ports-requires
ports_by-ports-requires c =
    let k = c.loop-k.k in
    let counts = c.in_ok-counts.ensures in
    let below : k < vertices c.args.instance.now = omega (arith, ap (λ (xs : List ℕ). length xs) c.value_list-value-items.ensures.list, c.loop-k-test.true) in
    omega (arith, get_or_read c.in_ok-counts.counts.items k c.index.result.now (omega (arith, counts.size, below)) c.index.ensures 0, counts.value_limit k below)

pub loop-k-preserved : goal.loop-k-preserved
loop-k-preserved c =
    let i = c.args.instance.now in
    let k = c.loop-k.k in
    let items = c.value_list-value-items in
    let counts = c.in_ok-counts.ensures in
    let list = ap (λ (xs : List ℕ). length xs) items.ensures.list in
    let below : k < vertices i = omega (arith, list, c.loop-k-test.true) in
    let degree = get_or_read c.in_ok-counts.counts.items k c.index.result.now (omega (arith, counts.size, below)) c.index.ensures 0 ∙ counts.each k below in
    let place : k ≡ k + 1 - 1 = omega arith in
    let value = ap (λ (xs : List ℕ). slice_index xs k) items.ensures.list ∙ ap (slice_index i.values) place in
    let ports = c.ports_by-ports.ensures.ports ∙ ap₂ (λ (d v : ℕ). d + (d + odd_by c.args.parity d v) % 2) degree value in
    c.in_ok-push.ensures.items ∙ ap₂ (λ (xs : List ℕ) (x : ℕ). xs ++ x ∷ []) c.loop-k.invariant ports
    ∙ sym (tabled-more (λ j. port_count i (odd_at c.args.parity i) (j + 1)) k)

pub returns : goal.returns
returns c =
    let i = c.args.instance.now in
    let k = c.loop-k.k in
    let count : ℕ → ℕ = λ j. port_count i (odd_at c.args.parity i) (j + 1) in
    let list = ap (λ (xs : List ℕ). length xs) c.value_list-value-items.ensures.list in
    let all : k ≡ vertices i = omega (arith, list, c.loop-k-test.false, c.loop-k.auto.k-end) in
    record {
      size = ap length c.loop-k.invariant ∙ tabled-length count k ∙ all;
      each = λ j b. ap (λ (xs : List ℕ). slice_index xs j) c.loop-k.invariant ∙ tabled-at count k j 0 (omega (arith, b, all));
      network = c.value_list-value-items.ensures.network;
    }
