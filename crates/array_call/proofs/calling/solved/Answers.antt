use Rattle.certificates.proofs.Common.{ℕ, length, All, sym, subst, ◌∙◌, All-weaker, Network, tabled-length, IsCountWithin, counts-in, are-within}
use Rattle.array_call.specs.Arrays.{Arrays, arrays_of, edge_count, edge_at, network_of}
use Rattle.array_call.specs.Sheets.{IsCountOn}
use Rattle.array_call.proofs.Sheets.{on-edges}
use Rattle.array_call.proofs.Briefs.{LaysSettled, lays-settled}
use Rattle.array_call.proofs.calling.solved.Goals as goal

pub numbers_of-requires : goal.numbers_of-requires
numbers_of-requires c =
    let a : Arrays = arrays_of c.args.arrays.now in
    let kind = c.args.kind in
    let i : Network = network_of kind a in
    let d = c.args.document.now in
    let e : LaysSettled c.args.detail kind i (edge_count a) d = lays-settled c.args.detail kind i (edge_count a) d c.requires.settles in
    let within : All (IsCountWithin (length i.edges)) e.whole.counts = counts-in kind i e.whole (are-within kind i e.whole e.settles.proved.in_range) in
    let here : All (IsCountWithin (length i.edges)) d.counts = subst (All (IsCountWithin (length i.edges))) (sym e.counts) within in
    All-weaker (IsCountWithin (edge_count a)) (IsCountOn (edge_count a)) (λ x h. on-edges (edge_count a) x h) d.counts
    (subst (λ (m : ℕ). All (IsCountWithin m) d.counts) (tabled-length (edge_at a) (edge_count a)) here)

pub returns : goal.returns
returns c =
    let a : Arrays = arrays_of c.args.arrays.now in
    let kind = c.args.kind in
    let e : LaysSettled c.args.detail kind (network_of kind a) (edge_count a) c.args.document.now =
    lays-settled c.args.detail kind (network_of kind a) (edge_count a) c.args.document.now c.requires.settles in
    (e.whole, c.requires.answerable, e.settles, c.in_ok-numbers.ensures ∙ e.numbers)
