use Rattle.certificates.proofs.Common.{ℕ, List, length, All, sym, subst, CountLine, AscendsBy, body_of, edges_ascend, IsCountWithin, counts-in, walk-in}
use Rattle.cert_check.proofs.claims.answer_of.Goals as goal

pub counts_of-requires-clause-in_range : goal.counts_of-requires-clause-in_range
counts_of-requires-clause-in_range c =
    let d = c.args.document.now in
    let within : All (IsCountWithin (length c.args.instance.now.edges)) d.counts = counts-in c.args.kind c.args.instance.now d c.requires in
    subst (λ (xs : List CountLine). All (IsCountWithin c.edges.result) xs) (sym c.as_slice.ensures) (subst (λ (m : ℕ). All (IsCountWithin m) d.counts) (sym c.edges.ensures.count) within)

pub counts_of-requires-clause-ascending : goal.counts_of-requires-clause-ascending
counts_of-requires-clause-ascending c =
    subst (λ (xs : List CountLine). AscendsBy (λ x. x.edge) xs) (sym c.as_slice.ensures) (edges_ascend (body_of c.args.document.now) c.args.document.now.form.ordered)

pub walk_of-requires : goal.walk_of-requires
walk_of-requires c = walk-in c.args.kind c.args.instance.now c.args.document.now c.requires
