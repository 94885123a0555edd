use Rattle.certificates.proofs.Common.{◌≤◌, ℕ, List, [], length, All, Option, None, Some, IfSome, ap, sym, subst, ◌∙◌, length-map-range_with_len, All-nil, vertices, CountLine}
use Rattle.certificates.proofs.Common.{MemberLine, AscendsBy, body_of, edges_ascend, count_of, members_of, IsUpTo, members-within}
use Rattle.cert_check.proofs.paths.stated_of.Goals as goal

members_in : (n : ℕ) (line : Option MemberLine) → IfSome line (λ u. All (IsUpTo n) u.members) → All (λ v. (1 ≤ v) × (v ≤ n)) (members_of line)
members_in n None within = members-within n [] (All-nil (IsUpTo n))
members_in n (Some u) within = members-within n u.members within

pub counts_of-requires-clause-ascending : goal.counts_of-requires-clause-ascending
counts_of-requires-clause-ascending c =
    subst (λ (xs : List CountLine). AscendsBy (λ x. x.edge) xs) (sym c.as_slice.ensures) (edges_ascend (body_of c.args.document.now) c.args.document.now.form.ordered)

pub degrees_of-requires : goal.degrees_of-requires
degrees_of-requires c = ap length (c.deref.ensures.value ∙ c.in_ok-counts.ensures) ∙ length-map-range_with_len (count_of c.as_slice.result.now) 1 c.edges.result ∙ c.edges.ensures.count

pub marks_of-requires : goal.marks_of-requires
marks_of-requires c = rw (c.deref-2.ensures.value, c.in_ok-members.ensures, c.vertices.ensures.count) (members_in (vertices c.args.instance.now) c.args.document.now.outer c.requires.outer)

pub returns-clause-network : goal.returns-clause-network
returns-clause-network c = c.vertices.ensures.network
