use Rattle.certificates.proofs.Common.{◌≡◌, ℤ, List, length, Option, Some, All, IfSome, sym, subst, arith, EDGE_LIMIT, Network, vertices, WalkLine, IsUpTo, IsWalkWithin, up_to-more}
use Rattle.cert_check.proofs.ListLemmas.{passed}
use Rattle.cert_check.proofs.claims.walk_of.Goals as goal

is_within : (i : Network) (w : WalkLine) (walk : Option WalkLine) → walk ≡ Some w → IfSome walk (IsWalkWithin (vertices i) (length i.edges))
    → IsWalkWithin (vertices i) (length i.edges) w
is_within i w walk is within = subst (λ (o : Option WalkLine). IfSome o (IsWalkWithin (vertices i) (length i.edges))) is within

pub natural-requires : goal.natural-requires
natural-requires c =
    let h = passed (vertices c.args.instance.now) _ (is_within c.args.instance.now c.in-Some.w _ c.in-Some.is c.requires).0 (omega (arith, c.vertices.ensures.network.few_vertices)) in
    record { low = h.low; high = h.high }

pub edges_of-requires : goal.edges_of-requires
edges_of-requires c = subst (λ (zs : List ℤ). All (IsUpTo EDGE_LIMIT) zs) (sym c.as_slice.ensures)
    (up_to-more _ EDGE_LIMIT c.in-Some.w.edges c.vertices.ensures.network.few_edges (is_within c.args.instance.now c.in-Some.w _ c.in-Some.is c.requires).1)
