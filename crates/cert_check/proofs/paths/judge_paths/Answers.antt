use Rattle.certificates.proofs.Common.{◌≡◌, ◌≤◌, ℕ, pos, ◌≤ℤ◌, [], length, get_or, All, Option, None, Some, IfSome, refl, sym, ap, ◌∙◌, subst, arith}
use Rattle.certificates.proofs.Common.{false≢true, ints, get_or_default, All-weaker, All-get_or, GRAPH_VERTEX_LIMIT, edges_used, Kind, OuterPaths, proof_of, are_duals, Network, vertices}
use Rattle.certificates.proofs.Common.{graph_of, only-gallai, Document, MemberLine, PathLine, DocStatus, stated_counts, HasFeasibleAnswer, HasStatedWeight, IsStatedPath, HavePathForm}
use Rattle.certificates.proofs.Common.{HasAllPaths, HasDecomposition, HasBarrierByStatus, IsUpTo, IsPathWithin, ProvesByPaths, StatesTruthBy, up_to-more, best-by_paths, counts-in, outer-in}
use Rattle.certificates.proofs.Common.{paths-in, Bool, List, true, holds, nat_abs, members_of, AreMarks, BestProof}
use Rattle.cert_check.specs.declared.rule.DocRule.TheVariants.{NotFeasible, WeightDiffers, DualMissing, PathForm, PathMissing, NotBarrier}
use Rattle.cert_check.specs.Verdicts.{KeepsBefore, IsFirstPathless, AreDualsBy}
use Rattle.cert_check.proofs.RuleLemmas.{keeps-next, past-duals, past-paths, optimal-all}
use Rattle.cert_check.proofs.VerdictLemmas.{refused}
use Rattle.cert_check.proofs.paths.judge_paths.Goals as goal

module _ (kind : Kind) (i : Network) (d : Document) (is : proof_of kind ≡ OuterPaths) (before : KeepsBefore kind i d DualMissing) where
  to_form : KeepsBefore kind i d PathForm
  to_form = past-duals kind i d (ap are_duals is) before

  to_missing : HavePathForm i d → KeepsBefore kind i d PathMissing
  to_missing paths = keeps-next kind i d PathForm PathMissing refl to_form (λ _. rw is paths)

  to_border : HavePathForm i d → HasAllPaths d → KeepsBefore kind i d NotBarrier
  to_border paths all = past-paths kind i d to_form (rw is paths) (rw is all)

-- a line that is no path as it has to be
not_all : (i : Network) (d : Document) (line : ℕ) → IsFirstPathless i d line → HavePathForm i d → ⊥
not_all i d line f have =
    let none : PathLine = record { line = 0; vertex = pos 0; edges = [] } in
    f.lacks (get_or d.paths f.at none) (get_or_default d.paths f.at none _ f.in_range) (All-get_or (IsStatedPath i d) d.paths f.at none f.in_range have)

-- the stated weight is a number of edges
weight-least : (kind : Kind) (i : Network) (d : Document) → proof_of kind ≡ OuterPaths → HasStatedWeight kind i d → pos 0 ≤ℤ d.weight
weight-least kind i d is =
    subst (λ (k : Kind). HasStatedWeight k i d → pos 0 ≤ℤ d.weight) (only-gallai kind is)
    (λ (weighs : pos (edges_used (graph_of i) (stated_counts i d)) ≡ d.weight). omega (arith, ints))

members_more : (n m : ℕ) (line : Option MemberLine) → n ≤ m → IfSome line (λ u. All (IsUpTo n) u.members) → IfSome line (λ u. All (IsUpTo m) u.members)
members_more n m None more within = tt
members_more n m (Some u) more within = up_to-more n m u.members more within

start-more : (n m k : ℕ) → n ≤ m → (r : PathLine) → IsPathWithin n k r → IsUpTo m r.vertex
start-more n m k more r h = (let low : pos 1 ≤ℤ r.vertex = h.0.low in let high : r.vertex ≤ℤ pos n = h.0.high in record { low = low; high = omega (arith, ints) })

pub stated_of-requires-clause-counts : goal.stated_of-requires-clause-counts
stated_of-requires-clause-counts c = counts-in c.args.kind c.args.instance.now c.args.document.now c.requires.within

pub stated_of-requires-clause-outer : goal.stated_of-requires-clause-outer
stated_of-requires-clause-outer c = outer-in c.args.kind c.args.instance.now c.args.document.now c.requires.within

pub first_pathless-requires-clause-within : goal.first_pathless-requires-clause-within
first_pathless-requires-clause-within c = paths-in c.args.kind c.args.instance.now c.args.document.now c.requires.within

pub returns-in-Some : goal.returns-in-Some
returns-in-Some c =
    let i = c.args.instance.now in
    let d = c.args.document.now in
    let fault : IsFirstPathless i d c.in-Some.line = rw c.in-Some.is at c.in_ok-line.ensures.fault in
    record {
      verdict = ((c.requires.status, (λ have. not_all i d c.in-Some.line fault (rw c.requires.proof at have)), fault), to_form c.args.kind i d c.requires.proof c.requires.before);
      sound = refused _ _;
      duals = refused _ _;
    }

pub have_paths-requires-clause-members : goal.have_paths-requires-clause-members
have_paths-requires-clause-members c =
    let i = c.args.instance.now in
    let few : vertices i ≤ GRAPH_VERTEX_LIMIT = omega (arith, c.stated_of.ensures.network.few_vertices) in
    members_more (vertices i) GRAPH_VERTEX_LIMIT c.args.document.now.outer few (outer-in c.args.kind i c.args.document.now c.requires.within)

pub have_paths-requires-clause-starts : goal.have_paths-requires-clause-starts
have_paths-requires-clause-starts c =
    let i = c.args.instance.now in
    let d = c.args.document.now in
    let n = vertices i in
    let m = length i.edges in
    let few : n ≤ GRAPH_VERTEX_LIMIT = omega (arith, c.stated_of.ensures.network.few_vertices) in
    All-weaker (IsPathWithin n m) (λ r. IsUpTo GRAPH_VERTEX_LIMIT r.vertex) (start-more n GRAPH_VERTEX_LIMIT m few) d.paths (paths-in c.args.kind i d c.requires.within)

pub have_paths-requires-clause-inside : goal.have_paths-requires-clause-inside
have_paths-requires-clause-inside c =
    let d = c.args.document.now in
    All-weaker (IsStatedPath c.args.instance.now d) (λ r. holds (members_of d.outer) (nat_abs r.vertex) ≡ true) (λ r h. h.member) d.paths (c.in_ok-line.ensures.none c.in_default.is)

pub returns-then-not-have_paths : goal.returns-then-not-have_paths
returns-then-not-have_paths c =
    let d = c.args.document.now in
    let paths : HavePathForm c.args.instance.now d = c.in_ok-line.ensures.none c.in_default.is in
    let lacks : HasAllPaths d → ⊥ = λ all. false≢true (sym c.if-not-have_paths.true ∙ c.have_paths.ensures.1 all) in
    record {
      verdict = ((c.requires.status, (λ have. lacks (rw c.requires.proof at have)), refl), to_missing c.args.kind c.args.instance.now d c.requires.proof c.requires.before paths);
      sound = refused _ _;
      duals = refused _ _;
    }

pub has_decomposition-requires-clause-outer : goal.has_decomposition-requires-clause-outer
has_decomposition-requires-clause-outer c =
    subst (λ (marks : List Bool). AreMarks (vertices c.args.instance.now) marks (members_of c.args.document.now.outer)) (sym c.deref.ensures.value) c.in_ok-stated.ensures.stated.outer

pub has_decomposition-requires-clause-weight : goal.has_decomposition-requires-clause-weight
has_decomposition-requires-clause-weight c =
    weight-least c.args.kind c.args.instance.now c.args.document.now c.requires.proof (c.requires.before WeightDiffers (omega arith) c.requires.status)

pub returns-then-not-branch : goal.returns-then-not-branch
returns-then-not-branch c =
    let i = c.args.instance.now in
    let d = c.args.document.now in
    let paths : HavePathForm i d = c.in_ok-line.ensures.none c.in_default.is in
    let all : HasAllPaths d = c.have_paths.ensures.0 c.if-not-have_paths.false in
    let lacks : HasBarrierByStatus d.status c.args.kind i d → ⊥ = λ have.
    (let barrier : HasDecomposition c.args.kind i d = rw c.requires.proof at (subst (λ (s : DocStatus). HasBarrierByStatus s c.args.kind i d) c.requires.status have) in
    false≢true (sym c.if-not-branch.true ∙ c.in_ok-has_decomposition.ensures.1 barrier)) in
    record { verdict = ((lacks, refl), to_border c.args.kind i d c.requires.proof c.requires.before paths all); sound = refused _ _; duals = refused _ _ }

pub returns-clause-verdict : goal.returns-clause-verdict
returns-clause-verdict c =
    let i = c.args.instance.now in
    let d = c.args.document.now in
    let paths : HavePathForm i d = c.in_ok-line.ensures.none c.in_default.is in
    let all : HasAllPaths d = c.have_paths.ensures.0 c.if-not-have_paths.false in
    let border : HasDecomposition c.args.kind i d = c.in_ok-has_decomposition.ensures.0 c.if-not-branch.false in
    optimal-all c.args.kind i d c.requires.status (to_border c.args.kind i d c.requires.proof c.requires.before paths all) (rw c.requires.proof border)

pub returns-clause-duals : goal.returns-clause-duals
returns-clause-duals c = λ _ _. subst (λ (p : BestProof). AreDualsBy p c.args.kind c.args.instance.now c.args.document.now) (sym c.requires.proof) tt

pub returns-clause-sound : goal.returns-clause-sound
returns-clause-sound c =
    let i = c.args.instance.now in
    let d = c.args.document.now in
    let feasible : HasFeasibleAnswer c.args.kind i d = c.requires.before NotFeasible (omega arith) c.requires.status in
    let weighs : HasStatedWeight c.args.kind i d = c.requires.before WeightDiffers (omega arith) c.requires.status in
    let paths : HavePathForm i d = c.in_ok-line.ensures.none c.in_default.is in
    let all : HasAllPaths d = c.have_paths.ensures.0 c.if-not-have_paths.false in
    let border : HasDecomposition c.args.kind i d = c.in_ok-has_decomposition.ensures.0 c.if-not-branch.false in
    let proves : ProvesByPaths c.args.kind i d = record { paths = paths; all = all; decomposed = border } in
    λ _. subst (λ (s : DocStatus). StatesTruthBy s c.args.kind i d) (sym c.requires.status)
    (best-by_paths c.laws.ensures.paths c.laws.ensures.loops c.args.kind i d c.requires.proof c.stated_of.ensures.network c.requires.within feasible weighs proves)

pub first_pathless-requires-clause-network : goal.first_pathless-requires-clause-network
first_pathless-requires-clause-network c = c.stated_of.ensures.network
