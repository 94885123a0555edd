-- What even paths and a border prove is true: the answer is best, and the sets that the document states are the right ones.
use Rattle.mb_problem.proofs.Common.{◌≡◌, ℕ, ◌<◌, ◌≤◌, pos, ◌≤ℤ◌, true, List, [], length, get_or, Option, None, Some, MatchOption, nat_abs, refl, sym, ap}
use Rattle.mb_problem.proofs.Common.{◌∙◌, subst, arith, ints, get_or-map, length-map, All-get_or, IsGraph, holds, IsVertexSet, holds_place, IsEvenPath, HaveEvenPaths, IsDecomposed}
use Rattle.mb_problem.proofs.Common.{unweighted, PathsDecompose, LoopsMatterNot, edges_used, IsMatched, IsGreatest, IsMissable, IsOuterSet, proof_of, Network, IsNetwork, vertices, graph_of}
use Rattle.mb_problem.proofs.Common.{plain_graph, IsFeasible, IsMatching, IsBest, weight_of, IsMissedBySome, AreMissed, BorderMissed, edges-count, network-graph, only-gallai}
use Rattle.mb_problem.specs.declared.kind.Kind.{Kind}
use Rattle.mb_problem.specs.declared.answer.Answer.TheVariants.{Counts, Walk, Nothing}
use Rattle.mb_problem.specs.declared.kind.Kind.TheVariants.{Gallai}
use Rattle.mb_problem.specs.declared.kind.BestProof.TheVariants.{OuterPaths}
use Rattle.mb_problem.specs.declared.answer.Answer.{Answer}
use Rattle.doc_format.specs.declared.document.Document.{Document}
use Rattle.doc_format.specs.declared.part.MemberLine.{MemberLine}
use Rattle.doc_format.specs.declared.part.PathLine.{PathLine}
use Rattle.doc_format.specs.declared.status.DocStatus.TheVariants.{Optimal}
use Rattle.doc_format.specs.Reading.{body_of}
use Rattle.doc_format.proofs.PartLaws.{outer_ascends}
use Rattle.certificates.specs.Claims.{numbers, members_of, stated_counts, path_starts}
use Rattle.certificates.specs.Certificates.{HasFeasibleAnswer, HasStatedWeight, IsStatedPath, HavePathForm}
use Rattle.certificates.specs.Within.{AreWithin}
use Rattle.certificates.specs.Proved.{ProvesByPaths, StatesTruthBy}
use Rattle.certificates.proofs.BarrierLemmas.{vertex_set}
use Rattle.certificates.proofs.WithinLemmas.{outer-in}

-- ---- matchings of an instance are those of its graph

pub matched-of : (i : Network) (counts : List ℕ) → IsMatching i counts → IsMatched (graph_of i) counts
matched-of i counts m = record { one_each = m.one_each ∙ sym (edges-count i); at_most_once = m.at_most_once; degrees = m.degrees }

matching-of : (i : Network) (counts : List ℕ) → IsMatched (graph_of i) counts → IsMatching i counts
matching-of i counts m = record { one_each = m.one_each ∙ edges-count i; at_most_once = m.at_most_once; degrees = m.degrees }

none_greater : (i : Network) (counts : List ℕ) (other : Answer) → IsGreatest (graph_of i) counts → IsFeasible Gallai i other →
    weight_of Gallai i other ≤ℤ weight_of Gallai i (Counts counts)
none_greater i counts (Counts others) greatest allowed =
    let most : edges_used (graph_of i) others ≤ edges_used (graph_of i) counts = greatest.most others (matched-of i others allowed) in
    omega (arith, ints)
none_greater i counts (Walk start edges) greatest allowed = absurd allowed
none_greater i counts Nothing greatest allowed = absurd allowed

best-of_greatest : (i : Network) (counts : List ℕ) → IsGreatest (graph_of i) counts → IsBest Gallai i (Counts counts)
best-of_greatest i counts greatest = record { feasible = matching-of i counts greatest.matched; best = λ other allowed. none_greater i counts other greatest allowed }

greatest-of_best : (i : Network) (counts : List ℕ) → IsBest Gallai i (Counts counts) → IsGreatest (graph_of i) counts
greatest-of_best i counts b = record {
  matched = matched-of i counts b.feasible;
  most = λ other m.
      (let order : pos (edges_used (graph_of i) other) ≤ℤ pos (edges_used (graph_of i) counts) = b.best (Counts other) (matching-of i other m) in omega (arith, ints));
}

missed-of : (i : Network) (v : ℕ) → IsMissable (graph_of i) v → IsMissedBySome i v
missed-of i v m = record { low = m.low; high = m.high; counts = m.counts; greatest = best-of_greatest i m.counts m.greatest; missed = m.missed }

missable-of : (i : Network) (v : ℕ) → IsMissedBySome i v → IsMissable (graph_of i) v
missable-of i v m = record { low = m.low; high = m.high; counts = m.counts; greatest = greatest-of_best i m.counts m.greatest; missed = m.missed }

pub missed-outer : (i : Network) (set : List ℕ) → IsOuterSet (graph_of i) set → AreMissed i set
missed-outer i set outer v = ((λ h. missed-of i v ((outer v).0 h)), (λ m. (outer v).1 (missable-of i v m)))

-- ---- the lines of a document

-- a fact about the one line of a letter gives the line
line-there : {A : Type 0} (P : A → Type 0) (o : Option A) → MatchOption o ⊥ P → (x : A) × (o ≡ Some x) × P x
line-there P None h = absurd h
line-there P (Some x) h = (x, refl, h)

-- the members of the d line are a set of vertices
pub outer-set : (kind : Kind) (i : Network) (d : Document) (o : MemberLine) → AreWithin kind i d → d.outer ≡ Some o → IsVertexSet (vertices i) (numbers o.members)
outer-set kind i d o within is = vertex_set (vertices i) o.members (outer_ascends (body_of d) d.form.formed o is) (rw is at (outer-in kind i d within))

-- each vertex that has an r line has its path
paths-from : (i : Network) (d : Document) → HavePathForm i d → (v : ℕ) → holds (path_starts d) v ≡ true → (es : List ℕ) × IsEvenPath (graph_of i) (stated_counts i d) v es
paths-from i d have v h =
    let none : PathLine = record { line = 0; vertex = pos 0; edges = [] } in
    let place = holds_place (path_starts d) v h in
    let k = place.0 in
    let long : length (path_starts d) ≡ length d.paths = length-map d.paths (λ (r : PathLine). nat_abs r.vertex) in
    let below : k < length d.paths = omega (arith, place.1) in
    let r : PathLine = get_or d.paths k none in
    let start : nat_abs r.vertex ≡ v = sym (get_or-map (λ (r : PathLine). nat_abs r.vertex) d.paths k none 0 below) ∙ place.2 in
    let stated : IsStatedPath i d r = All-get_or (IsStatedPath i d) d.paths k none below have in
    (numbers r.edges, subst (λ (w : ℕ). IsEvenPath (graph_of i) (stated_counts i d) w (numbers r.edges)) start stated.path)

-- ---- what they prove

module _ (paths_decompose : PathsDecompose) (loops_matter_not : LoopsMatterNot) where
  decomposition-true : (i : Network) (counts set border : List ℕ) → IsNetwork i → IsMatching i counts → IsVertexSet (vertices i) set → HaveEvenPaths (graph_of i) counts set →
      IsDecomposed (unweighted (plain_graph i)) (edges_used (graph_of i) counts) set border → IsBest Gallai i (Counts counts) × AreMissed i set × BorderMissed i border
  decomposition-true i counts set border ok matching within have decomposed =
      let g = graph_of i in
      let graph : IsGraph g = network-graph i ok in
      let whole : IsDecomposed g (edges_used g counts) set border = (loops_matter_not g (edges_used g counts) set border graph).1 decomposed in
      let both = paths_decompose g counts set border graph (matched-of i counts matching) within have whole in
      let missed : AreMissed i set = missed-outer i set both.1 in
      (best-of_greatest i counts both.0, missed, (set, missed, whole.is_border))

  gallai-true : (i : Network) (d : Document) → IsNetwork i → AreWithin Gallai i d → HasFeasibleAnswer Gallai i d → HasStatedWeight Gallai i d → ProvesByPaths Gallai i d →
      StatesTruthBy Optimal Gallai i d
  gallai-true i d ok within feasible weighs p =
      let counts = stated_counts i d in
      let o = line-there (λ line. (v : ℕ) → holds (numbers line.members) v ≡ true → holds (path_starts d) v ≡ true) d.outer p.all in
      let u = line-there (λ line. IsDecomposed (unweighted (plain_graph i)) (nat_abs d.weight) (members_of d.outer) (numbers line.members)) d.barrier p.decomposed in
      let set = numbers o.0.members in
      let border = numbers u.0.members in
      let members : members_of d.outer ≡ set = ap members_of o.1 in
      let size : nat_abs d.weight ≡ edges_used (graph_of i) counts = ap nat_abs (sym weighs) in
      let have : HaveEvenPaths (graph_of i) counts set = λ v h. paths-from i d p.paths v (o.2 v h) in
      let decomposed : IsDecomposed (unweighted (plain_graph i)) (edges_used (graph_of i) counts) set border =
      subst (λ (s : List ℕ). IsDecomposed (unweighted (plain_graph i)) (edges_used (graph_of i) counts) s border) members
      (subst (λ (n : ℕ). IsDecomposed (unweighted (plain_graph i)) n (members_of d.outer) border) size u.2) in
      let true_of = decomposition-true i counts set border ok feasible (outer-set Gallai i d o.0 within o.1) have decomposed in (
        true_of.0,
        weighs,
        (
          subst (λ (l : Option MemberLine). MatchOption l ⊥ (λ line. AreMissed i (numbers line.members))) (sym o.1) true_of.1,
          subst (λ (l : Option MemberLine). MatchOption l ⊥ (λ line. BorderMissed i (numbers line.members))) (sym u.1) true_of.2,
        ),
      )

  pub best-by_paths : (kind : Kind) (i : Network) (d : Document) → proof_of kind ≡ OuterPaths → IsNetwork i → AreWithin kind i d → HasFeasibleAnswer kind i d →
      HasStatedWeight kind i d →
      ProvesByPaths kind i d → StatesTruthBy Optimal kind i d
  best-by_paths kind i d is ok =
      subst (λ (k : Kind). AreWithin k i d → HasFeasibleAnswer k i d → HasStatedWeight k i d → ProvesByPaths k i d → StatesTruthBy Optimal k i d) (only-gallai kind is)
      (gallai-true i d ok)
