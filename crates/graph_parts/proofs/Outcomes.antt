-- The two outcomes of the search for a join, where the graph is that of an instance.
use Rattle.mb_problem.proofs.Common.{◌≡◌, ℕ, ◌+◌, ◌≤◌, Bool, true, ap, ◌∙◌, subst, List, [], length, None, Some, Multigraph, holds, IsComponent, Network, IsNetwork}
use Rattle.mb_problem.proofs.Common.{graph_of, vertices, odd_at, IsJoinOf, ListsJoin, network-graph, odd_at-bit}
use Rattle.mb_problem.specs.declared.answer.Parity.{Parity}
use Rattle.graph_parts.specs.Marks.{is_marked, ListsMarked}
use Rattle.graph_parts.specs.Forests.{IsLeastTogether}
use Rattle.graph_parts.specs.Flags.{IsBalanced, IsFirstMarked}
use Rattle.graph_parts.specs.OddParts.{is_terminal, IsFirstOddPart, IsOutcome, IsJoinOrOdd}
use Rattle.graph_parts.specs.declared.joins.JoinOrOdd.{JoinOrOdd}
use Rattle.graph_parts.specs.declared.joins.JoinOrOdd.TheVariants.{Join, OddSet}
use Rattle.graph_parts.proofs.FlagLemmas.{one_if}
use Rattle.graph_parts.proofs.PartLemmas.{first-odd}
use Rattle.graph_parts.proofs.JoinLemmas.{balanced-flags, taken-join, part-excludes}

-- flags were at the vertices of the parity, and are at the least vertices of components
pub record IsSettled (parity : Parity) (i : Network) (g : Multigraph) (first flags taken : List Bool) : Type 0 where
  pub graph : g ≡ graph_of i
  pub network : IsNetwork i
  pub first_are : (v : ℕ) → 1 ≤ v → v ≤ vertices i → is_marked first v ≡ is_terminal parity i v
  pub balanced : IsBalanced g (λ v. one_if (is_marked first v)) taken flags
  pub least : (v : ℕ) → is_marked flags v ≡ true → IsLeastTogether g [] v

balanced-of : (parity : Parity) (i : Network) (g : Multigraph) (first flags taken : List Bool) → IsSettled parity i g first flags taken
    → IsBalanced (graph_of i) (odd_at parity i) taken flags
balanced-of parity i g first flags taken is =
    let B : Multigraph → Type 0 = λ h. IsBalanced h (λ v. one_if (is_marked first v)) taken flags in
    balanced-flags (graph_of i) (odd_at parity i) taken first flags (odd_at-bit parity i) is.first_are (subst B is.graph is.balanced)

pub join-outcome : (parity : Parity) (i : Network) (g : Multigraph) (first flags taken : List Bool) (edges : List ℕ) → IsSettled parity i g first flags taken → length taken
    ≡ length g.edges + 1 → IsFirstMarked flags None → ListsMarked taken edges → ListsJoin i (odd_at parity i) edges
join-outcome parity i g first flags taken edges is size none lists = taken-join i (odd_at parity i) taken flags edges (size ∙ ap (λ (h : Multigraph). length h.edges + 1) is.graph) lists
    (balanced-of parity i g first flags taken is) none

pub part-outcome : (parity : Parity) (i : Network) (g : Multigraph) (first flags taken : List Bool) (part : List ℕ) (root : ℕ) → IsSettled parity i g first flags taken
    → IsFirstMarked flags (Some root) → IsComponent g [] part → holds part root ≡ true → IsFirstOddPart (graph_of i) (is_terminal parity i) part
    × ((counts : List ℕ) → IsJoinOf parity i counts → ⊥)
part-outcome parity i g first flags taken part root is marked component here =
    let L : Multigraph → Type 0 = λ h. (v : ℕ) → is_marked flags v ≡ true → IsLeastTogether h [] v in
    let C : Multigraph → Type 0 = λ h. IsComponent h [] part in
    let odd = first-odd (graph_of i) (odd_at parity i) taken flags part root (network-graph i is.network) (odd_at-bit parity i) (balanced-of parity i g first flags taken is)
    (subst L is.graph is.least) marked.0 marked.1 (subst C is.graph component) here in
    (odd, λ counts join. part-excludes parity i part counts is.network odd.part join)

pub either-outcome : (parity : Parity) (i : Network) (g : Multigraph) (first flags taken : List Bool) (out : JoinOrOdd) → IsSettled parity i g first flags taken → length taken
    ≡ length g.edges + 1 → IsOutcome g flags taken out → IsJoinOrOdd parity i out
either-outcome parity i g first flags taken (Join join) is size both = join-outcome parity i g first flags taken join.edges is size both.0 both.1
either-outcome parity i g first flags taken (OddSet part) is size both = part-outcome parity i g first flags taken part both.1.0 is both.1.1 both.0 both.1.2
