-- Documents of greatest matchings, with the vertices that some of them miss, settle an instance.
use Rattle.certificates.proofs.Common.{◌≡◌, ℕ, ◌+◌, ◌*◌, ◌≤◌, pos, true, false, List, [], ◌∷◌, ◌++◌, length, map, get_or, All, Some, nat_abs, refl, sym, ap}
use Rattle.certificates.proofs.Common.{◌∙◌, subst, arith, codes, list_all, IsStrictlyIncreasing, ints, and_from, length-map, All-map, All-weaker, IsNumber, Multigraph, IsGraph, holds}
use Rattle.certificates.proofs.Common.{walk_vertices, all_holds, walk-numbers, vertices-within, vertices-length, IsEvenPath, IsDecomposed, edges_used, PathsDecompose, LoopsMatterNot, Gallai}
use Rattle.certificates.proofs.Common.{Counts, Values, IsFeasible, IsMatching, weight_of, Network, IsNetwork, vertices, graph_of, network-graph, edges-count, ReachesAll, times_each}
use Rattle.certificates.proofs.Common.{times_each-length, Document, CountLine, PathLine, DocStatus, AscendsBy, Body, ascends, parts_of, body_of, row_text, head_row, part_row, parts_text}
use Rattle.certificates.proofs.Common.{document_text, IsStatedPath, HavePathForm, HasAllPaths, HasDecomposition, answer_of, counts_of, numbers, set_of, sets_of, members_of, stated_counts}
use Rattle.certificates.proofs.Common.{path_starts}
use Rattle.certificates.proofs.Common.{IsProved, ProvesOptimal, ProvesByStatus, is_up_to, all_in_range, all_in_range_for, IsUpTo, IsCountWithin, IsPathWithin, AreWithin, proved_true}
use Rattle.certificates.proofs.Common.{in-range}
use Rattle.graph_parts.specs.OddParts.{IsFirstOddPart, is_terminal}
use Rattle.document_lines.specs.Lines.{member_line, ListsAnswer}
use Rattle.document_lines.proofs.Listing.{none-named}
use Rattle.document_lines.proofs.Ascents.{ascends-pos, numbers-pos, map-map, unmap}
use Rattle.solve_answers.specs.Chosen.{StartsFirst, IsFirstMetPart, IsChosen}
use Rattle.solve_answers.specs.Settled.{SettlesBare}
use Rattle.solve_answers.specs.Solved.{HasTrueStatus, HasFitWeights}
use Rattle.solve_answers.specs.declared.limits.TheConstants.{PATHS_BYTE_LIMIT}
use Rattle.solve_answers.proofs.Excluding.{has-line, up_to-pos, few-vertices}
use Rattle.solve_answers.proofs.InRange.{all_up_to, counts_in, paths_in}
use Rattle.solve_answers.proofs.LineSizes.{count-size, members-size, path-size, head-size, few_members}
use Rattle.solve_answers.proofs.SettlingSets.{none_if, short-none}
use Rattle.solve_answers.proofs.SettlingSets.{no-weights}
use Rattle.solve_answers.proofs.Short.{lines-size, line-size, document-size}
use Rattle.solve_answers.proofs.Texts.{size-append}
use Rattle.gallai.specs.declared.found.Decomposition.{Decomposition}
use Rattle.gallai.specs.Decompositions.{IsDecomposition}
use Rattle.gallai.proofs.Greatest.{listed-each, listed-used}
use Rattle.gallai.proofs.Moved.{searched_graph, searched-graph}
use Rattle.graph_parts.proofs.Once.{once-short as few_differ}
use Rattle.solve_kinds.specs.Greatest.{path_line, StatesGreatest}
use Rattle.doc_format.specs.declared.part.Part.TheVariants as part
use Rattle.document_lines.proofs.LineItems.{up_to}

-- a path has fewer edges than there are vertices
path-short : (g : Multigraph) (counts : List ℕ) (v : ℕ) (es : List ℕ) → IsGraph g → (1 ≤ v) × (v ≤ g.vertices) → IsEvenPath g counts v es → length es + 1 ≤ g.vertices
path-short g counts v es graph start path =
    let few = few_differ g.vertices (walk_vertices g v es) path.no_vertex_twice (vertices-within g v es graph.ends start path.walk) in
    omega (arith, few, vertices-length g v es)

-- a matching has no more edges than the instance
pub few-matching : (i : Network) (found : Decomposition) → IsNetwork i → IsDecomposition i found → length found.matching ≤ 65536
few-matching i found network is =
    let few = few_members (length (graph_of i).edges) found.matching (record { ascending = is.ascending; in_range = is.numbers }) in
    let edges = network.few_edges in
    omega (arith, few, edges, edges-count i)

pub small-number : (n : ℕ) → n ≤ 65536 → IsNumber (pos n)
small-number n few = (omega (arith, ints), omega (arith, ints))

-- x lines list the counts of a list of edges
pub listed-as : (i : Network) (counts es : List ℕ) (lines : List CountLine) → counts ≡ times_each (graph_of i) es → ListsAnswer (Counts counts) lines
    → counts_of lines (length i.edges) ≡ times_each (graph_of i) es
listed-as i counts es lines same lists =
    let size : length counts ≡ length i.edges = ap (λ (xs : List ℕ). length xs) same ∙ times_each-length (graph_of i) es ∙ edges-count i in
    ap (counts_of lines) (sym size) ∙ lists ∙ same

-- the starts of the paths ascend
pub starts-ascend : (paths : List (ℕ × List ℕ)) (set : List ℕ) → map (λ q. q.0) paths ≡ set → IsStrictlyIncreasing set → AscendsBy (λ r. r.vertex) (map path_line paths)
starts-ascend paths set starts up =
    let vertices : map (λ (r : PathLine). r.vertex) (map path_line paths) ≡ map pos set =
    map-map (λ (r : PathLine). r.vertex) path_line paths ∙ sym (map-map pos (λ (q : ℕ × List ℕ). q.0) paths) ∙ ap (map pos) starts in
    ap ascends vertices ∙ ascends-pos set up

fit : (i : Network) → HasFitWeights Gallai i
fit i = (no-weights Gallai i refl).0

reached : (i : Network) → ReachesAll Gallai i
reached i answer feasible = tt

module _ (i : Network) (found : Decomposition) (d : Document) (network : IsNetwork i) (p : StatesGreatest i found d) where
  abbrev is : IsDecomposition i found
  is = p.decomposes

  abbrev used : List ℕ
  used = times_each (graph_of i) found.matching

  feasible : IsFeasible Gallai i (answer_of Gallai i d)
  feasible =
      let m = is.greatest.matched in
      subst (IsMatching i) (sym p.lists) (record { one_each = m.one_each ∙ edges-count i; at_most_once = m.at_most_once; degrees = m.degrees })

  weighs : weight_of Gallai i (answer_of Gallai i d) ≡ d.weight
  weighs =
      ap (λ (counts : List ℕ). pos (edges_used (graph_of i) counts)) p.lists
      ∙ ap pos (listed-used (graph_of i) used found.matching is.ascending (listed-each (graph_of i) found.matching is.numbers))
      ∙ sym p.weight_is

  outer_is : d.outer ≡ Some (member_line found.d)
  outer_is = ap (λ (b : Body). b.outer) p.only

  border_is : d.barrier ≡ Some (member_line found.a)
  border_is = ap (λ (b : Body). b.barrier) p.only

  paths_are : d.paths ≡ map path_line found.paths
  paths_are = ap (λ (b : Body). b.paths) p.only

  members : members_of d.outer ≡ found.d
  members = ap members_of outer_is ∙ numbers-pos found.d

  starts : path_starts d ≡ found.d
  starts = ap (map (λ (r : PathLine). nat_abs r.vertex)) paths_are ∙ map-map (λ (r : PathLine). nat_abs r.vertex) path_line found.paths ∙ is.starts

  -- what holds of each member holds of each start of a path
  started : (P : ℕ → Type 0) → All P found.d → All (λ q. P q.0) found.paths
  started P all = unmap P (λ q. q.0) found.paths (subst (All P) (sym is.starts) all)

  stated_one : (q : ℕ × List ℕ) → holds found.d q.0 ≡ true → IsEvenPath (graph_of i) used q.0 q.1 → IsStatedPath i d (path_line q)
  stated_one q there path = record {
    member = ap (λ (ms : List ℕ). holds ms q.0) members ∙ there;
    path = subst (IsEvenPath (graph_of i) (stated_counts i d) q.0) (sym (numbers-pos q.1)) (subst (λ (counts : List ℕ). IsEvenPath (graph_of i) counts q.0 q.1) (sym p.lists) path);
  }

  path_form : HavePathForm i d
  path_form =
      let there = started (λ v. holds found.d v ≡ true) (all_holds (λ v. holds found.d v ≡ true) found.d (λ v h. h)) in
      subst (All (IsStatedPath i d)) (sym paths_are)
      (All-map (IsStatedPath i d) path_line found.paths (λ k e b. stated_one (get_or found.paths k e) (there k e b) (is.paths k e b)))

  all_paths : HasAllPaths d
  all_paths = has-line (λ set. (v : ℕ) → holds set v ≡ true → holds (path_starts d) v ≡ true) found.d d.outer outer_is (λ v h. ap (λ (xs : List ℕ). holds xs v) starts ∙ h)

  decomposition : HasDecomposition Gallai i d
  decomposition =
      let size : nat_abs d.weight ≡ length found.matching = ap nat_abs p.weight_is in
      has-line (IsDecomposed (searched_graph i) (nat_abs d.weight) (members_of d.outer)) found.a d.barrier border_is
      (subst (λ (set : List ℕ). IsDecomposed (searched_graph i) (nat_abs d.weight) set found.a) (sym members)
      (subst (λ (n : ℕ). IsDecomposed (searched_graph i) n found.d found.a) (sym size) is.decomposed))

  proves-greatest : ProvesOptimal Gallai i d
  proves-greatest = record { feasible = feasible; weighs = weighs; best = record { paths = path_form; all = all_paths; decomposed = decomposition } }

  -- the numbers of the lines are in their ranges

  path_within : (q : ℕ × List ℕ) → (1 ≤ q.0) × (q.0 ≤ vertices i) → IsEvenPath (graph_of i) used q.0 q.1 → IsPathWithin (vertices i) (length i.edges) (path_line q)
  path_within q start path =
      let m = length i.edges in
      let edges : All (λ e. (1 ≤ e) × (e ≤ m)) q.1 =
      subst (λ (n : ℕ). All (λ e. (1 ≤ e) × (e ≤ n)) q.1) (edges-count i) (walk-numbers (graph_of i) q.0 q.1 path.walk) in
      (up_to (vertices i) q.0 start, All-map (IsUpTo m) pos q.1 (All-weaker (λ e. (1 ≤ e) × (e ≤ m)) (λ e. IsUpTo m (pos e)) (up_to m) q.1 edges))

  paths_within : All (IsPathWithin (vertices i) (length i.edges)) (map path_line found.paths)
  paths_within =
      let start = started (λ v. (1 ≤ v) × (v ≤ vertices i)) is.outer_set.in_range in
      All-map (IsPathWithin (vertices i) (length i.edges)) path_line found.paths (λ k e b. path_within (get_or found.paths k e) (start k e b) (is.paths k e b))

  within : AreWithin Gallai i d
  within =
      let n = vertices i in
      let m = length i.edges in
      let paths = map part.Even (map path_line found.paths) in
      let last : all_in_range n m n 0 paths ≡ true = paths_in n m n 0 (map path_line found.paths) paths_within in
      let border : all_in_range n m n 0 (part.Barrier (member_line found.a) ∷ paths) ≡ true =
      and_from (list_all (is_up_to n) (map pos found.a)) (all_in_range n m n 0 paths) (all_up_to n (map pos found.a) (up_to-pos n found.a is.border_set)) last in
      let outer : all_in_range n m n 0 (part.Outer (member_line found.d) ∷ part.Barrier (member_line found.a) ∷ paths) ≡ true =
      and_from (list_all (is_up_to n) (map pos found.d)) (all_in_range n m n 0 (part.Barrier (member_line found.a) ∷ paths))
      (all_up_to n (map pos found.d) (up_to-pos n found.d is.outer_set)) border in
      record {
        weight = p.number;
        parts = ap (λ (b : Body). all_in_range_for Gallai i (parts_of b)) p.only
            ∙ counts_in n m n 0 d.counts (part.Outer (member_line found.d) ∷ part.Barrier (member_line found.a) ∷ paths) p.counts_within outer;
      }

  proved-greatest : IsProved Gallai i d
  proved-greatest = record {
    same_kind = p.kind_is;
    in_range = in-range Gallai i d within;
    proves = subst (λ (t : DocStatus). ProvesByStatus t Gallai i d) (sym p.status) proves-greatest;
  }

  chosen-greatest : IsChosen Gallai i d
  chosen-greatest = record {
    walk = λ best. none_if (λ w. StartsFirst Gallai i (nat_abs w.start)) d.walk (ap (λ (b : Body). b.walk) p.only);
    odd = none_if (λ t. IsFirstOddPart (graph_of i) (is_terminal Values i) (numbers t.members)) d.odd (ap (λ (b : Body). b.odd) p.only);
    split = none_if (λ q. IsFirstMetPart (graph_of i) (numbers q.members)) d.split (ap (λ (b : Body). b.split) p.only);
    once = none-named (sets_of d) (ap (λ (b : Body). map set_of b.sets) p.only);
    beside = λ k. absurd (cc);
  }

  -- the text is short: n vertices and n paths of fewer than n edges

  path_size : (q : ℕ × List ℕ) → (1 ≤ q.0) × (q.0 ≤ vertices i) → IsEvenPath (graph_of i) used q.0 q.1 → length (row_text (part_row (part.Even (path_line q)))) ≤ 25000
  path_size q start path =
      let few = path-short (graph_of i) used q.0 q.1 (network-graph i network) start path in
      let size = length-map q.1 pos in
      path-size (vertices i) (length i.edges) (path_line q) network.few_vertices network.few_edges (omega (arith, few, size)) (path_within q start path)

  paths-size : length (parts_text (map part.Even (map path_line found.paths))) ≤ 4096 * 25000
  paths-size =
      let few_vertices : vertices i ≤ 4096 = network.few_vertices in
      let start = started (λ v. (1 ≤ v) × (v ≤ vertices i)) is.outer_set.in_range in
      let many : length (map path_line found.paths) ≡ length found.paths = length-map found.paths path_line in
      let listed : length (map (λ (q : ℕ × List ℕ). q.0) found.paths) ≡ length found.paths = length-map found.paths (λ q. q.0) in
      let each : length (map (λ (q : ℕ × List ℕ). q.0) found.paths) ≡ length found.d = ap (λ (xs : List ℕ). length xs) is.starts in
      let few = few_members (vertices i) found.d is.outer_set in
      lines-size part.Even 4096 25000 (map path_line found.paths)
      (record {
        size_limit = omega (arith, few_vertices, many, listed, each, few);
        short = All-map (λ r. length (row_text (part_row (part.Even r))) ≤ 25000) path_line found.paths (λ k e b. path_size (get_or found.paths k e) (start k e b) (is.paths k e b));
      })

  counts-size : length (parts_text (map part.Count d.counts)) ≤ 65536 * 44
  counts-size =
      let m = length i.edges in
      let few_edges : m ≤ 65536 = network.few_edges in
      let few_xs : length d.counts ≤ m = p.few_counts in
      lines-size part.Count 65536 44 d.counts
      (record {
        size_limit = omega arith;
        short = All-weaker (IsCountWithin m) (λ x. length (row_text (part_row (part.Count x))) ≤ 44) (λ x w. count-size m x few_edges w) d.counts p.counts_within;
      })

  short-greatest : length (document_text d false) ≤ PATHS_BYTE_LIMIT
  short-greatest =
      let few = few-vertices i network in
      let outer_line = part.Outer (member_line found.d) in
      let border_line = part.Barrier (member_line found.a) in
      let paths = map part.Even (map path_line found.paths) in
      let outer = line-size part.Outer 100000 (Some (member_line found.d)) (members-size part.Outer (codes "d") found.d (vertices i) (λ u. refl) refl few is.outer_set) in
      let border = line-size part.Barrier 100000 (Some (member_line found.a)) (members-size part.Barrier (codes "u") found.a (vertices i) (λ u. refl) refl few is.border_set) in
      let first = size-append (map part.Count d.counts) (outer_line ∷ border_line ∷ paths) in
      let second = size-append (outer_line ∷ []) (border_line ∷ paths) in
      let third = size-append (border_line ∷ []) paths in
      let same : length (parts_text (parts_of (body_of d))) ≡ length (parts_text (map part.Count d.counts ++ (outer_line ∷ border_line ∷ paths))) =
      ap (λ (b : Body). length (parts_text (parts_of b))) p.only in
      let head : length (row_text (head_row d.status d.kind d.weight)) ≤ 50 = rw (p.status, p.kind_is) (head-size Gallai d.weight p.number) in
      omega (arith, document-size d, head, same, first, second, third, outer, border, counts-size, paths-size)

  pub settles-greatest : PathsDecompose → LoopsMatterNot → SettlesBare Gallai i d
  settles-greatest decide loops = (
    record {
      proved = proved-greatest;
      truth = proved_true decide loops Gallai i d network (searched-graph i network) (reached i) proved-greatest;
      exact = subst (HasTrueStatus Gallai i) (sym p.status) ((answer_of Gallai i d, feasible), fit i);
      chosen = chosen-greatest;
      short_walk = short-none i d (ap (λ (b : Body). b.walk) p.only);
      size_limit = short-greatest;
    },
    record { duals = ap (λ (b : Body). b.duals) p.only; sets = ap (λ (b : Body). b.sets) p.only },
  )
