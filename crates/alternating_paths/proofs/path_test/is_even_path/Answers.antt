use Rattle.mb_problem.proofs.Common.{◌≡◌, ℕ, ◌≤◌, ◌∙◌, sym, All, length, subst, arith, refl, eq-eqb, eqb-true, IsWalk, walk_end, walk_vertices, AllDiffer, walk-numbers}
use Rattle.mb_problem.proofs.Common.{false≢true, walk-within, Alternates, graph_of, edges-count, network-graph}
use Rattle.alternating_paths.proofs.PathLemmas.{even-path}
use Rattle.alternating_paths.proofs.path_test.is_even_path.Goals as goal

pub alternates-requires : goal.alternates-requires
alternates-requires c =
    let g = graph_of c.args.instance.now in
    let walk : IsWalk g c.args.start c.args.edges.now = c.in-Some.ensures.walk.0 refl in
    let size : length g.edges ≡ length c.args.counts.now = edges-count c.args.instance.now ∙ sym c.requires.one_each in
    subst (λ (m : ℕ). All (λ e. (1 ≤ e) × (e ≤ m)) c.args.edges.now) size (walk-numbers g c.args.start c.args.edges.now walk)

pub overflow_sub-result : goal.overflow_sub-result
overflow_sub-result c =
    let i = c.args.instance.now in
    let walk : IsWalk (graph_of i) c.args.start c.args.edges.now = c.in-Some.ensures.walk.0 refl in
    let range = walk-within (graph_of i) c.args.start c.args.edges.now (network-graph i c.requires.network).ends (c.requires.low, c.requires.high) walk in
    omega (arith, range.0, c.in-Some.ensures.end, c.number.ensures)

pub bounds-degrees-number : goal.bounds-degrees-number
bounds-degrees-number c =
    let i = c.args.instance.now in
    let walk : IsWalk (graph_of i) c.args.start c.args.edges.now = c.in-Some.ensures.walk.0 refl in
    let range = walk-within (graph_of i) c.args.start c.args.edges.now (network-graph i c.requires.network).ends (c.requires.low, c.requires.high) walk in
    omega (arith, range.0, range.1, c.in-Some.ensures.end, c.number.ensures, c.requires.degrees.one_each)

pub returns-then-not-branch : goal.returns-then-not-branch
returns-then-not-branch c = ((λ t. absurd (false≢true t)), (λ path. absurd (false≢true (sym c.if-not-branch.true ∙ c.in_ok-vertices_differ.ensures.1 path.no_vertex_twice))))

pub returns-then-not-alternates : goal.returns-then-not-alternates
returns-then-not-alternates c = ((λ t. absurd (false≢true t)), (λ path. absurd (false≢true (sym c.if-not-alternates.true ∙ c.alternates.ensures.1 path.alternates))))

pub returns : goal.returns
returns c =
    let i = c.args.instance.now in
    let es = c.args.edges.now in
    let walk : IsWalk (graph_of i) c.args.start es = c.in-Some.ensures.walk.0 refl in
    let range = walk-within (graph_of i) c.args.start es (network-graph i c.requires.network).ends (c.requires.low, c.requires.high) walk in
    let end : c.number.result ≡ walk_end (graph_of i) c.args.start es = c.number.ensures ∙ c.in-Some.ensures.end in
    let differ : AllDiffer (walk_vertices (graph_of i) c.args.start es) = c.in_ok-vertices_differ.ensures.0 c.if-not-branch.false in
    let turns : Alternates c.args.counts.now es = c.alternates.ensures.0 c.if-not-alternates.false in
    even-path i c.args.counts.now c.args.degrees.now es c.args.start c.number.result _ walk differ turns c.requires.degrees end (omega (arith, range.0)) (omega (arith, range.1))
    ((λ t. eqb-true _ _ t), (λ none. eq-eqb _ _ none))
