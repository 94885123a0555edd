-- Computed documents are short.
use Rattle.certificates.proofs.Common.{◌≡◌, ℕ, ◌+◌, ◌-◌, ◌/◌, ◌*◌, ◌≤◌, pos, false, List, [], ◌++◌, length, map, get_or, All, Option, IfSome, sym, ap}
use Rattle.certificates.proofs.Common.{◌∙◌, subst, arith, length-map, get_or_default, All-weaker, All-from_get_or, GRAPH_VERTEX_LIMIT, Kind}
use Rattle.certificates.proofs.Common.{Answer, Network, IsNetwork, vertices, Document, WalkLine, DualLine, SetLine, Count, Dual, Set, Body, at_most_one, parts_of}
use Rattle.certificates.proofs.Common.{body_of, row_text, part_row, parts_text, document_text, IsCountWithin, IsDualWithin, AreSetLinesWithin, IsWalkWithin}
use Rattle.doc_format.specs.declared.part.Part.TheVariants.{Walk}
use Rattle.mwpm_engine.specs.Solutions.{Solution, IsSolved}
use Rattle.document_lines.specs.Lines.{line_of, walk_line}
use Rattle.document_lines.specs.Sets.{item_total}
use Rattle.solve_kinds.specs.Presented.{Presents}
use Rattle.solve_answers.specs.Stands.{HasFewSteps}
use Rattle.solve_answers.specs.Settled.{byte_limit_of}
use Rattle.solve_answers.proofs.LineSizes.{count-size, dual-size, walk-size, head-size}
use Rattle.solve_kinds.proofs.Presenting.{are-duals}
use Rattle.solve_answers.proofs.Short.{IsShortLine, IsSetShort, lines-size, line-size, sets-size, four-size, short-document}
use Rattle.solve_kinds.proofs.WalkLines.{line-within}
use Rattle.mb_problem.specs.declared.answer.Answer.TheVariants as answers

-- a walk of few steps
pub short-walk : (n m : ℕ) (start : ℕ) (edges : List ℕ) → n ≤ 4096 → m ≤ 65536 → length edges ≤ 2 * m → IsWalkWithin n m (walk_line start edges) →
    length (row_text (part_row (Walk (walk_line start edges)))) ≤ 2800000
short-walk n m start edges few many size within = walk-size n m (walk_line start edges) few many (let same = length-map edges pos in omega (arith, same, size)) within

answer-walk : (i : Network) (answer : Answer) → IsNetwork i → HasFewSteps i answer → IfSome (line_of answer) (IsWalkWithin (vertices i) (length i.edges)) →
    IsShortLine Walk 2800000 (line_of answer)
answer-walk i (answers.Counts counts) network few within = tt
answer-walk i (answers.Walk start edges) network few within = short-walk (vertices i) (length i.edges) start edges network.few_vertices network.few_edges few within
answer-walk i answers.Nothing network few within = tt

pub short-line : (i : Network) (answer : Answer) (line : Option WalkLine) → line ≡ line_of answer → HasFewSteps i answer → IfSome line (λ w. length w.edges ≤ 2 * length i.edges)
short-line i (answers.Counts counts) line is few = rw is tt
short-line i (answers.Walk start edges) line is few = rw is (let same = length-map edges pos in omega (arith, same, few))
short-line i answers.Nothing line is few = rw is tt

-- each line refers to fewer lines than there are vertices
short-sets : (n : ℕ) (lines : List SetLine) → length lines ≤ GRAPH_VERTEX_LIMIT → AreSetLinesWithin n lines → All (IsSetShort n) lines
short-sets n lines few within =
    let none : SetLine = record { line = 0; dual = pos 0; items = [] } in
    All-from_get_or (IsSetShort n) lines none
    (λ k b. (k, omega (arith, b, few), within k (get_or lines k none) b (sym (get_or_default lines k (get_or lines k none) none b))))

few_duals : (kind : Kind) (i : Network) (s : Solution) (d : Document) → IsSolved s → Presents kind i s d → length d.duals ≡ s.graph.vertices
few_duals kind i s d solved p = sym (length-map d.duals (λ (y : DualLine). y.dual)) ∙ (are-duals kind i s d solved p).one_each

-- at most 8,191 sets with 24,575 items
sets-text : (kind : Kind) (i : Network) (s : Solution) (d : Document) → s.graph.vertices ≤ GRAPH_VERTEX_LIMIT → IsSolved s → Presents kind i s d →
    length (parts_text (map Set d.sets)) ≤ 540000
sets-text kind i s d few solved p =
    let n = s.graph.vertices in
    let most : n ≤ 16384 = few in
    let as_many : length d.sets ≡ length s.sets = p.sets.one_each in
    let sets : length s.sets ≤ (n - 1) / 2 = solved.size_limit in
    let items : item_total d.sets ≤ n + length d.sets = p.sets.size_limit in
    let short = short-sets n d.sets (omega (arith, as_many, sets, most)) p.sets.within in
    let text : length (parts_text (map Set d.sets)) ≤ 7 * item_total d.sets + 44 * length d.sets =
    sets-size n d.sets few (omega (arith, items, as_many, sets, most)) short in
    omega (arith, as_many, sets, items, text, most)

pub short-optimal : (kind : Kind) (i : Network) (s : Solution) (d : Document) → IsNetwork i → s.graph.vertices ≤ GRAPH_VERTEX_LIMIT → IsSolved s → Presents kind i s d →
    length (document_text d false) ≤ byte_limit_of kind
short-optimal kind i s d network few solved p =
    let m = length i.edges in
    let n = s.graph.vertices in
    let few_edges : m ≤ 65536 = network.few_edges in
    let few_vertices : n ≤ 16384 = few in
    let few_xs : length d.counts ≤ m = p.states.few_counts in
    let few_ys = few_duals kind i s d solved p in
    let line : IsShortLine Walk 2800000 (line_of p.states.answer) = answer-walk i p.states.answer network p.states.few_steps (line-within kind i p.states.answer network p.states.feasible) in
    let counts : length (parts_text (map Count d.counts)) ≤ 65536 * 44 = lines-size Count 65536 44 d.counts
    (record {
      size_limit = omega arith;
      short = All-weaker (IsCountWithin m) (λ x. length (row_text (part_row (Count x))) ≤ 44)
          (λ x w. count-size m x few_edges w) d.counts p.states.counts_within;
    }) in
    let walk = line-size Walk 2800000 d.walk (subst (IsShortLine Walk 2800000) (sym p.states.walk) line) in
    let duals : length (parts_text (map Dual d.duals)) ≤ 16384 * 44 =
    lines-size Dual 16384 44 d.duals
    (record { size_limit = omega arith; short = All-weaker (IsDualWithin n) (λ y. length (row_text (part_row (Dual y))) ≤ 44) (λ y w. dual-size n y few w) d.duals p.duals_within }) in
    let sets = sets-text kind i s d few solved p in
    let all = four-size (map Count d.counts) (at_most_one Walk d.walk) (map Dual d.duals) (map Set d.sets) in
    let same : length (parts_text (parts_of (body_of d))) ≡ length (parts_text (map Count d.counts ++ (at_most_one Walk d.walk ++ (map Dual d.duals ++ (map Set d.sets ++ []))))) =
    ap (λ (b : Body). length (parts_text (parts_of b))) p.only in
    short-document kind d (rw (p.states.status, p.states.kind_is) (head-size kind d.weight p.states.number)) (omega (arith, same, all, counts, walk, duals, sets))
