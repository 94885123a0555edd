-- How long the text of a computed document is: lines of one letter have a greatest length, those of sets one by the items that they list.
use Rattle.certificates.proofs.Common.{◌≡◌, ℕ, ◌+◌, ◌*◌, ◌≤◌, List, [], ◌∷◌, ◌++◌, length, map, All, Option, None, Some, IfSome, refl, arith, false}
use Rattle.certificates.proofs.Common.{mul-le-mul, length-append, All-nil, All-cons, All-head, All-tail, GRAPH_VERTEX_LIMIT, Kind, BestProof, Duals, LighterBarrier, OuterPaths, proof_of}
use Rattle.certificates.proofs.Common.{Document, Part, Set, SetLine, body_of, row_text, head_row, part_row, parts_text, document_text, IsSetLineWithin}
use Rattle.doc_format.specs.Form.{parts_of, at_most_one}
use Rattle.document_lines.specs.Sets.{item_total}
use Rattle.solve_answers.specs.declared.limits.TheConstants.{DOCUMENT_BYTE_LIMIT, PATHS_BYTE_LIMIT}
use Rattle.solve_answers.specs.Settled.{byte_limit_by, byte_limit_of}
use Rattle.solve_answers.proofs.Texts.{size-append, size-most}
use Rattle.solve_answers.proofs.LineSizes.{letters-size, set-size}

-- lines of at most c bytes, and no more than n of them
pub record AreShort {A : Type 0} (made : A → Part) (n c : ℕ) (lines : List A) : Type 0 where
  pub size_limit : length lines ≤ n
  pub short : All (λ x. length (row_text (part_row (made x))) ≤ c) lines

abbrev pub IsShortLine : {A : Type 0} → (A → Part) → ℕ → Option A → Type 0
IsShortLine made c line = IfSome line (λ x. length (row_text (part_row (made x))) ≤ c)

pub lines-size : {A : Type 0} (made : A → Part) (n c : ℕ) (lines : List A) → AreShort made n c lines → length (parts_text (map made lines)) ≤ n * c
lines-size made n c lines s =
    let each : length (parts_text (map made lines)) ≤ length lines * c = letters-size c made lines s.short in
    let all : length lines * c ≤ n * c = (let same : c ≤ c = omega arith in mul-le-mul s.size_limit same) in
    omega (arith, each, all)

pub line-size : {A : Type 0} (made : A → Part) (c : ℕ) (line : Option A) → IsShortLine made c line → length (parts_text (at_most_one made line)) ≤ c
line-size made c None s = omega arith
line-size made c (Some x) s =
    let one : length (parts_text (made x ∷ [])) ≤ 1 * c =
    size-most c (made x ∷ []) (All-cons (λ p. length (row_text (part_row p)) ≤ c) (made x) [] s (All-nil (λ p. length (row_text (part_row p)) ≤ c))) in
    omega (arith, one)

-- the lines of sets: seven bytes for each item, and 44 more on each line
abbrev pub IsSetShort : ℕ → SetLine → Type 0
IsSetShort n z = (k : ℕ) × (k ≤ GRAPH_VERTEX_LIMIT) × IsSetLineWithin n k z

pub sets-size : (n : ℕ) (lines : List SetLine) → n ≤ GRAPH_VERTEX_LIMIT → item_total lines ≤ 1000000 → All (IsSetShort n) lines →
    length (parts_text (map Set lines)) ≤ 7 * item_total lines + 44 * length lines
sets-size n [] few total short = omega arith
sets-size n (z ∷ lines) few total short =
    let s : IsSetShort n z = All-head (IsSetShort n) z lines short in
    let size : length z.items + item_total lines ≤ 1000000 = total in
    let first : length (row_text (part_row (Set z))) ≤ 7 * length z.items + 44 = set-size n s.0 z few s.1 (omega (arith, size)) s.2 in
    let rest : length (parts_text (map Set lines)) ≤ 7 * item_total lines + 44 * length lines = sets-size n lines few (omega (arith, size)) (All-tail (IsSetShort n) z lines short) in
    let split : length (parts_text (map Set (z ∷ lines))) ≡ length (row_text (part_row (Set z))) + length (parts_text (map Set lines)) =
    length-append (row_text (part_row (Set z))) (parts_text (map Set lines)) in
    omega (arith, first, rest, split)

pub four-size : (a b c d : List Part) → length (parts_text (a ++ (b ++ (c ++ (d ++ []))))) ≡ length (parts_text a) + length (parts_text b) + length (parts_text c) + length (parts_text d)
four-size a b c d =
    let one = size-append a (b ++ (c ++ (d ++ []))) in
    let two = size-append b (c ++ (d ++ [])) in
    let three = size-append c (d ++ []) in
    let four = size-append d [] in
    let none : length (parts_text []) ≡ 0 = refl in
    omega (arith, one, two, three, four, none)

pub document-size : (d : Document) → length (document_text d false) ≡ length (row_text (head_row d.status d.kind d.weight)) + length (parts_text (parts_of (body_of d)))
document-size d = length-append (row_text (head_row d.status d.kind d.weight)) (parts_text (parts_of (body_of d)))

-- the text of no document is longer, and none has less room

most-by : (proof : BestProof) → byte_limit_by proof ≤ PATHS_BYTE_LIMIT
most-by (Duals value) = omega arith
most-by LighterBarrier = omega arith
most-by OuterPaths = omega arith

pub limit-most : (kind : Kind) → byte_limit_of kind ≤ PATHS_BYTE_LIMIT
limit-most kind = most-by (proof_of kind)

least-by : (proof : BestProof) → DOCUMENT_BYTE_LIMIT ≤ byte_limit_by proof
least-by (Duals value) = omega arith
least-by LighterBarrier = omega arith
least-by OuterPaths = omega arith

-- a first line and parts that are short together
pub short-document : (kind : Kind) (d : Document) → length (row_text (head_row d.status d.kind d.weight)) ≤ 50 → length (parts_text (parts_of (body_of d))) ≤ 8000000 →
    length (document_text d false) ≤ byte_limit_of kind
short-document kind d head parts = omega (arith, document-size d, head, parts, least-by (proof_of kind))
