-- How long the lines of computed documents are, with seven bytes for each item that a line lists.
use Rattle.certificates.proofs.Common.{◌≡◌, ℕ, suc, ◌+◌, ◌*◌, ◌≤◌, ℤ, pos, ◌≤ℤ◌, List, [], ◌∷◌, length, map, All, refl, ap, subst, arith, codes}
use Rattle.certificates.proofs.Common.{flat_map, signed_decimal, ints, length-append, length-map, All-nil, All-cons, All-map, All-weaker, GRAPH_VERTEX_LIMIT, IsNumber, holds, IsVertexSet}
use Rattle.certificates.proofs.Common.{Row, Kind, VALUE_LIMIT, kind_text, Optimal, Infeasible, NonConservative, MemberLine, CountLine, DualLine, PathLine, SetItem, Vertex, Reference}
use Rattle.certificates.proofs.Common.{SetLine, WalkLine, Part, Count, Dual, Set, Even, item_text, status_text, after_space, row_text, spaced, with_count, head_row, part_row, parts_text}
use Rattle.certificates.proofs.Common.{IsUpTo, IsCountWithin, IsDualWithin, IsItemWithin, IsSetLineWithin, IsWalkWithin, IsPathWithin, kind-short, passing-few, members-passing}
use Rattle.doc_format.specs.declared.part.Part.TheVariants.{Walk}
use Rattle.doc_format.specs.Spelling.{numbers_of}
use Rattle.document_lines.specs.Lines.{member_line}
use Rattle.solve_answers.proofs.Texts.{short_number, short_place, short_vertex, spaced-most, fields-most, row-length, size-most}
use Rattle.solve_answers.proofs.Excluding.{up_to-pos}

pub up_to-number : (n : ℕ) (z : ℤ) → n ≤ 1000000000000000000 → IsUpTo n z → IsNumber z
up_to-number n z few h =
    let low : pos 1 ≤ℤ z = h.low in
    let high : z ≤ℤ pos n = h.high in (omega (arith, ints), omega (arith, ints))

-- ascending vertices are no more than there are
pub few_members : (n : ℕ) (ms : List ℕ) → IsVertexSet n ms → length ms ≤ n
few_members n ms set = subst (λ (xs : List ℕ). length xs ≤ n) (members-passing n ms set) (passing-few (holds ms) n)

-- two numbers on a line
pair-size : (first : List ℕ) (a b : ℤ) → length first ≡ 1 → IsNumber a → IsNumber b → length (row_text (first ∷ map signed_decimal (a ∷ b ∷ []))) ≤ 44
pair-size first a b one na nb =
    let fields : length (spaced (a ∷ b ∷ [])) ≤ 2 * (20 + 1) = spaced-most 20 (a ∷ b ∷ [])
    (All-cons (λ z. length (signed_decimal z) ≤ 20) a (b ∷ []) (short_number a na)
    (All-cons (λ z. length (signed_decimal z) ≤ 20) b [] (short_number b nb) (All-nil (λ z. length (signed_decimal z) ≤ 20)))) in
    omega (arith, row-length first (map signed_decimal (a ∷ b ∷ [])))

pub count-size : (m : ℕ) (x : CountLine) → m ≤ 65536 → IsCountWithin m x → length (row_text (part_row (Count x))) ≤ 44
count-size m x few h = pair-size (codes "x") x.edge x.count refl (up_to-number m x.edge (omega arith) h.0) (up_to-number VALUE_LIMIT x.count (omega arith) h.1)

pub dual-size : (n : ℕ) (y : DualLine) → n ≤ GRAPH_VERTEX_LIMIT → IsDualWithin n y → length (row_text (part_row (Dual y))) ≤ 44
dual-size n y few h = pair-size (codes "y") y.vertex y.dual refl (up_to-number n y.vertex (omega arith) h.0) h.1

-- a count and as many vertices
counted-size : (n : ℕ) (zs : List ℤ) → n ≤ GRAPH_VERTEX_LIMIT → length zs ≤ n → All (IsUpTo n) zs → length (spaced (with_count zs)) ≤ 6 * length zs + 21
counted-size n zs few size h =
    let most : n ≤ 16384 = few in
    let size_number : IsNumber (pos (length zs)) = (omega (arith, ints), omega (arith, ints)) in
    let count : length (signed_decimal (pos (length zs))) ≤ 20 = short_number (pos (length zs)) size_number in
    let fields : length (spaced zs) ≤ length zs * (5 + 1) =
    spaced-most 5 zs (All-weaker (IsUpTo n) (λ z. length (signed_decimal z) ≤ 5) (λ z w. short_vertex n z few w) zs h) in
    let split : length (spaced (with_count zs)) ≡ suc (length (signed_decimal (pos (length zs)))) + length (spaced zs) =
    length-append (after_space (signed_decimal (pos (length zs)))) (spaced zs) in
    omega arith

-- an item: `@` and five digits
item-size : (n k : ℕ) (x : SetItem) → n ≤ GRAPH_VERTEX_LIMIT → k ≤ GRAPH_VERTEX_LIMIT → IsItemWithin n k x → length (item_text x) ≤ 6
item-size n k (Vertex v) few before h = (let short : length (signed_decimal v) ≤ 5 = short_vertex n v few h in omega (arith, short))
item-size n k (Reference j) few before h = (let short : length (signed_decimal j) ≤ 5 = short_vertex k j before h in omega (arith, short))

-- the line of a set: seven bytes for each item, and 44 more
pub set-size : (n k : ℕ) (z : SetLine) → n ≤ GRAPH_VERTEX_LIMIT → k ≤ GRAPH_VERTEX_LIMIT → length z.items ≤ 1000000 → IsSetLineWithin n k z →
    length (row_text (part_row (Set z))) ≤ 7 * length z.items + 44
set-size n k z few before size h =
    let texts : List (List ℕ) = map item_text z.items in
    let count : ℤ = pos (length z.items) in
    let size_number : IsNumber count = (omega (arith, ints), omega (arith, ints, size)) in
    let first : length (signed_decimal z.dual) ≤ 20 = short_number z.dual (up_to-number 1000000000000000000 z.dual (omega arith) h.0) in
    let second : length (signed_decimal count) ≤ 20 = short_number count size_number in
    let each : All (λ f. length f ≤ 6) texts =
    All-map (λ f. length f ≤ 6) item_text z.items (All-weaker (IsItemWithin n k) (λ x. length (item_text x) ≤ 6) (λ x w. item-size n k x few before w) z.items h.1) in
    let items : length (flat_map after_space texts) ≤ length texts * (6 + 1) = fields-most 6 texts each in
    let as_many : length texts ≡ length z.items = length-map z.items item_text in
    let dual_split : length (flat_map after_space (signed_decimal z.dual ∷ signed_decimal count ∷ texts))
    ≡ suc (length (signed_decimal z.dual)) + length (flat_map after_space (signed_decimal count ∷ texts)) =
    length-append (after_space (signed_decimal z.dual)) (flat_map after_space (signed_decimal count ∷ texts)) in
    let count_split : length (flat_map after_space (signed_decimal count ∷ texts)) ≡ suc (length (signed_decimal count)) + length (flat_map after_space texts) =
    length-append (after_space (signed_decimal count)) (flat_map after_space texts) in
    let row : length (row_text (part_row (Set z))) ≡ 1 + length (flat_map after_space (signed_decimal z.dual ∷ signed_decimal count ∷ texts)) + 1 =
    row-length (codes "z") (signed_decimal z.dual ∷ signed_decimal count ∷ texts) in
    omega (arith, first, second, items, as_many, dual_split, count_split, row)

-- a walk: its start, a count and the edges
pub walk-size : (n m : ℕ) (w : WalkLine) → n ≤ 4096 → m ≤ 65536 → length w.edges ≤ 2 * m → IsWalkWithin n m w → length (row_text (part_row (Walk w))) ≤ 2800000
walk-size n m w few many size h =
    let size_number : IsNumber (pos (length w.edges)) = (omega (arith, ints), omega (arith, ints)) in
    let start : length (signed_decimal w.start) ≤ 20 = short_number w.start (up_to-number n w.start (omega arith) h.0) in
    let count : length (signed_decimal (pos (length w.edges))) ≤ 20 = short_number (pos (length w.edges)) size_number in
    let fields : length (spaced w.edges) ≤ length w.edges * (20 + 1) =
    spaced-most 20 w.edges (All-weaker (IsUpTo m) (λ z. length (signed_decimal z) ≤ 20) (λ z u. short_number z (up_to-number m z (omega arith) u)) w.edges h.1) in
    let first : length (spaced (w.start ∷ with_count w.edges)) ≡ suc (length (signed_decimal w.start)) + length (spaced (with_count w.edges)) =
    length-append (after_space (signed_decimal w.start)) (spaced (with_count w.edges)) in
    let second : length (spaced (with_count w.edges)) ≡ suc (length (signed_decimal (pos (length w.edges)))) + length (spaced w.edges) =
    length-append (after_space (signed_decimal (pos (length w.edges)))) (spaced w.edges) in
    let row : length (row_text (part_row (Walk w))) ≡ 1 + length (spaced (w.start ∷ with_count w.edges)) + 1 = row-length (codes "w") (map signed_decimal (numbers_of (Walk w))) in
    omega arith

-- a path: a vertex, a count and the edges
pub path-size : (n m : ℕ) (r : PathLine) → n ≤ 4096 → m ≤ 65536 → length r.edges ≤ n → IsPathWithin n m r → length (row_text (part_row (Even r))) ≤ 25000
path-size n m r few many size h =
    let size_number : IsNumber (pos (length r.edges)) = (omega (arith, ints), omega (arith, ints)) in
    let start : length (signed_decimal r.vertex) ≤ 20 = short_number r.vertex (up_to-number n r.vertex (omega arith) h.0) in
    let count : length (signed_decimal (pos (length r.edges))) ≤ 20 = short_number (pos (length r.edges)) size_number in
    let fields : length (spaced r.edges) ≤ length r.edges * (5 + 1) =
    spaced-most 5 r.edges (All-weaker (IsUpTo m) (λ z. length (signed_decimal z) ≤ 5) (λ z u. short_place m z many u) r.edges h.1) in
    let first : length (spaced (r.vertex ∷ with_count r.edges)) ≡ suc (length (signed_decimal r.vertex)) + length (spaced (with_count r.edges)) =
    length-append (after_space (signed_decimal r.vertex)) (spaced (with_count r.edges)) in
    let second : length (spaced (with_count r.edges)) ≡ suc (length (signed_decimal (pos (length r.edges)))) + length (spaced r.edges) =
    length-append (after_space (signed_decimal (pos (length r.edges)))) (spaced r.edges) in
    let row : length (row_text (part_row (Even r))) ≡ 1 + length (spaced (r.vertex ∷ with_count r.edges)) + 1 = row-length (codes "r") (map signed_decimal (numbers_of (Even r))) in
    omega arith

-- a count and as many vertices after any letter
pub members-size : (made : MemberLine → Part) (c : List ℕ) (set : List ℕ) (n : ℕ) → ((u : MemberLine) → part_row (made u) ≡ c ∷ map signed_decimal (with_count u.members))
    → length c ≡ 1 →
    n ≤ GRAPH_VERTEX_LIMIT → IsVertexSet n set → length (row_text (part_row (made (member_line set)))) ≤ 100000
members-size made c set n is one few set_of =
    let most : n ≤ 16384 = few in
    let size : length (map pos set) ≤ n = omega (arith, length-map set pos, few_members n set set_of) in
    let fields = counted-size n (map pos set) few size (up_to-pos n set set_of) in
    let row : length (row_text (c ∷ map signed_decimal (with_count (map pos set)))) ≡ length c + length (spaced (with_count (map pos set))) + 1 =
    row-length c (map signed_decimal (with_count (map pos set))) in
    let same : length (row_text (part_row (made (member_line set)))) ≡ length (row_text (c ∷ map signed_decimal (with_count (map pos set)))) =
    ap (λ (r : Row). length (row_text r)) (is (member_line set)) in
    omega (arith, fields, row, same, one, size, length-map set pos)

-- all lines of one letter
pub letters-size : {A : Type 0} (c : ℕ) (made : A → Part) (xs : List A) → All (λ x. length (row_text (part_row (made x))) ≤ c) xs
    → length (parts_text (map made xs)) ≤ length xs * c
letters-size c made xs h =
    subst (λ (k : ℕ). length (parts_text (map made xs)) ≤ k * c) (length-map xs made) (size-most c (map made xs) (All-map (λ p. length (row_text (part_row p)) ≤ c) made xs h))

-- the first line

three-fields : (a b c : List ℕ) → length (flat_map after_space (a ∷ b ∷ c ∷ [])) ≡ 3 + length a + length b + length c
three-fields a b c =
    let first : length (flat_map after_space (a ∷ b ∷ c ∷ [])) ≡ suc (length a) + length (flat_map after_space (b ∷ c ∷ [])) =
    length-append (after_space a) (flat_map after_space (b ∷ c ∷ [])) in
    let second : length (flat_map after_space (b ∷ c ∷ [])) ≡ suc (length b) + length (flat_map after_space (c ∷ [])) =
    length-append (after_space b) (flat_map after_space (c ∷ [])) in
    let third : length (flat_map after_space (c ∷ [])) ≡ suc (length c) + 0 = length-append (after_space c) [] in
    omega arith

two-fields : (a b : List ℕ) → length (flat_map after_space (a ∷ b ∷ [])) ≡ 2 + length a + length b
two-fields a b =
    let first : length (flat_map after_space (a ∷ b ∷ [])) ≡ suc (length a) + length (flat_map after_space (b ∷ [])) =
    length-append (after_space a) (flat_map after_space (b ∷ [])) in
    let second : length (flat_map after_space (b ∷ [])) ≡ suc (length b) + 0 = length-append (after_space b) [] in
    omega arith

pub head-size : (kind : Kind) (w : ℤ) → IsNumber w → length (row_text (head_row Optimal kind w)) ≤ 50
head-size kind w h =
    let number = short_number w h in
    let name = kind-short kind in
    let row : length (row_text (head_row Optimal kind w)) ≡ 1 + length (flat_map after_space (status_text Optimal ∷ kind_text kind ∷ signed_decimal w ∷ [])) + 1 =
    row-length (codes "s") (status_text Optimal ∷ kind_text kind ∷ signed_decimal w ∷ []) in
    let fields = three-fields (status_text Optimal) (kind_text kind) (signed_decimal w) in
    let status : length (status_text Optimal) ≡ 7 = refl in
    omega arith

pub head_none-size : (kind : Kind) (w : ℤ) → length (row_text (head_row Infeasible kind w)) ≤ 50
head_none-size kind w =
    let name = kind-short kind in
    let row : length (row_text (head_row Infeasible kind w)) ≡ 1 + length (flat_map after_space (status_text Infeasible ∷ kind_text kind ∷ [])) + 1 =
    row-length (codes "s") (status_text Infeasible ∷ kind_text kind ∷ []) in
    let fields = two-fields (status_text Infeasible) (kind_text kind) in
    let status : length (status_text Infeasible) ≡ 10 = refl in
    omega arith

pub head_circuit-size : (kind : Kind) (w : ℤ) → length (row_text (head_row NonConservative kind w)) ≤ 50
head_circuit-size kind w =
    let name = kind-short kind in
    let row : length (row_text (head_row NonConservative kind w)) ≡ 1 + length (flat_map after_space (status_text NonConservative ∷ kind_text kind ∷ [])) + 1 =
    row-length (codes "s") (status_text NonConservative ∷ kind_text kind ∷ []) in
    let fields = two-fields (status_text NonConservative) (kind_text kind) in
    let status : length (status_text NonConservative) ≡ 15 = refl in
    omega arith
