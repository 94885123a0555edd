-- The y lines of duals.
use Rattle.certificates.proofs.Common.{◌≡◌, ℕ, ◌+◌, ◌-◌, ℤ, pos, List, [], ◌∷◌, ◌++◌, length, map, All, get_or, refl, ap, sym, ◌∙◌, subst, arith}
use Rattle.certificates.proofs.Common.{range_with_len, ints, All-map, All-from_get_or, All-get_or, length-range_with_len, get_or-range_with_len, map-range_with_len_more, dual_of, IsNumber}
use Rattle.certificates.proofs.Common.{range-ascending, DualLine, AscendsBy, IsDualWithin}
use Rattle.doc_format.specs.Form.{ascends}
use Rattle.document_lines.proofs.Ascents.{ascends-pos, map-map, each-place, all-mapped}

-- a vertex with its dual
abbrev pub dual_line : ℕ → ℤ → DualLine
dual_line v dual = record { line = 1; vertex = pos v; dual = dual }

-- the line of a vertex
abbrev pub line_at : List ℤ → ℕ → DualLine
line_at ys v = dual_line v (dual_of ys v)

-- the lines of the first k vertices
abbrev pub lines_to : List ℤ → ℕ → List DualLine
lines_to ys k = map (line_at ys) (range_with_len 1 k)

pub lines-duals : (ys : List ℤ) → map (λ y. y.dual) (lines_to ys (length ys)) ≡ ys
lines-duals ys =
    let n = length ys in
    let plain : map (λ (y : DualLine). y.dual) (lines_to ys n) ≡ map (dual_of ys) (range_with_len 1 n) = map-map (λ (y : DualLine). y.dual) (line_at ys) (range_with_len 1 n) in
    plain ∙ each-place (pos 0) ys

pub lines-ascend : (ys : List ℤ) (n : ℕ) → AscendsBy (λ y. y.vertex) (lines_to ys n)
lines-ascend ys n = ap ascends (map-map (λ (y : DualLine). y.vertex) (line_at ys) (range_with_len 1 n)) ∙ ascends-pos (range_with_len 1 n) (range-ascending n)

pub lines-within : (ys : List ℤ) (n : ℕ) → length ys ≡ n → All IsNumber ys → All (IsDualWithin n) (lines_to ys n)
lines-within ys n size number =
    All-map (IsDualWithin n) (line_at ys) (range_with_len 1 n)
    (All-from_get_or (λ v. IsDualWithin n (line_at ys v)) (range_with_len 1 n) 0
    (λ k h. (let long : length (range_with_len 1 n) ≡ n = length-range_with_len 1 n in
    let at : 1 + k ≡ get_or (range_with_len 1 n) k 0 = sym (get_or-range_with_len 1 n k 0 (omega arith)) in
    subst (λ (v : ℕ). IsDualWithin n (line_at ys v)) at
    (record { low = omega (arith, ints); high = omega (arith, ints) }, All-get_or IsNumber ys (1 + k - 1) (pos 0) (omega arith) number))))

-- one vertex more
pub lines-push : (ys : List ℤ) (k : ℕ) (xs new : List DualLine) (vertex dual : ℤ) → xs ≡ lines_to ys k → new ≡ xs ++ record { line = 1; vertex = vertex; dual = dual } ∷ [] →
    vertex ≡ pos (k + 1) → dual ≡ dual_of ys (k + 1) → new ≡ lines_to ys (k + 1)
lines-push ys k xs new vertex dual before now vertex_is dual_is =
    let more : lines_to ys (k + 1) ≡ lines_to ys k ++ line_at ys (k + 1) ∷ [] = map-range_with_len_more (line_at ys) 1 k (k + 1) (omega arith) in
    now ∙ (ap (λ (v : ℤ). xs ++ record { line = 1; vertex = v; dual = dual } ∷ []) vertex_is ∙
    (ap (λ (v : ℤ). xs ++ dual_line (k + 1) v ∷ []) dual_is ∙ (ap (λ (zs : List DualLine). zs ++ line_at ys (k + 1) ∷ []) before ∙ sym more)))

pub lines-unread : (ys : List ℤ) (n : ℕ) → All (λ y. y.line ≡ 1) (lines_to ys n)
lines-unread ys n = all-mapped (λ (y : DualLine). y.line ≡ 1) (line_at ys) (range_with_len 1 n) (λ v. refl)
