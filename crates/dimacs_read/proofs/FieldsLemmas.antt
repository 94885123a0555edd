-- Six fields of a line say all that its tests ask.
use Rattle.graph_theory.proofs.Common.{Bool, true, false, ◌≡◌, ℕ, ◌<◌, ◌≤◌, [], ◌∷◌, length, take, min, eqb, ltb, Option, Some, None, refl, ap, ◌∙◌, arith}
use Rattle.graph_theory.proofs.Common.{length-take, get_or-take, nat_tests}
use Rattle.mb_base.specs.Rows.{Row, is_skipped, field_at}
use Rattle.dimacs_read.specs.Rows.{is_header, is_edge, is_node, is_solution}
use Rattle.dimacs_read.specs.Format.{Sizes, header_at, edge_at, node_at}

six-4 : (n : ℕ) → eqb (min 6 n) 4 ≡ eqb n 4
six-4 n = grind (arith, nat_tests)

six-3 : (n : ℕ) → eqb (min 6 n) 3 ≡ eqb n 3
six-3 n = grind (arith, nat_tests)

six-lt : (n k : ℕ) → k ≤ 6 → ltb (min 6 n) k ≡ ltb n k
six-lt n k h = grind (arith, nat_tests)

six-gt : (n : ℕ) → ltb 5 (min 6 n) ≡ ltb 5 n
six-gt n = grind (arith, nat_tests)

module _ (row : Row) where
  len-4 : eqb (length (take 6 row)) 4 ≡ eqb (length row) 4
  len-4 = ap (λ (n : ℕ). eqb n 4) (length-take 6 row) ∙ six-4 (length row)

  len-3 : eqb (length (take 6 row)) 3 ≡ eqb (length row) 3
  len-3 = ap (λ (n : ℕ). eqb n 3) (length-take 6 row) ∙ six-3 (length row)

  len-lt : (k : ℕ) → k ≤ 6 → ltb (length (take 6 row)) k ≡ ltb (length row) k
  len-lt k h = ap (λ (n : ℕ). ltb n k) (length-take 6 row) ∙ six-lt (length row) k h

  len-gt : ltb 5 (length (take 6 row)) ≡ ltb 5 (length row)
  len-gt = ap (λ (n : ℕ). ltb 5 n) (length-take 6 row) ∙ six-gt (length row)

  field-six : (k : ℕ) → k < 6 → field_at (take 6 row) k ≡ field_at row k
  field-six k h = get_or-take 6 row k [] h

pub is_skipped-six : (row : Row) → is_skipped (take 6 row) ≡ is_skipped row
is_skipped-six [] = refl
is_skipped-six (f ∷ fs) = refl

pub is_header-six : (row : Row) → is_header (take 6 row) ≡ is_header row
is_header-six [] = refl
is_header-six (f ∷ fs) = refl

pub is_edge-six : (row : Row) → is_edge (take 6 row) ≡ is_edge row
is_edge-six [] = refl
is_edge-six (f ∷ fs) = refl

pub is_solution-six : (row : Row) → is_solution (take 6 row) ≡ is_solution row
is_solution-six [] = refl
is_solution-six (f ∷ fs) = refl

pub header_at-six : (h : Option Sizes) (row : Row) → header_at h (take 6 row) ≡ header_at h row
header_at-six (Some s) row = refl
header_at-six None row =
    let e4 = len-4 row in
    let f1 = field-six row 1 (omega arith) in
    let f2 = field-six row 2 (omega arith) in
    let f3 = field-six row 3 (omega arith) in
    rw (e4, f1, f2, f3) refl

pub edge_at-six : (h : Option Sizes) (row : Row) → edge_at h (take 6 row) ≡ edge_at h row
unfolding edge_at
edge_at-six None row = refl
edge_at-six (Some s) row =
    let e3 = len-lt row 3 (omega arith) in
    let e4 = len-lt row 4 (omega arith) in
    let e5 = len-lt row 5 (omega arith) in
    let e6 = len-gt row in
    let f1 = field-six row 1 (omega arith) in
    let f2 = field-six row 2 (omega arith) in
    let f3 = field-six row 3 (omega arith) in
    let f4 = field-six row 4 (omega arith) in
    rw (e3, e4, e5, e6, f1, f2, f3, f4) refl

pub is_node-six : (row : Row) → is_node (take 6 row) ≡ is_node row
is_node-six [] = refl
is_node-six (f ∷ fs) = refl

pub node_at-six : (bounds : Bool) (h : Option Sizes) (named : ℕ → Bool) (row : Row) → node_at bounds h named (take 6 row) ≡ node_at bounds h named row
unfolding node_at
node_at-six bounds None named row = refl
node_at-six true (Some s) named row =
    let e4 = len-4 row in
    let f1 = field-six row 1 (omega arith) in
    let f2 = field-six row 2 (omega arith) in
    let f3 = field-six row 3 (omega arith) in
    rw (e4, f1, f2, f3) refl
node_at-six false (Some s) named row =
    let e3 = len-3 row in
    let f1 = field-six row 1 (omega arith) in
    let f2 = field-six row 2 (omega arith) in
    rw (e3, f1, f2) refl
