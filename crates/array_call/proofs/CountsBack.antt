-- The lines of counts say the counts again.
use Rattle.certificates.proofs.Common.{◌≡◌, ℕ, ℤ, pos, ◌≤ℤ◌, nat_abs, List, [], ◌∷◌, length, map, All}
use Rattle.certificates.proofs.Common.{refl, sym, ap, ◌∙◌}
use Rattle.certificates.proofs.Common.{arith, ints, length-map, All-head, All-tail, counts_of, numbers}
use Rattle.document_lines.proofs.CountLines.{lines_to, counts-lines}

pub naturals : (zs : List ℤ) → All (λ z. pos 0 ≤ℤ z) zs → map pos (numbers zs) ≡ zs
naturals [] h = refl
naturals (z ∷ zs) h =
    let low : pos 0 ≤ℤ z = All-head (λ y. pos 0 ≤ℤ y) z zs h in
    let is : pos (nat_abs z) ≡ z = omega (arith, ints, low) in
    ap (λ (y : ℤ). y ∷ map pos (numbers zs)) is ∙ ap (λ (ys : List ℤ). z ∷ ys) (naturals zs (All-tail (λ y. pos 0 ≤ℤ y) z zs h))

pub lines-back : (zs : List ℤ) → All (λ z. pos 0 ≤ℤ z) zs → map pos (counts_of (lines_to (numbers zs) (length zs)) (length zs)) ≡ zs
lines-back zs h =
    let cs = numbers zs in
    let size : length cs ≡ length zs = length-map zs nat_abs in
    ap (λ (m : ℕ). map pos (counts_of (lines_to cs m) m)) (sym size) ∙ ap (map pos) (counts-lines cs) ∙ naturals zs h
