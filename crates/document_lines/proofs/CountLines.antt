-- The x lines of counts: one for each edge that is used.
use Rattle.certificates.proofs.Common.{◌≡◌, ℕ, zero, suc, ◌-◌, ◌≤◌, pos, Bool, true, false, not, cond, ◌||◌, eqb, List, [], ◌∷◌, length, map, All, slice_index}
use Rattle.certificates.proofs.Common.{refl, ap, ◌∙◌, arith, int_eq, ints, eq-eqb, ne_eqb, eqb-true, Decides-int_eq, length-map, All-map, holds, all_holds, same_tests, CountLine}
use Rattle.certificates.proofs.Common.{AscendsBy, count_of, counts_of, IsCountWithin, passing, passing-range, passing-ascends, passing-few, passing-holds, passing-only}
use Rattle.doc_format.specs.Form.{ascends}
use Rattle.document_lines.specs.Lines.{count_line, line_at, is_used}
use Rattle.document_lines.proofs.Ascents.{ascends-pos, map-map, map-range-same, each-place, both_all, all-mapped}

-- the lines of the edges up to number k
abbrev pub lines_to : List ℕ → ℕ → List CountLine
lines_to cs k = map (line_at cs) (passing (is_used cs) k)

pick : (t h : Bool) (a b : ℕ) → cond t a (cond h a b) ≡ cond (t || h) a b
pick true h a b = refl
pick false h a b = refl

pos-same : (x e : ℕ) → pos x ≡ pos e → x ≡ e
pos-same x e h = cc

int_eq-pos : (x e : ℕ) → int_eq (pos x) (pos e) ≡ eqb x e
int_eq-pos x e =
    same_tests (int_eq (pos x) (pos e)) (eqb x e) (λ h. eq-eqb x e (pos-same x e ((Decides-int_eq (pos x) (pos e)).0 h))) (λ h. (Decides-int_eq (pos x) (pos e)).1 (ap pos (eqb-true x e h)))

at_same : (f : ℕ → ℕ) (x e r : ℕ) (t : Bool) → (t ≡ true → x ≡ e) → cond t (f x) r ≡ cond t (f e) r
at_same f x e r true h = ap f (h refl)
at_same f x e r false h = refl

count_of-line : (f : ℕ → ℕ) (xs : List ℕ) (e : ℕ) → count_of (map (λ x. count_line x (f x)) xs) e ≡ cond (holds xs e) (f e) 0
count_of-line f [] e = refl
count_of-line f (x ∷ xs) e =
    let rest = count_of (map (λ x. count_line x (f x)) xs) e in
    let first : count_of (map (λ x. count_line x (f x)) (x ∷ xs)) e ≡ cond (eqb x e) (f x) rest = ap (λ (t : Bool). cond t (f x) rest) (int_eq-pos x e) in
    first ∙ (at_same f x e rest (eqb x e) (eqb-true x e) ∙ (ap (λ (r : ℕ). cond (eqb x e) (f e) r) (count_of-line f xs e) ∙ pick (eqb x e) (holds xs e) (f e) 0))

unused : (c : ℕ) → cond (not (eqb c 0)) c 0 ≡ c
unused zero = refl
unused (suc c) = ap (λ (t : Bool). cond (not t) (suc c) 0) (ne_eqb (suc c) 0 (λ h. omega (arith, h)))

pub counts-lines : (cs : List ℕ) → counts_of (lines_to cs (length cs)) (length cs) ≡ cs
counts-lines cs =
    let m = length cs in
    let f : ℕ → ℕ = λ e. slice_index cs (e - 1) in
    map-range-same (count_of (lines_to cs m)) f 1 m
    (λ e low high. count_of-line f (passing (is_used cs) m) e ∙ (ap (λ (t : Bool). cond t (f e) 0) (passing-holds (is_used cs) m e low (omega arith)) ∙ unused (f e)))
    ∙ each-place 0 cs

pub lines-ascend : (cs : List ℕ) (m : ℕ) → AscendsBy (λ x. x.edge) (lines_to cs m)
lines-ascend cs m = ap ascends (map-map (λ (x : CountLine). x.edge) (line_at cs) (passing (is_used cs) m)) ∙ ascends-pos (passing (is_used cs) m) (passing-ascends (is_used cs) m)

pub at_least_one : (c : ℕ) → not (eqb c 0) ≡ true → 1 ≤ c
at_least_one zero h = absurd (cc)
at_least_one (suc c) h = omega arith

-- the numbers of the edges in the lines, and the tests that they pass
passing-each : (p : ℕ → Bool) (m : ℕ) → All (λ v. p v ≡ true) (passing p m)
passing-each p m = all_holds (λ v. p v ≡ true) (passing p m) (passing-only p m)

pub lines-within : (cs : List ℕ) → All (λ c. c ≤ 4096) cs → All (IsCountWithin (length cs)) (lines_to cs (length cs))
lines-within cs small =
    let m = length cs in
    let p = is_used cs in
    All-map (IsCountWithin m) (line_at cs) (passing p m)
    (both_all (λ v. (1 ≤ v) × (v ≤ m)) (λ v. p v ≡ true) (λ v. IsCountWithin m (line_at cs v)) (passing p m)
    (λ v h t. (let low : 1 ≤ v = h.0 in let high : v ≤ m = h.1 in
    let some : 1 ≤ slice_index cs (v - 1) = at_least_one (slice_index cs (v - 1)) t in
    let most : slice_index cs (v - 1) ≤ 4096 = small (v - 1) 0 (omega arith) in
    (record { low = omega (arith, ints); high = omega (arith, ints) }, record { low = omega (arith, ints); high = omega (arith, ints) })))
    (passing-range p m) (passing-each p m))

pub lines-few : (cs : List ℕ) (m : ℕ) → length (lines_to cs m) ≤ m
lines-few cs m = omega (arith, length-map (passing (is_used cs) m) (line_at cs), passing-few (is_used cs) m)

pub lines-unread : (cs : List ℕ) (m : ℕ) → All (λ x. x.line ≡ 1) (lines_to cs m)
lines-unread cs m = all-mapped (λ (x : CountLine). x.line ≡ 1) (line_at cs) (passing (is_used cs) m) (λ e. refl)
