-- The listed edges of each half, and how often each is listed.
use Rattle.mb_problem.proofs.Common.{◌≡◌, ℕ, ◌+◌, ◌-◌, ◌<◌, ◌≤◌, Bool, true, false, cond, eqb, nat_lt, nat_le, ◌&&◌, refl, ap, sym, ◌∙◌, subst, arith}
use Rattle.mb_problem.proofs.Common.{List, [], ◌∷◌, ◌++◌, length, map, All, filter, nat_tests, length-map, length-filter, count_by-le-length, All-map, filter_passes, IsEdgeNumber}
use Rattle.mb_problem.proofs.Common.{Network, vertices, at_most, spare_copies, size_of, room_of, sum_to}
use Rattle.gadget_base.proofs.Common.{tabled, half_graph, halves_graph, gadget_graph, times, times_each, tabled-same, tabled-blocks, times-cons}
use Rattle.mb_problem.specs.declared.kind.Kind.TheVariants.{CapMatch}
use Rattle.gadget_cap.specs.Places.{entry_counts}
use Rattle.gadget_cap.proofs.Sizes.{has_size}
use Rattle.gadget_cap.proofs.Tables.{tabled-three}
use Rattle.gadget_interval.specs.Halves.{half_size, half_counts, listed_after, in_first_half, in_second_half}
use Rattle.gadget_interval.proofs.Sizes.{halves-edges}
use Rattle.gadget_interval.proofs.Pairs.{pair_counts, on_halves}

-- the edges that a test keeps, renumbered by f

kept-one : (f : ℕ → ℕ) (t : Bool) (x e : ℕ) (es : List ℕ) → times (map f (cond t (x ∷ es) es)) e ≡ cond t (cond (eqb (f x) e) 1 0) 0 + times (map f es) e
kept-one f true x e es = times-cons (f x) (map f es) e
kept-one f false x e es = omega arith

times-kept : (f : ℕ → ℕ) (p : ℕ → Bool) (e e' : ℕ) (es : List ℕ) → ((x : ℕ) → cond (p x) (cond {A = ℕ} (eqb (f x) e') 1 0) 0 ≡ cond (eqb x e) 1 0)
    → times (map f (filter p es)) e' ≡ times es e
times-kept f p e e' [] same = refl
times-kept f p e e' (x ∷ es) same = omega (arith, kept-one f (p x) x e' (filter p es), same x, times-kept f p e e' es same, times-cons x es e)

kept-test : (before count x y : ℕ) → y < count → cond (nat_lt before x && nat_le (x - before) count) (cond {A = ℕ} (eqb (x - before) (y + 1)) 1 0) 0
    ≡ cond (eqb x (before + y + 1)) 1 0
kept-test before count x y b = grind (arith, nat_tests)

times-after : (before count : ℕ) (es : List ℕ) (y : ℕ) → y < count → times (listed_after before count es) (y + 1) ≡ times es (before + y + 1)
times-after before count es y b =
    times-kept (λ e. e - before) (λ e. nat_lt before e && nat_le (e - before) count) (before + y + 1) (y + 1) es (λ x. kept-test before count x y b)

-- their numbers, and how many there are

kept-within : (before count e : ℕ) → (nat_lt before e && nat_le (e - before) count) ≡ true → (1 ≤ e - before) × (e - before ≤ count)
kept-within before count e h = (grind (arith, nat_tests), grind (arith, nat_tests))

pub after-numbers : (before count : ℕ) (es : List ℕ) → All (λ e. (1 ≤ e) × (e ≤ count)) (listed_after before count es)
after-numbers before count es =
    let p : ℕ → Bool = λ e. nat_lt before e && nat_le (e - before) count in
    All-map (λ e. (1 ≤ e) × (e ≤ count)) (λ e. e - before) (filter p es) (λ k d b. kept-within before count _ (filter_passes p es k d b))

pub after-length : (before count : ℕ) (es : List ℕ) → length (listed_after before count es) ≤ length es
after-length before count es =
    let p : ℕ → Bool = λ e. nat_lt before e && nat_le (e - before) count in
    omega (arith, length-map (filter p es) (λ e. e - before), length-filter p es, count_by-le-length p es)

-- how often the pairs are listed
abbrev pub listed_pairs : Network → List ℕ → ℕ → ℕ → ℕ
listed_pairs i es k a = times es (half_size i + (half_size i + (sum_to (spare_copies i) k + a)) + 1)

-- the counts of the list are those of its parts
pub listed-halves : (i : Network) (es : List ℕ) → times_each (halves_graph i) es
    ≡ on_halves i (times_each (half_graph i) (in_first_half i es)) (times_each (half_graph i) (in_second_half i es)) (listed_pairs i es)
listed-halves i es =
    let m = half_size i in
    let s = sum_to (spare_copies i) (vertices i) in
    let f : ℕ → ℕ = λ y. times es (y + 1) in
    let one = times_each (half_graph i) (in_first_half i es) in
    let two = times_each (half_graph i) (in_second_half i es) in
    let first : tabled f m ≡ one = tabled-same f (λ y. times (in_first_half i es) (y + 1)) m
    (λ y b. ap (λ x. times es (x + 1)) (let z : y ≡ 0 + y = omega arith in z) ∙ sym (times-after 0 m es y b)) in
    let second : tabled (λ y. f (m + y)) m ≡ two = tabled-same (λ y. f (m + y)) (λ y. times (in_second_half i es) (y + 1)) m (λ y b. sym (times-after m m es y b)) in
    let rest : tabled (λ y. f (m + (m + y))) s ≡ pair_counts i (listed_pairs i es) = tabled-blocks (λ y. f (m + (m + y))) (spare_copies i) (vertices i) in
    ap (tabled f) (halves-edges i)
    ∙ tabled-three f m m s
    ∙ ap (λ xs. xs ++ (tabled (λ y. f (m + y)) m ++ tabled (λ y. f (m + (m + y))) s)) first
    ∙ ap (λ xs. one ++ (xs ++ tabled (λ y. f (m + (m + y))) s)) second
    ∙ ap (λ xs. one ++ (two ++ xs)) rest

-- the edges of the half, by the size of the instance whose values are the greatest degrees

pub upper-numbers : (upper : Network) (before size : ℕ) (es : List ℕ) → size ≡ (size_of CapMatch upper).edges
    → All (IsEdgeNumber (gadget_graph CapMatch upper)) (listed_after before size es)
upper-numbers upper before size es is =
    subst (λ (m : ℕ). All (λ e. (1 ≤ e) × (e ≤ m)) (listed_after before size es)) (is ∙ sym (has_size false upper).edges) (after-numbers before size es)

pub upper-counts : (i upper : Network) (size : ℕ) (part : ℕ → List ℕ) → upper ≡ at_most i → size ≡ (size_of CapMatch upper).edges
    → entry_counts upper (room_of upper) (part size) ≡ half_counts i (part (half_size i))
upper-counts i upper size part same is =
    ap (λ (u : Network). entry_counts u (room_of u) (part size)) same
    ∙ ap (λ m. half_counts i (part m)) (is ∙ sym (has_size false upper).edges ∙ ap (λ (u : Network). length (gadget_graph CapMatch u).edges) same)
