-- What writes to the tables of a partition leave.
use Rattle.graph_theory.proofs.Common.{◌≡◌, ℕ, ◌<◌, eqb, cond, List, length, sym, ap, ap₂, ◌∙◌, arith, refl, ℤ, pos, ◌+ℤ◌, ◌-ℤ◌, slice_index, slice_set}
use Rattle.graph_theory.proofs.Common.{int_wrap, eqb-true, ints, int_wrap-add_left, int_wrap-add_right, int_wrap_fits, SFits-int_wrap, cond_both, subst, replicate}
use Rattle.graph_theory.proofs.Members.{everywhere}
use Rattle.std.specs.Int.{w64}
use Rattle.blossom_arena.specs.declared.partition.Partition.TheInside.{Inside}
use Rattle.blossom_arena.specs.Placement.{SetTables, added_at, given, placement_of, put_in, sum_at, tables_of, whole_at}
use Rattle.blossom_arena.proofs.Lists.{by_test, set_at}

-- more in one of two parts is more in the whole
more_left : (b o y : ℤ) → int_wrap w64 (int_wrap w64 (b +ℤ y) +ℤ o) ≡ int_wrap w64 (int_wrap w64 (b +ℤ o) +ℤ y)
more_left b o y =
    let turned : (b +ℤ y) +ℤ o ≡ (b +ℤ o) +ℤ y = omega (arith, ints) in
    int_wrap-add_left w64 (b +ℤ y) o ∙ ap (int_wrap w64) turned ∙ sym (int_wrap-add_left w64 (b +ℤ o) y)

more_right : (b o y : ℤ) → int_wrap w64 (b +ℤ int_wrap w64 (o +ℤ y)) ≡ int_wrap w64 (int_wrap w64 (b +ℤ o) +ℤ y)
more_right b o y =
    let turned : b +ℤ (o +ℤ y) ≡ (b +ℤ o) +ℤ y = omega (arith, ints) in
    int_wrap-add_right w64 b (o +ℤ y) ∙ ap (int_wrap w64) turned ∙ sym (int_wrap-add_left w64 (b +ℤ o) y)

-- what is left of a whole without a part, with that part
back : (x o : ℤ) → int_wrap w64 (int_wrap w64 (int_wrap w64 x -ℤ o) +ℤ o) ≡ int_wrap w64 x
back x o =
    let whole : (int_wrap w64 x -ℤ o) +ℤ o ≡ int_wrap w64 x = omega (arith, ints) in
    int_wrap-add_left w64 (int_wrap w64 x -ℤ o) o ∙ ap (int_wrap w64) whole ∙ int_wrap_fits w64 (int_wrap w64 x) (SFits-int_wrap w64 x)

pub added_is : (t : SetTables) (bases : List ℤ) (v : ℕ) (y : ℤ) → v < length t.bases → bases ≡ slice_set t.bases v (int_wrap w64 (sum_at t.bases v +ℤ y))
    → placement_of (record t { bases = bases }) ≡ added_at (placement_of t) v y
added_is t bases v y low written = λ i. record { places = length t.sets; set = λ w. slice_index t.sets w; top = λ s. slice_index t.tops s; inner = λ w. each w i }
  where
    each : (w : ℕ) → whole_at bases t.offsets t.sets w ≡ cond (eqb v w) (int_wrap w64 (whole_at t.bases t.offsets t.sets w +ℤ y)) (whole_at t.bases t.offsets t.sets w)
    each w =
        let o : ℤ = sum_at t.offsets (slice_index t.sets w) in
        ap (λ z. int_wrap w64 (z +ℤ o)) (ap (λ zs. sum_at zs w) written ∙ set_at t.bases v w (int_wrap w64 (sum_at t.bases v +ℤ y)) (pos 0) low)
        ∙ by_test (eqb v w)
        (λ e. rw e (ap (λ x. int_wrap w64 (int_wrap w64 (sum_at t.bases x +ℤ y) +ℤ o)) (eqb-true v w e) ∙ more_left (sum_at t.bases w) o y))
        (λ e. rw e refl)

pub given_is : (t : SetTables) (tops : List ℕ) (offsets : List ℤ) (s node : ℕ) (y : ℤ) → s < length t.tops → s < length t.offsets → tops ≡ slice_set t.tops s node
    → offsets ≡ slice_set t.offsets s (int_wrap w64 (sum_at t.offsets s +ℤ y)) → placement_of (record t { tops = tops; offsets = offsets }) ≡ given (placement_of t) s node y
given_is t tops offsets s node y low_top low named written =
    λ i.
    record { places = length t.sets; set = λ w. slice_index t.sets w; top = λ x. (ap (λ xs. slice_index xs x) named ∙ set_at t.tops s x node 0 low_top) i; inner = λ w. each w i }
  where
    each : (w : ℕ) → whole_at t.bases offsets t.sets w
        ≡ cond (eqb s (slice_index t.sets w)) (int_wrap w64 (whole_at t.bases t.offsets t.sets w +ℤ y)) (whole_at t.bases t.offsets t.sets w)
    each w =
        let c : ℕ = slice_index t.sets w in
        let b : ℤ = sum_at t.bases w in
        ap (λ z. int_wrap w64 (b +ℤ z)) (ap (λ zs. sum_at zs c) written ∙ set_at t.offsets s c (int_wrap w64 (sum_at t.offsets s +ℤ y)) (pos 0) low)
        ∙ by_test (eqb s c)
        (λ e. rw e (ap (λ x. int_wrap w64 (b +ℤ int_wrap w64 (sum_at t.offsets x +ℤ y))) (eqb-true s c e) ∙ more_right b (sum_at t.offsets c) y))
        (λ e. rw e refl)

pub put_is : (t : SetTables) (sets : List ℕ) (bases : List ℤ) (v s : ℕ) (y : ℤ) → v < length t.sets → v < length t.bases → length sets ≡ length t.sets
    → sets ≡ slice_set t.sets v s
    → bases ≡ slice_set t.bases v (int_wrap w64 (int_wrap w64 (whole_at t.bases t.offsets t.sets v +ℤ y) -ℤ sum_at t.offsets s))
    → placement_of (record t { sets = sets; bases = bases }) ≡ put_in (placement_of t) v s y
put_is t sets bases v s y low_set low len named written =
    λ i. record { places = len i; set = λ w. at w i; top = λ x. slice_index t.tops x; inner = λ w. each w i }
  where
    at : (w : ℕ) → slice_index sets w ≡ cond (eqb v w) s (slice_index t.sets w)
    at w = ap (λ xs. slice_index xs w) named ∙ set_at t.sets v w s 0 low_set

    each : (w : ℕ) → whole_at bases t.offsets sets w ≡ cond (eqb v w) (int_wrap w64 (whole_at t.bases t.offsets t.sets w +ℤ y)) (whole_at t.bases t.offsets t.sets w)
    each w =
        let z : ℤ = int_wrap w64 (int_wrap w64 (whole_at t.bases t.offsets t.sets v +ℤ y) -ℤ sum_at t.offsets s) in
        ap₂ (λ (b : ℤ) (c : ℕ). int_wrap w64 (b +ℤ sum_at t.offsets c)) (ap (λ zs. sum_at zs w) written ∙ set_at t.bases v w z (pos 0) low) (at w)
        ∙ by_test (eqb v w)
        (λ e. rw e (back (whole_at t.bases t.offsets t.sets v +ℤ y) (sum_at t.offsets s) ∙ ap (λ x. int_wrap w64 (whole_at t.bases t.offsets t.sets x +ℤ y)) (eqb-true v w e)))
        (λ e. rw e refl)

-- a vertex has a place in each table
pub low_set : (p : Inside) (t : SetTables) (v : ℕ) → tables_of p ≡ t → v < length t.sets → v < length p.sets.items
low_set p t v view low = omega (arith, low, ap (λ (u : SetTables). length u.sets) view)

-- each entry is below a bound, also where one is written
pub set_within : (xs : List ℕ) (v s n : ℕ) → v < length xs → s < n → ((w : ℕ) → w < length xs → slice_index xs w < n)
    → (w : ℕ) → w < length xs → slice_index (slice_set xs v s) w < n
set_within xs v s n here low within w b = subst (λ (x : ℕ). x < n) (sym (set_at xs v w s 0 here)) (cond_both (eqb v w) s (slice_index xs w) (λ x. x < n) (λ _. low) (λ _. within w b))

-- sums of 0
pub zero_sums : (bases offsets : List ℤ) (sets : List ℕ) (j k v : ℕ) → bases ≡ replicate j (pos 0) → offsets ≡ replicate k (pos 0) → whole_at bases offsets sets v ≡ pos 0
zero_sums bases offsets sets j k v left right =
    ap₂ (λ (x z : ℤ). int_wrap w64 (x +ℤ z)) (ap (λ zs. sum_at zs v) left ∙ everywhere (pos 0) j v)
    (ap (λ zs. sum_at zs (slice_index sets v)) right ∙ everywhere (pos 0) k (slice_index sets v)) ∙ int_wrap_fits w64 (pos 0) (omega (arith, ints))
