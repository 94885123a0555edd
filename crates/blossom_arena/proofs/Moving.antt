-- Duals that move by a clock: bases, shares, and what a write changes.
use Rattle.graph_theory.proofs.Common.{◌≡◌, ℕ, zero, suc, ◌≤◌, ◌<◌, eqb, List, [], ◌∷◌, length, refl, sym, ap, ap₂, ◌∙◌, subst, arith, ⊎_elim, ℤ, pos}
use Rattle.graph_theory.proofs.Common.{◌+ℤ◌, ◌-ℤ◌, ◌≤ℤ◌, slice_set, replicate, slice_index_or, cases_lt, cond_both, ints, get_or_past, length-replicate, length-set}
use Rattle.graph_theory.proofs.Common.{set-get_or, get_or_default, IsNumber, Vec}
use Rattle.graph_theory.specs.declared.limits.TheConstants.{NUMBER_LIMIT}
use Rattle.blossom_arena.proofs.Held.{alone}
use Rattle.blossom_arena.specs.declared.label.Label.{Label}
use Rattle.blossom_arena.specs.declared.label.Label.TheVariants.{Outer, Inner, Out}
use Rattle.blossom_arena.specs.Family.{dual_at, label_at}
use Rattle.blossom_arena.specs.Changes.{share}
use Rattle.blossom_arena.specs.declared.dual_table.Duals.TheInside.{Inside}
use Rattle.blossom_arena.specs.Moving.{DualTable, IsTable, moved, table_of, empty_table}
use Rattle.blossom_arena.proofs.Lists.{set_at}
use Rattle.graph_theory.proofs.Members.{everywhere}

pub length-moved : (c : ℤ) (ys : List ℤ) (ms : List Label) → length (moved c ys ms) ≡ length ys
length-moved c [] ms = refl
length-moved c (y ∷ ys) [] = ap suc (length-moved c ys [])
length-moved c (y ∷ ys) (m ∷ ms) = ap suc (length-moved c ys ms)

-- a share of a number in range is one
pub share_number : (c : ℤ) (l : Label) → pos 0 ≤ℤ c → c ≤ℤ NUMBER_LIMIT → IsNumber (share c l)
share_number c Outer low high = (omega (arith, ints, low, high), high)
share_number c Inner low high = (omega (arith, ints, low, high), omega (arith, ints, low, high))
share_number c Out low high = (omega (arith, ints, low, high), omega (arith, ints, low, high))

-- what a number has that gets nothing
pub stays : (x y z : ℤ) → z ≡ pos 0 → x ≡ y → x ≡ y +ℤ z
stays x y z none same = same ∙ alone y ∙ ap (λ (w : ℤ). y +ℤ w) (sym none)

-- what a number has
pub moved_at : (c : ℤ) (ys : List ℤ) (ms : List Label) (a : ℕ) → a < length ys → dual_at (moved c ys ms) a ≡ dual_at ys a +ℤ share c (label_at ms a)
moved_at c [] ms a low = absurd (omega (arith, low))
moved_at c (y ∷ ys) [] zero low = alone y
moved_at c (y ∷ ys) [] (suc a) low = moved_at c ys [] a (omega (arith, low))
moved_at c (y ∷ ys) (m ∷ ms) zero low = refl
moved_at c (y ∷ ys) (m ∷ ms) (suc a) low = moved_at c ys ms a (omega (arith, low))

-- a base and a motion that are written
pub moved_set : (c : ℤ) (ys : List ℤ) (ms : List Label) (a : ℕ) (y : ℤ) (m : Label) → length ms ≡ length ys
    → moved c (slice_set ys a y) (slice_set ms a m) ≡ slice_set (moved c ys ms) a (y +ℤ share c m)
moved_set c [] [] a y m len = refl
moved_set c [] (n ∷ ms) a y m len = absurd (omega (arith, len))
moved_set c (x ∷ xs) [] a y m len = absurd (omega (arith, len))
moved_set c (x ∷ xs) (n ∷ ms) zero y m len = refl
moved_set c (x ∷ xs) (n ∷ ms) (suc a) y m len = ap (λ (zs : List ℤ). (x +ℤ share c n) ∷ zs) (moved_set c xs ms a y m (omega (arith, len)))

-- the base of a number that is written
pub moved_put : (c : ℤ) (ys : List ℤ) (ms : List Label) (a : ℕ) (y : ℤ) (m : Label) → length ms ≡ length ys
    → moved c (slice_set ys a (y -ℤ share c m)) (slice_set ms a m) ≡ slice_set (moved c ys ms) a y
moved_put c ys ms a y m len = moved_set c ys ms a (y -ℤ share c m) m len ∙ ap (λ (z : ℤ). slice_set (moved c ys ms) a z) (back y (share c m))
  where
    back : (p q : ℤ) → (p -ℤ q) +ℤ q ≡ p
    back p q = omega (arith, ints)

-- each number stays in range where the one that is written does
pub number_set : (ys : List ℤ) (a b : ℕ) (y : ℤ) → ((x : ℕ) → IsNumber (dual_at ys x)) → IsNumber y → a < length ys → IsNumber (dual_at (slice_set ys a y) b)
number_set ys a b y all is low =
    subst IsNumber (sym (set_at ys a b y (pos 0) low)) (cond_both (eqb a b) y (dual_at ys b) IsNumber (λ e. is) (λ e. all b))

-- the same duals again
pub same_put : (ys : List ℤ) (a : ℕ) → slice_set ys a (dual_at ys a) ≡ ys
same_put ys a = set-get_or ys a (pos 0)

-- a clock that goes on
pub share_adds : (c d : ℤ) (l : Label) → share (c +ℤ d) l ≡ share c l +ℤ share d l
share_adds c d Outer = refl
share_adds c d Inner = omega (arith, ints)
share_adds c d Out = omega (arith, ints)

pub moved_on : (c d : ℤ) (ys : List ℤ) (ms : List Label) (a : ℕ) → length ms ≡ length ys
    → dual_at (moved (c +ℤ d) ys ms) a ≡ dual_at (moved c ys ms) a +ℤ share d (label_at ms a)
moved_on c d ys ms a len = ⊎_elim
    (λ (low : a < length ys). omega (arith, ints, moved_at c ys ms a low, moved_at (c +ℤ d) ys ms a low, share_adds c d (label_at ms a)))
    (λ (high : length ys ≤ a).
    let after = get_or_past (moved (c +ℤ d) ys ms) a (pos 0) (omega (arith, high, length-moved (c +ℤ d) ys ms)) in
    let rests : share d (label_at ms a) ≡ pos 0 = ap (share d) (get_or_past ms a Out (omega (arith, high, len))) in
    omega (arith, ints, get_or_past (moved c ys ms) a (pos 0) (omega (arith, high, length-moved c ys ms)), after, rests))
    (cases_lt a (length ys))

-- all duals 0
pub moved_zero : (k : ℕ) → moved (pos 0) (replicate k (pos 0)) (replicate k Out) ≡ replicate k (pos 0)
moved_zero zero = refl
moved_zero (suc k) = ap (λ (zs : List ℤ). pos 0 ∷ zs) (moved_zero k)

-- a place of the duals is one of the bases and of the motions
pub base_place : (t : Inside) (v : DualTable) (a : ℕ) → table_of t ≡ v → a < length v.values → a < length t.bases.items
base_place t v a view low = omega (arith, low, ap (λ (x : DualTable). length x.values) view, length-moved t.shares t.bases.items t.motions.items)

-- a base with its share of the clock
pub sum_is : (t : Inside) (v : DualTable) (a : ℕ) (p q : ℤ) (l : Label) → table_of t ≡ v → a < length v.values → length t.motions.items ≡ length t.bases.items
    → p ≡ slice_index_or t.bases.items a p → l ≡ slice_index_or t.motions.items a l → q ≡ share t.shares l → p +ℤ q ≡ dual_at v.values a
sum_is t v a p q l view low len base label more =
    let place = base_place t v a view low in
    ap₂ (λ (x y : ℤ). x +ℤ y) (base ∙ get_or_default t.bases.items a p (pos 0) place)
    (more ∙ ap (share t.shares) (label ∙ get_or_default t.motions.items a l Out (omega (arith, place, len))))
    ∙ sym (moved_at t.shares t.bases.items t.motions.items a place) ∙ ap (λ (x : DualTable). dual_at x.values a) view

pub number_at : (t : Inside) (v : DualTable) (a : ℕ) → table_of t ≡ v → IsTable t → IsNumber (dual_at v.values a)
number_at t v a view h = subst (λ (x : DualTable). IsNumber (dual_at x.values a)) view (h.numbers a)

-- a table in which a dual and its motion are written
module _ (t : Inside) (bases : Vec ℤ) (motions : Vec Label) (a : ℕ) (y : ℤ) (m : Label) (h : IsTable t) (low : a < length t.bases.items)
    (base : bases.items ≡ slice_set t.bases.items a (y -ℤ share t.shares m)) (motion : motions.items ≡ slice_set t.motions.items a m) where
  pub values_put : moved t.shares bases.items motions.items ≡ slice_set (moved t.shares t.bases.items t.motions.items) a y
  values_put = ap₂ (λ (ys : List ℤ) (ms : List Label). moved t.shares ys ms) base motion ∙ moved_put t.shares t.bases.items t.motions.items a y m h.motions

  pub table_put : IsNumber y → IsTable (record { bases = bases; motions = motions; shares = t.shares })
  table_put number = record {
    low = h.low;
    high = h.high;
    motions = ap length motion ∙ length-set t.motions.items a m ∙ h.motions ∙ sym (length-set t.bases.items a (y -ℤ share t.shares m)) ∙ sym (ap length base);
    numbers = λ b. subst (λ (ys : List ℤ). IsNumber (dual_at ys b)) (sym values_put)
        (number_set (moved t.shares t.bases.items t.motions.items) a b y h.numbers number (omega (arith, low, length-moved t.shares t.bases.items t.motions.items)));
  }

-- a table whose clock goes on
pub table_on : (t : Inside) (d : ℤ) → IsTable t → pos 0 ≤ℤ (t.shares +ℤ d) → (t.shares +ℤ d) ≤ℤ NUMBER_LIMIT
    → ((a : ℕ) → IsNumber (dual_at (moved t.shares t.bases.items t.motions.items) a +ℤ share d (label_at t.motions.items a))) → IsTable (record t { shares = t.shares +ℤ d })
table_on t d h low high in_range = record {
  low = low;
  high = high;
  motions = h.motions;
  numbers = λ a. subst IsNumber (sym (moved_on t.shares d t.bases.items t.motions.items a h.motions)) (in_range a);
}

-- a table of duals 0
pub table_zero : (t : Inside) (k : ℕ) → t.bases.items ≡ replicate k (pos 0) → t.motions.items ≡ replicate k Out → t.shares ≡ pos 0 → table_of t ≡ empty_table k
table_zero t k bases motions clock =
    ap₂ (λ (ys : List ℤ) (ms : List Label). let x : DualTable = record { values = moved t.shares ys ms; motions = ms } in x) bases motions
    ∙ ap (λ (c : ℤ). let x : DualTable = record { values = moved c (replicate k (pos 0)) (replicate k Out); motions = replicate k Out } in x) clock
    ∙ ap (λ (ys : List ℤ). let x : DualTable = record { values = ys; motions = replicate k Out } in x) (moved_zero k)

pub zero_table : (t : Inside) (k : ℕ) → t.bases.items ≡ replicate k (pos 0) → t.motions.items ≡ replicate k Out → t.shares ≡ pos 0 → IsTable t
zero_table t k bases motions clock = record {
  low = omega (arith, ints, clock);
  high = omega (arith, ints, clock);
  motions = ap length motions ∙ length-replicate k Out ∙ sym (length-replicate k (pos 0)) ∙ sym (ap length bases);
  numbers = λ a. subst (λ (x : DualTable). IsNumber (dual_at x.values a)) (sym (table_zero t k bases motions clock)) (none a);
}
  where
    none : (a : ℕ) → IsNumber (dual_at (replicate k (pos 0)) a)
    none a = subst IsNumber (sym (everywhere (pos 0) k a)) (omega (arith, ints), omega (arith, ints))
