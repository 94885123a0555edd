-- Sets given by vertices and earlier sets, listed with all their members, are the sets that they were made from, in the opposite order.
use Rattle.mb_problem.proofs.Common.{◌≡◌, ℕ, zero, suc, ◌-◌, ◌<◌, ◌≤◌, ℤ, true, Bool, List, [], ◌∷◌, length, All, sym, ap, ◌∙◌, subst, refl, eqb, arith}
use Rattle.mb_problem.proofs.Common.{range_with_len, IsStrictlyIncreasing, and_parts, and_from, eqb-true, All-get_or, get_or-map-range_with_len, length-map-range_with_len}
use Rattle.mb_problem.proofs.Common.{IsStrictlyIncreasing-filter, any-filter_same, OddSet, DualSet, IsSetWithin, no_set, set_at, AreSame, AreAscending, given_at, lies_in, members_in}
use Rattle.mb_problem.proofs.Common.{listed_set, listed_sets, holds, holds_all, same_list, range-ascending, range-has, range-only}
use Rattle.std.proofs.Common.{filter}
use Rattle.solve_kinds.proofs.TurnedSets.{AreTurned}

-- the set at a place of a listing
pub record IsListed (s t : DualSet) : Type 0 where
  pub dual : t.dual ≡ s.dual
  pub same : AreSame t.members s.members
  pub ascending : IsStrictlyIncreasing t.members

pub listed-at : (sets lines : List DualSet) (k : ℕ) → AreAscending sets lines → k < length sets → IsListed (set_at sets k) (set_at lines k)
listed-at [] lines k is b = absurd (omega (arith, b))
listed-at (s ∷ sets) lines zero is b =
    subst (λ (zs : List DualSet). IsListed s (set_at zs 0)) (sym is.2) (record { dual = is.3; same = is.4; ascending = is.5 })
listed-at (s ∷ sets) lines (suc k) is b =
    subst (λ (zs : List DualSet). IsListed (set_at sets k) (set_at zs (suc k))) (sym is.2) (listed-at sets is.1 k is.6 (omega (arith, b)))

pub listed-size : (sets lines : List DualSet) → AreAscending sets lines → length lines ≡ length sets
listed-size [] lines is = ap length is
listed-size (s ∷ sets) lines is = ap length is.2 ∙ ap suc (listed-size sets is.1 is.6)

-- a vertex is listed where it passes and is one of 1 to n
kept : (p : ℕ → Bool) (n v : ℕ) → p v ≡ true → 1 ≤ v → v ≤ n → holds (filter p (range_with_len 1 n)) v ≡ true
kept p n v t low high =
    any-filter_same (λ m. eqb m v) p true (λ k e. ap p (eqb-true k v e) ∙ t) (range_with_len 1 n) ∙ and_from true (holds (range_with_len 1 n) v) refl (range-has n v low high)

kept-only : (p : ℕ → Bool) (n v : ℕ) → holds (filter p (range_with_len 1 n)) v ≡ true → (p v ≡ true) × (1 ≤ v) × (v ≤ n)
kept-only p n v h =
    let both = and_parts (p v) (holds (range_with_len 1 n) v) (sym (any-filter_same (λ m. eqb m v) p (p v) (λ k e. ap p (eqb-true k v e)) (range_with_len 1 n)) ∙ h) in
    let range = range-only n v both.1 in
    (both.0, range.0, range.1)

-- ascending members are the ones that pass
pub members-kept : (p : ℕ → Bool) (n : ℕ) (ms : List ℕ) → IsStrictlyIncreasing ms → All (λ m. (1 ≤ m) × (m ≤ n)) ms
    → ((v : ℕ) → 1 ≤ v → v ≤ n → p v ≡ holds ms v) →
    filter p (range_with_len 1 n) ≡ ms
members-kept p n ms up within same =
    same_list (filter p (range_with_len 1 n)) ms (IsStrictlyIncreasing-filter p (range_with_len 1 n) (range-ascending n)) up
    (λ v h. (let is = kept-only p n v h in sym (same v is.1 is.2) ∙ is.0))
    (λ v h. (let range : (1 ≤ v) × (v ≤ n) = holds_all (λ m. (1 ≤ m) × (m ≤ n)) ms v within h in kept p n v (same v range.0 range.1 ∙ h) range.0 range.1))

-- a set by its parts
abbrev dual_set : ℤ → List ℕ → DualSet
dual_set a xs = record { dual = a; members = xs }

by_parts : (a b : ℤ) (xs ys : List ℕ) → a ≡ b → xs ≡ ys → dual_set a xs ≡ dual_set b ys
by_parts a b xs ys e f = rw (e, f) refl

-- the sets have the duals and the members of these, the last one first
pub record GivesTurned (n : ℕ) (sets : List DualSet) (given : List OddSet) : Type 0 where
  pub one_each : length given ≡ length sets
  pub duals : (k : ℕ) → k < length sets → (given_at given k).dual ≡ (set_at sets (length sets - 1 - k)).dual
  pub members : (k v : ℕ) → k < length sets → 1 ≤ v → v ≤ n → lies_in given k v ≡ holds (set_at sets (length sets - 1 - k)).members v

pub listed-turned : (n : ℕ) (sets lines : List DualSet) (given : List OddSet) → AreAscending sets lines → All (IsSetWithin n) lines → GivesTurned n sets given →
    AreTurned (listed_sets n given) lines
listed-turned n sets lines given is within gives =
    let size = listed-size sets lines is in
    let long : length (listed_sets n given) ≡ length given = length-map-range_with_len (listed_set n given) 0 (length given) in
    record {
      one_each = long ∙ gives.one_each ∙ sym size;
      places = λ k b.
          (let below : k < length sets = omega (arith, b, long, gives.one_each) in
          let j = length sets - 1 - k in
          let low : j < length sets = omega (arith, below) in
          let t = set_at lines j in
          let at : IsListed (set_at sets j) t = listed-at sets lines j is low in
          let range : IsSetWithin n t = All-get_or (IsSetWithin n) lines j no_set (omega (arith, low, size)) within in
          let read : set_at (listed_sets n given) k ≡ listed_set n given k =
          get_or-map-range_with_len (listed_set n given) 0 (length given) k k no_set (omega (arith, below, gives.one_each)) (omega arith) in
          let dual : (given_at given k).dual ≡ t.dual = gives.duals k below ∙ sym at.dual in
          let members : members_in n given k ≡ t.members =
          members-kept (lies_in given k) n t.members at.ascending range.in_range (λ v a c. gives.members k v below a c ∙ sym (at.same v)) in
          let same : listed_set n given k ≡ t = by_parts (given_at given k).dual t.dual (members_in n given k) t.members dual members in
          let place : length sets - 1 - k ≡ length (listed_sets n given) - 1 - k = omega (arith, long, gives.one_each) in
          read ∙ same ∙ ap (set_at lines) place);
    }
