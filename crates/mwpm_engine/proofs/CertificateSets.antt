-- The sets that an engine lists: blossoms of the family, each once.
use Rattle.alt_forest.proofs.Common.{◌≡◌, ℕ, ◌+◌, ◌*◌, ◌<◌, ◌≤◌, ℤ, pos, ◌≤ℤ◌, true, false, eqb, List, [], ◌∷◌, length, refl, sym, ap, ◌∙◌}
use Rattle.alt_forest.proofs.Common.{subst, arith, inl, inr, get_or, int_lt, Bool, cond, not, All, AllPairs, AllByRecursion, IsStrictlyIncreasing, ints, eq-eqb, ne_eqb, both_ways}
use Rattle.alt_forest.proofs.Common.{get_or-map, length-map, sum_by-cons, All-nil, All-cons, All-weaker, recursion_from_All, length-filter_both, AllPairs-cons, AllPairs-filter, holds}
use Rattle.alt_forest.proofs.Common.{DualSet, no_set, set_at, holds_at, most_blossoms, AreSame, HoldsOrMisses, Blossom, IsNested, is_node, names_of, members_of, dual_at, AllNew, by_test}
use Rattle.alt_forest.proofs.Common.{first_in, later_in, new-filter, names_new, name_is_node, blossoms_most, member_sum, members_most, members_here, members_past}
use Rattle.alt_forest.proofs.Common.{newer_holds_or_misses, members_differ}
use Rattle.blossom_arena.specs.Slack.{AreListed}
use Rattle.mwpm_engine.specs.Solutions.{AreAscending, AreNested, member_count}
use Rattle.mwpm_engine.specs.Solving.{sets_at}
use Rattle.search_start.specs.Proving.{is_proving, proving}
use Rattle.search_start.proofs.ProvingSets.{IsProving, each_proving}
use Rattle.mwpm_engine.proofs.EvenPaths.{new_differ}

-- an older blossom isn't the newest
not_newest : (b : Blossom) (older : List Blossom) (x : ℕ) → AllNew (names_of (b ∷ older)) → holds (names_of older) x ≡ true → eqb b.node x ≡ false
not_newest b older x new named = ne_eqb b.node x (λ s. both_ways (holds (names_of older) b.node) new.0 (ap (holds (names_of older)) s ∙ named))

-- a blossom of the family, and its dual
pub record IsKnown (ys : List ℤ) (bs : List Blossom) (b : Blossom) : Type 0 where
  pub named : holds (names_of bs) b.node ≡ true
  pub members : members_of bs b.node ≡ b.members
  pub low : pos 0 ≤ℤ dual_at ys b.node

all_known : (ys : List ℤ) (bs : List Blossom) → AllNew (names_of bs) → AllByRecursion (λ (b : Blossom). pos 0 ≤ℤ dual_at ys b.node) bs → All (IsKnown ys bs) bs
all_known ys [] new low = All-nil (IsKnown ys [])
all_known ys (b ∷ older) new low = All-cons (IsKnown ys (b ∷ older)) b older
    (record { named = first_in b.node (names_of older); members = members_here b older b.node (eq-eqb b.node b.node refl); low = low.0 })
    (All-weaker (IsKnown ys older) (IsKnown ys (b ∷ older)) (λ x h. record {
      named = later_in b.node (names_of older) x.node h.named;
      members = members_past b older x.node (not_newest b older x.node new h.named) ∙ h.members;
      low = h.low;
    }) older (all_known ys older new.1 low.1))

pub each_known : (n : ℕ) (ys : List ℤ) (bs : List Blossom) → IsNested n bs → AllByRecursion (λ (b : Blossom). pos 0 ≤ℤ dual_at ys b.node) bs
    → AllByRecursion (IsKnown ys bs) bs
each_known n ys bs nested low = recursion_from_All (IsKnown ys bs) bs (all_known ys bs (names_new n bs nested) low)

zero_is : (y : ℤ) → int_lt (pos 0) y ≡ false → pos 0 ≤ℤ y → y ≡ pos 0
zero_is y t low = grind (arith, ints)

-- the members of these are no more than those of all blossoms
proving_members : (ys : List ℤ) (bs left : List Blossom) → AllByRecursion (IsKnown ys bs) left → member_count (sets_at ys bs (proving ys left)) ≤ member_sum left
proving_members ys bs [] each = omega arith
proving_members ys bs (b ∷ older) each =
    let rest = proving_members ys bs older each.1 in let size = ap length each.0.members in
    let sum = sum_by-cons (λ (c : Blossom). length c.members) b older in
    let count : Bool → ℕ = λ t. member_count (sets_at ys bs (cond t (b.node ∷ proving ys older) (proving ys older))) in
    by_test (is_proving ys b.node)
    (λ t. let here : member_count (sets_at ys bs (proving ys (b ∷ older))) ≡ count true = ap count t in omega (arith, rest, size, sum, here))
    (λ t. let here : member_count (sets_at ys bs (proving ys (b ∷ older))) ≡ count false = ap count t in omega (arith, rest, size, sum, here))

-- a node as a set
abbrev pub set_of : List ℤ → List Blossom → ℕ → DualSet
set_of ys bs a = record { dual = dual_at ys a; members = members_of bs a }

pub few_sets : (n : ℕ) (ys : List ℤ) (bs : List Blossom) → IsNested n bs → length (sets_at ys bs (proving ys bs)) ≤ most_blossoms n
few_sets n ys bs nested = omega (
  arith,
  length-map (proving ys bs) (set_of ys bs),
  length-filter_both (is_proving ys) (λ a. not (is_proving ys a)) (λ a. refl) (names_of bs),
  length-map bs (λ (b : Blossom). b.node),
  blossoms_most n bs nested,
)

pub few_members : (n : ℕ) (ys : List ℤ) (bs : List Blossom) → IsNested n bs → AllByRecursion (IsKnown ys bs) bs → 4 * member_count (sets_at ys bs (proving ys bs)) ≤ n * n + 3 * n
few_members n ys bs nested each = omega (arith, proving_members ys bs bs each, members_most n bs nested)

pub set_at_place : (ys : List ℤ) (bs : List Blossom) (nodes : List ℕ) (i : ℕ) → i < length nodes → set_at (sets_at ys bs nodes) i ≡ set_of ys bs (get_or nodes i 0)
set_at_place ys bs nodes i low = get_or-map (set_of ys bs) nodes i 0 no_set low

-- a node's vertices are the same once a newer blossom is made, and of any two nodes the newer one's hold the older one's or miss them
later_sets : (b : Blossom) (older : List Blossom) (x y : ℕ) → AllNew (names_of (b ∷ older)) → holds (names_of older) x ≡ true → holds (names_of older) y ≡ true
    → HoldsOrMisses (members_of older x) (members_of older y) → HoldsOrMisses (members_of (b ∷ older) x) (members_of (b ∷ older) y)
later_sets b older x y new named_x named_y h =
    subst (λ ms. HoldsOrMisses ms (members_of (b ∷ older) y)) (sym (members_past b older x (not_newest b older x new named_x)))
    (subst (HoldsOrMisses (members_of older x)) (sym (members_past b older y (not_newest b older y new named_y))) h)

newest_sets : (n : ℕ) (b : Blossom) (older : List Blossom) (y : ℕ) → IsNested n (b ∷ older) → holds (names_of older) y ≡ true
    → HoldsOrMisses (members_of (b ∷ older) b.node) (members_of (b ∷ older) y)
newest_sets n b older y nested named =
    subst (λ ms. HoldsOrMisses ms (members_of (b ∷ older) y)) (sym (members_here b older b.node (eq-eqb b.node b.node refl)))
    (subst (HoldsOrMisses b.members) (sym (members_past b older y (not_newest b older y (names_new n (b ∷ older) nested) named)))
    (newer_holds_or_misses n b older y nested (name_is_node n older y named)))

abbrev AreOrdered : List Blossom → ℕ → ℕ → Type 0
AreOrdered bs x y = HoldsOrMisses (members_of bs x) (members_of bs y)

newer_first : (n : ℕ) (bs : List Blossom) → IsNested n bs → AllPairs (AreOrdered bs) (names_of bs)
newer_first n [] nested = λ i j d less low. absurd (omega (arith, less, low))
newer_first n (b ∷ older) nested = AllPairs-cons (AreOrdered (b ∷ older)) b.node (names_of older)
    (λ k d low. newest_sets n b older (get_or (names_of older) k d) nested (holds_at (names_of older) k d low))
    (λ i j d less low. later_sets b older (get_or (names_of older) i d) (get_or (names_of older) j d) (names_new n (b ∷ older) nested)
    (holds_at (names_of older) i d (omega (arith, less, low))) (holds_at (names_of older) j d low) (newer_first n older nested.1 i j d less low))

-- the sets are different, and of any two the earlier one holds the later one or they have no vertex in common
pub nested_sets : (n : ℕ) (ys : List ℤ) (bs : List Blossom) → IsNested n bs → AreNested (sets_at ys bs (proving ys bs))
nested_sets n ys bs nested =
    let nodes : List ℕ = proving ys bs in let size = length-map nodes (set_of ys bs) in
    let is : (i : ℕ) → i < length nodes → is_node n bs (get_or nodes i 0) ≡ true = λ i low. name_is_node n bs (get_or nodes i 0) (each_proving ys bs i 0 low).named in
    record {
      different = λ i j less low same.
          let high : j < length nodes = omega (arith, size, low) in
          let before : i < length nodes = omega (arith, high, less) in
          let one = ap (λ (t : DualSet). t.members) (set_at_place ys bs nodes i before) in
          let other = ap (λ (t : DualSet). t.members) (set_at_place ys bs nodes j high) in
          new_differ nodes (new-filter (is_proving ys) (names_of bs) (names_new n bs nested)) i j less high
          (members_differ n bs (get_or nodes i 0) (get_or nodes j 0) nested (is i before) (is j high)
          (λ v. ap (λ ms. holds ms v) (sym one) ∙ same v ∙ ap (λ ms. holds ms v) other));
      outer_first = λ i j less low.
          let high : j < length nodes = omega (arith, size, low) in
          let before : i < length nodes = omega (arith, high, less) in
          subst (λ (t : DualSet). HoldsOrMisses t.members (set_at (sets_at ys bs nodes) j).members) (sym (set_at_place ys bs nodes i before))
          (subst (λ (t : DualSet). HoldsOrMisses (members_of bs (get_or nodes i 0)) t.members) (sym (set_at_place ys bs nodes j high))
          (AllPairs-filter (AreOrdered bs) (is_proving ys) (names_of bs) (newer_first n bs nested) i j 0 less high));
    }

-- a set of a certificate: a listed blossom's dual, and its vertices, ascending
pub record IsOf (ys : List ℤ) (bs : List Blossom) (t : DualSet) : Type 0 where
  pub node : ℕ
  pub named : holds (names_of bs) node ≡ true
  pub positive : pos 1 ≤ℤ t.dual
  pub members : AreSame t.members (members_of bs node)
  pub ascending : IsStrictlyIncreasing t.members

pub each_of : (ys : List ℤ) (bs : List Blossom) (nodes : List ℕ) (sets : List DualSet) → AllByRecursion (IsProving ys bs) nodes → AreAscending (sets_at ys bs nodes) sets
    → AllByRecursion (IsOf ys bs) sets
each_of ys bs [] sets each same = subst (AllByRecursion (IsOf ys bs)) (sym same) tt
each_of ys bs (a ∷ nodes) sets each same = subst (AllByRecursion (IsOf ys bs)) (sym same.2) (
  record { node = a; named = each.0.named; positive = subst (λ z. pos 1 ≤ℤ z) (sym same.3) each.0.positive; members = same.4; ascending = same.5 },
  each_of ys bs nodes same.1 each.1 same.6,
)

-- the sets with their members in ascending order are those of the blossoms, without those of dual 0
pub sets_listed : (ys : List ℤ) (bs left : List Blossom) (sets : List DualSet) → AllByRecursion (IsKnown ys bs) left → AreAscending (sets_at ys bs (proving ys left)) sets
    → AreListed ys left sets
sets_listed ys bs [] sets each same = same
sets_listed ys bs (b ∷ older) sets each same =
    let here : Bool → Type 0 = λ t. AreAscending (sets_at ys bs (cond t (b.node ∷ proving ys older) (proving ys older))) sets in
    by_test (is_proving ys b.node)
    (λ t.
    let h = subst here t same in
    inr (h.0, h.1, h.2, record { dual = h.3; members = λ v. h.4 v ∙ ap (λ ms. holds ms v) each.0.members }, sets_listed ys bs older h.1 each.1 h.6))
    (λ t. inl (zero_is (dual_at ys b.node) t each.0.low, sets_listed ys bs older sets each.1 (subst here t same)))
