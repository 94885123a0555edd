-- The first set whose list of items is wrong: marks at the places that earlier sets refer to.
use Rattle.graph_theory.proofs.Common.{◌≡◌, ◌∙◌, sym, subst, inl, inr, arith, ℕ, ◌+◌, ◌%◌, ◌<◌, ◌≤◌, Bool, true, false, ◌||◌, List, length, All}
use Rattle.graph_theory.proofs.Common.{IsStrictlyIncreasing, cases_lt, or_cases, or_right, or_left, false≢true, false_from_ne_true, All-weaker, holds, given_at, AreEarlier, get_or}
use Rattle.graph_theory.proofs.Common.{get_or_read, no_given}
use Rattle.graph_theory.specs.declared.odd_set.OddSet.{OddSet}
use Rattle.graph_parts.specs.Marks.{is_marked}
use Rattle.dual_check.specs.Forests.{AreItemLists, IsItemList, IsFirstPlace}

-- references are places of a table with one more place than there are sets
pub references-within : (sets : List OddSet) (k m : ℕ) (rs : List ℕ) → AreEarlier sets → k < length sets → rs ≡ (given_at sets k).references → m ≡ length sets + 1
    → All (λ r. r < m) rs
references-within sets k m rs are b is long = subst (λ (xs : List ℕ). All (λ r. r < m) xs) (sym is)
    (All-weaker (λ r. (1 ≤ r) × (r ≤ k)) (λ r. r < m) (λ (r : ℕ) (e : (1 ≤ r) × (r ≤ k)). omega (arith, e.0, e.1, b, long)) (given_at sets k).references (are k b))

-- the items of one set by themselves
abbrev pub HasItems : OddSet → Type 0
HasItems s = (3 ≤ length s.vertices + length s.references) × ((length s.vertices + length s.references) % 2 ≡ 1) × IsStrictlyIncreasing s.vertices × IsStrictlyIncreasing s.references

-- marked are just the places that one of the first k sets refers to
pub record MarksReferred (sets : List OddSet) (marks : List Bool) (k : ℕ) : Type 0 where
  pub marked : (i r : ℕ) → i < k → holds (given_at sets i).references r ≡ true → is_marked marks r ≡ true
  pub only : (r : ℕ) → is_marked marks r ≡ true → (i : ℕ) × (i < k) × (holds (given_at sets i).references r ≡ true)

-- the set at place k has a list of items where none of its references is marked
pub item_list : (sets : List OddSet) (marks : List Bool) (k : ℕ) → MarksReferred sets marks k → HasItems (given_at sets k)
    → ((r : ℕ) → holds (given_at sets k).references r ≡ true → is_marked marks r ≡ false) → IsItemList sets k
item_list sets marks k so own open_ones = record {
  three = own.0;
  odd = own.1;
  vertices = own.2;
  references = own.3;
  free = λ i r b h. false_from_ne_true (holds (given_at sets k).references r) (λ here. false≢true (sym (open_ones r here) ∙ so.marked i r b h));
}

pub lists_next : (sets : List OddSet) (k : ℕ) → AreItemLists sets k → IsItemList sets k → AreItemLists sets (k + 1)
lists_next sets k so here j b = elim (cases_lt j k) [
  | inl less ↦ so j less
  | inr last ↦ subst (λ (i : ℕ). IsItemList sets i) (let e : k ≡ j = omega arith in e) here
]

-- one more set's references are marked
pub marks_next : (sets : List OddSet) (old new : List Bool) (k : ℕ) → MarksReferred sets old k
    → ((r : ℕ) → is_marked new r ≡ (is_marked old r || holds (given_at sets k).references r)) → MarksReferred sets new (k + 1)
marks_next sets old new k so is = record {
  marked = λ i r b h. elim (cases_lt i k) [
    | inl less ↦ is r ∙ or_left (is_marked old r) (holds (given_at sets k).references r) (so.marked i r less h)
    | inr last ↦
        let same : i ≡ k = omega arith in
        is r ∙ or_right (is_marked old r) (holds (given_at sets k).references r) (subst (λ (m : ℕ). holds (given_at sets m).references r ≡ true) same h)
  ];
  only = λ r m. elim (or_cases (is_marked old r) (holds (given_at sets k).references r) (sym (is r) ∙ m)) [
    | inl e ↦ let p = so.only r e in (p.0, omega (arith, p.1), p.2)
    | inr e ↦ (k, omega arith, e)
  ];
}

-- what holds of each set holds of the one read at a place
pub at_place : (P : OddSet → Type 0) (sets : List OddSet) (k : ℕ) (s : OddSet) → All P sets → k < length sets → s ≡ get_or sets k s → P s
at_place P sets k s each below is = subst P (sym is) (each k s below)

-- the first k lists are right, and that at place k lacks items
pub lacks_items : (sets : List OddSet) (k : ℕ) (s : OddSet) → AreItemLists sets k → k < length sets → s ≡ get_or sets k s → ¬ HasItems s →
    IsFirstPlace (IsItemList sets) (length sets) k
lacks_items sets k s so below is lacks =
    let here : s ≡ given_at sets k = get_or_read sets k s below is no_given in
    record { in_range = below; lacks = λ list. lacks (subst HasItems (sym here) (list.three, list.odd, list.vertices, list.references)); before = so }

-- or refers to what is marked
pub lacks_free : (sets : List OddSet) (marks : List Bool) (k : ℕ) → AreItemLists sets k → MarksReferred sets marks k → k < length sets
    → ¬ ((r : ℕ) → holds (given_at sets k).references r ≡ true → is_marked marks r ≡ false) → IsFirstPlace (IsItemList sets) (length sets) k
lacks_free sets marks k so are below lacks = record {
  in_range = below;
  lacks = λ list. lacks (λ r here. false_from_ne_true (is_marked marks r) (λ marked.
      let other = are.only r marked in false≢true (sym (list.free other.0 r other.1 other.2) ∙ here)));
  before = so;
}
