-- Two positions of a vertex in a stretch, and the first set that spans two.
use Rattle.graph_theory.proofs.Common.{◌≡◌, ◌≢◌, ◌∙◌, sym, ap, subst, inl, inr, arith, ℕ, zero, suc, ◌+◌, ◌-◌, ◌<◌, ◌≤◌, true, false, List, length}
use Rattle.graph_theory.proofs.Common.{get_or, set, All, cases_eq, false≢true, AreEarlier, IsGivenWithin}
use Rattle.std.proofs.Common.{get_or-set_same, get_or-set_other, length-set}
use Rattle.graph_theory.specs.declared.odd_set.OddSet.{OddSet}
use Rattle.dual_check.specs.declared.forest.Forest.{Forest}
use Rattle.dual_check.specs.Forests.{IsForest, AreItemLists, IsApart, IsFirstPlace, spans, vertex_at}
use Rattle.dual_check.proofs.NamedMembers.{times-named}
use Rattle.dual_check.proofs.PlaceLemmas.{spanned-within}
use Rattle.dual_check.proofs.StretchLemmas.{IsDouble, spans_is, spans_from, once, twice}

-- the first n sets have none: they are apart
pub singles-apart : (k : ℕ) (sets : List OddSet) (n : ℕ) (f : Forest) → AreEarlier sets → n ≤ length sets → AreItemLists sets n → IsForest sets n f → k ≤ n
    → ((j p q : ℕ) → j < k → IsDouble f j p q → ⊥) → (j : ℕ) → j < k → IsApart sets j
singles-apart zero sets n f are most lists forest b none j less = absurd (omega (arith, less))
singles-apart (suc k) sets n f are most lists forest b none j less = λ v.
    let before = singles-apart k sets n f are most lists forest (omega (arith, b)) (λ i p q c. none i p q (omega (arith, c))) in
    let most_once = once sets n f forest j (omega (arith, less, b)) (λ p q d. none j p q less d) v in
    omega (arith, times-named sets j are (omega (arith, less, b, most)) (λ i c. (lists i (omega (arith, c, less, b))).vertices) (λ i c. before i (omega (arith, c, less))) v, most_once)

-- the first set that has one isn't apart, and those before it are
pub double_first : (sets : List OddSet) (n : ℕ) (f : Forest) (k p q : ℕ) → AreEarlier sets → n ≤ length sets → AreItemLists sets n → IsForest sets n f → k < n
    → IsDouble f k p q → ((j p q : ℕ) → j < k → IsDouble f j p q → ⊥) → IsFirstPlace (IsApart sets) n k
double_first sets n f k p q are most lists forest b double none =
    let before = singles-apart k sets n f are most lists forest (omega (arith, b)) none in
    record {
      in_range = b;
      lacks = λ apart.
          let two = twice sets n f forest k b p q double in
          let one = apart (vertex_at f p) in
          absurd (omega (arith, times-named sets k are (omega (arith, b, most)) (λ i c. (lists i (omega (arith, c, b))).vertices) (λ i c. before i c) (vertex_at f p), two, one));
      before = before;
    }

-- ---- the pass over all positions

-- where each vertex up to m stood last among the first q positions, counted from 1
pub record KeepsLast (f : Forest) (m q : ℕ) (last : List ℕ) : Type 0 where
  pub size : length last ≡ m + 1
  pub below : (v : ℕ) → get_or last v 0 ≤ q
  pub stood : (v : ℕ) → 1 ≤ get_or last v 0 → vertex_at f (get_or last v 0 - 1) ≡ v
  pub latest : (v p : ℕ) → v ≤ m → p < q → vertex_at f p ≡ v → p < get_or last v 0

-- the first of n sets that has a vertex twice among the first q positions, or n where none has
pub record IsLeast (f : Forest) (n q least : ℕ) : Type 0 where
  pub most : least ≤ n
  pub found : least < n → (p : ℕ) × (r : ℕ) × IsDouble f least p r
  pub before : (j p r : ℕ) → j < least → r < q → IsDouble f j p r → ⊥

pub last_next : (f : Forest) (m q v : ℕ) (last new : List ℕ) → KeepsLast f m q last → v ≤ m → vertex_at f q ≡ v → new ≡ set last v (q + 1) → KeepsLast f m (q + 1) new
last_next f m q v last new so b here is =
    let long : length last ≡ m + 1 = so.size in
    let own : get_or new v 0 ≡ q + 1 = ap (λ xs. get_or xs v 0) is ∙ get_or-set_same last v (q + 1) 0 (omega (arith, long, b)) in
    let other : (w : ℕ) → w ≢ v → get_or new w 0 ≡ get_or last w 0 = λ w d. ap (λ xs. get_or xs w 0) is ∙ get_or-set_other last v w (q + 1) 0 d in
    record {
      size = ap length is ∙ length-set last v (q + 1) ∙ long;
      below = λ w. elim (cases_eq w v) [
        | inl e ↦ subst (λ (x : ℕ). get_or new x 0 ≤ q + 1) (sym e) (omega (arith, own))
        | inr d ↦ let o = other w d in let old = so.below w in omega (arith, o, old)
      ];
      stood = λ w low. elim (cases_eq w v) [
        | inl e ↦ subst (λ (x : ℕ). vertex_at f (get_or new x 0 - 1) ≡ x) (sym e)
            (ap (λ (p : ℕ). vertex_at f p) (let back : get_or new v 0 - 1 ≡ q = omega (arith, own) in back) ∙ here)
        | inr d ↦ let o = other w d in ap (λ (p : ℕ). vertex_at f (p - 1)) o ∙ so.stood w (omega (arith, o, low))
      ];
      latest = λ w p high less at. elim (cases_eq w v) [
        | inl e ↦ subst (λ (x : ℕ). p < get_or new x 0) (sym e) (omega (arith, own, less))
        | inr d ↦ elim (cases_eq p q) [
          | inl e ↦ absurd (d (sym at ∙ ap (λ (x : ℕ). vertex_at f x) e ∙ here))
          | inr apart ↦ let o = other w d in let old = so.latest w p high (omega arith) at in omega (arith, o, old)
        ]
      ];
    }

pub last_skip : (f : Forest) (m q : ℕ) (last : List ℕ) → KeepsLast f m q last → m < vertex_at f q → KeepsLast f m (q + 1) last
last_skip f m q last so past = record {
  size = so.size;
  below = λ v. let old = so.below v in omega (arith, old);
  stood = so.stood;
  latest = λ v p high less at. elim (cases_eq p q) [
    | inl e ↦ absurd (let same : vertex_at f q ≡ v = ap (λ (x : ℕ). vertex_at f x) (sym e) ∙ at in omega (arith, same, high, past))
    | inr apart ↦ so.latest v p high (omega arith) at
  ];
}

-- the lesser of the least and the innermost set around position q and the one before, counted from 1, where there is one
pub record IsLowered (f : Forest) (n q least was new : ℕ) : Type 0 where
  pub most : new ≤ least
  pub place : new ≢ least → new < n
  pub stood : new ≢ least → 1 ≤ was
  pub first : new ≢ least → spans f new (was - 1) ≡ true
  pub second : new ≢ least → spans f new q ≡ true
  pub none : 1 ≤ was → (j : ℕ) → j < n → j < new → spans f j (was - 1) ≡ true → spans f j q ≡ false

pub least_next : (f : Forest) (m n q v least new : ℕ) (last : List ℕ) → KeepsLast f m q last → IsLeast f n q least → v ≤ m → vertex_at f q ≡ v
    → IsLowered f n q least (get_or last v 0) new → IsLeast f n (q + 1) new
least_next f m n q v least new last keeps so b here lowered =
    let top = so.most in
    let most = lowered.most in
    record {
      most = omega (arith, most, top);
      found = λ less. elim (cases_eq new least) [
        | inl e ↦ subst (λ (k : ℕ). (p : ℕ) × (r : ℕ) × IsDouble f k p r) (sym e) (so.found (omega (arith, e, less)))
        | inr d ↦ (
          get_or last v 0 - 1,
          q,
          record {
            order = let low = lowered.stood d in let high = keeps.below v in omega (arith, low, high);
            first = lowered.first d;
            second = lowered.second d;
            same = keeps.stood v (lowered.stood d) ∙ sym here;
          },
        )
      ];
      before = λ j p r less c double. elim (cases_eq r q) [
        | inl e ↦
            let at : vertex_at f p ≡ v = double.same ∙ ap (λ (x : ℕ). vertex_at f x) e ∙ here in
            let order : p < q = let o = double.order in omega (arith, o, e) in
            let late : p < get_or last v 0 = keeps.latest v p b order at in
            let start = spans_is f j p double.first in
            let spanned : spans f j q ≡ true = subst (λ (x : ℕ). spans f j x ≡ true) e double.second in
            let stop = spans_is f j q spanned in
            let between : spans f j (get_or last v 0 - 1) ≡ true = spans_from f j (get_or last v 0 - 1) (omega (arith, start.0, late)) (omega (arith, keeps.below v, late, stop.1)) in
            false≢true (sym (lowered.none (omega (arith, late)) j (omega (arith, less, most, top)) less between) ∙ spanned)
        | inr d ↦ so.before j p r (omega (arith, less, most)) (omega arith) double
      ];
    }

-- a position of no vertex of the graph: no set spans it
pub least_skip : (m : ℕ) (sets : List OddSet) (n : ℕ) (f : Forest) (q least : ℕ) → AreEarlier sets → n ≤ length sets → All (IsGivenWithin m) sets → IsForest sets n f
    → IsLeast f n q least → m < vertex_at f q → IsLeast f n (q + 1) least
least_skip m sets n f q least are few within forest so past = record {
  most = so.most;
  found = so.found;
  before = λ j p r less c double. elim (cases_eq r q) [
    | inl e ↦
        absurd (omega (arith, spanned-within m sets n f j q are few within forest (omega (arith, less, so.most)) (subst (λ (x : ℕ). spans f j x ≡ true) e double.second), past))
    | inr d ↦ so.before j p r less (omega arith) double
  ];
}

-- at the end all positions are passed
pub least-none : (sets : List OddSet) (n : ℕ) (f : Forest) (q least : ℕ) → IsForest sets n f → IsLeast f n q least → length f.places.items ≤ q → (j p r : ℕ) → j < least
    → IsDouble f j p r → ⊥
least-none sets n f q least forest so all j p r less double =
    so.before j p r less (omega (arith, (spans_is f j r double.second).1, (forest.ordered j (omega (arith, less, so.most))).1, all)) double
