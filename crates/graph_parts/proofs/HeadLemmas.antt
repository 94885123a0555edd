-- Lemmas on the least vertices of components.
use Rattle.graph_theory.proofs.Common.{◌≡◌, ◌↔◌, ◌⊎◌, ℕ, ◌+◌, ◌%◌, ◌<◌, ◌≤◌, Bool, true, false, ◌||◌, eqb, ap, sym, ◌∙◌, subst, inl, inr}
use Rattle.graph_theory.proofs.Common.{arith, List, [], ◌∷◌, ◌++◌, length, slice_index, cases_eq, false≢true, or_cases, or_left, or_right, and_parts, and_from, eqb-true, eq-eqb}
use Rattle.graph_theory.proofs.Common.{cond, refl, ◌&&◌, length-append, or-false, Multigraph, IsGraph, holds, AreTogether, IsComponent, IsOddHead, IsOddCount, holds_first, least_first}
use Rattle.graph_theory.proofs.Common.{holds-push, increasing-push, all_holds, together-refl, together-sym, together-trans, together-free, together-within, component-outside}
use Rattle.graph_theory.proofs.Common.{component-within, component-unique, IsStrictlyIncreasing}
use Rattle.graph_parts.specs.Marks.{is_marked, MarksSet}
use Rattle.graph_parts.specs.Search.{Finds}
use Rattle.graph_parts.specs.Heads.{SeenBelow}
use Rattle.graph_parts.proofs.Once.{members_to, kept-holds, to-length}
use Rattle.graph_parts.proofs.ComponentLemmas.{found_component}

-- how many least vertices of components of odd size are below n
pub record CountsBelow (g : Multigraph) (removed : List ℕ) (n count : ℕ) : Type 0 where
  pub heads : List ℕ
  pub ascending : IsStrictlyIncreasing heads
  pub exact : (v : ℕ) → (holds heads v ≡ true) ↔ ((v < n) × IsOddHead g removed v)
  pub size : length heads ≡ count

-- the least vertex of a component is a member
pub head_held : (g : Multigraph) (removed component : List ℕ) (v : ℕ) → IsComponent g removed component → slice_index component 0 ≡ v → holds component v ≡ true
head_held g removed component v is e = subst (λ (x : ℕ). holds component x ≡ true) e (holds_first component is.some)

-- a removed vertex is the least of no component
pub removed_head : (g : Multigraph) (removed : List ℕ) (v : ℕ) → holds removed v ≡ true → IsOddHead g removed v → ⊥
removed_head g removed v h head = false≢true (sym (component-outside g removed head.0 v head.1 (head_held g removed head.0 v head.1 head.3)) ∙ h)

-- nor is one that is together with a lesser vertex
pub lesser_head : (g : Multigraph) (removed : List ℕ) (u v : ℕ) → IsGraph g → u < v → AreTogether g removed u v → IsOddHead g removed v → ⊥
lesser_head g removed u v ok less a head =
    let is : IsComponent g removed head.0 = head.1 in
    let low = least_first head.0 u is.vertices.ascending (is.whole v u (head_held g removed head.0 v is head.3) (together-sym g removed u v ok.ends a)) in
    let first : slice_index head.0 0 ≡ v = head.3 in
    absurd (omega arith)

-- a vertex that is removed or marked adds no marks
pub seen-same : (g : Multigraph) (removed : List ℕ) (v : ℕ) (marks : List Bool) → IsGraph g → SeenBelow g removed v marks → (is_marked marks v ≡ true) ⊎ (holds removed v ≡ true)
    → SeenBelow g removed (v + 1) marks
seen-same g removed v marks ok seen why = λ w. (
  λ h. let s = (seen w).0 h in (s.0, s.1, omega arith, s.3),
  λ s. elim (cases_eq s.0 v) [
    | inl e ↦
        let P : ℕ → Type 0 = λ x. AreTogether g removed x w in
        let a : AreTogether g removed v w = subst P e s.3 in
        elim why [
          | inl marked ↦ let t = (seen v).0 marked in (seen w).1 (t.0, t.1, t.2, together-trans g removed t.0 v w t.3 a)
          | inr gone ↦ absurd (false≢true (sym (together-free g removed w v (together-sym g removed v w ok.ends a)) ∙ gone))
        ]
    | inr d ↦ (seen w).1 (s.0, s.1, omega (arith, s.2), s.3)
  ],
)

-- the component of the vertex is marked
pub seen-more : (g : Multigraph) (removed reached : List ℕ) (v : ℕ) (old new : List Bool) → 1 ≤ v → SeenBelow g removed v old → ((w : ℕ) → (holds reached w ≡ true)
    ↔ AreTogether g removed v w) → ((w : ℕ) → is_marked new w ≡ (is_marked old w || holds reached w)) → SeenBelow g removed (v + 1) new
seen-more g removed reached v old new low seen exact now = λ w. (
  λ h. elim (or_cases (is_marked old w) (holds reached w) (sym (now w) ∙ h)) [
    | inl before ↦ let s = (seen w).0 before in (s.0, s.1, omega arith, s.3)
    | inr member ↦ (v, low, omega arith, (exact w).0 member)
  ],
  λ s. elim (cases_eq s.0 v) [
    | inl e ↦
        let P : ℕ → Type 0 = λ x. AreTogether g removed x w in
        now w ∙ or_right (is_marked old w) (holds reached w) ((exact w).1 (subst P e s.3))
    | inr d ↦ now w ∙ or_left (is_marked old w) (holds reached w) ((seen w).1 (s.0, s.1, omega (arith, s.2), s.3))
  ],
)

-- nothing marked is together with a vertex that is not
pub seen-apart : (g : Multigraph) (removed : List ℕ) (v : ℕ) (marks : List Bool) → IsGraph g → SeenBelow g removed v marks → is_marked marks v ≡ false → (w : ℕ) → is_marked marks w ≡ true
    → AreTogether g removed v w → ⊥
seen-apart g removed v marks ok seen off w h a =
    let s = (seen w).0 h in
    false≢true (sym off ∙ (seen v).1 (s.0, s.1, s.2, together-trans g removed s.0 w v s.3 (together-sym g removed v w ok.ends a)))

first_is : (g : Multigraph) (removed component : List ℕ) (v : ℕ) (marks : List Bool) → SeenBelow g removed v marks → is_marked marks v ≡ false → IsComponent g removed component
    → holds component v ≡ true → slice_index component 0 ≡ v
first_is g removed component v marks seen off is here =
    let low : slice_index component 0 ≤ v = least_first component v is.vertices.ascending here in
    elim (cases_eq (slice_index component 0) v) [
      | inl e ↦ e
      | inr d ↦
          let first = holds_first component is.some in
          let range : (1 ≤ slice_index component 0) × (slice_index component 0 ≤ g.vertices) = component-within g removed component (slice_index component 0) is first in
          absurd (false≢true (sym off ∙ (seen v).1 (slice_index component 0, range.0, omega arith, is.joined (slice_index component 0) v first here)))
    ]

-- a vertex that is not marked yet is the least of its component
pub odd_head : (g : Multigraph) (removed component : List ℕ) (v : ℕ) (marks : List Bool) → SeenBelow g removed v marks → is_marked marks v ≡ false → IsComponent g removed component
    → holds component v ≡ true → (length component % 2 ≡ 1) ↔ IsOddHead g removed v
odd_head g removed component v marks seen off is here = (
  λ odd. (component, is, odd, first_is g removed component v marks seen off is here),
  λ head.
      let same : component ≡ head.0 = component-unique g removed component head.0 v is head.1 here (head_held g removed head.0 v head.1 head.3) in
      ap (λ (c : List ℕ). length c % 2) same ∙ head.2,
)

pub visit-head : (g : Multigraph) (out : List Bool) (removed reached : List ℕ) (v : ℕ) (old new : List Bool) → IsGraph g → 1 ≤ v → v ≤ g.vertices → MarksSet out removed
    → SeenBelow g removed v old → is_marked old v ≡ false → is_marked out v ≡ false → Finds g out v old new reached → (length reached % 2 ≡ 1) ↔ IsOddHead g removed v
visit-head g out removed reached v old new ok low high is seen off free found =
    let component = members_to reached g.vertices in
    let exact = found.exact removed is (seen-apart g removed v old ok seen off) in
    let outside : holds removed v ≡ false = sym (is v) ∙ free in
    let within = all_holds (λ w. (1 ≤ w) × (w ≤ g.vertices)) reached (λ w h. together-within g removed v w ok.ends (low, high) ((exact w).0 h)) in
    let whole : IsComponent g removed component = found_component g removed reached v ok low high outside exact in
    let head = odd_head g removed component v old seen off whole (kept-holds (holds reached) g.vertices v low high ∙ ((exact v).1 (together-refl g removed v outside))) in
    let size : length component % 2 ≡ length reached % 2 = ap (λ n. n % 2) (to-length reached g.vertices found.once within) in
    (λ odd. head.0 (size ∙ odd), λ h. sym size ∙ head.1 h)

pushed_if : (odd : Bool) (hs : List ℕ) (v w : ℕ) → holds (cond odd (hs ++ v ∷ []) hs) w ≡ (holds hs w || (odd && eqb v w))
pushed_if true hs v w = holds-push hs v w
pushed_if false hs v w = sym (or-false (holds hs w))

-- one more vertex, the least of a component of odd size or not
pub counts-next : (g : Multigraph) (removed : List ℕ) (v count next : ℕ) (odd : Bool) → CountsBelow g removed v count → (odd ≡ true) ↔ IsOddHead g removed v
    → next ≡ cond odd (count + 1) count → CountsBelow g removed (v + 1) next
counts-next g removed v count next odd so_far head is =
    let hs = so_far.heads in
    let size = so_far.size in
    record {
      heads = cond odd (hs ++ v ∷ []) hs;
      ascending = ascend odd;
      exact = λ w. (
        λ h. elim (or_cases (holds hs w) (odd && eqb v w) (sym (pushed_if odd hs v w) ∙ h)) [
          | inl before ↦ let s = (so_far.exact w).0 before in (omega (arith, s.0), s.1)
          | inr e ↦
              let parts = and_parts odd (eqb v w) e in
              let same = eqb-true v w parts.1 in
              (omega (arith, same), subst (λ (x : ℕ). IsOddHead g removed x) same (head.0 parts.0))
        ],
        λ s. pushed_if odd hs v w ∙ elim (cases_eq v w) [
          | inl e ↦ or_right _ _ (and_from _ _ (head.1 (subst (λ (x : ℕ). IsOddHead g removed x) (sym e) s.1)) (eq-eqb v w e))
          | inr d ↦ or_left _ _ ((so_far.exact w).1 (omega (arith, s.0, d), s.1))
        ],
      );
      size = long odd ∙ ap (λ c. cond odd (c + 1) c) size ∙ sym is;
    }
  where
    ascend : (b : Bool) → IsStrictlyIncreasing (cond b (so_far.heads ++ v ∷ []) so_far.heads)
    ascend true = increasing-push so_far.heads v so_far.ascending (all_holds (λ x. x < v) so_far.heads (λ w h. ((so_far.exact w).0 h).0))
    ascend false = so_far.ascending

    long : (b : Bool) → length (cond b (so_far.heads ++ v ∷ []) so_far.heads) ≡ cond b (length so_far.heads + 1) (length so_far.heads)
    long true = length-append so_far.heads (v ∷ [])
    long false = refl

-- all vertices are below
pub counts-all : (g : Multigraph) (removed : List ℕ) (n count : ℕ) → n ≡ g.vertices → CountsBelow g removed (n + 1) count → IsOddCount g removed count
counts-all g removed n count all so_far = record {
  heads = so_far.heads;
  ascending = so_far.ascending;
  exact = λ v. (
    λ h. ((so_far.exact v).0 h).1,
    λ head.
        let is : IsComponent g removed head.0 = head.1 in
        (so_far.exact v).1 (omega (arith, (component-within g removed head.0 v is (head_held g removed head.0 v is head.3)).1, all), head),
  );
  size = so_far.size;
}

-- nothing is below vertex 1
pub seen-none : (g : Multigraph) (removed : List ℕ) (marks : List Bool) → ((w : ℕ) → is_marked marks w ≡ false) → SeenBelow g removed 1 marks
seen-none g removed marks off = λ w. (λ h. absurd (false≢true (sym (off w) ∙ h)), λ s. let low = s.1 in let high = s.2 in absurd (omega (arith, low, high)))

pub counts-none : (g : Multigraph) (removed : List ℕ) → CountsBelow g removed 1 0
counts-none g removed = record {
  heads = [];
  ascending = λ k b. absurd (omega (arith, b));
  exact = λ v. (
    λ h. absurd (false≢true h),
    λ r.
        let low : v < 1 = r.0 in
        let head : IsOddHead g removed v = r.1 in
        absurd (omega (arith, low, (component-within g removed head.0 v head.1 (head_held g removed head.0 v head.1 head.3)).0)),
  );
  size = refl;
}
