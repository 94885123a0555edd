-- How many numbers pass a test, and how a state's measure falls where no vertex leaves the outer nodes.
use Rattle.alt_forest.proofs.Common.{◌≡◌, ◌≢◌, ℕ, ◌+◌, ◌≤◌, ◌<◌, Bool, true, false, not, eqb, cond, List, [], ◌∷◌, length, refl, sym, ap, ◌∙◌, arith}
use Rattle.alt_forest.proofs.Common.{⊎_elim, list_any, cases_eq, eq-eqb, eqb-true, ne_eqb, or_cases, or_left, or_right, both_ways, list_any_none, holds, all_holds, sum_to-same, sum_to-le}
use Rattle.alt_forest.proofs.Common.{sum_to-add, sum_to-at_one, Blossom, IsNested, is_vertex, is_outermost, names_of, members_of, outermost, without, by_test, first_in, later_in}
use Rattle.alt_forest.proofs.Common.{outermost_parts, new_is_node, range_vertex, vertex_range, older_name, members_here, members_past, member_vertex, members_some, outermost_by_member}
use Rattle.alt_forest.proofs.Common.{Label, Outer, Inner, Out, State, is_label, is_outside, outside_among, one_if, counted}

one_le : (t u : Bool) → (t ≡ true → u ≡ true) → one_if t ≤ one_if u
one_le true u h = omega (arith, ap one_if (h refl))
one_le false u h = omega arith

pub counted_same : (p q : ℕ → Bool) (n : ℕ) → ((a : ℕ) → p a ≡ q a) → counted p n ≡ counted q n
counted_same p q n same = sum_to-same (λ i. one_if (p (i + 1))) (λ i. one_if (q (i + 1))) n (λ k b. ap one_if (same (k + 1)))

-- one number passes in the place of another one
pub counted_moved : (p q : ℕ → Bool) (x y n : ℕ) → 1 ≤ x → x ≤ n → 1 ≤ y → y ≤ n → x ≢ y → p y ≡ false → q x ≡ false → q y ≡ p x
    → ((a : ℕ) → a ≢ x → a ≢ y → q a ≡ p a) → counted q n ≡ counted p n
counted_moved p q x y n x_low x_high y_low y_high ne was_not is_not same others =
    let one : ℕ = one_if (p x) in
    omega (
      arith,
      sum_to-add (λ i. one_if (q (i + 1))) (λ i. cond (eqb x (i + 1)) one 0) n,
      sum_to-add (λ i. one_if (p (i + 1))) (λ i. cond (eqb y (i + 1)) one 0) n,
      sum_to-at_one (λ _. one) x n x_low x_high,
      sum_to-at_one (λ _. one) y n y_low y_high,
      sum_to-same (λ i. one_if (q (i + 1)) + cond (eqb x (i + 1)) one 0) (λ i. one_if (p (i + 1)) + cond (eqb y (i + 1)) one 0) n (λ i _. each (i + 1)),
    )
  where
    count : (z a : ℕ) → z ≢ a → cond (eqb z a) (one_if (p x)) 0 ≡ 0
    count z a off = ap (λ t. cond t (one_if (p x)) 0) (ne_eqb z a off)

    each : (a : ℕ) → one_if (q a) + cond (eqb x a) (one_if (p x)) 0 ≡ one_if (p a) + cond (eqb y a) (one_if (p x)) 0
    each a = ⊎_elim
        (λ at. omega (arith, ap one_if (ap q at ∙ is_not), ap (λ t. cond t (one_if (p x)) 0) (eq-eqb x a (sym at)), ap (λ z. one_if (p z)) at, count y a (λ e. ne (sym (e ∙ at)))))
        (λ off. ⊎_elim
        (λ at. omega (arith, ap one_if (ap q at ∙ same), count x a (λ e. off (sym e)), ap one_if (ap p at ∙ was_not), ap (λ t. cond t (one_if (p x)) 0) (eq-eqb y a (sym at))))
        (λ other. omega (arith, ap one_if (others a off other), count x a (λ e. off (sym e)), count y a (λ e. other (sym e))))
        (cases_eq a y))
        (cases_eq a x)

pub any_more : (p q : ℕ → Bool) (xs : List ℕ) → ((v : ℕ) → holds xs v ≡ true → p v ≡ true → q v ≡ true) → list_any p xs ≡ true → list_any q xs ≡ true
any_more p q [] within e = e
any_more p q (x ∷ xs) within e = ⊎_elim
    (λ here. or_left (q x) (list_any q xs) (within x (first_in x xs) here))
    (λ more. or_right (q x) (list_any q xs) (any_more p q xs (λ v h. within v (later_in x xs v h)) more)) (or_cases (p x) (list_any p xs) e)

-- a vertex of an outermost node
pub record HasVertex (n : ℕ) (bs : List Blossom) (x : ℕ) : Type 0 where
  pub vertex : ℕ
  pub is : is_vertex n vertex ≡ true
  pub member : holds (members_of bs x) vertex ≡ true
  pub node : outermost bs vertex ≡ x

pub has_vertex : (n : ℕ) (bs : List Blossom) (x : ℕ) → IsNested n bs → is_outermost n bs x ≡ true → HasVertex n bs x
has_vertex n bs x h o = first (members_of bs x) refl
  where
    first : (xs : List ℕ) → members_of bs x ≡ xs → HasVertex n bs x
    first [] e = absurd (omega (arith, members_some n bs x h (outermost_parts n bs x o).0, ap length e))
    first (v ∷ vs) e =
        let m : holds (members_of bs x) v ≡ true = ap (λ xs. holds xs v) e ∙ first_in v vs in
        record { vertex = v; is = member_vertex n bs x v h (outermost_parts n bs x o).0 m; member = m; node = outermost_by_member n bs x v h o m }

-- what lies outside is in no outer node
pub outside_no : (s : State) (v : ℕ) → s.label (outermost s.blossoms v) ≡ Outer → is_outside s v ≡ false
outside_no s v e = ap (λ l. not (is_label l Outer)) e

-- a blossom whose members all lie in outer nodes is not counted
pub none_outside : (s : State) (b : Blossom) → ((v : ℕ) → holds b.members v ≡ true → s.label (outermost s.blossoms v) ≡ Outer) → one_if (list_any (is_outside s) b.members) ≡ 0
none_outside s b inside = ap one_if (list_any_none (is_outside s) b.members (all_holds (λ v. is_outside s v ≡ false) b.members (λ v m. outside_no s v (inside v m))))

outer_or : (l : Label) → (l ≢ Outer) → not (is_label l Outer) ≡ true
outer_or Outer ne = absurd (ne refl)
outer_or Inner ne = refl
outer_or Out ne = refl

pub outside_yes : (s : State) (v : ℕ) → s.label (outermost s.blossoms v) ≢ Outer → is_outside s v ≡ true
outside_yes s v ne = outer_or (s.label (outermost s.blossoms v)) ne

-- no vertex leaves the outer nodes
abbrev pub KeepsOuter : ℕ → State → State → Type 0
KeepsOuter n s t = (v : ℕ) → is_vertex n v ≡ true → s.label (outermost s.blossoms v) ≡ Outer → t.label (outermost t.blossoms v) ≡ Outer

pub outside_before : (n : ℕ) (s t : State) (v : ℕ) → KeepsOuter n s t → is_vertex n v ≡ true → is_outside t v ≡ true → is_outside s v ≡ true
outside_before n s t v keeps is e = outside_yes s v (λ o. both_ways (is_outside t v) (outside_no t v (keeps v is o)) e)

pub vertices_le : (n : ℕ) (s t : State) → KeepsOuter n s t → counted (is_outside t) n ≤ counted (is_outside s) n
vertices_le n s t keeps = sum_to-le (λ i. one_if (is_outside t (i + 1))) (λ i. one_if (is_outside s (i + 1))) n (λ i low. one_le (is_outside t (i + 1)) (is_outside s (i + 1))
    (outside_before n s t (i + 1) keeps (range_vertex n (i + 1) (omega arith) (omega (arith, low)))))

pub vertices_less : (n : ℕ) (s t : State) (v : ℕ) → KeepsOuter n s t → is_vertex n v ≡ true → s.label (outermost s.blossoms v) ≢ Outer → t.label (outermost t.blossoms v) ≡ Outer
    → counted (is_outside t) n < counted (is_outside s) n
vertices_less n s t v keeps is was now =
    let range = vertex_range n v is in
    let one : counted (eqb v) n ≡ 1 = sum_to-at_one (λ _. 1) v n range.0 range.1 in
    let both = sum_to-add (λ i. one_if (is_outside t (i + 1))) (λ i. one_if (eqb v (i + 1))) n in
    let all = sum_to-le (λ i. one_if (is_outside t (i + 1)) + one_if (eqb v (i + 1))) (λ i. one_if (is_outside s (i + 1))) n (λ i low. each (i + 1) (omega arith) (omega (arith, low))) in
    omega (arith, one, both, all)
  where
    each : (a : ℕ) → 1 ≤ a → a ≤ n → one_if (is_outside t a) + one_if (eqb v a) ≤ one_if (is_outside s a)
    each a low high = by_test (eqb v a)
        (λ e. omega (
          arith,
          ap one_if e,
          ap one_if (ap (is_outside t) (sym (eqb-true v a e)) ∙ outside_no t v now),
          ap one_if (ap (is_outside s) (sym (eqb-true v a e)) ∙ outside_yes s v was),
        ))
        (λ e. omega (arith, ap one_if e, one_le (is_outside t a) (is_outside s a) (outside_before n s t a keeps (range_vertex n a low high))))

-- the newest blossom's members are vertices
pub newest_vertex : (n : ℕ) (b : Blossom) (older : List Blossom) (v : ℕ) → IsNested n (b ∷ older) → holds b.members v ≡ true → is_vertex n v ≡ true
newest_vertex n b older v h m = member_vertex n (b ∷ older) b.node v h (new_is_node n b older) (ap (λ ms. holds ms v) (members_here b older b.node (eq-eqb b.node b.node refl)) ∙ m)

newest_le : (n : ℕ) (s t : State) (b : Blossom) (older : List Blossom) → IsNested n (b ∷ older) → KeepsOuter n s t
    → one_if (list_any (is_outside t) b.members) ≤ one_if (list_any (is_outside s) b.members)
newest_le n s t b older h keeps = one_le (list_any (is_outside t) b.members) (list_any (is_outside s) b.members)
    (any_more (is_outside t) (is_outside s) b.members (λ v m e. outside_before n s t v keeps (newest_vertex n b older v h m) e))

pub among_le : (n : ℕ) (s t : State) (bs : List Blossom) → IsNested n bs → KeepsOuter n s t → outside_among t bs ≤ outside_among s bs
among_le n s t [] h keeps = omega arith
among_le n s t (b ∷ older) h keeps =
    let rest : outside_among t older ≤ outside_among s older = among_le n s t older h.1 keeps in
    omega (arith, rest, newest_le n s t b older h keeps)

-- without a blossom that has a member outside they are fewer
pub among_without : (n : ℕ) (s t : State) (bs : List Blossom) (a : ℕ) → IsNested n bs → KeepsOuter n s t → holds (names_of bs) a ≡ true → list_any (is_outside s) (members_of bs a) ≡ true
    → outside_among t (without bs a) < outside_among s bs
among_without n s t [] a h keeps there some = absurd (both_ways false refl there)
among_without n s t (b ∷ older) a h keeps there some =
    by_test (eqb b.node a)
    (λ e.
    let same : outside_among t (without (b ∷ older) a) ≡ outside_among t older = ap (λ q. outside_among t (cond q older (b ∷ without older a))) e in
    let rest : outside_among t older ≤ outside_among s older = among_le n s t older h.1 keeps in
    let one = ap one_if (sym (ap (list_any (is_outside s)) (members_here b older a e)) ∙ some) in
    omega (arith, same, rest, one))
    (λ e.
    let same : outside_among t (without (b ∷ older) a) ≡ one_if (list_any (is_outside t) b.members) + outside_among t (without older a) =
    ap (λ q. outside_among t (cond q older (b ∷ without older a))) e in
    let later : holds (names_of older) a ≡ true = older_name b older a e there in
    let rest : outside_among t (without older a) < outside_among s older = among_without n s t older a h.1 keeps later
    (sym (ap (list_any (is_outside s)) (members_past b older a e)) ∙ some) in
    omega (arith, same, rest, newest_le n s t b older h keeps))
