-- Nodes that hold one another: how much of their lengths lies below two places, and how many levels part these.
use Rattle.mb_problem.proofs.Common.{◌≡◌, ◌⊎◌, ℕ, ◌+◌, ◌*◌, ◌<◌, ◌≤◌, min, Bool, true, false, ◌&&◌, cond, eqb, ltb, leb, refl, ap, sym, ◌∙◌, inl, inr, subst, arith}
use Rattle.mb_problem.proofs.Common.{cases_eq, cases_Bool, cond-true, cond-false, and_parts, and_from, and_left, eq-eqb, ne_eqb, lt-ltb, le-ltb, le-leb, ltb-true, leb-true}
use Rattle.mb_problem.proofs.Common.{sum_to, sum_to-same, sum_to-zero, sum_to-add}
use Rattle.join_check.proofs.Parted.{sum_to-but_one, parted, parted-both}

-- nodes in postorder, by how many stand before the first that each holds
pub record AreNodes (before : ℕ → ℕ) (count : ℕ) : Type 0 where
  pub earlier : (x : ℕ) → 1 ≤ x → x < count → before x < x
  pub nested : (x y : ℕ) → x < y → y < count → before y < x → before y ≤ before x

-- node b holds node x
abbrev pub holder : (ℕ → ℕ) → ℕ → ℕ → Bool
holder before b x = ltb (before b) x && leb x b

pub holder-is : (before : ℕ → ℕ) (b x : ℕ) → holder before b x ≡ true → (before b < x) × (x ≤ b)
holder-is before b x h = let both = and_parts (ltb (before b) x) (leb x b) h in (ltb-true (before b) x both.0, leb-true x b both.1)

pub holder-from : (before : ℕ → ℕ) (b x : ℕ) → before b < x → x ≤ b → holder before b x ≡ true
holder-from before b x low high = and_from (ltb (before b) x) (leb x b) (lt-ltb (before b) x low) (le-leb x b high)

pub holder-none : (before : ℕ → ℕ) (b x : ℕ) → x ≤ before b → holder before b x ≡ false
holder-none before b x h = and_left (ltb (before b) x) (leb x b) (le-ltb (before b) x h)

-- a node holds what a node holds that it holds
held-through : (before : ℕ → ℕ) (count b a x : ℕ) → AreNodes before count → b < count → holder before b a ≡ true → holder before a x ≡ true → holder before b x ≡ true
held-through before count b a x nodes inside outer inner =
    let o = holder-is before b a outer in
    let i = holder-is before a x inner in
    elim (cases_eq a b) [
      | inl e ↦ subst (λ (y : ℕ). holder before y x ≡ true) e inner
      | inr d ↦
          let below : before b ≤ before a = nodes.nested a b (omega (arith, o.1)) inside o.0 in
          holder-from before b x (omega (arith, below, i.0)) (omega (arith, o.1, i.1))
    ]

-- the length of node b, if it holds x
abbrev pub above : (ℕ → ℕ) → (ℕ → ℕ) → ℕ → ℕ → ℕ
above before len x b = cond (holder before b x) (len b) 0

-- how much of the length of node b lies below height h of node x
abbrev pub under : (ℕ → ℕ) → (ℕ → ℕ) → ℕ → ℕ → ℕ → ℕ
under before len x h b = cond (eqb x b) h (above before len x b)

pub under-own : (before len : ℕ → ℕ) (x h b : ℕ) → x ≡ b → under before len x h b ≡ h
under-own before len x h b e = cond-true (eqb x b) h (above before len x b) (eq-eqb x b e)

pub under-other : (before len : ℕ → ℕ) (x h b : ℕ) → (x ≡ b → ⊥) → under before len x h b ≡ above before len x b
under-other before len x h b d = cond-false (eqb x b) h (above before len x b) (ne_eqb x b d)

above-most : (before len : ℕ → ℕ) (x b : ℕ) → above before len x b ≤ len b
above-most before len x b =
    elim (cases_Bool (holder before b x)) [
      | inl on ↦ let is : above before len x b ≡ len b = cond-true (holder before b x) (len b) 0 on in omega arith
      | inr off ↦ let is : above before len x b ≡ 0 = cond-false (holder before b x) (len b) 0 off in omega arith
    ]

under-most : (before len : ℕ → ℕ) (x h b : ℕ) → h ≤ len x → under before len x h b ≤ len b
under-most before len x h b most =
    elim (cases_eq x b) [
      | inl e ↦
          let is : under before len x h b ≡ h = under-own before len x h b e in
          let same : len x ≡ len b = ap len e in
          omega arith
      | inr d ↦
          let is : under before len x h b ≡ above before len x b = under-other before len x h b d in
          let least : above before len x b ≤ len b = above-most before len x b in
          omega arith
    ]

-- a node holds itself, and the outside has no length
pub above-own : (before len : ℕ → ℕ) (count x : ℕ) → AreNodes before count → len 0 ≡ 0 → x < count → above before len x x ≡ len x
above-own before len count x nodes outside inside =
    elim (cases_eq x 0) [
      | inl e ↦
          let none : len x ≡ 0 = ap len e ∙ outside in
          let most : above before len x x ≤ len x = above-most before len x x in
          omega arith
      | inr d ↦ cond-true (holder before x x) (len x) 0 (holder-from before x x (nodes.earlier x (omega arith) inside) (omega arith))
    ]

-- what lies below a place is what lies below the top of its node, but for the rest of that node
pub depth-top : (before len : ℕ → ℕ) (count x h : ℕ) → AreNodes before count → len 0 ≡ 0 → x < count
    → sum_to (under before len x h) count + len x ≡ sum_to (above before len x) count + h
depth-top before len count x h nodes outside inside =
    let f : ℕ → ℕ = under before len x h in
    let g : ℕ → ℕ = above before len x in
    let at_f : under before len x h x ≡ h = under-own before len x h x refl in
    let at_g : above before len x x ≡ len x = above-own before len count x nodes outside inside in
    let up : sum_to f count + g x ≤ sum_to g count + f x = sum_to-but_one f g x count inside
    (λ k b d. let e : under before len x h k ≡ above before len x k = under-other before len x h k (λ s. d (sym s)) in omega (arith, e)) in
    let down : sum_to g count + f x ≤ sum_to f count + g x = sum_to-but_one g f x count inside
    (λ k b d. let e : under before len x h k ≡ above before len x k = under-other before len x h k (λ s. d (sym s)) in omega (arith, e)) in
    omega (arith, up, down, at_f, at_g)

-- a node around node a that holds x lies below x's place as a whole
under-full : (before len : ℕ → ℕ) (count a x h b : ℕ) → AreNodes before count → b < count → (b ≡ a → ⊥) → holder before b a ≡ true → holder before a x ≡ true → under before len x h b ≡ len b
under-full before len count a x h b nodes inside other outer inner =
    let o = holder-is before b a outer in
    let i = holder-is before a x inner in
    under-other before len x h b (λ e. other (omega (arith, e, o.1, i.1)))
    ∙ cond-true (holder before b x) (len b) 0 (held-through before count b a x nodes inside outer inner)

outer-term : (before len : ℕ → ℕ) (count a x h y j b : ℕ) → AreNodes before count → holder before a x ≡ true → holder before a y ≡ true → b < count → (b ≡ a → ⊥)
    → above before len a b ≤ min (under before len x h b) (under before len y j b)
outer-term before len count a x h y j b nodes held_x held_y inside other =
    elim (cases_Bool (holder before b a)) [
      | inl on ↦
          let one : under before len x h b ≡ len b = under-full before len count a x h b nodes inside other on held_x in
          let two : under before len y j b ≡ len b = under-full before len count a y j b nodes inside other on held_y in
          let most : above before len a b ≤ len b = above-most before len a b in
          omega arith
      | inr off ↦ let none : above before len a b ≡ 0 = cond-false (holder before b a) (len b) 0 off in omega arith
    ]

-- two places that node a holds both lie above all that lies above a
met : (before len : ℕ → ℕ) (count a x h y j : ℕ) → AreNodes before count → a < count → holder before a x ≡ true → holder before a y ≡ true
    → sum_to (above before len a) count + min (under before len x h a) (under before len y j a)
    ≤ sum_to (λ b. min (under before len x h b) (under before len y j b)) count + len a
met before len count a x h y j nodes inside held_x held_y =
    let up = sum_to-but_one (above before len a) (λ b. min (under before len x h b) (under before len y j b)) a count inside
    (λ b low d. outer-term before len count a x h y j b nodes held_x held_y low d) in
    omega (arith, up, above-most before len a a)

-- of node a all lies below a place that it holds, or the place is its own
reached : (before len : ℕ → ℕ) (count a x h : ℕ) → AreNodes before count → len 0 ≡ 0 → x < count → holder before a x ≡ true
    → (under before len x h a ≡ len a) ⊎ (sum_to (above before len a) count + under before len x h a ≡ sum_to (under before len x h) count + len a)
reached before len count a x h nodes outside inside held =
    elim (cases_eq x a) [
      | inl e ↦
          let own : under before len x h a ≡ h = under-own before len x h a e in
          let here : sum_to (under before len x h) count + len x ≡ sum_to (above before len x) count + h = depth-top before len count x h nodes outside inside in
          let tops : sum_to (above before len x) count ≡ sum_to (above before len a) count = ap (λ (z : ℕ). sum_to (above before len z) count) e in
          let same : len x ≡ len a = ap len e in
          inr (omega (arith, own, here, tops, same))
      | inr d ↦ inl (under-other before len x h a d ∙ cond-true (holder before a x) (len a) 0 held)
    ]

-- nothing lies above the outside
outside-top : (before len : ℕ → ℕ) (count : ℕ) → sum_to (above before len 0) count ≡ 0
outside-top before len count =
    sum_to-same (above before len 0) (λ _. 0) count (λ b _. cond-false (holder before b 0) (len b) 0 (holder-none before b 0 (omega arith))) ∙ sum_to-zero count

-- what is parted, and twice what lies below both places, is what lies below either
parted-sums : (before len : ℕ → ℕ) (count x h y j : ℕ) → h ≤ len x → j ≤ len y
    → sum_to (λ b. parted (under before len x h b) (under before len y j b) (len b)) count
    + (sum_to (λ b. min (under before len x h b) (under before len y j b)) count + sum_to (λ b. min (under before len x h b) (under before len y j b)) count)
    ≡ sum_to (under before len x h) count + sum_to (under before len y j) count
parted-sums before len count x h y j high_x high_y =
    let part : ℕ → ℕ = λ b. parted (under before len x h b) (under before len y j b) (len b) in
    let both : ℕ → ℕ = λ b. min (under before len x h b) (under before len y j b) in
    let each = sum_to-same (λ b. part b + (both b + both b)) (λ b. under before len x h b + under before len y j b) count
    (λ b _. parted-both (under before len x h b) (under before len y j b) (len b) (under-most before len x h b high_x) (under-most before len y j b high_y)) in
    omega (arith, each, sum_to-add part (λ b. both b + both b) count, sum_to-add both both count, sum_to-add (under before len x h) (under before len y j) count)

-- an edge that is as long as the three ways ask is crossed by at most twice as many levels as it weighs
pub way-within : (before len : ℕ → ℕ) (count a x h y j w : ℕ) → AreNodes before count → len 0 ≡ 0 → x < count → h ≤ len x → y < count → j ≤ len y → a < count
    → ((a ≡ 0 → ⊥) → (holder before a x ≡ true) × (holder before a y ≡ true))
    → sum_to (under before len x h) count + sum_to (under before len y j) count ≤ 2 * sum_to (above before len a) count + 2 * w
    → sum_to (under before len x h) count ≤ sum_to (under before len y j) count + 2 * w
    → sum_to (under before len y j) count ≤ sum_to (under before len x h) count + 2 * w
    → sum_to (λ b. parted (under before len x h b) (under before len y j b) (len b)) count ≤ 2 * w
way-within before len count a x h y j w nodes outside in_x high_x in_y high_y in_a held apart up down =
    let sums = parted-sums before len count x h y j high_x high_y in
    elim (cases_eq a 0) [
      | inl e ↦
          let none : sum_to (above before len a) count ≡ 0 = ap (λ (z : ℕ). sum_to (above before len z) count) e ∙ outside-top before len count in
          omega (arith, sums, none, apart)
      | inr d ↦
          let both = held d in
          let least = met before len count a x h y j nodes in_a both.0 both.1 in
          elim (reached before len count a x h nodes outside in_x both.0) [
            | inl p ↦ elim (reached before len count a y j nodes outside in_y both.1) [
              | inl q ↦ omega (arith, sums, least, p, q, apart)
              | inr q ↦ omega (arith, sums, least, p, q, apart, up, down)
            ]
            | inr p ↦ elim (reached before len count a y j nodes outside in_y both.1) [
              | inl q ↦ omega (arith, sums, least, p, q, apart, up, down)
              | inr q ↦ omega (arith, sums, least, p, q, apart, up, down)
            ]
          ]
    ]
