-- Links that are paired one by one.
use Rattle.alt_forest.proofs.Common.{cond, is_some, eq-eqb, ne_eqb, or_parts, ◌≡◌, ◌≢◌, ℕ, true, false, ◌||◌, eqb, List, [], ◌∷◌, ◌++◌, refl, sym, ap, ◌∙◌}
use Rattle.alt_forest.proofs.Common.{subst, Option, Some, None}
use Rattle.alt_forest.proofs.Common.{AllByRecursion, eqb-true, eqb-false, or_right, both_ways, Link, in_ring, by_test}
use Rattle.augment.specs.Opening.{links_before, links_after, paired, first_matched, waiting_after}

pub paired_none : (step : (ℕ → Option ℕ) → ℕ → ℕ → Option ℕ) (m : ℕ → Option ℕ) (w : Option Link) → paired step m w [] ≡ m
paired_none step m None = refl
paired_none step m (Some k) = refl

pub waiting_none : (w : Option Link) → waiting_after w [] ≡ w
waiting_none None = refl
waiting_none (Some k) = refl

pub paired_step : (step : (ℕ → Option ℕ) → ℕ → ℕ → Option ℕ) (m : ℕ → Option ℕ) (w : Option Link) (l : Link) (ls : List Link)
    → paired step m w (l ∷ ls) ≡ paired step (paired step m w (l ∷ [])) (waiting_after w (l ∷ [])) ls
paired_step step m None l ls = refl
paired_step step m (Some k) l ls = refl

pub waiting_step : (w : Option Link) (l : Link) (ls : List Link) → waiting_after w (l ∷ ls) ≡ waiting_after (waiting_after w (l ∷ [])) ls
waiting_step None l ls = refl
waiting_step (Some k) l ls = refl

pub paired_append : (step : (ℕ → Option ℕ) → ℕ → ℕ → Option ℕ) (m : ℕ → Option ℕ) (w : Option Link) (xs ys : List Link)
    → paired step m w (xs ++ ys) ≡ paired step (paired step m w xs) (waiting_after w xs) ys
paired_append step m w [] ys = sym (ap (λ n. paired step n (waiting_after w []) ys) (paired_none step m w) ∙ ap (λ v. paired step m v ys) (waiting_none w))
paired_append step m None (l ∷ xs) ys = paired_append step m (Some l) xs ys
paired_append step m (Some k) (l ∷ xs) ys = paired_append step (step m k.edge) None xs ys

-- two steps that agree at the edges of the links come to the same mates
pub paired_same : (step other : (ℕ → Option ℕ) → ℕ → ℕ → Option ℕ) (m : ℕ → Option ℕ) (ls : List Link)
    → AllByRecursion (λ (l : Link). (n : ℕ → Option ℕ) → step n l.edge ≡ other n l.edge) ls → paired step m None ls ≡ paired other m None ls
paired_same step other m [] each = refl
paired_same step other m (l ∷ []) each = refl
paired_same step other m (l ∷ (k ∷ ls)) each = paired_same step other (step m l.edge) ls each.1.1 ∙ ap (λ n. paired other n None ls) (each.0 m)

-- the one node of the links that has a mate is the first one
pub first_is : (m : ℕ → Option ℕ) (ls : List Link) (base e : ℕ) → in_ring ls base ≡ true → m base ≡ Some e → ((c : ℕ) → in_ring ls c ≡ true → c ≢ base → m c ≡ None)
    → first_matched m ls ≡ base
first_is m [] base e r has only = absurd (both_ways false refl r)
first_is m (l ∷ ls) base e r has only =
    let here = ap (λ t. t || in_ring ls l.node) (eq-eqb l.node l.node refl) in
    by_test (eqb l.node base)
    (λ t. let same = eqb-true l.node base t in ap (λ o. cond (is_some o) l.node (first_matched m ls)) (ap m same ∙ has) ∙ same)
    (λ f. ap (λ o. cond (is_some o) l.node (first_matched m ls)) (only l.node here (eqb-false l.node base f))
    ∙ first_is m ls base e (sym (ap (λ t. t || in_ring ls base) f) ∙ r) has (λ c i. only c (or_right (eqb l.node c) (in_ring ls c) i)))

-- and where none has one there is no first
pub first_none : (m : ℕ → Option ℕ) (ls : List Link) → ((c : ℕ) → in_ring ls c ≡ true → m c ≡ None) → first_matched m ls ≡ 0
first_none m [] none = refl
first_none m (l ∷ ls) none = ap (λ o. cond (is_some o) l.node (first_matched m ls)) (none l.node (ap (λ t. t || in_ring ls l.node) (eq-eqb l.node l.node refl)))
    ∙ first_none m ls (λ c i. none c (or_right (eqb l.node c) (in_ring ls c) i))

-- the links stop at the node
pub before_here : (l : Link) (ls : List Link) (a : ℕ) → l.node ≡ a → links_before (l ∷ ls) a ≡ []
before_here l ls a e = ap (λ t. cond t [] (l ∷ links_before ls a)) (eq-eqb l.node a e)

pub before_past : (l : Link) (ls : List Link) (a : ℕ) → l.node ≢ a → links_before (l ∷ ls) a ≡ l ∷ links_before ls a
before_past l ls a ne = ap (λ t. cond t [] (l ∷ links_before ls a)) (ne_eqb l.node a ne)

pub before_none : (ls : List Link) (a : ℕ) → in_ring ls a ≡ false → links_before ls a ≡ ls
before_none [] a e = refl
before_none (l ∷ ls) a e = let p = or_parts (eqb l.node a) (in_ring ls a) e in ap (λ t. cond t [] (l ∷ links_before ls a)) p.0 ∙ ap (λ xs. l ∷ xs) (before_none ls a p.1)

pub after_past : (l : Link) (ls : List Link) (a : ℕ) → l.node ≢ a → links_after (l ∷ ls) a ≡ links_after ls a
after_past l ls a ne = ap (λ t. cond t ls (links_after ls a)) (ne_eqb l.node a ne)

pub after_here : (l : Link) (ls : List Link) (a : ℕ) → l.node ≡ a → links_after (l ∷ ls) a ≡ ls
after_here l ls a e = ap (λ t. cond t ls (links_after ls a)) (eq-eqb l.node a e)

-- a node that is there parts the links
pub record ArePartedAt (ls : List Link) (a : ℕ) : Type 0 where
  pub base : Link
  pub base_is : base.node ≡ a
  pub split : ls ≡ links_before ls a ++ (base ∷ links_after ls a)

pub parted_at : (ls : List Link) (a : ℕ) → in_ring ls a ≡ true → ArePartedAt ls a
parted_at [] a e = absurd (both_ways false refl e)
parted_at (l ∷ ls) a e = by_test (eqb l.node a)
    (λ t. let same : l.node ≡ a = eqb-true l.node a t in
    record { base = l; base_is = same; split = sym (ap (λ x. x ++ (l ∷ links_after (l ∷ ls) a)) (before_here l ls a same) ∙ ap (λ x. l ∷ x) (after_here l ls a same)) })
    (λ f. let ne : l.node ≢ a = eqb-false l.node a f in
    let r = parted_at ls a (sym (ap (λ t. t || in_ring ls a) f) ∙ e) in
    record {
      base = r.base;
      base_is = r.base_is;
      split = ap (λ x. l ∷ x) r.split ∙ sym (ap (λ x. x ++ (r.base ∷ links_after (l ∷ ls) a)) (before_past l ls a ne)
          ∙ ap (λ x. l ∷ (links_before ls a ++ (r.base ∷ x))) (after_past l ls a ne));
    })

-- one link more is paired
pub pair_next : (pairs : (ℕ → Option ℕ) → ℕ → ℕ → Option ℕ) (m n : ℕ → Option ℕ) (w w' : Option Link) (l : Link) (it ls : List Link) (a : ℕ) (target : ℕ → Option ℕ) → it ≡ l ∷ ls
    → l.node ≢ a → n ≡ paired pairs m w (l ∷ []) → w' ≡ waiting_after w (l ∷ [])
    → paired pairs m w (links_before it a) ≡ target → paired pairs n w' (links_before ls a) ≡ target
pair_next pairs m n w w' l it ls a target step ne is then h = rw (is, then) (sym (paired_step pairs m w l (links_before ls a))
    ∙ sym (ap (λ x. paired pairs m w (links_before x a)) step ∙ ap (paired pairs m w) (before_past l ls a ne)) ∙ h)

pub wait : (w w' : Option Link) (l : Link) (it ls : List Link) (a : ℕ) (target : Option Link) → it ≡ l ∷ ls → l.node ≢ a → w' ≡ waiting_after w (l ∷ [])
    → waiting_after w (links_before it a) ≡ target → waiting_after w' (links_before ls a) ≡ target
wait w w' l it ls a target step ne then h = ap (λ v. waiting_after v (links_before ls a)) then ∙ sym (waiting_step w l (links_before ls a))
    ∙ sym (ap (λ x. waiting_after w (links_before x a)) step ∙ ap (waiting_after w) (before_past l ls a ne)) ∙ h

-- the link that waits is the one that came, if any is
pub waits : (P : Link → Type 0) (w w' : Option Link) (l x : Link) → P l → w' ≡ waiting_after w (l ∷ []) → w' ≡ Some x → P x
waits P None w' l x h then is = let same : (let o : Option Link = Some l in o) ≡ Some x = sym then ∙ is in subst P (let e : l ≡ x = cc in e) h
waits P (Some k) w' l x h then is = let same : (let o : Option Link = None in o) ≡ Some x = sym then ∙ is in absurd (cc)

-- where the links stop
pub stop_here : (pairs : (ℕ → Option ℕ) → ℕ → ℕ → Option ℕ) (m : ℕ → Option ℕ) (w : Option Link) (l : Link) (it ls : List Link) (a : ℕ) (target : ℕ → Option ℕ) → it ≡ l ∷ ls
    → l.node ≡ a → paired pairs m w (links_before it a) ≡ target → m ≡ target
stop_here pairs m w l it ls a target step here h = sym (ap (λ x. paired pairs m w (links_before x a)) step ∙ ap (paired pairs m w) (before_here l ls a here) ∙ paired_none pairs m w) ∙ h

pub stop_end : (pairs : (ℕ → Option ℕ) → ℕ → ℕ → Option ℕ) (m : ℕ → Option ℕ) (w : Option Link) (it : List Link) (a : ℕ) (target : ℕ → Option ℕ) → it ≡ []
    → paired pairs m w (links_before it a) ≡ target → m ≡ target
stop_end pairs m w it a target none h = sym (ap (λ x. paired pairs m w (links_before x a)) none ∙ paired_none pairs m w) ∙ h
