-- What vertices that come into other sets leave at each vertex and at each set.
use Rattle.graph_theory.proofs.Common.{nat_tests, ◌≡◌, ℕ, true, false, eqb, cond, List, [], ◌∷◌, refl, sym, ap, ◌∙◌, subst, arith, ℤ, ◌+ℤ◌, int_wrap, eqb-true}
use Rattle.graph_theory.proofs.Common.{both_ways, holds}
use Rattle.std.specs.Int.{w64}
use Rattle.blossom_arena.specs.Placement.{Placement, Spread, added_at, all_added, all_in, heir_of, placed, put_in, spread, topped}
use Rattle.blossom_arena.proofs.Lists.{by_test, AllNew, first_in, later_in}

-- vertices in a set
pub all_in_set : (p : Placement) (vs : List ℕ) (s : ℕ) (y : ℤ) (w : ℕ) → (all_in p vs s y).set w ≡ cond (holds vs w) s (p.set w)
all_in_set p [] s y w = refl
all_in_set p (v ∷ vs) s y w = grind (arith, nat_tests, all_in_set (put_in p v s y) vs s y w)

pub all_in_inner : (p : Placement) (vs : List ℕ) (s : ℕ) (y : ℤ) (w : ℕ) → AllNew vs
    → (all_in p vs s y).inner w ≡ cond (holds vs w) (int_wrap w64 (p.inner w +ℤ y)) (p.inner w)
all_in_inner p [] s y w new = refl
all_in_inner p (v ∷ vs) s y w new = grind (arith, nat_tests, all_in_inner (put_in p v s y) vs s y w new.1, new.0)

all_in_out : (p : Placement) (vs : List ℕ) (s : ℕ) (y : ℤ) (w : ℕ) → holds vs w ≡ false → (all_in p vs s y).inner w ≡ p.inner w
all_in_out p [] s y w none = refl
all_in_out p (v ∷ vs) s y w none = grind (arith, nat_tests, all_in_out (put_in p v s y) vs s y w)

pub all_in_top : (p : Placement) (vs : List ℕ) (s : ℕ) (y : ℤ) (t : ℕ) → (all_in p vs s y).top t ≡ p.top t
all_in_top p [] s y t = refl
all_in_top p (v ∷ vs) s y t = all_in_top (put_in p v s y) vs s y t

pub all_in_places : (p : Placement) (vs : List ℕ) (s : ℕ) (y : ℤ) → (all_in p vs s y).places ≡ p.places
all_in_places p [] s y = refl
all_in_places p (v ∷ vs) s y = all_in_places (put_in p v s y) vs s y

-- more at vertices
pub all_added_inner : (p : Placement) (vs : List ℕ) (y : ℤ) (w : ℕ) → AllNew vs → (all_added p vs y).inner w ≡ cond (holds vs w) (int_wrap w64 (p.inner w +ℤ y)) (p.inner w)
all_added_inner p [] y w new = refl
all_added_inner p (v ∷ vs) y w new = grind (arith, nat_tests, all_added_inner (added_at p v y) vs y w new.1, new.0)

pub all_added_rest : (p : Placement) (vs : List ℕ) (y : ℤ) → all_added p vs y ≡ record p { inner = (all_added p vs y).inner }
all_added_rest p [] y = refl
all_added_rest p (v ∷ vs) y = all_added_rest (added_at p v y) vs y

-- what a vertex has
pub record HasAt (p : Placement) (v s : ℕ) (x : ℤ) : Type 0 where
  pub set : p.set v ≡ s
  pub inner : p.inner v ≡ x

module _ (w : Spread) where
  abbrev step : Placement → ℕ → Placement
  step p c = placed p (w.vertices c) (w.set c) (w.top c) (w.more c)

  abbrev next : Placement → ℕ → Placement
  next p c = cond (w.keeps c) p (step p c)

  pub spread_places : (p : Placement) (cs : List ℕ) → (spread w p cs).places ≡ p.places
  spread_places p [] = refl
  spread_places p (c ∷ cs) = grind (arith, nat_tests, spread_places (next p c) cs, all_in_places (topped p (w.set c) (w.top c)) (w.vertices c) (w.set c) (w.more c))

  -- a vertex that is none of those that move
  step_out : (p : Placement) (c v : ℕ) → (w.keeps c ≡ false → holds (w.vertices c) v ≡ false) → HasAt (next p c) v (p.set v) (p.inner v)
  step_out p c v out = record {
    set = grind (arith, out, all_in_set (topped p (w.set c) (w.top c)) (w.vertices c) (w.set c) (w.more c) v);
    inner = grind (arith, out, all_in_out (topped p (w.set c) (w.top c)) (w.vertices c) (w.set c) (w.more c) v);
  }

  pub out_at : (p : Placement) (cs : List ℕ) (v : ℕ) → ((c : ℕ) → holds cs c ≡ true → w.keeps c ≡ false → holds (w.vertices c) v ≡ false)
      → HasAt (spread w p cs) v (p.set v) (p.inner v)
  out_at p [] v out = record { set = refl; inner = refl }
  out_at p (c ∷ cs) v out =
      let here = step_out p c v (out c (first_in c cs)) in
      let rest = out_at (next p c) cs v (λ d e. out d (later_in c cs d e)) in
      record { set = rest.set ∙ here.set; inner = rest.inner ∙ here.inner }

  -- a vertex of a node that moves
  pub in_at : (p : Placement) (cs : List ℕ) (v o : ℕ) → AllNew cs → holds cs o ≡ true → w.keeps o ≡ false → holds (w.vertices o) v ≡ true → AllNew (w.vertices o)
      → ((c : ℕ) → holds cs c ≡ true → holds (w.vertices c) v ≡ true → c ≡ o) → HasAt (spread w p cs) v (w.set o) (int_wrap w64 (p.inner v +ℤ w.more o))
  in_at p [] v o new k moves m different one = absurd (both_ways false refl k)
  in_at p (c ∷ cs) v o new k moves m different one =
      by_test (eqb c o)
      (λ e.
      let same : c ≡ o = eqb-true c o e in
      let rest = out_at (next p c) cs v (λ d t keeps. let is = one d (later_in c cs d t) in grind (arith, nat_tests, new.0, is)) in
      let q : Placement = topped p (w.set c) (w.top c) in
      record {
        set = grind (arith, rest.set, same, moves, m, all_in_set q (w.vertices c) (w.set c) (w.more c) v);
        inner = grind (arith, rest.inner, same, moves, m, all_in_inner q (w.vertices c) (w.set c) (w.more c) v (subst (λ x. AllNew (w.vertices x)) (sym same) different));
      })
      (λ e.
      let stays = step_out p c v (λ t. let is = one c (first_in c cs) in grind (arith, nat_tests, is)) in
      let rest = in_at (next p c) cs v o new.1 (grind arith) moves m different (λ d t. one d (later_in c cs d t)) in
      record { set = rest.set; inner = rest.inner ∙ ap (λ x. int_wrap w64 (x +ℤ w.more o)) stays.inner })

  -- the outermost node of a set that gets none
  pub top_is : (p : Placement) (cs : List ℕ) (t o : ℕ) → p.top t ≡ o → ((c : ℕ) → holds cs c ≡ true → w.keeps c ≡ false → eqb (w.set c) t ≡ true → w.top c ≡ o)
      → (spread w p cs).top t ≡ o
  top_is p [] t o at same = at
  top_is p (c ∷ cs) t o at same =
      let moved = all_in_top (topped p (w.set c) (w.top c)) (w.vertices c) (w.set c) (w.more c) t in
      top_is (next p c) cs t o (grind (arith, same c (first_in c cs), at, moved)) (λ d m. same d (later_in c cs d m))

  -- and of one that does
  pub top_in : (p : Placement) (cs : List ℕ) (o : ℕ) → holds cs o ≡ true → w.keeps o ≡ false
      → ((c : ℕ) → holds cs c ≡ true → w.keeps c ≡ false → eqb (w.set c) (w.set o) ≡ true → w.top c ≡ w.top o) → (spread w p cs).top (w.set o) ≡ w.top o
  top_in p [] o k moves same = absurd (both_ways false refl k)
  top_in p (c ∷ cs) o k moves same =
      by_test (eqb c o)
      (λ e.
      let moved = all_in_top (topped p (w.set c) (w.top c)) (w.vertices c) (w.set c) (w.more c) (w.set o) in
      top_is (next p c) cs (w.set o) (w.top o) (grind (arith, nat_tests, moves, moved)) (λ d m. same d (later_in c cs d m)))
      (λ e. top_in (next p c) cs o (grind arith) moves (λ d m. same d (later_in c cs d m)))

-- the only node of a core
heir_stays : (core_of : ℕ → ℕ) (core heir o : ℕ) (cs : List ℕ) → heir ≡ o → ((c : ℕ) → holds cs c ≡ true → eqb (core_of c) core ≡ true → c ≡ o)
    → heir_of core_of core heir cs ≡ o
heir_stays core_of core heir o [] at one = at
heir_stays core_of core heir o (c ∷ cs) at one =
    heir_stays core_of core (cond (eqb (core_of c) core) c heir) o cs (grind (arith, nat_tests, one c (first_in c cs))) (λ d m. one d (later_in c cs d m))

pub heir_is : (core_of : ℕ → ℕ) (core heir o : ℕ) (cs : List ℕ) → holds cs o ≡ true → eqb (core_of o) core ≡ true
    → ((c : ℕ) → holds cs c ≡ true → eqb (core_of c) core ≡ true → c ≡ o) → heir_of core_of core heir cs ≡ o
heir_is core_of core heir o [] k has one = absurd (both_ways false refl k)
heir_is core_of core heir o (c ∷ cs) k has one =
    by_test (eqb c o)
    (λ e. heir_stays core_of core (cond (eqb (core_of c) core) c heir) o cs (grind (arith, nat_tests, has)) (λ d m. one d (later_in c cs d m)))
    (λ e. heir_is core_of core (cond (eqb (core_of c) core) c heir) o cs (grind arith) has (λ d m. one d (later_in c cs d m)))
