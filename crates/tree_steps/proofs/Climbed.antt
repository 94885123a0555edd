-- A pair of mates that is labelled out comes into a tree: the one becomes inner, the other, below it, outer.
use Rattle.alt_forest.proofs.Common.{◌≡◌, ◌≢◌, ℕ, ◌+◌, ◌<◌, ◌≤◌, Option, Some, refl, sym, ap, ◌∙◌, subst, arith, ⊎_elim, cases_eq, Label, Outer, Inner}
use Rattle.alt_forest.proofs.Common.{Out, State, IsOutermost, Joins, IsTight, IsMate, FitsLabel, put, put_here, put_other, outer_not_inner, outer_not_out, inner_not_out, mate_turned}
use Rattle.alt_forest.proofs.Common.{mate_unique, partner_unique}
use Rattle.tree_steps.proofs.Carried.{Hangs, HasChild, Carries, carried_child, carried_fits, inner_fits, rehung, mate_rehung}

-- two mates that are labelled out, and labels by which q is inner and r outer
pub record IsTaken (s : State) (q edge r : ℕ) (l : ℕ → Label) : Type 0 where
  pub is : IsOutermost s q
  pub mate : s.mate q ≡ Some edge
  pub is_mate : IsMate s q edge r
  pub out : s.label q ≡ Out
  pub mate_out : s.label r ≡ Out
  pub inner : l q ≡ Inner
  pub outer : l r ≡ Outer
  pub others : (c : ℕ) → c ≢ q → c ≢ r → l c ≡ s.label c

-- the ranks with the pair
abbrev pub ranked : (ℕ → ℕ) → ℕ → ℕ → ℕ → ℕ → ℕ
ranked depth q r level = put (put depth r (level + 1)) q level

module _ (s : State) (depth : ℕ → ℕ) (q edge r level : ℕ) (l : ℕ → Label) (p : ℕ → Option ℕ) (k : IsTaken s q edge r l) where
  abbrev t : State
  t = rehung s l p

  abbrev risen : ℕ → ℕ
  risen = ranked depth q r level

  pub risen_q : risen q ≡ level
  risen_q = put_here (put depth r (level + 1)) q level

  pub risen_r : risen r ≡ level + 1
  risen_r = put_other (put depth r (level + 1)) q level r (λ e. k.is_mate.different (sym e)) ∙ put_here depth r (level + 1)

  risen_else : (c : ℕ) → c ≢ q → c ≢ r → risen c ≡ depth c
  risen_else c nq nr = put_other (put depth r (level + 1)) q level c nq ∙ put_other depth r (level + 1) c nr

  -- what was in a tree is neither of the two
  pub record IsOld (c : ℕ) : Type 0 where
    pub not_q : c ≢ q
    pub not_r : c ≢ r
    pub label : l c ≡ s.label c
    pub rank : risen c ≡ depth c

  pub old : (c : ℕ) → s.label c ≢ Out → IsOld c
  old c lab =
      let nq : c ≢ q = λ e. lab (ap s.label e ∙ k.out) in
      let nr : c ≢ r = λ e. lab (ap s.label e ∙ k.mate_out) in
      record { not_q = nq; not_r = nr; label = k.others c nq nr; rank = risen_else c nq nr }

  back : IsMate s r edge q
  back = mate_turned s q edge r k.is k.mate k.is_mate

  pub pair_carries : (c : ℕ) → c ≢ q → c ≢ r → Carries s t depth risen (λ d. d) c
  pair_carries c nq nr = record {
    label = k.others c nq nr;
    mate = refl;
    mates = λ f d has v.
        let dq : d ≢ q = λ e. nr (partner_unique s c f r edge q (subst (IsMate s c f) e v) back) in
        let dr : d ≢ r = λ e. nq (partner_unique s c f q edge r (subst (IsMate s c f) e v) k.is_mate) in
        record {
          is_mate = mate_rehung s l p c f d v;
          label = k.others d dq dr;
          falls = λ h. omega (arith, h, risen_else c nq nr, risen_else d dq dr);
          rises = λ h. omega (arith, h, risen_else c nq nr, risen_else d dq dr);
        };
    hangs = λ f d lab h.
        let o = old d (λ e. outer_not_out (sym h.outer ∙ e)) in
        record { is_edge = h.is_edge; joins = h.joins; tight = h.tight; up_is = h.up_is; outer = o.label ∙ h.outer; falls = omega (arith, o.rank, risen_else c nq nr, h.falls) };
  }

  pub pair_child : HasChild t risen q
  pair_child = record { edge = edge; child = r; mate = k.mate; is_mate = mate_rehung s l p q edge r k.is_mate; outer = k.outer; rises = omega (arith, risen_q, risen_r) }

  outer_fits : FitsLabel t risen r
  outer_fits = record {
    outer = λ lab f c has w.
        let it : q ≡ c = mate_unique s r edge q f c k.is_mate.back has back (mate_rehung t s.label s.parent r f c w) in
        subst (λ x. (l x ≡ Inner) × (risen x < risen r)) it (k.inner, omega (arith, risen_q, risen_r));
    inner = λ lab. outer_not_inner (sym k.outer ∙ lab);
    out = λ lab. outer_not_out (sym k.outer ∙ lab);
  }

  -- all but the inner one fit, where their parents stay
  pub pair_fits : (c : ℕ) → c ≢ q → p c ≡ s.parent c → FitsLabel s depth c → FitsLabel t risen c
  pair_fits c nq parent fits = ⊎_elim
      (λ e. subst (FitsLabel t risen) (sym e) outer_fits)
      (λ nr. carried_fits s t depth risen (λ d. d) c (pair_carries c nq nr) parent (λ f b has v. (b, has, mate_rehung t s.label s.parent c f b v, refl)) fits) (cases_eq c r)

-- a state where all outermost nodes fit but one, which is inner and has a child
pub record IsOpenAt (s : State) (depth : ℕ → ℕ) (x : ℕ) : Type 0 where
  pub fits : (c : ℕ) → IsOutermost s c → c ≢ x → FitsLabel s depth c
  pub inner : s.label x ≡ Inner
  pub is_outer : IsOutermost s x
  pub child : HasChild s depth x

-- where that one hangs all fit
pub closes : (s : State) (depth : ℕ → ℕ) (x edge up : ℕ) → IsOpenAt s depth x → s.parent x ≡ Some edge → Hangs s depth x edge up → (c : ℕ) → IsOutermost s c
    → FitsLabel s depth c
closes s depth x edge up h parent hangs c is = ⊎_elim (λ e. subst (FitsLabel s depth) (sym e) (inner_fits s depth x edge up h.inner parent hangs h.child)) (h.fits c is) (cases_eq c x)

-- One step up: the open node x hangs under r, and q is open.
pub step_up : (s : State) (depth : ℕ → ℕ) (x by q edge r level : ℕ) (l : ℕ → Label) → IsOpenAt s depth x → IsTaken s q edge r l → s.parent x ≡ Some by → IsTight s by
    → Joins s.graph s.blossoms by x r → level + 2 ≤ depth x → IsOpenAt (rehung s l s.parent) (ranked depth q r level) q
step_up s depth x by q edge r level l h k parent tight joins deep =
    let p : ℕ → Option ℕ = s.parent in let t : State = rehung s l p in
    let after : ℕ → ℕ = ranked depth q r level in
    let o = old s depth q edge r level l p k x (λ e. inner_not_out (sym h.inner ∙ e)) in
    let hangs : Hangs t after x by r = record {
      is_edge = tight.edge;
      joins = joins;
      tight = tight.tight;
      up_is = k.is_mate.outermost;
      outer = k.outer;
      falls = omega (arith, o.rank, risen_r s depth q edge r level l p k, deep);
    } in
    let child = carried_child s t depth after (λ d. d) x (pair_carries s depth q edge r level l p k x o.not_q o.not_r) h.child in
    record {
      fits = λ c is nq. ⊎_elim
          (λ e. subst (FitsLabel t after) (sym e) (inner_fits t after x by r (o.label ∙ h.inner) parent hangs child))
          (λ nx. pair_fits s depth q edge r level l p k c nq refl (h.fits c is nx)) (cases_eq c x);
      inner = k.inner;
      is_outer = k.is;
      child = pair_child s depth q edge r level l p k;
    }
