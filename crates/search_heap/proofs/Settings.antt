-- A moment taken away, one given, all taken away, and the first end lowered.
use Rattle.graph_theory.proofs.Common.{◌≡◌, ◌≢◌, ℕ, ◌+◌, ◌-◌, ◌<◌, ◌≤◌, ℤ, pos, ◌+ℤ◌, ◌≤ℤ◌, Bool, true, false, cond, List, length, get_or, set, Option, Some, None, is_some, refl, sym, ap}
use Rattle.graph_theory.proofs.Common.{◌∙◌, subst, arith, ints, nat_tests, ⊎_elim, ◌⊎◌, inl, inr, cases_eq, get_or-set_same, get_or-set_other, length-set, set-get_or, vec_len, nat_eq}
use Rattle.circular_lists.specs.Linked.{HasLinks, link_at, owner}
use Rattle.circular_lists.specs.Updates.{put}
use Rattle.circular_lists.proofs.Updates.{put_both, put_here, put_other}
use Rattle.search_heap.specs.declared.buckets.Buckets.{Buckets}
use Rattle.search_heap.specs.Rising.{AreEnds, IsFiled, IsHomed, IsInBucket, IsLowering, end_at, kept_moment, moment_at, moments_of}
use Rattle.search_heap.proofs.Homes.{held_by, homed_moment, kept_lists, moment_of_slot, one_moment}
use Rattle.search_heap.proofs.Filings.{home_of, homed_ends, moment_on, some_is}
use Rattle.search_heap.proofs.Spreads.{is_first}

listed_is : (t : Bool) (m : ℤ) → is_some (let o : Option ℤ = cond t None (Some m) in o) ≡ true → (let o : Option ℤ = cond t None (Some m) in o) ≡ Some m
listed_is true m e = absurd (cc)
listed_is false m e = refl

pub listed_moment : (b : Buckets) (s : ℕ) → is_some (moment_at b s) ≡ true → moment_at b s ≡ Some (kept_moment b s)
listed_moment b s e = listed_is (nat_eq (link_at b.lists.next.items s) s) (kept_moment b s) e

pub unlisted_moment : (b : Buckets) (s : ℕ) → is_some (moment_at b s) ≡ false → moment_at b s ≡ None
unlisted_moment b s e = by (moment_at b s) e
  where
    by : (o : Option ℤ) → is_some o ≡ false → o ≡ None
    by None e = refl
    by (Some m) e = absurd (cc)

-- the home of a slot with a moment
pub listed_some : (b : Buckets) (home : ℕ → Option ℕ) (s : ℕ) → IsHomed b home → s < b.slots → is_some (moment_at b s) ≡ true → is_some (home s) ≡ true
listed_some b home s h low e = let r = home_of b home s (kept_moment b s) h low (listed_moment b s e) in some_is home s r.0.0 r.0.1

-- a slot that has none already
pub none_removed : (b : Buckets) (s : ℕ) → s < b.slots → moment_at b s ≡ None → moments_of b ≡ set (moments_of b) s None
none_removed b s low none =
    let all = moments_of b in let is : get_or all s None ≡ None = moment_of_slot b s low ∙ none in
    sym (ap (λ k. set all s k) (sym is) ∙ set-get_or all s None)

-- and one that has this moment already
pub some_given : (b : Buckets) (s : ℕ) (m : ℤ) → s < b.slots → moment_at b s ≡ Some m → moments_of b ≡ set (moments_of b) s (Some m)
some_given b s m low has =
    let all = moments_of b in let is : get_or all s None ≡ Some m = moment_of_slot b s low ∙ has in
    sym (ap (λ k. set all s k) (sym is) ∙ set-get_or all s None)

-- one taken away
module _ (b c : Buckets) (x : ℕ) (f : IsFiled b) (rest : c ≡ record b { lists = c.lists }) (h : IsHomed c (put f.home x None)) where
  pub filed_without : IsFiled c
  filed_without = record {
    home = put f.home x None;
    homed = h;
    ends = subst (λ (y : Buckets). AreEnds y.ends.items) (sym rest) f.ends;
    fits = λ s l. put_both (λ (o : Option ℕ). o ≡ Some l → IsInBucket c.ends.items (l - 1) (kept_moment c s)) f.home x None s (λ e no. absurd (cc))
        (λ ne is. subst (λ (y : Buckets). IsInBucket y.ends.items (l - 1) (kept_moment y s)) (sym rest) (f.fits s l is));
  }

  pub removed : x < b.slots → moments_of c ≡ set (moments_of b) x None
  removed low =
      let slots : c.slots ≡ b.slots = ap (λ (y : Buckets). y.slots) rest in
      let at : (s : ℕ) → s < b.slots → moment_at c s ≡ held_by (put f.home x None s) (kept_moment b s) = λ s below. homed_moment c (put f.home x None) h s (omega (arith, slots, below))
      ∙ ap (held_by (put f.home x None s)) (kept_lists b c rest s) in
      one_moment b c x None slots (at x low ∙ ap (λ (o : Option ℕ). held_by o (kept_moment b x)) (put_here f.home x None)) low
      (λ s below ne. at s below ∙ ap (λ (o : Option ℕ). held_by o (kept_moment b s)) (put_other f.home x None s ne) ∙ sym (homed_moment b f.home f.homed s below))

-- one given to a slot that has none
module _ (b a c : Buckets) (x list : ℕ) (m : ℤ) (f : IsFiled b) (below : x < b.slots) (other : a ≡ record b { moments = a.moments; early = a.early })
    (items : a.moments.items ≡ set b.moments.items x m) where
  kept_else : (s : ℕ) → s ≢ x → kept_moment a s ≡ kept_moment b s
  kept_else s ne = ap (λ (ms : List ℤ). get_or ms s (pos 0)) items ∙ get_or-set_other b.moments.items x s m (pos 0) ne

  pub written : vec_len a.moments ≡ b.slots → vec_len a.early ≡ b.slots → IsHomed a f.home
  written count count2 = rw other (record { moments = count; early = count2; links = f.homed.links; within = f.homed.within; owned = f.homed.owned })

  module _ (rest : c ≡ record a { lists = c.lists }) (h : IsHomed c (put f.home x (Some list))) where
    slots : c.slots ≡ b.slots
    slots = ap (λ (y : Buckets). y.slots) rest ∙ ap (λ (y : Buckets). y.slots) other

    own : kept_moment c x ≡ m
    own = kept_lists a c rest x ∙ ap (λ (ms : List ℤ). get_or ms x (pos 0)) items ∙ get_or-set_same b.moments.items x m (pos 0) (omega (arith, below, f.homed.moments))

    kept : (s : ℕ) → s ≢ x → kept_moment c s ≡ kept_moment b s
    kept s ne = kept_lists a c rest s ∙ kept_else s ne

    pub filed_with : IsInBucket b.ends.items (list - 1) m → IsFiled c
    filed_with i =
        let ends : c.ends.items ≡ b.ends.items = ap (λ (y : Buckets). y.ends.items) rest ∙ ap (λ (y : Buckets). y.ends.items) other in
        record {
          home = put f.home x (Some list);
          homed = h;
          ends = rw ends f.ends;
          fits = λ s l. rw ends (put_both (λ (o : Option ℕ). o ≡ Some l → IsInBucket b.ends.items (l - 1) (kept_moment c s)) f.home x (Some list) s
              (λ e is. let q : list ≡ l = cc in rw (e, own, sym q) i)
              (λ ne is. rw (kept s ne) (f.fits s l is)));
        }

    pub given : moments_of c ≡ set (moments_of b) x (Some m)
    given =
        let at : (s : ℕ) → s < b.slots → moment_at c s ≡ held_by (put f.home x (Some list) s) (kept_moment c s) = λ s low. homed_moment c (put f.home x (Some list)) h s
        (omega (arith, slots, low)) in
        one_moment b c x (Some m) slots
        (at x below ∙ ap (λ (o : Option ℕ). held_by o (kept_moment c x)) (put_here f.home x (Some list)) ∙ ap (λ (z : ℤ). let o : Option ℤ = Some z in o) own) below
        (λ s low ne. at s low ∙ ap (λ (o : Option ℕ). held_by o (kept_moment c s)) (put_other f.home x (Some list) s ne) ∙ ap (held_by (f.home s)) (kept s ne)
        ∙ sym (homed_moment b f.home f.homed s low))

-- all taken away
pub cleared : (b c : Buckets) → IsFiled b → c ≡ record b { ends = c.ends } → AreEnds c.ends.items → ((s : ℕ) → s < b.slots → moment_at b s ≡ None) → IsFiled c
cleared b c f rest ends none = record {
  home = f.home;
  homed = homed_ends b c f.home rest f.homed;
  ends = ends;
  fits = λ s l e. let no : None ≡ Some (kept_moment b s) = sym (none s (f.homed.within s l e)) ∙ moment_on b f.home s l f.homed e in absurd (cc);
}

-- the first end lowered
pub lower_starts : (b : Buckets) (last : ℤ) (f : IsFiled b) → last ≡ end_at b.ends.items 0 → IsLowering b last 0
lower_starts b last f is = record { home = f.home; homed = f.homed; ends = f.ends; first = is; fits = λ s l e. inr (f.fits s l e, λ low. absurd (omega (arith, low))) }

pub lower_skips : (b : Buckets) (last : ℤ) (count : ℕ) (w : IsLowering b last count) → (is_some (w.home count) ≡ true → kept_moment b count ≢ last) → IsLowering b last (count + 1)
lower_skips b last count w other = record {
  home = w.home;
  homed = w.homed;
  ends = w.ends;
  first = w.first;
  fits = λ s l e. ⊎_elim
      (λ (r : (l ≡ 2) × (kept_moment b s ≡ last)). inl r)
      (λ (r : IsInBucket b.ends.items (l - 1) (kept_moment b s) × (s < count → kept_moment b s ≢ last)).
      inr (
        r.0,
        λ low. ⊎_elim
            (λ (same : s ≡ count). subst (λ k. kept_moment b k ≢ last) (sym same) (other (subst (λ k. is_some (w.home k) ≡ true) same (some_is w.home s l e))))
            (λ (ne : s ≢ count). r.1 (omega (arith, low, ne)))
            (cases_eq s count),
      ))
      (w.fits s l e);
}

pub lower_steps : (b c : Buckets) (last : ℤ) (count : ℕ) (w : IsLowering b last count) → c ≡ record b { lists = c.lists } → kept_moment b count ≡ last
    → IsHomed c (put w.home count (Some 2)) → IsLowering c last (count + 1)
lower_steps b c last count w rest is h =
    let ends : c.ends.items ≡ b.ends.items = ap (λ (y : Buckets). y.ends.items) rest in
    record {
      home = put w.home count (Some 2);
      homed = h;
      ends = rw ends w.ends;
      first = rw ends w.first;
      fits = λ s l. rw (ends, kept_lists b c rest s) (put_both (λ (o : Option ℕ). o ≡ Some l
          → ((l ≡ 2) × (kept_moment b s ≡ last)) ⊎ (IsInBucket b.ends.items (l - 1) (kept_moment b s) × (s < count + 1 → kept_moment b s ≢ last))) w.home count (Some 2) s
          (λ e two. inl ((let q : l ≡ 2 = cc in q), ap (kept_moment b) e ∙ is))
          (λ ne on. ⊎_elim
          (λ (r : (l ≡ 2) × (kept_moment b s ≡ last)). inl r)
          (λ (r : IsInBucket b.ends.items (l - 1) (kept_moment b s) × (s < count → kept_moment b s ≢ last)). inr (r.0, λ low. r.1 (omega (arith, low, ne))))
          (w.fits s l on)));
    }

pub lower_ends : (b c : Buckets) (last m : ℤ) (count : ℕ) (w : IsLowering b last count) → b.slots ≤ count → c ≡ record b { ends = c.ends } → c.ends.items ≡ set b.ends.items 0 m
    → (m +ℤ pos 1) ≤ℤ last → IsFiled c
lower_ends b c last m count w all rest items low =
    let first : end_at c.ends.items 0 ≡ m = ap (λ (es : List ℤ). end_at es 0) items ∙ get_or-set_same b.ends.items 0 m (pos 0) (omega (arith, w.ends.size)) in
    let past : (k : ℕ) → 0 < k → end_at c.ends.items k ≡ end_at b.ends.items k = λ k some. ap (λ (es : List ℤ). end_at es k) items
    ∙ get_or-set_other b.ends.items 0 k m (pos 0) (λ e. absurd (omega (arith, e, some))) in
    let down : (k : ℕ) → end_at c.ends.items k ≤ℤ end_at b.ends.items k = λ k. ⊎_elim (λ (z : k ≡ 0). rw z (omega (arith, ints, first, w.first, low)))
    (λ (nz : k ≢ 0). omega (arith, ints, past k (omega (arith, nz)))) (cases_eq k 0) in
    let kept : (s : ℕ) → kept_moment c s ≡ kept_moment b s = λ s. ap (λ (y : Buckets). kept_moment y s) rest in
    record {
      home = w.home;
      homed = homed_ends b c w.home rest w.homed;
      ends = record {
        size = ap length items ∙ length-set b.ends.items 0 m ∙ w.ends.size;
        rising = λ j k a d. ⊎_elim
            (λ (z : k ≡ 0). let y : j ≡ 0 = omega (arith, a, z) in rw (y, z) (omega (arith, ints)))
            (λ (nz : k ≢ 0). omega (arith, ints, down j, past k (omega (arith, nz)), w.ends.rising j k a d))
            (cases_eq k 0);
        top = past 64 (omega arith) ∙ w.ends.top;
      };
      fits = λ s l e. rw (kept s) (⊎_elim
          (λ (r : (l ≡ 2) × (kept_moment b s ≡ last)).
          rw r.0 (record {
            within = omega arith;
            least = omega (arith, ints, first, low, r.1);
            low = λ z. omega (arith, ints, first, low, r.1);
            high = omega (arith, ints, past 1 (omega arith), r.1, w.first, w.ends.rising 0 1 (omega arith) (omega arith));
          }))
          (λ (r : IsInBucket b.ends.items (l - 1) (kept_moment b s) × (s < count → kept_moment b s ≢ last)).
          let ne = r.1 (omega (arith, all, w.homed.within s l e)) in
          let some : 0 < l - 1 = ⊎_elim (λ (z : l - 1 ≡ 0). absurd (ne (is_first b.ends.items (l - 1) (kept_moment b s) z r.0 ∙ sym w.first)))
          (λ (nz : l - 1 ≢ 0). let p : 0 < l - 1 = omega (arith, nz) in p) (cases_eq (l - 1) 0) in
          record {
            within = r.0.within;
            least = omega (arith, ints, down 0, r.0.least);
            low = λ z. omega (arith, ints, down (l - 1 - 1), r.0.low z);
            high = omega (arith, ints, past (l - 1) some, r.0.high);
          })
          (w.fits s l e));
    }

-- where all are alone
pub alone_moment : (b : Buckets) (s : ℕ) → link_at b.lists.next.items s ≡ s → moment_at b s ≡ None
alone_moment b s alone = grind (arith, nat_tests, alone)

pub alone_filed : (b : Buckets) → vec_len b.moments ≡ b.slots → vec_len b.early ≡ b.slots → HasLinks b.lists (b.slots + 67) → ((a : ℕ) → link_at b.lists.next.items a ≡ a)
    → AreEnds b.ends.items → IsFiled b
alone_filed b count count2 links alone ends =
    let none : ℕ → Option ℕ = λ s. None in
    record {
      home = none;
      homed = record {
        moments = count;
        early = count2;
        links = links;
        within = λ s l is. absurd (cc);
        owned = record {
          same = λ a. ap (owner b.slots none) (alone a);
          rank = λ a. 0;
          bound = 0;
          low = λ a. omega arith;
          rises = λ a some down. absurd (cc);
          alone = λ a low e. alone a;
        };
      };
      ends = ends;
      fits = λ s l is. absurd (cc);
    }
