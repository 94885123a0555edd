-- Slots on the lists of their buckets, those that wait for them, and the least moment.
use Rattle.graph_theory.proofs.Common.{◌≡◌, ◌≢◌, ℕ, ◌+◌, ◌-◌, ◌<◌, ◌≤◌, ℤ, pos, ◌+ℤ◌, ◌≤ℤ◌, true, List, get_or, Option, Some, None, is_some, refl, sym, ap}
use Rattle.graph_theory.proofs.Common.{◌∙◌, subst, arith, ints, ⊎_elim, ◌⊎◌, inl, inr, cases_eq, cases_lt}
use Rattle.circular_lists.specs.Updates.{put}
use Rattle.circular_lists.proofs.Updates.{put_both}
use Rattle.search_heap.specs.declared.buckets.Buckets.{Buckets}
use Rattle.search_heap.specs.Slots.{IsLeastSlot}
use Rattle.search_heap.specs.Rising.{AreEnds, IsFiled, IsFound, IsGathered, IsHomed, IsInBucket, IsLowest, IsRefiling, IsSpread, count_on, end_at, kept_moment, moment_at, moments_of}
use Rattle.search_heap.proofs.Homes.{count_less, count_most, count_none, held_by, home_within, homed_moment, kept_lists, moment_of_slot, slot_within, some_home}
use Rattle.search_heap.proofs.Spreads.{is_first}

pub home_same : (home : ℕ → Option ℕ) (s k l : ℕ) → home s ≡ Some k → home s ≡ Some l → k ≡ l
home_same home s k l a b = cc

pub some_is : (home : ℕ → Option ℕ) (s l : ℕ) → home s ≡ Some l → is_some (home s) ≡ true
some_is home s l e = ap (λ (o : Option ℕ). is_some o) e

-- what a slot on a list has
pub moment_on : (b : Buckets) (home : ℕ → Option ℕ) (s l : ℕ) → IsHomed b home → home s ≡ Some l → moment_at b s ≡ Some (kept_moment b s)
moment_on b home s l h e = homed_moment b home h s (h.within s l e) ∙ ap (λ (o : Option ℕ). held_by o (kept_moment b s)) e

-- the home of a slot that has a moment
pub home_of : (b : Buckets) (home : ℕ → Option ℕ) (s : ℕ) (m : ℤ) → IsHomed b home → s < b.slots → moment_at b s ≡ Some m → ((l : ℕ) × (home s ≡ Some l)) × (kept_moment b s ≡ m)
home_of b home s m h low is = by (home s) refl
  where
    by : (o : Option ℕ) → home s ≡ o → ((l : ℕ) × (home s ≡ Some l)) × (kept_moment b s ≡ m)
    by None e = let no : None ≡ Some m = sym (homed_moment b home h s low ∙ ap (λ (o : Option ℕ). held_by o (kept_moment b s)) e) ∙ is in absurd (cc)
    by (Some l) e = ((l, e), (let same : Some (kept_moment b s) ≡ Some m = sym (moment_on b home s l h e) ∙ is in cc))

-- the slots of the first bucket
pub first_is_found : (b : Buckets) (f : IsFiled b) (s l : ℕ) → f.home s ≡ Some l → l ≤ 1 → IsFound b s
first_is_found b f s l e low = record {
  within = f.homed.within s l e;
  moment = moment_on b f.home s l f.homed e ∙ ap (λ (m : ℤ). let o : Option ℤ = Some m in o) (is_first b.ends.items (l - 1) (kept_moment b s) (omega (arith, low)) (f.fits s l e));
}

pub none_is_found : (b : Buckets) (f : IsFiled b) → ((s : ℕ) → f.home s ≢ Some 0) → ((s : ℕ) → f.home s ≢ Some 1) → (s : ℕ) → IsFound b s → ⊥
none_is_found b f none none2 s found =
    let r = home_of b f.home s (end_at b.ends.items 0) f.homed found.within found.moment in
    let l : ℕ = r.0.0 in let on : f.home s ≡ Some l = r.0.1 in
    let i = f.fits s l on in
    ⊎_elim (λ (e : l ≡ 0). none s (on ∙ ap (λ k. let o : Option ℕ = Some k in o) e))
    (λ (ne : l ≢ 0). ⊎_elim (λ (e : l ≡ 1). none2 s (on ∙ ap (λ k. let o : Option ℕ = Some k in o) e))
    (λ (ne2 : l ≢ 1). let past : 0 < l - 1 = omega (arith, ne, ne2) in
    absurd (omega (arith, ints, r.1, i.low past, f.ends.rising 0 (l - 1 - 1) (omega arith) (omega (arith, i.within)))))
    (cases_eq l 1)) (cases_eq l 0)

-- the slots of a list are let wait
pub record IsGathering (b : Buckets) (list : ℕ) (least : ℤ) (moved : ℕ) : Type 0 where
  pub home : ℕ → Option ℕ
  pub homed : IsHomed b home
  pub ends : AreEnds b.ends.items
  pub bucket : IsInBucket b.ends.items (list - 1) least
  pub fits : (s l : ℕ) → home s ≡ Some l
      → ((l ≡ 66) × (least ≤ℤ kept_moment b s) × IsInBucket b.ends.items (list - 1) (kept_moment b s)) ⊎ ((list ≤ l) × IsInBucket b.ends.items (l - 1) (kept_moment b s))
  pub there : ℕ
  pub within : there < b.slots
  pub some : is_some (home there) ≡ true
  pub moment : kept_moment b there ≡ least
  pub count_limit : count_on home list b.slots + moved ≤ b.slots

pub gather_starts : (b : Buckets) (f : IsFiled b) (list slot : ℕ) (least : ℤ) → IsLowest b.slots f.home (list, slot) → ((s : ℕ) → IsFound b s → ⊥) → least ≡ kept_moment b slot
    → IsGathering b list least 0
gather_starts b f list slot least low none is = record {
  home = f.home;
  homed = f.homed;
  ends = f.ends;
  bucket = subst (IsInBucket b.ends.items (list - 1)) (sym is) (f.fits slot list low.there);
  fits = λ s l e. inr (
    ⊎_elim
        (λ (first : l < 2). absurd (none s (first_is_found b f s l e (omega (arith, first)))))
        (λ (past : 2 ≤ l). low.lowest s l e past)
        (cases_lt l 2),
    f.fits s l e,
  );
  there = slot;
  within = low.within;
  some = some_is f.home slot list low.there;
  moment = sym is;
  count_limit = omega (arith, count_most f.home list b.slots);
}

module _ (b c : Buckets) (list : ℕ) (least m : ℤ) (moved x : ℕ) (g : IsGathering b list least moved) (high : list < 66) (rest : c ≡ record b { lists = c.lists })
    (on : g.home x ≡ Some list) where
  own : IsInBucket b.ends.items (list - 1) (kept_moment b x)
  own = ⊎_elim (λ (w : (list ≡ 66) × (least ≤ℤ kept_moment b x) × IsInBucket b.ends.items (list - 1) (kept_moment b x)). w.2)
      (λ (w : (list ≤ list) × IsInBucket b.ends.items (list - 1) (kept_moment b x)). w.1)
      (g.fits x list on)

  kept : (s : ℕ) → kept_moment c s ≡ kept_moment b s
  kept s = kept_lists b c rest s

  slots : c.slots ≡ b.slots
  slots = ap (λ (y : Buckets). y.slots) rest

  ends : c.ends.items ≡ b.ends.items
  ends = ap (λ (y : Buckets). y.ends.items) rest

  pub gather_steps : IsHomed c (put g.home x (Some 66)) → m ≤ℤ least → m ≤ℤ kept_moment b x → (m ≡ least) ⊎ (m ≡ kept_moment b x) → IsGathering c list m (moved + 1)
  gather_steps h low down which =
      let first : (r : ℕ) × (is_some (g.home r) ≡ true) × (kept_moment b r ≡ m) = ⊎_elim
      (λ (e : m ≡ least). (g.there, g.some, g.moment ∙ sym e))
      (λ (e : m ≡ kept_moment b x). (x, some_is g.home x list on, sym e)) which in
      record {
        home = put g.home x (Some 66);
        homed = h;
        ends = rw ends g.ends;
        bucket = rw ends (⊎_elim (λ (e : m ≡ least). rw e g.bucket) (λ (e : m ≡ kept_moment b x). rw e own) which);
        fits = λ s l. rw (ends, kept s) (put_both (λ (o : Option ℕ). o ≡ Some l
            → ((l ≡ 66) × (m ≤ℤ kept_moment b s) × IsInBucket b.ends.items (list - 1) (kept_moment b s)) ⊎ ((list ≤ l) × IsInBucket b.ends.items (l - 1) (kept_moment b s)))
            g.home x (Some 66) s
            (λ e is. inl ((let q : l ≡ 66 = cc in q), rw e down, rw e own))
            (λ ne is. ⊎_elim
            (λ (w : (l ≡ 66) × (least ≤ℤ kept_moment b s) × IsInBucket b.ends.items (list - 1) (kept_moment b s)). inl (w.0, omega (arith, ints, low, w.1), w.2))
            (λ (w : (list ≤ l) × IsInBucket b.ends.items (l - 1) (kept_moment b s)). inr w)
            (g.fits s l is)));
        there = first.0;
        within = omega (arith, slots, home_within b g.home g.homed first.0 first.1);
        some = put_both (λ (o : Option ℕ). is_some o ≡ true) g.home x (Some 66) first.0 (λ _. refl) (λ _. first.1);
        moment = kept first.0 ∙ first.2;
        count_limit = rw slots (omega (arith, g.count_limit, count_less g.home list x 66 b.slots on (λ e. absurd (omega (arith, e, high))) (g.homed.within x list on)));
      }

pub gather_ends : (b : Buckets) (list : ℕ) (least : ℤ) (moved : ℕ) (g : IsGathering b list least moved) → ((s : ℕ) → g.home s ≢ Some list) → IsGathered b list least
gather_ends b list least moved g none = record {
  home = g.home;
  homed = g.homed;
  ends = g.ends;
  bucket = g.bucket;
  fits = λ s l e. ⊎_elim
      (λ (w : (l ≡ 66) × (least ≤ℤ kept_moment b s) × IsInBucket b.ends.items (list - 1) (kept_moment b s)). inl w)
      (λ (w : (list ≤ l) × IsInBucket b.ends.items (l - 1) (kept_moment b s)).
      inr (
        ⊎_elim (λ (same : l ≡ list). absurd (none s (e ∙ ap (λ k. let o : Option ℕ = Some k in o) same))) (λ (ne : l ≢ list). let past : list
            < l = omega (arith, ne, w.0) in past) (cases_eq l list),
        w.1,
      ))
      (g.fits s l e);
  there = g.there;
  within = g.within;
  some = g.some;
  moment = g.moment;
}

pub none_left : (b : Buckets) (home : ℕ → Option ℕ) (list moved : ℕ) → IsHomed b home → count_on home list b.slots + moved ≤ b.slots → b.slots ≤ moved → (s : ℕ) → home s ≢ Some list
none_left b home list moved h few all s on = count_none home list b.slots s (omega (arith, few, all)) (h.within s list on) on

-- with other ends alone
pub homed_ends : (b c : Buckets) (home : ℕ → Option ℕ) → c ≡ record b { ends = c.ends } → IsHomed b home → IsHomed c home
homed_ends b c home rest h = rw rest (record { moments = h.moments; early = h.early; links = h.links; within = h.within; owned = h.owned })

-- with spread ends the slots that wait come after the first end
pub refile_starts : (b c : Buckets) (list : ℕ) (least : ℤ) → c ≡ record b { ends = c.ends } → 2 ≤ list → list < 66 → IsGathered b list least
    → IsSpread b.ends.items c.ends.items least (list - 1) → IsRefiling c 0
refile_starts b c list least rest low high g s =
    let slots : c.slots ≡ b.slots = ap (λ (y : Buckets). y.slots) rest in
    let kept : (x : ℕ) → kept_moment c x ≡ kept_moment b x = λ x. ap (λ (y : Buckets). kept_moment y x) rest in
    record {
      home = g.home;
      homed = homed_ends b c g.home rest g.homed;
      ends = s.ends;
      count_limit = omega (arith, count_most g.home 66 c.slots);
      fits = λ x l e. ⊎_elim
          (λ (w : (l ≡ 66) × (least ≤ℤ kept_moment b x) × IsInBucket b.ends.items (list - 1) (kept_moment b x)). inl (w.0, omega (arith, ints, s.first, kept x, w.1)))
          (λ (w : (list < l) × IsInBucket b.ends.items (l - 1) (kept_moment b x)).
          let within = w.1.within in let below : (end_at b.ends.items (l - 1 - 1) +ℤ pos 1) ≤ℤ kept_moment b x = w.1.low (omega (arith, low, w.0)) in
          inr (rw (kept x) (record {
            within = within;
            least = omega (arith, ints, s.first, g.bucket.high, g.ends.rising (list - 1) (l - 1 - 1) (omega (arith, w.0)) (omega (arith, within)), below);
            low = λ z. omega (arith, ints, s.frame (l - 1 - 1) (omega (arith, w.0)), below);
            high = omega (arith, ints, s.frame (l - 1) (omega (arith, w.0)), w.1.high);
          })))
          (g.fits x l e);
    }

module _ (b c : Buckets) (moved x list : ℕ) (r : IsRefiling b moved) (rest : c ≡ record b { lists = c.lists }) (on : r.home x ≡ Some 66) where
  pub refile_steps : IsInBucket b.ends.items (list - 1) (kept_moment b x) → IsHomed c (put r.home x (Some list)) → IsRefiling c (moved + 1)
  refile_steps i h =
      let slots : c.slots ≡ b.slots = ap (λ (y : Buckets). y.slots) rest in
      let ends : c.ends.items ≡ b.ends.items = ap (λ (y : Buckets). y.ends.items) rest in
      record {
        home = put r.home x (Some list);
        homed = h;
        ends = rw ends r.ends;
        count_limit = rw slots (omega (arith, r.count_limit, count_less r.home 66 x list b.slots on (λ e. absurd (omega (arith, e, i.within))) (r.homed.within x 66 on)));
        fits = λ s l. rw (ends, kept_lists b c rest s) (put_both (λ (o : Option ℕ). o ≡ Some l
            → ((l ≡ 66) × (end_at b.ends.items 0 ≤ℤ kept_moment b s)) ⊎ IsInBucket b.ends.items (l - 1) (kept_moment b s)) r.home x (Some list) s
            (λ e is. inr (let q : list ≡ l = cc in rw (e, sym q) i))
            (λ ne is. r.fits s l is));
      }

-- what waits comes after the first end
pub waits_after : (b : Buckets) (moved x : ℕ) (r : IsRefiling b moved) → r.home x ≡ Some 66 → end_at b.ends.items 0 ≤ℤ kept_moment b x
waits_after b moved x r on = ⊎_elim (λ (w : (66 ≡ 66) × (end_at b.ends.items 0 ≤ℤ kept_moment b x)). w.1) (λ (w : IsInBucket b.ends.items (66 - 1) (kept_moment b x)). w.least)
    (r.fits x 66 on)

pub refile_ends : (b : Buckets) (moved : ℕ) (r : IsRefiling b moved) → ((s : ℕ) → r.home s ≢ Some 66) → IsFiled b
refile_ends b moved r none = record {
  home = r.home;
  homed = r.homed;
  ends = r.ends;
  fits = λ s l e. ⊎_elim
      (λ (w : (l ≡ 66) × (end_at b.ends.items 0 ≤ℤ kept_moment b s)). absurd (none s (e ∙ ap (λ k. let o : Option ℕ = Some k in o) w.0)))
      (λ (w : IsInBucket b.ends.items (l - 1) (kept_moment b s)). w)
      (r.fits s l e);
}

-- the slot that has the least moment of all is in the first bucket then
pub gathered_found : (b c : Buckets) (list : ℕ) (least : ℤ) → IsGathered b list least → c.slots ≡ b.slots → moments_of c ≡ moments_of b → end_at c.ends.items 0 ≡ least
    → (r : ℕ) × IsFound c r
gathered_found b c list least g slots same first =
    let r = some_home (g.home g.there) g.some in (
      g.there,
      record {
        within = omega (arith, slots, g.within);
        moment = sym (moment_of_slot c g.there (omega (arith, slots, g.within))) ∙ ap (λ (ms : List (Option ℤ)). get_or ms g.there None) same ∙ moment_of_slot b g.there g.within
            ∙ moment_on b g.home g.there r.0 g.homed r.1 ∙ ap (λ (m : ℤ). let o : Option ℤ = Some m in o) (g.moment ∙ sym first);
      },
    )

-- where neither the first bucket nor a list past it has a slot, none has a moment
pub none_has : (b : Buckets) (f : IsFiled b) → ((s : ℕ) → IsFound b s → ⊥) → ((s l : ℕ) → 2 ≤ l → l < 66 → f.home s ≢ Some l) → (s : ℕ) (m : ℤ) → get_or (moments_of b) s None ≡ Some m → ⊥
none_has b f none past s m is =
    let low = slot_within b s m is in
    let r = home_of b f.home s m f.homed low (sym (moment_of_slot b s low) ∙ is) in
    ⊎_elim (λ (first : r.0.0 < 2). none s (first_is_found b f s r.0.0 r.0.1 (omega (arith, first))))
    (λ (two : 2 ≤ r.0.0). past s r.0.0 two (omega (arith, (f.fits s r.0.0 r.0.1).within)) r.0.1)
    (cases_lt r.0.0 2)

-- a slot of the first bucket has the least moment
pub found_is_least : (b : Buckets) (f : IsFiled b) (s : ℕ) → IsFound b s → IsLeastSlot (moments_of b) (Some (s, end_at b.ends.items 0))
found_is_least b f s found = (
  moment_of_slot b s found.within ∙ found.moment,
  λ x m is.
      let low = slot_within b x m is in
      let r = home_of b f.home x m f.homed low (sym (moment_of_slot b x low) ∙ is) in
      subst (λ (z : ℤ). end_at b.ends.items 0 ≤ℤ z) r.1 (f.fits x r.0.0 r.0.1).least,
)
