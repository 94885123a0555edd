-- Slots on lists, and the moments that they have so: taken off, put on, and moved.
use Rattle.graph_theory.proofs.Common.{◌≡◌, ◌≢◌, ℕ, zero, suc, ◌+◌, ◌<◌, ◌≤◌, ℤ, true, length, get_or, set, Option, Some, None, is_some, refl, sym, ap}
use Rattle.graph_theory.proofs.Common.{vec_len, ◌∙◌, arith, nat_tests, ⊎_elim, ◌⊎◌, inl, inr, cases_eq, cases_lt, ext_get_or, get_or-set_same, get_or-set_other, length-set, get_or_past}
use Rattle.graph_theory.proofs.Common.{get_or-map-range_with_len, length-map-range_with_len, sum_to-same, sum_to-has, sum_to-most, replicate, length-replicate, get_or-replicate}
use Rattle.circular_lists.specs.Linked.{HasLinks, link_at, links_without}
use Rattle.circular_lists.specs.Updates.{put}
use Rattle.circular_lists.proofs.Updates.{put_here, put_other, put_both}
use Rattle.circular_lists.proofs.LinkedBoth.{next_with, previous_with, owned_with, owned_without}
use Rattle.circular_lists.proofs.Owners.{seeded_apart}
use Rattle.search_heap.specs.declared.buckets.Buckets.{Buckets}
use Rattle.search_heap.specs.Rising.{IsHomed, kept_moment, moment_at, moments_of, count_on, one_on}

-- what a slot has by its home
abbrev pub held_by : Option ℕ → ℤ → Option ℤ
held_by None m = None
held_by (Some l) m = Some m

homes : (o : Option ℕ) → (o ≡ None) ⊎ ((l : ℕ) × (o ≡ Some l))
homes None = inl refl
homes (Some l) = inr (l, refl)

pub some_home : (o : Option ℕ) → is_some o ≡ true → (l : ℕ) × (o ≡ Some l)
some_home None e = absurd (cc)
some_home (Some l) e = (l, refl)

module _ (b : Buckets) (home : ℕ → Option ℕ) (h : IsHomed b home) where
  pub homed_moment : (s : ℕ) → s < b.slots → moment_at b s ≡ held_by (home s) (kept_moment b s)
  homed_moment s low = ⊎_elim
      (λ (e : home s ≡ None). rw e (grind (arith, nat_tests, h.owned.alone s low e)))
      (λ (r : (l : ℕ) × (home s ≡ Some l)).
      let apart : link_at b.lists.next.items s ≢ s = seeded_apart b.slots home (link_at b.lists.next.items) (link_at b.lists.previous.items) s h.links.linked h.owned low
      (ap (λ (o : Option ℕ). is_some o) r.1) in
      rw r.1 (grind (arith, nat_tests, apart)))
      (homes (home s))

  pub listed_home : (s : ℕ) → s < b.slots → is_some (moment_at b s) ≡ is_some (home s)
  listed_home s low = ap (λ (o : Option ℤ). is_some o) (homed_moment s low) ∙ (⊎_elim (λ (e : home s ≡ None). rw e refl) (λ (r : (l : ℕ) × (home s ≡ Some l)). rw r.1 refl) (homes (home s)))

  pub none_home : (s : ℕ) → s < b.slots → moment_at b s ≡ None → home s ≡ None
  none_home s low none = ⊎_elim (λ (e : home s ≡ None). e)
      (λ (r : (l : ℕ) × (home s ≡ Some l)).
      let no : Some (kept_moment b s) ≡ None = sym (homed_moment s low ∙ ap (λ (o : Option ℕ). held_by o (kept_moment b s)) r.1) ∙ none in absurd (cc))
      (homes (home s))

  pub home_within : (s : ℕ) → is_some (home s) ≡ true → s < b.slots
  home_within s some = let r = some_home (home s) some in h.within s r.0 r.1

-- the moments by slot
pub moment_of_slot : (b : Buckets) (s : ℕ) → s < b.slots → get_or (moments_of b) s None ≡ moment_at b s
moment_of_slot b s low = get_or-map-range_with_len (moment_at b) 0 b.slots s s None low (let e : 0 + s ≡ s = omega arith in e)

pub count_of_slots : (b : Buckets) → length (moments_of b) ≡ b.slots
count_of_slots b = length-map-range_with_len (moment_at b) 0 b.slots

pub slot_within : (b : Buckets) (s : ℕ) (m : ℤ) → get_or (moments_of b) s None ≡ Some m → s < b.slots
slot_within b s m is = ⊎_elim (λ (low : s < b.slots). low)
    (λ (high : b.slots ≤ s). let no : None ≡ Some m = sym (get_or_past (moments_of b) s None (omega (arith, high, count_of_slots b))) ∙ is in absurd (cc))
    (cases_lt s b.slots)

pub no_moment_of : (b : Buckets) → ((s : ℕ) → s < b.slots → moment_at b s ≡ None) → moments_of b ≡ replicate b.slots None
no_moment_of b none = ext_get_or None (moments_of b) (replicate b.slots None) (count_of_slots b ∙ sym (length-replicate b.slots None))
    (λ s low. let within : s < b.slots = omega (arith, low, count_of_slots b) in
    moment_of_slot b s within ∙ none s within ∙ sym (get_or-replicate b.slots s None None within))

pub same_moments : (b c : Buckets) → c.slots ≡ b.slots → ((s : ℕ) → s < b.slots → moment_at c s ≡ moment_at b s) → moments_of c ≡ moments_of b
same_moments b c slots same = ext_get_or None (moments_of c) (moments_of b) (count_of_slots c ∙ slots ∙ sym (count_of_slots b))
    (λ s low. let within : s < b.slots = omega (arith, low, count_of_slots c, slots) in
    moment_of_slot c s (omega (arith, within, slots)) ∙ same s within ∙ sym (moment_of_slot b s within))

pub one_moment : (b c : Buckets) (x : ℕ) (o : Option ℤ) → c.slots ≡ b.slots → moment_at c x ≡ o → x < b.slots → ((s : ℕ) → s < b.slots → s ≢ x → moment_at c s ≡ moment_at b s)
    → moments_of c ≡ set (moments_of b) x o
one_moment b c x o slots own below others =
    let size : length (set (moments_of b) x o) ≡ b.slots = length-set (moments_of b) x o ∙ count_of_slots b in
    ext_get_or None (moments_of c) (set (moments_of b) x o) (count_of_slots c ∙ slots ∙ sym size)
    (λ s low. let within : s < b.slots = omega (arith, low, count_of_slots c, slots) in
    moment_of_slot c s (omega (arith, within, slots)) ∙ ⊎_elim
    (λ (e : s ≡ x). ap (moment_at c) e ∙ own ∙ sym (ap (λ i. get_or (set (moments_of b) x o) i None) e ∙ get_or-set_same (moments_of b) x o None (omega (arith, below, count_of_slots b))))
    (λ (ne : s ≢ x). others s within ne ∙ sym (get_or-set_other (moments_of b) x s o None ne ∙ moment_of_slot b s within))
    (cases_eq s x))

-- with other lists alone
pub kept_lists : (b c : Buckets) → c ≡ record b { lists = c.lists } → (s : ℕ) → kept_moment c s ≡ kept_moment b s
kept_lists b c rest s = ap (λ (x : Buckets). kept_moment x s) rest

-- a slot taken off its list, and one put on a list
pub homed_without : (b c : Buckets) (x : ℕ) → c ≡ record b { lists = c.lists } → HasLinks c.lists (b.slots + 67)
    → link_at c.lists.next.items ≡ links_without (link_at b.lists.next.items) (link_at b.lists.previous.items) x
    → link_at c.lists.previous.items ≡ links_without (link_at b.lists.previous.items) (link_at b.lists.next.items) x → (home : ℕ → Option ℕ) → IsHomed b home
    → is_some (home x) ≡ true → IsHomed c (put home x None)
homed_without b c x rest links nexts previouses home h some =
    let slots : c.slots ≡ b.slots = ap (λ (y : Buckets). y.slots) rest in
    let low = home_within b home h x some in
    let owned = owned_without b.slots home (link_at b.lists.next.items) (link_at b.lists.previous.items) h.links.linked h.owned x low some in
    record {
      moments = ap (λ (y : Buckets). vec_len y.moments) rest ∙ h.moments ∙ sym slots;
      early = ap (λ (y : Buckets). vec_len y.early) rest ∙ h.early ∙ sym slots;
      links = rw slots links;
      within = λ s l. put_both (λ (o : Option ℕ). o ≡ Some l → s < c.slots) home x None s (λ e no. absurd (cc)) (λ ne is. omega (arith, slots, h.within s l is));
      owned = rw (slots, nexts, previouses) owned;
    }

pub homed_with : (b c : Buckets) (x list place : ℕ) → c ≡ record b { lists = c.lists } → HasLinks c.lists (b.slots + 67) → x < b.slots → place ≡ b.slots + list
    → link_at c.lists.next.items ≡ next_with (link_at b.lists.next.items) place x
    → link_at c.lists.previous.items ≡ previous_with (link_at b.lists.next.items) (link_at b.lists.previous.items) place x
    → (home : ℕ → Option ℕ) → IsHomed b home → home x ≡ None → IsHomed c (put home x (Some list))
homed_with b c x list place rest links low at nexts previouses home h none =
    let slots : c.slots ≡ b.slots = ap (λ (y : Buckets). y.slots) rest in
    let owned = owned_with b.slots home (link_at b.lists.next.items) (link_at b.lists.previous.items) h.links.linked h.owned x low list (h.owned.alone x low none) in
    record {
      moments = ap (λ (y : Buckets). vec_len y.moments) rest ∙ h.moments ∙ sym slots;
      early = ap (λ (y : Buckets). vec_len y.early) rest ∙ h.early ∙ sym slots;
      links = rw slots links;
      within = λ s l. put_both (λ (o : Option ℕ). o ≡ Some l → s < c.slots) home x (Some list) s (λ e is. omega (arith, slots, e, low)) (λ ne is. omega (arith, slots, h.within s l is));
      owned = rw (slots, nexts, previouses, at) owned;
    }

-- a slot moved from one list to another has what it had
pub moved_moments : (b c : Buckets) (x list : ℕ) (home : ℕ → Option ℕ) → c ≡ record b { lists = c.lists } → IsHomed b home → is_some (home x) ≡ true
    → IsHomed c (put home x (Some list)) → moments_of c ≡ moments_of b
moved_moments b c x list home rest h some g =
    let slots : c.slots ≡ b.slots = ap (λ (y : Buckets). y.slots) rest in
    same_moments b c slots
    (λ s low.
    homed_moment c (put home x (Some list)) g s (omega (arith, low, slots)) ∙ ap (held_by (put home x (Some list) s)) (kept_lists b c rest s)
    ∙ put_both (λ (o : Option ℕ). held_by o (kept_moment b s) ≡ held_by (home s) (kept_moment b s)) home x (Some list) s
    (λ e. let r = some_home (home x) some in sym (ap (λ (o : Option ℕ). held_by o (kept_moment b s)) (ap home e ∙ r.1)))
    (λ ne. refl)
    ∙ sym (homed_moment b home h s low))

-- how many slots are on a list
module _ (home : ℕ → Option ℕ) (list : ℕ) where
  count_past : (x n : ℕ) (o : Option ℕ) → n ≤ x → count_on (put home x o) list n ≡ count_on home list n
  count_past x n o past = sum_to-same (λ s. one_on (put home x o s) list) (λ s. one_on (home s) list) n
      (λ k low. ap (λ (q : Option ℕ). one_on q list) (put_other home x o k (λ e. absurd (omega (arith, e, low, past)))))

  pub count_less : (x other n : ℕ) → home x ≡ Some list → other ≢ list → x < n → count_on (put home x (Some other)) list n + 1 ≡ count_on home list n
  count_less x other zero is ne low = absurd (omega (arith, low))
  count_less x other (suc n) is ne low = ⊎_elim
      (λ (e : x ≡ n).
      let now : one_on (put home x (Some other) n) list ≡ 0 = ap (λ (q : Option ℕ). one_on q list) (ap (put home x (Some other)) (sym e) ∙ put_here home x (Some other))
      ∙ grind (arith, nat_tests) in
      let was : one_on (home n) list ≡ 1 = ap (λ (q : Option ℕ). one_on q list) (ap home (sym e) ∙ is) ∙ grind (arith, nat_tests) in
      omega (arith, now, was, count_past x n (Some other) (omega (arith, e))))
      (λ (ne2 : x ≢ n).
      let same : one_on (put home x (Some other) n) list ≡ one_on (home n) list = ap (λ (q : Option ℕ). one_on q list) (put_other home x (Some other) n (λ q. ne2 (sym q))) in
      omega (arith, same, count_less x other n is ne (omega (arith, low, ne2))))
      (cases_eq x n)

  pub count_most : (n : ℕ) → count_on home list n ≤ n
  count_most n = omega (
    arith,
    sum_to-most (λ s. one_on (home s) list) 1 n (λ k low. ⊎_elim (λ (e : home k ≡ None). rw e (omega arith))
        (λ (r : (l : ℕ) × (home k ≡ Some l)). rw r.1 (grind (arith, nat_tests))) (homes (home k))),
  )

  pub count_none : (n s : ℕ) → count_on home list n ≡ 0 → s < n → home s ≢ Some list
  count_none n s none low is =
      let one : one_on (home s) list ≡ 1 = ap (λ (q : Option ℕ). one_on q list) is ∙ grind (arith, nat_tests) in
      omega (arith, one, none, sum_to-has (λ k. one_on (home k) list) n s low)
