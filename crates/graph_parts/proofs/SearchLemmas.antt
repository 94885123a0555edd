-- Lemmas on a search: one vertex more, all neighbours of a vertex, and what is found in the end.
use Rattle.graph_theory.proofs.Common.{◌≡◌, ℕ, ◌+◌, ◌<◌, ◌≤◌, Bool, true, false, ◌||◌, eqb, refl, ap, sym, ◌∙◌, subst, inl, inr, arith, List, [], ◌∷◌}
use Rattle.graph_theory.proofs.Common.{◌++◌, length, get_or, set, take, length-append, or-false, or_assoc, cases_eq, eqb-true, eq-eqb, ne_eqb, false≢true, or_cases, or_parts, or_left}
use Rattle.graph_theory.proofs.Common.{or_right, get_or-set_same, get_or-set_other, get_or_read, take-append-le, take_all, append-nil, Multigraph, IsGraph, IsEdgeNumber, edge_of}
use Rattle.graph_theory.proofs.Common.{edges_around, touches, other_end, holds, AreTogether, AllDiffer, holds_at, holds_all, all_holds, holds-append, holds-push, holds-take, edge_of_within}
use Rattle.graph_theory.proofs.Common.{other_end-within, around-has, number_at, together-refl, together-free, together-push, closed_has}
use Rattle.std.proofs.Common.{length-set}
use Rattle.std.proofs.lemmas.List.{append_assoc}
use Rattle.graph_parts.specs.Marks.{is_marked, MarksSet}
use Rattle.graph_parts.specs.Search.{ReachesOne, Grows, AreReached, IsSettled, ReachesFrom, Finds}
use Rattle.graph_parts.proofs.Once.{differ-push}

-- marks that stay

pub grows-refl : (marks : List Bool) (reached : List ℕ) → Grows marks reached marks reached
grows-refl marks reached = record { size = refl; kept = λ w h. h; more = []; list = sym (append-nil reached) }

pub grows-trans : (a b c : List Bool) (xs ys zs : List ℕ) → Grows a xs b ys → Grows b ys c zs → Grows a xs c zs
grows-trans a b c xs ys zs first then = record {
  size = then.size ∙ first.size;
  kept = λ w h. then.kept w (first.kept w h);
  more = first.more ++ then.more;
  list = then.list ∙ ap (λ us. us ++ then.more) first.list ∙ append_assoc xs first.more then.more;
}

-- what one mark more changes
marked_now : (old : List Bool) (v w : ℕ) → v < length old → is_marked (set old v true) w ≡ (is_marked old w || eqb v w)
marked_now old v w b =
    elim (cases_eq w v) [
      | inl e ↦ ap (λ x. get_or (set old v true) x false) e ∙ get_or-set_same old v true false b ∙ sym (or_right (is_marked old w) (eqb v w) (eq-eqb v w (sym e)))
      | inr d ↦ get_or-set_other old v w true false d ∙ sym (ap (λ t. is_marked old w || t) (ne_eqb v w (λ e. d (sym e))) ∙ or-false (is_marked old w))
    ]

pub grows-one : (out : List Bool) (v : ℕ) (old : List Bool) (before : List ℕ) (new : List Bool) (reached : List ℕ) → v < length old → ReachesOne out v old before new reached
    → Grows old before new reached
grows-one out v old before new reached b one =
    elim one.step [
      | inl same ↦ rw (same.0, same.1) (grows-refl old before)
      | inr more ↦ record {
        size = ap length more.2 ∙ length-set old v true;
        kept = λ w h. ap (λ (m : List Bool). is_marked m w) more.2 ∙ marked_now old v w b ∙ or_left (is_marked old w) (eqb v w) h;
        more = v ∷ [];
        list = more.3;
      }
    ]

-- one vertex more is reached
reached-push : (g : Multigraph) (out : List Bool) (start : ℕ) (first old : List Bool) (before : List ℕ) (new : List Bool) (reached : List ℕ) (to : ℕ)
    → (1 ≤ to) × (to ≤ g.vertices) → to < length old → is_marked old to ≡ false → ((removed : List ℕ) → MarksSet out removed → AreTogether g removed start to)
    → new ≡ set old to true → reached ≡ before ++ to ∷ [] → AreReached g out start first old before → AreReached g out start first new reached
reached-push g out start first old before new reached to range b off near marks is so_far =
    let unheld : holds before to ≡ false = (or_parts (is_marked first to) (holds before to) (sym (so_far.marked to) ∙ off)).1 in
    let list : (w : ℕ) → holds reached w ≡ (holds before w || eqb to w) = λ w. ap (λ (xs : List ℕ). holds xs w) is ∙ holds-push before to w in
    record {
      marked = λ w.
          ap (λ (m : List Bool). is_marked m w) marks ∙ marked_now old to w b ∙ ap (λ t. t || eqb to w) (so_far.marked w) ∙ or_assoc (is_marked first w) (holds before w) (eqb to w)
          ∙ ap (λ t. is_marked first w || t) (sym (list w));
      sound = λ removed out_is w h. elim (or_cases (holds before w) (eqb to w) (sym (list w) ∙ h)) [
        | inl was ↦ so_far.sound removed out_is w was
        | inr now ↦ subst (λ x. AreTogether g removed start x) (eqb-true to w now) (near removed out_is)
      ];
      in_range = all_holds (λ x. (1 ≤ x) × (x ≤ g.vertices)) reached (λ w h. elim (or_cases (holds before w) (eqb to w) (sym (list w) ∙ h)) [
        | inl was ↦ holds_all (λ x. (1 ≤ x) × (x ≤ g.vertices)) before w so_far.in_range was
        | inr now ↦ subst (λ (x : ℕ). (1 ≤ x) × (x ≤ g.vertices)) (eqb-true to w now) range
      ]);
      once = subst AllDiffer (sym is) (differ-push before to unheld so_far.once);
    }

pub reached-more : (g : Multigraph) (out : List Bool) (start : ℕ) (first old : List Bool) (before : List ℕ) (new : List Bool) (reached : List ℕ) (e v : ℕ) → IsGraph g → holds before v ≡ true
    → IsEdgeNumber g e → touches (edge_of g e) v ≡ true → other_end (edge_of g e) v < length old → AreReached g out start first old before
    → ReachesOne out (other_end (edge_of g e) v) old before new reached → AreReached g out start first new reached
reached-more g out start first old before new reached e v ok here number meets b so_far one =
    let to = other_end (edge_of g e) v in
    elim one.step [
      | inl same ↦ subst (λ (m : List Bool). AreReached g out start first m reached) (sym same.0) (subst (λ (xs : List ℕ). AreReached g out start first old xs) (sym same.1) so_far)
      | inr more ↦ reached-push g out start first old before new reached to (other_end-within g.vertices (edge_of g e) v (edge_of_within g e ok.ends number)) b more.1
          (λ removed is. let near = so_far.sound removed is v here in together-push g removed e start v near number meets (together-free g removed start v near) (sym (is to) ∙ more.0))
          more.2 more.3 so_far
    ]

-- the first i edges at v are followed

pub record ReachesSome (g : Multigraph) (out : List Bool) (v : ℕ) (numbers : List ℕ) (i : ℕ) (old : List Bool) (before : List ℕ) (new : List Bool) (reached : List ℕ) : Type 0 where
  pub grows : Grows old before new reached
  pub keeps : (start : ℕ) (first : List Bool) → holds before v ≡ true → AreReached g out start first old before → AreReached g out start first new reached
  pub settled : (e : ℕ) → holds (take i numbers) e ≡ true → is_marked out (other_end (edge_of g e) v) ≡ false → is_marked new (other_end (edge_of g e) v) ≡ true

pub reaches-next : (g : Multigraph) (out : List Bool) (v : ℕ) (numbers : List ℕ) (i p to : ℕ) (old : List Bool) (before : List ℕ) (mid : List Bool) (some : List ℕ) (new : List Bool)
    (reached : List ℕ) → IsGraph g → numbers ≡ edges_around g v → i < length numbers → p ≡ get_or numbers i p → to ≡ other_end (edge_of g p) v → to < length mid
    → ReachesSome g out v numbers i old before mid some → ReachesOne out to mid some new reached → ReachesSome g out v numbers (i + 1) old before new reached
reaches-next g out v numbers i p to old before mid some new reached ok is b at leads inside so_far one =
    let number = number_at g v numbers i p is b at in
    let step = grows-one out to mid some new reached inside one in
    let R : ℕ → Type 0 = λ x. ReachesOne out x mid some new reached in
    let B : ℕ → Type 0 = λ x. x < length mid in
    record {
      grows = grows-trans old mid new before some reached so_far.grows step;
      keeps = λ start first h was.
          let held : holds some v ≡ true = ap (λ (xs : List ℕ). holds xs v) so_far.grows.list ∙ holds-append before so_far.grows.more v
          ∙ or_left (holds before v) (holds so_far.grows.more v) h in
          reached-more g out start first mid some new reached p v ok held number.0 number.1 (subst B leads inside) (so_far.keeps start first h was) (subst R leads one);
      settled = λ e h free.
          elim (or_cases (holds (take i numbers) e) (eqb (get_or numbers i 0) e) (sym (holds-take numbers i e b) ∙ h)) [
            | inl was ↦ step.kept (other_end (edge_of g e) v) (so_far.settled e was free)
            | inr now ↦
                let same : p ≡ e = get_or_read numbers i p b at 0 ∙ eqb-true (get_or numbers i 0) e now in
                let end : to ≡ other_end (edge_of g e) v = leads ∙ ap (λ x. other_end (edge_of g x) v) same in
                let P : ℕ → Type 0 = λ x. is_marked out x ≡ false → is_marked new x ≡ true in
                subst P end one.settled free
          ];
    }

pub reaches-all : (g : Multigraph) (out : List Bool) (v : ℕ) (numbers : List ℕ) (i : ℕ) (old : List Bool) (before : List ℕ) (new : List Bool) (reached : List ℕ)
    → numbers ≡ edges_around g v → length numbers ≤ i → ReachesSome g out v numbers i old before new reached → ReachesFrom g out v old before new reached
reaches-all g out v numbers i old before new reached is past so_far = record {
  grows = so_far.grows;
  keeps = so_far.keeps;
  settled = λ e number meets free. so_far.settled e
      (ap (λ (xs : List ℕ). holds xs e) (take_all i numbers past) ∙ ap (λ (xs : List ℕ). holds xs e) is ∙ around-has g v e number meets) free;
}

-- the neighbours of the first n reached vertices are followed

pub record IsDone (g : Multigraph) (out : List Bool) (start : ℕ) (old marks : List Bool) (reached : List ℕ) (done : ℕ) : Type 0 where
  pub size : length marks ≡ length old
  pub so_far : AreReached g out start old marks reached
  pub begun : holds reached start ≡ true
  pub settled : (v : ℕ) → holds (take done reached) v ≡ true → IsSettled g out marks v

pub done-none : (g : Multigraph) (out : List Bool) (start : ℕ) (old marks : List Bool) (reached : List ℕ) → start < length old → 1 ≤ start → start ≤ g.vertices → is_marked out start ≡ false
    → is_marked old start ≡ false → marks ≡ set old start true → reached ≡ start ∷ [] → IsDone g out start old marks reached 0
done-none g out start old marks reached b low high free off now list = record {
  size = ap length now ∙ length-set old start true;
  so_far = reached-push g out start old old [] marks reached start (low, high) b off (λ removed is. together-refl g removed start (sym (is start) ∙ free)) now list (record {
    marked = λ w. sym (or-false (is_marked old w));
    sound = λ removed is w h. absurd (false≢true h);
    in_range = all_holds (λ x. (1 ≤ x) × (x ≤ g.vertices)) [] (λ w h. absurd (false≢true h));
    once = λ i j a b. absurd (omega (arith, b));
  });
  begun = ap (λ (xs : List ℕ). holds xs start) list ∙ or_left (eqb start start) false (eq-eqb start start refl);
  settled = λ v h. absurd (false≢true h);
}

pub done-next : (g : Multigraph) (out : List Bool) (start v done : ℕ) (old mid : List Bool) (some : List ℕ) (new : List Bool) (reached : List ℕ) → done < length some → v ≡ get_or some done v
    → IsDone g out start old mid some done → ReachesFrom g out v mid some new reached → IsDone g out start old new reached (done + 1)
done-next g out start v done old mid some new reached b at is more =
    let Q : ℕ → Type 0 = λ x. holds some x ≡ true in
    let held : holds some v ≡ true = subst Q (sym at) (holds_at some done v b) in
    let list = more.grows.list in
    let front : take (done + 1) reached ≡ take (done + 1) some = ap (λ xs. take (done + 1) xs) list ∙ take-append-le (done + 1) some more.grows.more (omega arith) in
    record {
      size = more.grows.size ∙ is.size;
      so_far = more.keeps start old held is.so_far;
      begun = ap (λ (xs : List ℕ). holds xs start) list ∙ holds-append some more.grows.more start ∙ or_left (holds some start) (holds more.grows.more start) is.begun;
      settled = λ w h.
          elim (or_cases (holds (take done some) w) (eqb (get_or some done 0) w) (sym (holds-take some done w b) ∙ ap (λ (xs : List ℕ). holds xs w) (sym front) ∙ h)) [
            | inl was ↦ λ e number meets free. more.grows.kept (other_end (edge_of g e) w) (is.settled w was e number meets free)
            | inr now ↦
                let same : v ≡ w = get_or_read some done v b at 0 ∙ eqb-true (get_or some done 0) w now in
                let P : ℕ → Type 0 = λ x. IsSettled g out new x in
                subst P same more.settled
          ];
    }

-- more is reached than is done
pub done-most : (g : Multigraph) (out : List Bool) (v done : ℕ) (mid : List Bool) (some : List ℕ) (new : List Bool) (reached : List ℕ) → done < length some
    → ReachesFrom g out v mid some new reached → done + 1 ≤ length reached
done-most g out v done mid some new reached b more =
    let size : length reached ≡ length some + length more.grows.more = ap length more.grows.list ∙ length-append some more.grows.more in
    omega (arith, size)

-- .. of all of them: what is reached is all that is together with the start
pub done-all : (g : Multigraph) (out : List Bool) (start done : ℕ) (old marks : List Bool) (reached : List ℕ) → length reached ≤ done → IsDone g out start old marks reached done
    → Finds g out start old marks reached
done-all g out start done old marks reached past is =
    record {
      marked = is.so_far.marked;
      exact = λ removed out_is apart w. (
        λ h. is.so_far.sound removed out_is w h,
        λ a. closed_has g removed (holds reached) start w (λ e v number meets h free.
            let to = other_end (edge_of g e) v in
            let marked = is.settled v (ap (λ (xs : List ℕ). holds xs v) (take_all done reached past) ∙ h) e number meets (out_is to ∙ free) in
            let near = is.so_far.sound removed out_is v h in
            elim (or_cases (is_marked old to) (holds reached to) (sym (is.so_far.marked to) ∙ marked)) [
              | inl was ↦ absurd (apart to was (together-push g removed e start v near number meets (together-free g removed start v near) free))
              | inr now ↦ now
            ])
            is.begun a,
      );
      once = is.so_far.once;
    }
