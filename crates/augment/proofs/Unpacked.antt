-- Blossoms are opened one after the other, the newest first.
use Rattle.alt_forest.proofs.Common.{nat_tests, ◌≡◌, ℕ, true, false, eqb, List, [], ◌∷◌, ◌++◌, refl, sym, ap, ◌∙◌, subst, Option, Some, None, arith, All}
use Rattle.alt_forest.proofs.Common.{AllByRecursion, or_parts, append-nil, Multigraph, IsEdgeWithin, holds, Link, Blossom, in_ring, names_of, members_of, ring_of, older_than, is_child}
use Rattle.alt_forest.proofs.Common.{is_outermost, IsNested, AllNew, later_in, outermost_parts, State, IsOutermost, IsTight, HasRings, IsMatched, each_parts, each_whole}
use Rattle.std.proofs.lemmas.List.{append_assoc}
use Rattle.augment.specs.Opening.{AreMated, Opens, Unpacks}
use Rattle.augment.specs.Turns.{HasMates}
use Rattle.augment.proofs.Pairs.{first_outer, all_mated, full_stays, used_stays}
use Rattle.augment.proofs.Left.{IsLeftOnce, left_stays, first_left}

pub nested_tail : (n : ℕ) (xs ys : List Blossom) → IsNested n (xs ++ ys) → IsNested n ys
nested_tail n [] ys h = h
nested_tail n (x ∷ xs) ys h = nested_tail n xs ys h.1

pub rings_tail : (g : Multigraph) (xs ys : List Blossom) → HasRings g (xs ++ ys) → HasRings g ys
rings_tail g [] ys h = h
rings_tail g (x ∷ xs) ys h = rings_tail g xs ys h.1

child_tail : (xs : List Blossom) (b : Blossom) (ys : List Blossom) (a : ℕ) → is_child (xs ++ (b ∷ ys)) a ≡ false → (in_ring b.ring a ≡ false) × (is_child ys a ≡ false)
child_tail [] b ys a e = or_parts (in_ring b.ring a) (is_child ys a) e
child_tail (x ∷ xs) b ys a e = child_tail xs b ys a (or_parts (in_ring x.ring a) (is_child (xs ++ (b ∷ ys)) a) e).1

-- what a family says of one of its blossoms
pub record IsAt (bs : List Blossom) (b : Blossom) (rest : List Blossom) : Type 0 where
  pub named : holds (names_of bs) b.node ≡ true
  pub ring : ring_of bs b.node ≡ b.ring
  pub members : members_of bs b.node ≡ b.members
  pub older : older_than bs b.node ≡ rest

pub found_at : (xs : List Blossom) (b : Blossom) (ys : List Blossom) → AllNew (names_of (xs ++ (b ∷ ys))) → IsAt (xs ++ (b ∷ ys)) b ys
found_at [] b ys new = record { named = grind (arith, nat_tests); ring = grind (arith, nat_tests); members = grind (arith, nat_tests); older = grind (arith, nat_tests) }
found_at (x ∷ xs) b ys new =
    let r = found_at xs b ys new.1 in
    let e : eqb x.node b.node ≡ false = let first = new.0 in grind (arith, nat_tests, r.named) in
    record { named = later_in x.node (names_of (xs ++ (b ∷ ys))) b.node r.named; ring = rw e r.ring; members = rw e r.members; older = rw e r.older }

-- circuits and mates of tight edges
pub record HasTightEdges (s : State) : Type 0 where
  pub rings : HasRings s.graph s.blossoms
  pub tight_rings : AllByRecursion (λ (b : Blossom). AllByRecursion (λ (l : Link). IsTight s l.edge) b.ring) s.blossoms
  pub mates : HasMates s

-- each outermost node has a mate
abbrev pub AreFull : Multigraph → List Blossom → (ℕ → Option ℕ) → Type 0
AreFull g bs m = (a : ℕ) → is_outermost g.vertices bs a ≡ true → (e : ℕ) × (m a ≡ Some e)

-- some blossoms are opened, the others not yet
pub record AreOpened (s : State) (opened left : List Blossom) (m : ℕ → Option ℕ) : Type 0 where
  pub split : s.blossoms ≡ opened ++ left
  pub mated : AreMated s.graph left m
  pub tight : (c f : ℕ) → is_outermost s.graph.vertices left c ≡ true → m c ≡ Some f → IsTight s f
  pub kept : (a : ℕ) → IsOutermost s a → m a ≡ s.mate a
  pub full : IsMatched s → AreFull s.graph left m
  pub once : IsMatched s → AllByRecursion (λ (b : Blossom). IsLeftOnce s.graph left m (λ v. holds b.members v)) opened

-- mates of outermost nodes that are those of a state are mutual
pub mated_by : (s : State) (m : ℕ → Option ℕ) → ((a : ℕ) → IsOutermost s a → m a ≡ s.mate a) → HasMates s → AreMated s.graph s.blossoms m
mated_by s m same mates a e is has =
    let r = mates a e is (sym (same a is) ∙ has) in
    (r.0, record { edge = r.1.edge; joins = r.1.joins; different = r.1.different; outermost = r.1.outermost; back = same r.0 r.1.outermost ∙ r.1.back })

-- before any is
pub none_opened : (s : State) (m : ℕ → Option ℕ) → ((a : ℕ) → IsOutermost s a → m a ≡ s.mate a) → HasTightEdges s → AreOpened s [] s.blossoms m
none_opened s m same st = record {
  split = refl;
  mated = mated_by s m same st.mates;
  tight = λ c f is has. let w = (st.mates c f is (sym (same c is) ∙ has)).1 in record { edge = w.edge; tight = w.tight };
  kept = same;
  full = λ matched a is. by_mate matched a is (s.mate a) refl;
  once = λ matched. tt;
}
  where
    by_mate : IsMatched s → (a : ℕ) → IsOutermost s a → (o : Option ℕ) → s.mate a ≡ o → (e : ℕ) × (m a ≡ Some e)
    by_mate matched a is None none = absurd (matched a (is, none))
    by_mate matched a is (Some e) has = (e, same a is ∙ has)

-- one more
pub one_opened : (s : State) (opened : List Blossom) (b : Blossom) (older : List Blossom) (inner : ℕ) (m m' : ℕ → Option ℕ) → IsNested s.graph.vertices s.blossoms
    → All (IsEdgeWithin s.graph.vertices) s.graph.edges → HasTightEdges s
    → AreOpened s opened (b ∷ older) m → Opens s.graph older b.node inner b.ring b.members m m' → AreOpened s (opened ++ (b ∷ [])) older m'
one_opened s opened b older inner m m' nested ends st v h =
    let g : Multigraph = s.graph in
    let nest : IsNested g.vertices (b ∷ older) = nested_tail g.vertices opened (b ∷ older) (subst (IsNested g.vertices) v.split nested) in
    let rings : HasRings g (b ∷ older) = rings_tail g opened (b ∷ older) (subst (HasRings g) v.split st.rings) in
    let tight = (each_parts (λ (x : Blossom). AllByRecursion (λ (l : Link). IsTight s l.edge) x.ring) opened (b ∷ older)
    (subst (AllByRecursion (λ (x : Blossom). AllByRecursion (λ (l : Link). IsTight s l.edge) x.ring)) v.split st.tight_rings)).1 in
    record {
      split = v.split ∙ sym (append_assoc opened (b ∷ []) older);
      mated = all_mated g b older m m' nest ends rings.0 v.mated inner h;
      tight = used_stays g b older m m' nest ends rings.0 v.mated inner h (IsTight s) tight.0 v.tight;
      kept = λ a is. let p = child_tail opened b older a (ap (λ bs. is_child bs a) (sym v.split) ∙ (outermost_parts g.vertices s.blossoms a is).1) in h.others a p.0 p.1 ∙ v.kept a is;
      full = λ matched. full_stays g b older m m' nest ends rings.0 v.mated inner h (v.full matched);
      once = λ matched.
          let mate = v.full matched b.node (first_outer g b older m m' nest ends rings.0 v.mated inner h) in
          each_whole (λ (x : Blossom). IsLeftOnce g older m' (λ u. holds x.members u)) opened (b ∷ []) (stay nest rings opened (v.once matched))
          (left_stays g b older m m' nest ends rings.0 v.mated inner h (λ u. holds b.members u) (first_left g b older m m' nest ends rings.0 v.mated inner h mate.0 mate.1), tt);
    }
  where
    stay : IsNested s.graph.vertices (b ∷ older) → HasRings s.graph (b ∷ older) → (xs : List Blossom)
        → AllByRecursion (λ (x : Blossom). IsLeftOnce s.graph (b ∷ older) m (λ u. holds x.members u)) xs
        → AllByRecursion (λ (x : Blossom). IsLeftOnce s.graph older m' (λ u. holds x.members u)) xs
    stay nest rings [] each = tt
    stay nest rings (x ∷ xs) each = (left_stays s.graph b older m m' nest ends rings.0 v.mated inner h (λ u. holds x.members u) each.0, stay nest rings xs each.1)

-- where all are opened
pub all_opened : (s : State) (inner : ℕ → ℕ) → IsNested s.graph.vertices s.blossoms → All (IsEdgeWithin s.graph.vertices) s.graph.edges → HasTightEdges s
    → (opened left : List Blossom) (m final : ℕ → Option ℕ) → AreOpened s opened left m → Unpacks s.graph left inner m final → AreOpened s s.blossoms [] final
all_opened s inner nest ends st opened [] m final v u =
    subst (λ (x : ℕ → Option ℕ). AreOpened s s.blossoms [] x) (sym u) (subst (λ (bs : List Blossom). AreOpened s bs [] m) (sym (v.split ∙ append-nil opened)) v)
all_opened s inner nest ends st opened (b ∷ older) m final v u =
    all_opened s inner nest ends st (opened ++ (b ∷ [])) older u.0 final (one_opened s opened b older (inner b.node) m u.0 nest ends st v u.1) u.2
