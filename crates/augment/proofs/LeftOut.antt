-- Which vertex of a node without a mate is left out where all blossoms are opened.
use Rattle.alt_forest.proofs.Common.{nat_tests, ◌≡◌, ◌⊎◌, ℕ, ◌≤◌, true, false, eqb, cond, List, [], ◌∷◌, ◌++◌, length, slice_index, refl, sym, ap, ◌∙◌}
use Rattle.alt_forest.proofs.Common.{subst, arith, ⊎_elim, Option, None, eq-eqb, eqb-true, both_ways, false_from_ne_true, flat_map-cons, Multigraph, holds, Link, Blossom, IsNested}
use Rattle.alt_forest.proofs.Common.{nodes_of, names_of, in_ring, is_vertex, is_node, is_outermost, outermost, members_of, union_of, child_holding, by_test, first_in, later_in}
use Rattle.alt_forest.proofs.Common.{new_from_distinct, circuit_outer, circuit_node, outermost_parts, outermost_before, name_is_node, node_range, here, past, holder, members_here}
use Rattle.alt_forest.proofs.Common.{members_past, member_by_ring, member_vertex, in_union, outermost_free, outermost_has, outermost_node, members_some, State, IsOutermost, IsExposed}
use Rattle.alt_forest.proofs.Common.{next_node, some_not_none, goes_round}
use Rattle.augment.specs.Matching.{IsMissedIn, MissesOneEach}
use Rattle.augment.specs.Opening.{Unpacks, AreInner, LeadsTo, base_by}
use Rattle.augment.proofs.Pairs.{paired_some, each_unit}
use Rattle.augment.proofs.Ready.{base_in_ring}

-- the vertex of a node that is left out
abbrev pub left_out : (ℕ → ℕ) → List Blossom → ℕ → ℕ
left_out inner [] a = a
left_out inner (b ∷ older) a = cond (eqb b.node a) (left_out inner older (base_by b.ring (inner b.node))) (left_out inner older a)

module _ (n : ℕ) (inner : ℕ → ℕ) (b : Blossom) (older : List Blossom) (h : IsNested n (b ∷ older)) where
  abbrev base : ℕ
  base = base_by b.ring (inner b.node)

  left_here : (a : ℕ) → eqb b.node a ≡ true → left_out inner (b ∷ older) a ≡ left_out inner older base
  left_here a s = ap (λ q. cond q (left_out inner older base) (left_out inner older a)) s

  left_past : (a : ℕ) → eqb b.node a ≡ false → left_out inner (b ∷ older) a ≡ left_out inner older a
  left_past a s = ap (λ q. cond q (left_out inner older base) (left_out inner older a)) s

  own : eqb b.node b.node ≡ true
  own = eq-eqb b.node b.node refl

  named : holds (names_of (b ∷ older)) b.node ≡ true
  named = first_in b.node (names_of older)

  -- an older node is another one
  not_first : (a : ℕ) → is_node n older a ≡ true → eqb b.node a ≡ false
  not_first a k = grind (arith, nat_tests, h.0.fresh)

  older_named : (a : ℕ) → holds (names_of older) a ≡ true → eqb b.node a ≡ false
  older_named a k = not_first a (name_is_node n older a k)

  inner_older : AreInner (b ∷ older) inner → AreInner older inner
  inner_older are a k = subst (λ (r : List Link). (inner a ≡ 0) ⊎ (in_ring r (inner a) ≡ true)) (past b older a (older_named a k)).ring_is
      (are a (later_in b.node (names_of older) a k))

  base_inside : AreInner (b ∷ older) inner → in_ring b.ring base ≡ true
  base_inside are = base_in_ring b.ring (inner b.node) h.0.circuit.at_least_three
      (subst (λ (r : List Link). (inner b.node ≡ 0) ⊎ (in_ring r (inner b.node) ≡ true)) (here b older b.node own).ring_is (are b.node named))

  -- what leads to a vertex in all of them does so in the older ones
  leads_older : (v : ℕ) → LeadsTo (b ∷ older) v inner → LeadsTo older v inner
  leads_older v leads a k =
      let e = older_named a k in
      leads a (later_in b.node (names_of older) a k)
      ∙ ap (λ ms. cond (holds ms v) (child_holding (b ∷ older) a v) 0) (members_past b older a e)
      ∙ ap (λ (os : List Blossom). cond (holds (members_of older a) v) (outermost os v) 0) (past b older a e).older_is

  leads_here : (v : ℕ) → LeadsTo (b ∷ older) v inner → inner b.node ≡ cond (holds b.members v) (outermost older v) 0
  leads_here v leads =
      leads b.node named
      ∙ ap (λ ms. cond (holds ms v) (child_holding (b ∷ older) b.node v) 0) (members_here b older b.node own)
      ∙ ap (λ (os : List Blossom). cond (holds b.members v) (outermost os v) 0) (here b older b.node own).older_is

-- it is a vertex of the node
pub left_inside : (n : ℕ) (inner : ℕ → ℕ) (bs : List Blossom) → IsNested n bs → AreInner bs inner → (a : ℕ) → is_outermost n bs a ≡ true
    → (is_vertex n (left_out inner bs a) ≡ true) × (outermost bs (left_out inner bs a) ≡ a)
left_inside n inner [] h are a is = (grind (arith, nat_tests), refl)
left_inside n inner (b ∷ older) h are a is = by_test (eqb b.node a)
    (λ s.
    let c : ℕ = base_by b.ring (inner b.node) in let in_it = base_inside n inner b older h are in
    let r = left_inside n inner older h.1 (inner_older n inner b older h are) c (circuit_outer n older b.ring c h.0.circuit in_it) in
    let x : ℕ = left_out inner older c in let same = left_here n inner b older h a s in
    (ap (is_vertex n) same ∙ r.0, grind (arith, nat_tests, member_by_ring n older b x h r.0)))
    (λ s.
    let p = outermost_before n b older a s is in
    let r = left_inside n inner older h.1 (inner_older n inner b older h are) a p.0 in
    let x : ℕ = left_out inner older a in let same = left_past n inner b older h a s in
    (ap (is_vertex n) same ∙ r.0, grind (arith, nat_tests, member_by_ring n older b x h r.0)))

-- the vertex that the given children lead to is left out of its node
pub left_led : (n : ℕ) (inner : ℕ → ℕ) (bs : List Blossom) (v : ℕ) → IsNested n bs → is_vertex n v ≡ true → LeadsTo bs v inner → left_out inner bs (outermost bs v) ≡ v
left_led n inner [] v h iv leads = refl
left_led n inner (b ∷ older) v h iv leads =
    let rest = left_led n inner older v h.1 iv (leads_older n inner b older h v leads) in
    let node = outermost_node n older v iv in
    let some = (node_range n older (outermost older v) h.1 node).0 in
    grind (arith, nat_tests, leads_here n inner b older h v leads, not_first n inner b older h (outermost older v) node)

front : (xs ys : List ℕ) → 1 ≤ length xs → slice_index (xs ++ ys) 0 ≡ slice_index xs 0
front [] ys some = absurd (omega arith)
front (x ∷ xs) ys some = refl

-- the first vertex of a circuit is that of its first node
first_of_ring : (n : ℕ) (inner : ℕ → ℕ) (older : List Blossom) (ring : List Link) → IsNested n older → 3 ≤ length ring
    → ((c : ℕ) → in_ring ring c ≡ true → is_node n older c ≡ true)
    → ((c : ℕ) → in_ring ring c ≡ true → slice_index (members_of older c) 0 ≡ left_out inner older c)
    → slice_index (union_of older ring) 0 ≡ left_out inner older (next_node ring 0)
first_of_ring n inner older [] h long node each = absurd (omega (arith, long))
first_of_ring n inner older (l ∷ ls) h long node each =
    let is = first_in l.node (nodes_of ls) in
    ap (λ ms. slice_index ms 0) (flat_map-cons (λ (k : Link). members_of older k.node) l ls)
    ∙ front (members_of older l.node) (union_of older ls) (members_some n older l.node h (node l.node is)) ∙ each l.node is

-- of any other node it is the first
pub left_first : (n : ℕ) (inner : ℕ → ℕ) (bs : List Blossom) (v : ℕ) → IsNested n bs → LeadsTo bs v inner → (a : ℕ) → is_outermost n bs a ≡ true
    → holds (members_of bs a) v ≡ false → slice_index (members_of bs a) 0 ≡ left_out inner bs a
left_first n inner [] v h leads a is out = refl
left_first n inner (b ∷ older) v h leads a is out =
    let before = leads_older n inner b older h v leads in
    by_test (eqb b.node a)
    (λ s.
    let out_b : holds b.members v ≡ false = sym (ap (λ ms. holds ms v) (members_here b older a s)) ∙ out in
    let none : inner b.node ≡ 0 = leads_here n inner b older h v leads ∙ ap (λ q. cond q (outermost older v) 0) out_b in
    ap (λ ms. slice_index ms 0) (members_here b older a s ∙ h.0.union)
    ∙ first_of_ring n inner older b.ring h.1 h.0.circuit.at_least_three (λ c r. circuit_node n older b.ring c h.0.circuit r)
    (λ c r. left_first n inner older v h.1 before c (circuit_outer n older b.ring c h.0.circuit r)
    (false_from_ne_true (holds (members_of older c) v) (λ m. both_ways (holds b.members v) out_b (ap (λ ms. holds ms v) h.0.union ∙ in_union older b.ring c v r m))))
    ∙ sym (left_here n inner b older h a s ∙ ap (λ x. left_out inner older (base_by b.ring x)) none))
    (λ s. ap (λ ms. slice_index ms 0) (members_past b older a s)
    ∙ left_first n inner older v h.1 before a (outermost_before n b older a s is).0 (sym (ap (λ ms. holds ms v) (members_past b older a s)) ∙ out)
    ∙ sym (left_past n inner b older h a s))

module _ (g : Multigraph) (inner : ℕ → ℕ) where
  abbrev n : ℕ
  n = g.vertices

  -- a vertex without an edge lies in a node without a mate, and is left out of it
  pub missed_left : (bs : List Blossom) (m final : ℕ → Option ℕ) → IsNested n bs → Unpacks g bs inner m final → (w : ℕ) → is_vertex n w ≡ true → final w ≡ None
      → (m (outermost bs w) ≡ None) × (w ≡ left_out inner bs (outermost bs w))
  missed_left [] m final h u w iw none = (ap (λ (f : ℕ → Option ℕ). f w) (sym u) ∙ none, refl)
  missed_left (b ∷ older) m final h u w iw none =
      let m1 : ℕ → Option ℕ = u.0 in let o = u.1 in let c : ℕ = outermost older w in
      let r = missed_left older m1 final h.1 u.2 w iw none in
      let t = goes_round b.ring o.before o.base o.behind o.split (new_from_distinct (nodes_of b.ring) h.0.circuit.different) in
      let ring = member_by_ring n older b w h iw in
      by_test (holds b.members w)
      (λ held.
      let top : outermost (b ∷ older) w ≡ b.node = grind (arith, nat_tests) in
      ⊎_elim
      (λ is_base. ⊎_elim
      (λ k. some_not_none k.edge (sym k.new_base ∙ ap m1 (sym is_base) ∙ r.0))
      (λ k. (ap m top ∙ k.free, grind (arith, r.1, k.base_is, left_here n inner b older h b.node (eq-eqb b.node b.node refl))))
      o.based)
      (λ paired. let p = paired_some (λ _. Unit {0}) m1 (o.behind ++ o.before) c o.new_pairs (each_unit (o.behind ++ o.before)) paired in some_not_none p.0 (sym p.1 ∙ r.0))
      (t.all c (sym ring ∙ held)))
      (λ out.
      let top : outermost (b ∷ older) w ≡ c = grind (arith, nat_tests) in (
        ap m top ∙ sym (o.others c (sym ring ∙ out) (outermost_free n older w h.1 iw)) ∙ r.0,
        grind (arith, r.1, left_past n inner b older h c (not_first n inner b older h c (outermost_node n older w iw))),
      ))

  -- and what is left out of a node without a mate has no edge
  pub left_missed : (bs : List Blossom) (m final : ℕ → Option ℕ) → IsNested n bs → Unpacks g bs inner m final → (a : ℕ) → is_outermost n bs a ≡ true → m a ≡ None
      → final (left_out inner bs a) ≡ None
  left_missed [] m final h u a is none = ap (λ (f : ℕ → Option ℕ). f a) u ∙ none
  left_missed (b ∷ older) m final h u a is none =
      let m1 : ℕ → Option ℕ = u.0 in let o = u.1 in
      by_test (eqb b.node a)
      (λ s.
      let t = goes_round b.ring o.before o.base o.behind o.split (new_from_distinct (nodes_of b.ring) h.0.circuit.different) in
      ⊎_elim
      (λ k. some_not_none k.edge (sym k.mate ∙ ap m (eqb-true b.node a s) ∙ none))
      (λ k. ap final (left_here n inner b older h a s ∙ ap (left_out inner older) k.base_is)
      ∙ left_missed older m1 final h.1 u.2 o.base.node (circuit_outer n older b.ring o.base.node h.0.circuit t.base_in) k.base_free)
      o.based)
      (λ s.
      let p = outermost_before n b older a s is in
      ap final (left_past n inner b older h a s)
      ∙ left_missed older m1 final h.1 u.2 a p.0 (o.others a p.1 (outermost_parts n older a p.0).1 ∙ none))

-- exactly one vertex of each node without a mate is missed
pub record LeavesOut (s : State) (inner : ℕ → ℕ) (final : ℕ → Option ℕ) : Type 0 where
  pub left : (a : ℕ) → IsExposed s a → IsMissedIn s final a (left_out inner s.blossoms a)
  pub only : (a w : ℕ) → IsMissedIn s final a w → (s.mate a ≡ None) × (w ≡ left_out inner s.blossoms a)

pub leaves_out : (s : State) (inner : ℕ → ℕ) (m final : ℕ → Option ℕ) → IsNested s.graph.vertices s.blossoms → AreInner s.blossoms inner
    → ((a : ℕ) → IsOutermost s a → m a ≡ s.mate a) → Unpacks s.graph s.blossoms inner m final → LeavesOut s inner final
leaves_out s inner m final h are same u = record {
  left = λ a ex.
      let r = left_inside s.graph.vertices inner s.blossoms h are a ex.0 in
      record { vertex = r.0; within = r.1; none = left_missed s.graph inner s.blossoms m final h u a ex.0 (same a ex.0 ∙ ex.1) };
  only = λ a w miss.
      let r = missed_left s.graph inner s.blossoms m final h u w miss.vertex miss.none in
      let is : IsOutermost s a = subst (IsOutermost s) miss.within (outermost_has s.graph.vertices s.blossoms w h miss.vertex).0 in
      (sym (same a is) ∙ ap m (sym miss.within) ∙ r.0, r.1 ∙ ap (left_out inner s.blossoms) miss.within);
}

-- where no child is given these are the first vertices
pub misses_one_each : (s : State) (inner : ℕ → ℕ) (final : ℕ → Option ℕ) → IsNested s.graph.vertices s.blossoms → ((b : ℕ) → inner b ≡ 0) → LeavesOut s inner final
    → MissesOneEach s final
misses_one_each s inner final h none l = record {
  one = λ a ex. (left_out inner s.blossoms a, l.left a ex, λ w miss. (l.only a w miss).1);
  first = λ a v ex miss. left_first s.graph.vertices inner s.blossoms 0 h leads a ex.0 (out a (outermost_parts s.graph.vertices s.blossoms a ex.0).0) ∙ sym (l.only a v miss).1;
  none = λ a e v is has miss. some_not_none e (sym has ∙ (l.only a v miss).0);
}
  where
    out : (a : ℕ) → is_node s.graph.vertices s.blossoms a ≡ true → holds (members_of s.blossoms a) 0 ≡ false
    out a k = grind (arith, nat_tests, member_vertex s.graph.vertices s.blossoms a 0 h k)

    leads : LeadsTo s.blossoms 0 inner
    leads b k = rw (out b (name_is_node s.graph.vertices s.blossoms b k)) (none b)

-- children that lead to a vertex are in the circuits
pub inner_from_leads : (n : ℕ) (inner : ℕ → ℕ) (bs : List Blossom) (v : ℕ) → IsNested n bs → is_vertex n v ≡ true → LeadsTo bs v inner → AreInner bs inner
inner_from_leads n inner bs v h iv leads b k = grind (arith, nat_tests, leads b k, holder n bs b h k v iv)
