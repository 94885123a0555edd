-- The next blossom to be opened.
use Rattle.alt_forest.proofs.Common.{nat_tests, ◌≡◌, ◌≢◌, ◌⊎◌, ◌≤◌, ℕ, true, List, [], ◌∷◌, ◌++◌, length, refl, sym, ap, ◌∙◌, subst, arith}
use Rattle.alt_forest.proofs.Common.{⊎_elim, inl, inr, Option, Some, None, or_left, Multigraph, edge_of, holds, Link, Blossom, Family, names_of, in_ring, is_vertex, is_child, is_outermost}
use Rattle.alt_forest.proofs.Common.{outermost, members_of, ring_of, older_than, IsNested, ring_long, some_not_none, names_new, new_is_node, new_no_child, outermost_node, HasRings}
use Rattle.alt_forest.proofs.Common.{same_Some, u_vertex, v_vertex}
use Rattle.std.proofs.lemmas.List.{append_assoc}
use Rattle.augment.specs.Opening.{IsPair, AreMated, IsEnd, IsSpread, IsBare, Opens, Unpacks, AreInner, CanOpen, CanUnpack, IsBasedByMate, IsBasedFree, base_by}
use Rattle.augment.proofs.Chains.{chain_grows, chain_has_top, chain_ring}
use Rattle.augment.proofs.Spreads.{older_bare, older_spread}
use Rattle.augment.proofs.Pairs.{all_mated}
use Rattle.augment.proofs.Unpacked.{IsAt, found_at, nested_tail, rings_tail}

-- a list of names that begins with this one
pub record BeginsWith (left : List Blossom) (b : ℕ) (rest : List ℕ) : Type 0 where
  pub first : Blossom
  pub older : List Blossom
  pub left_is : left ≡ first ∷ older
  pub node : first.node ≡ b
  pub rest_is : rest ≡ names_of older

pub begins_with : (left : List Blossom) (b : ℕ) (rest : List ℕ) → b ∷ rest ≡ names_of left → BeginsWith left b rest
begins_with [] b rest e = absurd (cc)
begins_with (x ∷ xs) b rest e = record { first = x; older = xs; left_is = refl; node = cc; rest_is = cc }

-- the node of a circuit that isn't paired is in it
pub base_in_ring : (ring : List Link) (inner : ℕ) → 3 ≤ length ring → (inner ≡ 0) ⊎ (in_ring ring inner ≡ true) → in_ring ring (base_by ring inner) ≡ true
base_in_ring [] inner long given = absurd (omega arith)
base_in_ring (l ∷ ls) inner long given = grind (arith, nat_tests, given)

no_mate : (o : Option ℕ) → ((f : ℕ) → o ≡ Some f → ⊥) → o ≡ None
no_mate o h = grind (arith, h)

-- a mate of two nodes has one end in each
one_end : (g : Multigraph) (bs : List Blossom) (m : ℕ → Option ℕ) (a e d v w : ℕ) → IsPair g bs m a e d → IsEnd g e v → IsEnd g e w → outermost bs v ≡ a → outermost bs w ≡ a → v ≡ w
one_end g bs m a e d v w p ev ew av aw = grind (arith, p.joins, p.different, ev.end, ew.end)

-- the blossoms of these names are left to be opened, and the mates are n
pub record IsOpening (g : Multigraph) (f : Family) (inner : ℕ → ℕ) (m0 : ℕ → Option ℕ) (rest : List ℕ) (n : ℕ → Option ℕ) : Type 0 where
  pub opened : List Blossom
  pub left : List Blossom
  pub split : f.blossoms ≡ opened ++ left
  pub names : rest ≡ names_of left
  pub mated : AreMated g left n
  pub bare : IsBare g left n
  pub spread : (a : ℕ) → IsSpread g left n a
  pub unpacks : (final : ℕ → Option ℕ) → Unpacks g left inner n final → Unpacks g f.blossoms inner m0 final

module _ (g : Multigraph) (f : Family) (inner : ℕ → ℕ) (m0 m : ℕ → Option ℕ) (can : CanUnpack g f m0) (b : ℕ) (rest : List ℕ)
    (h : IsOpening g f inner m0 (b ∷ rest) m) where
  w : BeginsWith h.left b rest
  w = begins_with h.left b rest h.names

  abbrev here : List Blossom
  here = w.first ∷ w.older

  split_here : f.blossoms ≡ h.opened ++ here
  split_here = h.split ∙ ap (λ x. h.opened ++ x) w.left_is

  nested_all : IsNested g.vertices f.blossoms
  nested_all = subst (λ n. IsNested n f.blossoms) can.vertices can.family.nested

  nested : IsNested g.vertices here
  nested = nested_tail g.vertices h.opened here (subst (IsNested g.vertices) split_here nested_all)

  rings : HasRings g here
  rings = rings_tail g h.opened here (subst (HasRings g) split_here can.rings)

  at : IsAt f.blossoms w.first w.older
  at = subst (λ (bs : List Blossom). IsAt bs w.first w.older) (sym split_here) (found_at h.opened w.first w.older
      (names_new g.vertices (h.opened ++ here) (subst (IsNested g.vertices) split_here nested_all)))

  mated_here : AreMated g here m
  mated_here = subst (λ (bs : List Blossom). AreMated g bs m) w.left_is h.mated

  outer : is_outermost g.vertices here w.first.node ≡ true
  outer = grind (arith, nat_tests, new_is_node g.vertices w.first w.older, new_no_child g.vertices w.first w.older nested)

  pub named : holds (names_of f.blossoms) b ≡ true
  named = ap (holds (names_of f.blossoms)) (sym w.node) ∙ at.named

  -- a vertex whose outermost node is the first is in it
  by_node : (v : ℕ) → is_vertex g.vertices v ≡ true → outermost here v ≡ w.first.node → holds (members_of f.blossoms b) v ≡ true
  by_node v iv e = grind (arith, nat_tests, w.node, at.members, nested.0.fresh, outermost_node g.vertices w.older v iv)

  bare_here : IsBare g here m
  bare_here = subst (λ (bs : List Blossom). IsBare g bs m) w.left_is h.bare

  all_here : (a : ℕ) → IsSpread g here m a
  all_here = subst (λ (bs : List Blossom). (a : ℕ) → IsSpread g bs m a) w.left_is h.spread

  older_is : older_than f.blossoms b ≡ w.older
  older_is = ap (older_than f.blossoms) (sym w.node) ∙ at.older

  ring_is : ring_of f.blossoms b ≡ w.first.ring
  ring_is = ap (ring_of f.blossoms) (sym w.node) ∙ at.ring

  -- what its children have is the blossom's
  from_above : (c k : ℕ) → in_ring (ring_of f.blossoms b) c ≡ true → m c ≡ Some k
      → (v : ℕ) × IsEnd g k v × (outermost here v ≡ w.first.node) × (outermost w.older v ≡ c) × (m w.first.node ≡ Some k)
  from_above c k in_it has =
      let ring : in_ring w.first.ring c ≡ true = ap (λ (x : List Link). in_ring x c) (sym ring_is) ∙ in_it in
      let s = bare_here c k (or_left (in_ring w.first.ring c) (is_child w.older c) ring) has in
      let above = chain_ring g.vertices w.first w.older s.vertex c nested s.end.vertex ring s.holder in
      (s.vertex, s.end, above.0, above.1, ap m (sym above.0) ∙ s.mate)

  -- the child where the blossom's mate ends
  module _ (e : ℕ) (has : m w.first.node ≡ Some e) where
    pair : (d : ℕ) × IsPair g here m w.first.node e d
    pair = mated_here w.first.node e outer has

    -- the end of the mate that lies in the blossom
    end_inside : (v : ℕ) × IsEnd g e v × (outermost here v ≡ w.first.node)
    end_inside = ⊎_elim
        (λ j. ((edge_of g e).u, record { vertex = u_vertex g e can.ends pair.1.edge; end = inl refl }, j.0))
        (λ j. ((edge_of g e).v, record { vertex = v_vertex g e can.ends pair.1.edge; end = inr refl }, j.1))
        pair.1.joins

    abbrev base_by_mate : ℕ
    base_by_mate = outermost w.older end_inside.0

    based_by_mate : IsBasedByMate g f.blossoms m b base_by_mate
    based_by_mate =
        let i = end_inside in
        record {
          edge = e;
          mate = ap m (sym w.node) ∙ has;
          is_base = record {
            end = i.0;
            end_vertex = i.1.vertex;
            end_of_edge = i.1.end;
            end_in = by_node i.0 i.1.vertex i.2;
            base_holds = ap (λ (bs : List Blossom). outermost bs i.0) older_is;
          };
          base_mate = all_here w.first.node e i.0 base_by_mate has i.1 i.2 (chain_grows w.first w.older i.0 base_by_mate (chain_has_top w.older i.0));
        }

    only_by_mate : (c : ℕ) → in_ring (ring_of f.blossoms b) c ≡ true → c ≢ base_by_mate → m c ≡ None
    only_by_mate c in_it ne = no_mate (m c) (λ k some.
        let s = from_above c k in_it some in let same : k ≡ e = same_Some k e (sym s.4 ∙ has) in
        ne (sym s.3 ∙ ap (outermost w.older) (one_end g here m w.first.node e pair.0 s.0 end_inside.0 pair.1 (subst (λ z. IsEnd g z s.0) same s.1) end_inside.1 s.2 end_inside.2)))

  -- where it has none, none of its children has, nor the given one, or the first
  all_free : m w.first.node ≡ None → (c : ℕ) → in_ring (ring_of f.blossoms b) c ≡ true → m c ≡ None
  all_free none c in_it = no_mate (m c) (λ k some. some_not_none k (sym (from_above c k in_it some).4 ∙ none))

  based_free : AreInner f.blossoms inner → m w.first.node ≡ None → IsBasedFree f.blossoms m b (inner b) (base_by (ring_of f.blossoms b) (inner b))
  based_free are none =
      let in_it = base_in_ring (ring_of f.blossoms b) (inner b) (ring_long g.vertices f.blossoms b nested_all named) (are b named) in
      record { free = ap m (sym w.node) ∙ none; base_is = refl; base_in = in_it; base_free = all_free none (base_by (ring_of f.blossoms b) (inner b)) in_it }

  opens_at : (base : ℕ) → IsBasedByMate g f.blossoms m b base ⊎ IsBasedFree f.blossoms m b (inner b) base
      → ((c : ℕ) → in_ring (ring_of f.blossoms b) c ≡ true → c ≢ base → m c ≡ None) → CanOpen g f m b (inner b)
  opens_at base based only = record {
    family = can.family;
    vertices = can.vertices;
    ends = can.ends;
    blossom = named;
    ring = rw (older_is, ring_is) rings.0;
    base = base;
    based = based;
    only = only;
    bare = rw older_is (older_bare g w.first w.older nested m bare_here all_here);
    spread = rw older_is (older_spread g w.first w.older nested m bare_here all_here);
  }

  pub can_open : AreInner f.blossoms inner → CanOpen g f m b (inner b)
  can_open are = by_mate (m w.first.node) refl
    where
      by_mate : (o : Option ℕ) → m w.first.node ≡ o → CanOpen g f m b (inner b)
      by_mate None none = opens_at (base_by (ring_of f.blossoms b) (inner b)) (inr (based_free are none)) (λ c in_it ne. all_free none c in_it)
      by_mate (Some e) has = opens_at (base_by_mate e has) (inl (based_by_mate e has)) (only_by_mate e has)

  pub next_step : (n : ℕ → Option ℕ) → Opens g (older_than f.blossoms b) b (inner b) (ring_of f.blossoms b) (members_of f.blossoms b) m n → IsBare g (older_than f.blossoms b) n
      → ((a : ℕ) → IsSpread g (older_than f.blossoms b) n a) → IsOpening g f inner m0 rest n
  next_step n o bare_n all_n =
      let opens = rw (sym w.node, at.older, at.ring, at.members) at o in
      record {
        opened = h.opened ++ (w.first ∷ []);
        left = w.older;
        split = split_here ∙ sym (append_assoc h.opened (w.first ∷ []) w.older);
        names = w.rest_is;
        mated = all_mated g w.first w.older m n nested can.ends rings.0 mated_here (inner w.first.node) opens;
        bare = rw older_is at bare_n;
        spread = rw older_is at all_n;
        unpacks = λ final u. h.unpacks final (subst (λ (bs : List Blossom). Unpacks g bs inner m final) (sym w.left_is) (n, opens, u));
      }
