-- A step of a search carries what labels say from one state to another: by a map of the outermost nodes that keeps labels,
-- mates and the order of depth.
use Rattle.alt_forest.proofs.Common.{◌≡◌, ℕ, ◌<◌, pos, Option, Some, sym, ◌∙◌, subst, IsEdgeNumber, Label, Outer, Inner, Out, State, IsOutermost, Joins, slack_of, IsMate}
use Rattle.alt_forest.proofs.Common.{IsInner, FitsLabel, joins_unique, outer_not_inner, inner_not_out}

-- a node hangs by a tight edge under an outer one that is nearer to the root
pub record Hangs (s : State) (depth : ℕ → ℕ) (a edge up : ℕ) : Type 0 where
  pub is_edge : IsEdgeNumber s.graph edge
  pub joins : Joins s.graph s.blossoms edge a up
  pub tight : slack_of s edge ≡ pos 0
  pub up_is : IsOutermost s up
  pub outer : s.label up ≡ Outer
  pub falls : depth up < depth a

-- an inner node's child is its mate
pub record HasChild (s : State) (depth : ℕ → ℕ) (a : ℕ) : Type 0 where
  pub edge : ℕ
  pub child : ℕ
  pub mate : s.mate a ≡ Some edge
  pub is_mate : IsMate s a edge child
  pub outer : s.label child ≡ Outer
  pub rises : depth a < depth child

-- an inner node is one that hangs and has a child
pub inner_hangs : (s : State) (depth : ℕ → ℕ) (a : ℕ) → (i : IsInner s depth a) → Hangs s depth a i.edge i.up
inner_hangs s depth a i = record { is_edge = i.is_edge; joins = i.joins; tight = i.tight; up_is = i.up_is; outer = i.up_outer; falls = i.falls }

pub inner_child : (s : State) (depth : ℕ → ℕ) (a : ℕ) → IsInner s depth a → HasChild s depth a
inner_child s depth a i = record { edge = i.child_edge; child = i.child; mate = i.mate; is_mate = i.is_mate; outer = i.child_outer; rises = i.rises }

pub inner_from : (s : State) (depth : ℕ → ℕ) (a edge up : ℕ) → s.parent a ≡ Some edge → Hangs s depth a edge up → HasChild s depth a → IsInner s depth a
inner_from s depth a edge up parent h c = record {
  edge = edge;
  up = up;
  parent = parent;
  is_edge = h.is_edge;
  joins = h.joins;
  tight = h.tight;
  up_is = h.up_is;
  up_outer = h.outer;
  falls = h.falls;
  child_edge = c.edge;
  child = c.child;
  mate = c.mate;
  is_mate = c.is_mate;
  child_outer = c.outer;
  rises = c.rises;
}

pub inner_fits : (s : State) (depth : ℕ → ℕ) (a edge up : ℕ) → s.label a ≡ Inner → s.parent a ≡ Some edge → Hangs s depth a edge up → HasChild s depth a
    → FitsLabel s depth a
inner_fits s depth a edge up lab parent h c = record {
  outer = λ l. outer_not_inner (sym l ∙ lab);
  inner = λ l. inner_from s depth a edge up parent h c;
  out = λ l. inner_not_out (sym lab ∙ l);
}

-- other labels and parents leave mates as they are
abbrev pub rehung : State → (ℕ → Label) → (ℕ → Option ℕ) → State
rehung s l p = record s { label = l; parent = p }

pub mate_rehung : (s : State) (l : ℕ → Label) (p : ℕ → Option ℕ) (a e b : ℕ) → IsMate s a e b → IsMate (rehung s l p) a e b
mate_rehung s l p a e b m = record { edge = m.edge; joins = m.joins; different = m.different; tight = m.tight; outermost = m.outermost; back = m.back }

-- A step from s to t, and where it takes the outermost nodes.
module _ (s t : State) (depth after lift : ℕ → ℕ) where
  -- the mate of a node that stays
  pub record CarriesMate (c f d : ℕ) : Type 0 where
    pub is_mate : IsMate t c f (lift d)
    pub label : t.label (lift d) ≡ s.label d
    pub falls : depth d < depth c → after (lift d) < after c
    pub rises : depth c < depth d → after c < after (lift d)

  -- a node stays, with its label and its mate
  pub record Carries (c : ℕ) : Type 0 where
    pub label : t.label c ≡ s.label c
    pub mate : t.mate c ≡ s.mate c
    pub mates : (f d : ℕ) → s.mate c ≡ Some f → IsMate s c f d → CarriesMate c f d
    pub hangs : (f d : ℕ) → s.label c ≡ Inner → Hangs s depth c f d → Hangs t after c f (lift d)

  pub carried_mate : (c : ℕ) → Carries c → ((f : ℕ) → s.mate c ≡ Some f → (d : ℕ) × IsMate s c f d) → (f : ℕ) → t.mate c ≡ Some f → (d : ℕ) × IsMate t c f d
  carried_mate c k mates f has = let was : s.mate c ≡ Some f = sym k.mate ∙ has in let m = mates f was in (lift m.0, (k.mates f m.0 was m.1).is_mate)

  -- the mate that it has is where that comes which it had
  abbrev pub Knows : ℕ → Type 0
  Knows c = (f b : ℕ) → t.mate c ≡ Some f → IsMate t c f b → (d : ℕ) × (s.mate c ≡ Some f) × IsMate s c f d × (lift d ≡ b)

  pub known_by : (c : ℕ) → Carries c → ((f : ℕ) → s.mate c ≡ Some f → (d : ℕ) × IsMate s c f d) → Knows c
  known_by c k mates f b has v =
      let was : s.mate c ≡ Some f = sym k.mate ∙ has in let m = mates f was in
      let now : IsMate t c f (lift m.0) = (k.mates f m.0 was m.1).is_mate in
      (m.0, was, m.1, joins_unique t.graph t.blossoms f c (lift m.0) b now.joins v.joins now.different)

  pub carried_child : (c : ℕ) → Carries c → HasChild s depth c → HasChild t after c
  carried_child c k h =
      let m = k.mates h.edge h.child h.mate h.is_mate in
      record { edge = h.edge; child = lift h.child; mate = k.mate ∙ h.mate; is_mate = m.is_mate; outer = m.label ∙ h.outer; rises = m.rises h.rises }

  -- what its label says is carried
  pub carried_fits : (c : ℕ) → Carries c → t.parent c ≡ s.parent c → Knows c → FitsLabel s depth c → FitsLabel t after c
  carried_fits c k parent knows fits = record {
    outer = λ lab f b has v.
        let g = knows f b has v in let m = k.mates f g.0 g.1 g.2 in
        let said = fits.outer (sym k.label ∙ lab) f g.0 g.1 g.2 in
        subst (λ x. (t.label x ≡ Inner) × (after x < after c)) g.3 (m.label ∙ said.0, m.falls said.1);
    inner = λ lab.
        let was : s.label c ≡ Inner = sym k.label ∙ lab in let i = fits.inner was in
        inner_from t after c i.edge (lift i.up) (parent ∙ i.parent) (k.hangs i.edge i.up was (inner_hangs s depth c i)) (carried_child c k (inner_child s depth c i));
    out = λ lab f b has v.
        let g = knows f b has v in
        subst (λ x. t.label x ≡ Out) g.3 ((k.mates f g.0 g.1 g.2).label ∙ fits.out (sym k.label ∙ lab) f g.0 g.1 g.2);
  }
