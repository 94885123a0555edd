-- Edges that join two nodes, and mates: each has one other node.
use Rattle.graph_theory.proofs.Common.{◌≡◌, ◌≢◌, ℕ, List, Some, sym, ◌∙◌, subst, ⊎_elim, inl, inr, arith, Multigraph, same_Some}
use Rattle.blossom_arena.specs.Family.{Blossom}
use Rattle.alt_forest.specs.State.{State, IsOutermost, Joins, IsMate}

-- the other end of an edge is one node
pub joins_unique : (g : Multigraph) (bs : List Blossom) (e a c d : ℕ) → Joins g bs e a c → Joins g bs e a d → a ≢ c → c ≡ d
joins_unique g bs e a c d j k ne = grind arith

pub joins_turned : (g : Multigraph) (bs : List Blossom) (e a c : ℕ) → Joins g bs e a c → Joins g bs e c a
joins_turned g bs e a c j = ⊎_elim (λ p. inr p) (λ p. inl p) j

-- a mate is the mate of both
pub mate_turned : (s : State) (a e c : ℕ) → IsOutermost s a → s.mate a ≡ Some e → IsMate s a e c → IsMate s c e a
mate_turned s a e c is has w = record {
  edge = w.edge;
  joins = joins_turned s.graph s.blossoms e a c w.joins;
  different = λ q. w.different (sym q);
  tight = w.tight;
  outermost = is;
  back = has;
}

-- a node has one mate
pub mate_unique : (s : State) (a f b h c : ℕ) → s.mate a ≡ Some f → s.mate a ≡ Some h → IsMate s a f b → IsMate s a h c → b ≡ c
mate_unique s a f b h c has other v w =
    let same : h ≡ f = same_Some h f (sym other ∙ has) in
    joins_unique s.graph s.blossoms f a b c v.joins (subst (λ x. Joins s.graph s.blossoms x a c) same w.joins) v.different

-- a node is the mate of one node alone
pub partner_unique : (s : State) (a f b h c : ℕ) → IsMate s a f c → IsMate s b h c → a ≡ b
partner_unique s a f b h c v w =
    let same : h ≡ f = same_Some h f (sym w.back ∙ v.back) in
    joins_unique s.graph s.blossoms f c a b (joins_turned s.graph s.blossoms f a c v.joins)
    (subst (λ x. Joins s.graph s.blossoms x c b) same (joins_turned s.graph s.blossoms h b c w.joins)) (λ q. v.different (sym q))
