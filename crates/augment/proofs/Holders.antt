-- Nodes that hold a vertex, marked one by one; and nodes within others, cleared one by one.
use Rattle.alt_forest.proofs.Common.{nat_tests, ◌≡◌, ◌≢◌, ◌⊎◌, ℕ, true, false, cond, List, [], ◌∷◌, refl, ap, ◌∙◌, arith, Option, Some}
use Rattle.alt_forest.proofs.Common.{None, All, AllByRecursion, Multigraph, IsEdgeWithin, IsEdgeNumber, edge_of, Blossom, is_node, is_child, chain_of, IsNested}
use Rattle.alt_forest.proofs.Common.{child_is_node, chain_nonzero, put, put_here, put_other, u_vertex, v_vertex}
use Rattle.augment.specs.Opening.{marked, up_to, spread, spread_in}

up_to_past : (c : ℕ) (cs : List ℕ) (stop : ℕ) → c ≢ stop → up_to (c ∷ cs) stop ≡ c ∷ up_to cs stop
up_to_past c cs stop ne = grind (arith, nat_tests)

pub mark_step : (m n : ℕ → Option ℕ) (c : ℕ) (it cs : List ℕ) (stop e : ℕ) (target : ℕ → Option ℕ) → it ≡ c ∷ cs → c ≢ stop → n ≡ put m c (Some e)
    → marked m (up_to it stop) e ≡ target → marked n (up_to cs stop) e ≡ target
mark_step m n c it cs stop e target step ne is h = grind (arith, up_to_past c cs stop ne)

up_to_none : (cs : List ℕ) (stop : ℕ) → AllByRecursion (λ c. c ≢ stop) cs → up_to cs stop ≡ cs
up_to_none [] stop h = refl
up_to_none (c ∷ cs) stop h = grind (arith, up_to_past c cs stop h.0, up_to_none cs stop h.1)

-- 0 is no node
pub spread_whole : (g : Multigraph) (bs : List Blossom) (m : ℕ → Option ℕ) (stop e : ℕ) → IsNested g.vertices bs → All (IsEdgeWithin g.vertices) g.edges → IsEdgeNumber g e
    → stop ≡ 0 → spread_in g bs stop m e ≡ spread g bs m e
spread_whole g bs m stop e nested ends is none =
    let u : ℕ = (edge_of g e).u in let v : ℕ = (edge_of g e).v in
    ap (λ s. spread_in g bs s m e) none
    ∙ ap (λ cs. marked (marked m cs e) (up_to (chain_of bs v) 0) e) (up_to_none (chain_of bs u) 0 (chain_nonzero g.vertices bs u nested (u_vertex g e ends is)))
    ∙ ap (λ cs. marked (marked m (chain_of bs u) e) cs e) (up_to_none (chain_of bs v) 0 (chain_nonzero g.vertices bs v nested (v_vertex g e ends is)))

pub no_child : (n : ℕ) (bs : List Blossom) (a : ℕ) → IsNested n bs → is_node n bs a ≡ false → is_child bs a ≡ false
no_child n bs a h none = grind (arith, nat_tests, child_is_node n bs a h)

-- a node that is cleared where it lies within another
pub cleared_in : (bs : List Blossom) (m n : ℕ → Option ℕ) (a c : ℕ) → n ≡ cond (is_child bs a) (put m a None) m → is_child bs c ≡ true → (c ≡ a) ⊎ (m c ≡ None) → n c ≡ None
cleared_in bs m n a c is child h = let at = ap (λ (f : ℕ → Option ℕ). f c) is in grind (arith, nat_tests, put_here m a None, put_other m a None c)

pub cleared_out : (bs : List Blossom) (m n : ℕ → Option ℕ) (a c : ℕ) → n ≡ cond (is_child bs a) (put m a None) m → is_child bs c ≡ false → n c ≡ m c
cleared_out bs m n a c is free = let at = ap (λ (f : ℕ → Option ℕ). f c) is in grind (arith, nat_tests, put_other m a None c)
