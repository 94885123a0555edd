-- The nodes that hold a vertex, in a family and in its older part.
use Rattle.alt_forest.proofs.Common.{nat_tests, ◌≡◌, ◌≢◌, ℕ, true, false, cond, List, [], ◌∷◌, ◌++◌, sym, ap, ◌∙◌, arith, both_ways, holds, holds-append}
use Rattle.alt_forest.proofs.Common.{Blossom, in_ring, is_vertex, is_child, outermost, chain_of, IsNested, child_free, new_free, member_by_ring, chain_node, only-member as only_one}

chain_in : (b : Blossom) (older : List Blossom) (v : ℕ) → holds b.members v ≡ true → chain_of (b ∷ older) v ≡ chain_of older v ++ b.node ∷ []
chain_in b older v m = ap (λ q. cond q (chain_of older v ++ b.node ∷ []) (chain_of older v)) m

chain_out : (b : Blossom) (older : List Blossom) (v : ℕ) → holds b.members v ≡ false → chain_of (b ∷ older) v ≡ chain_of older v
chain_out b older v m = ap (λ q. cond q (chain_of older v ++ b.node ∷ []) (chain_of older v)) m

pub chain_grows : (b : Blossom) (older : List Blossom) (v c : ℕ) → holds (chain_of older v) c ≡ true → holds (chain_of (b ∷ older) v) c ≡ true
chain_grows b older v c e = grind (arith, nat_tests, chain_in b older v, chain_out b older v, holds-append (chain_of older v) (b.node ∷ []) c)

pub chain_before : (b : Blossom) (older : List Blossom) (v c : ℕ) → b.node ≢ c → holds (chain_of (b ∷ older) v) c ≡ true → holds (chain_of older v) c ≡ true
chain_before b older v c ne e = grind (arith, nat_tests, chain_in b older v, chain_out b older v, holds-append (chain_of older v) (b.node ∷ []) c)

outer_in : (b : Blossom) (older : List Blossom) (v : ℕ) → holds b.members v ≡ true → outermost (b ∷ older) v ≡ b.node
outer_in b older v m = ap (λ q. cond q b.node (outermost older v)) m

outer_out : (b : Blossom) (older : List Blossom) (v : ℕ) → holds b.members v ≡ false → outermost (b ∷ older) v ≡ outermost older v
outer_out b older v m = ap (λ q. cond q b.node (outermost older v)) m

-- the last node of the way up is outermost
pub chain_has_top : (bs : List Blossom) (v : ℕ) → holds (chain_of bs v) (outermost bs v) ≡ true
chain_has_top [] v = grind (arith, nat_tests)
chain_has_top (b ∷ older) v = grind (arith, nat_tests, holds-append (chain_of older v) (b.node ∷ []) b.node, chain_has_top older v)

-- and the only outermost one
pub chain_top : (n : ℕ) (bs : List Blossom) (v c : ℕ) → IsNested n bs → is_vertex n v ≡ true → holds (chain_of bs v) c ≡ true → is_child bs c ≡ false → c ≡ outermost bs v
chain_top n [] v c h iv e free = grind (arith, nat_tests)
chain_top n (b ∷ older) v c h iv e free =
    let ring = member_by_ring n older b v h iv in
    let below : holds (chain_of older v) c ≡ true → c ≡ outermost older v = λ on. chain_top n older v c h.1 iv on (grind (arith, nat_tests)) in
    grind (arith, nat_tests, chain_before b older v c, chain_out b older v, outer_in b older v, outer_out b older v)

-- two ways up that share a node end at one
pub same_top : (n : ℕ) (bs : List Blossom) (u v c : ℕ) → IsNested n bs → is_vertex n u ≡ true → is_vertex n v ≡ true → holds (chain_of bs u) c ≡ true
    → holds (chain_of bs v) c ≡ true → outermost bs u ≡ outermost bs v
same_top n [] u v c h iu iv eu ev = only_one u c eu ∙ sym (only_one v c ev)
same_top n (b ∷ older) u v c h iu iv eu ev =
    let before = same_top n older u v c h.1 iu iv in let ring_u = member_by_ring n older b u h iu in
    let ring_v = member_by_ring n older b v h iv in let fresh = h.0.fresh in
    grind (arith, nat_tests, before, chain_before b older u c, chain_before b older v c, chain_node n older u c iu, chain_node n older v c iv)

-- a child of the newest blossom holds a vertex of it
pub chain_ring : (n : ℕ) (b : Blossom) (older : List Blossom) (v c : ℕ) → IsNested n (b ∷ older) → is_vertex n v ≡ true → in_ring b.ring c ≡ true → holds (chain_of (b ∷ older) v) c ≡ true
    → (outermost (b ∷ older) v ≡ b.node) × (outermost older v ≡ c)
chain_ring n b older v c h iv r e =
    let ne : b.node ≢ c = λ s. both_ways (in_ring b.ring b.node) (new_free n b older h).0 (ap (in_ring b.ring) s ∙ r) in
    let top = chain_top n older v c h.1 iv (chain_before b older v c ne e) (child_free n older b c h.0 r) in
    (outer_in b older v (member_by_ring n older b v h iv ∙ ap (in_ring b.ring) (sym top) ∙ r), sym top)
