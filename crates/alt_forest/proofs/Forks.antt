-- The chains of two vertices: the nodes that hold the one alone, and then those that hold both.
use Rattle.graph_theory.proofs.Common.{◌≡◌, ◌≢◌, ◌⊎◌, ℕ, zero, suc, ◌+◌, ◌-◌, ◌≤◌, ℤ, pos, ◌+ℤ◌, Bool, true, false, ◌&&◌, ◌||◌, not, eqb}
use Rattle.graph_theory.proofs.Common.{cond, List, [], ◌∷◌, ◌++◌, length, drop, take, refl, sym, ap, ap₂, ◌∙◌, subst, arith, inl, length-append, append_assoc, nat_tests}
use Rattle.graph_theory.proofs.Common.{AllByRecursion, ints, or_left, or_right, eqb-false, eq-eqb, ne_eqb, IsEdgeWithin, is_loop, holds, holds-append, drop-append-le, length-drop, take_at}
use Rattle.graph_theory.proofs.Common.{only-member as only_one}
use Rattle.std.proofs.Common.{append-nil}
use Rattle.graph_theory.specs.declared.edge.Edge.{Edge}
use Rattle.blossom_arena.specs.declared.links.Link.{Link}
use Rattle.graph_theory.specs.declared.limits.TheConstants.{GRAPH_VERTEX_LIMIT}
use Rattle.blossom_arena.specs.Family.{Blossom, IsNested, is_node, is_vertex, in_ring, names_of, outermost, chain_of}
use Rattle.blossom_arena.specs.Slack.{duals_across}
use Rattle.blossom_arena.proofs.Lists.{each_from}
use Rattle.blossom_arena.proofs.Nested.{range_vertex, blossoms_few}
use Rattle.blossom_arena.proofs.Sets.{member_by_ring}
use Rattle.blossom_arena.proofs.ChainSums.{total-append}
use Rattle.blossom_arena.proofs.Parents.{chain_node as chain_has}
use Rattle.alt_forest.specs.Chains.{apart, holders, total_of}

-- the nodes that hold both
abbrev pub sharers : List Blossom → ℕ → ℕ → List ℕ
sharers [] u v = []
sharers (b ∷ older) u v = cond (holds b.members u && holds b.members v) (sharers older u v ++ b.node ∷ []) (sharers older u v)

-- two vertices that some blossom holds both lie in one outermost node
together_step : (p q : Bool) (ring : List Link) (o w b : ℕ) (xs ys : List ℕ) → p ≡ in_ring ring o → q ≡ in_ring ring w → (xs ≡ []) ⊎ (o ≡ w)
    → (cond (p && q) ys xs ≡ []) ⊎ (cond p b o ≡ cond q b w)
together_step p q ring o w b xs ys e f h = grind arith

pub together : (n : ℕ) (bs : List Blossom) (u v : ℕ) → IsNested n bs → is_vertex n u ≡ true → is_vertex n v ≡ true
    → (sharers bs u v ≡ []) ⊎ (outermost bs u ≡ outermost bs v)
together n [] u v h iu iv = inl refl
together n (b ∷ older) u v h iu iv = together_step (holds b.members u) (holds b.members v) b.ring (outermost older u) (outermost older v) b.node (sharers older u v)
    (sharers older u v ++ b.node ∷ []) (member_by_ring n older b u h iu) (member_by_ring n older b v h iv) (together n older u v h.1 iu iv)

sharers_turned : (bs : List Blossom) (u v : ℕ) → sharers bs u v ≡ sharers bs v u
sharers_turned [] u v = refl
sharers_turned (b ∷ older) u v = turned (holds b.members u) (holds b.members v) (sharers older u v) (sharers older v u) b.node (sharers_turned older u v)
  where
    turned : (p q : Bool) (xs ys : List ℕ) (b : ℕ) → xs ≡ ys → cond (p && q) (xs ++ b ∷ []) xs ≡ cond (q && p) (ys ++ b ∷ []) ys
    turned p q xs ys b e = grind arith

-- a chain has those that hold the one vertex alone, and then those that hold both
split_step : (p q : Bool) (ring : List Link) (o w b : ℕ) (cs xs ys : List ℕ) → p ≡ in_ring ring o → q ≡ in_ring ring w → (ys ≡ []) ⊎ (o ≡ w) → cs ≡ xs ++ ys
    → cond p (cs ++ b ∷ []) cs ≡ cond (p && not q) (xs ++ b ∷ []) xs ++ cond (p && q) (ys ++ b ∷ []) ys
split_step p q ring o w b cs xs ys e f h is = grind (arith, append-nil {A = ℕ}, append_assoc {A = ℕ})

pub chain_split : (n : ℕ) (bs : List Blossom) (u v : ℕ) → IsNested n bs → is_vertex n u ≡ true → is_vertex n v ≡ true → chain_of bs u ≡ holders bs u v ++ sharers bs u v
chain_split n [] u v h iu iv = refl
chain_split n (b ∷ older) u v h iu iv = split_step (holds b.members u) (holds b.members v) b.ring (outermost older u) (outermost older v) b.node (chain_of older u)
    (holders older u v) (sharers older u v) (member_by_ring n older b u h iu) (member_by_ring n older b v h iv) (together n older u v h.1 iu iv) (chain_split n older u v h.1 iu iv)

-- an edge feels those that hold one end alone
pub across_split : (y : ℕ → ℤ) (bs : List Blossom) (e : Edge) → duals_across y bs e ≡ total_of y (holders bs e.u e.v) +ℤ total_of y (holders bs e.v e.u)
across_split y [] e = omega (arith, ints)
across_split y (b ∷ older) e = by_tests (holds b.members e.u) (holds b.members e.v) (holders older e.u e.v) (holders older e.v e.u) (duals_across y older e) (across_split y older e)
  where
    by_tests : (p q : Bool) (us vs : List ℕ) (d : ℤ) → d ≡ total_of y us +ℤ total_of y vs
        → cond (cond p (not q) q) (y b.node) (pos 0) +ℤ d ≡ total_of y (cond (p && not q) (us ++ b.node ∷ []) us) +ℤ total_of y (cond (q && not p) (vs ++ b.node ∷ []) vs)
    by_tests true true us vs d ih = omega (arith, ints)
    by_tests true false us vs d ih = omega (arith, ints, total-append y us b.node)
    by_tests false true us vs d ih = omega (arith, ints, total-append y vs b.node)
    by_tests false false us vs d ih = omega (arith, ints)

-- how many they are
pub forks_few : (bs : List Blossom) (u v : ℕ) → length (holders bs u v) + length (holders bs v u) + length (sharers bs u v) ≤ length bs + 2
forks_few [] u v = omega arith
forks_few (b ∷ older) u v = by_tests (holds b.members u) (holds b.members v) (holders older u v) (holders older v u) (sharers older u v) (length older) (forks_few older u v)
  where
    by_tests : (p q : Bool) (us vs both : List ℕ) (n : ℕ) → length us + length vs + length both ≤ n + 2
        → length (cond (p && not q) (us ++ b.node ∷ []) us) + length (cond (q && not p) (vs ++ b.node ∷ []) vs) + length (cond (p && q) (both ++ b.node ∷ []) both) ≤ suc n + 2
    by_tests p q us vs both n ih = grind (arith, length-append {A = ℕ})

-- a list with one more node
grown : (p k v : Bool) (us : List ℕ) (b x : ℕ) → (holds us x ≡ true → (v || k) ≡ true) → holds (cond p (us ++ b ∷ []) us) x ≡ true → (v || (eqb b x || k)) ≡ true
grown p k v us b x was has = grind (arith, nat_tests, holds-append)

vertex_alone : (n u x : ℕ) → is_vertex n u ≡ true → holds (u ∷ []) x ≡ true → is_node n [] x ≡ true
vertex_alone n u x iu e = or_left (is_vertex n x) false (subst (λ a. is_vertex n a ≡ true) (only_one u x e) iu)

-- they are nodes
holders_nodes : (n : ℕ) (bs : List Blossom) (u v x : ℕ) → is_vertex n u ≡ true → holds (holders bs u v) x ≡ true → is_node n bs x ≡ true
holders_nodes n [] u v x iu e = vertex_alone n u x iu e
holders_nodes n (b ∷ older) u v x iu e = grown (holds b.members u && not (holds b.members v)) (holds (names_of older) x) (is_vertex n x) (holders older u v) b.node x
    (holders_nodes n older u v x iu) e

pub chain_nodes : (n : ℕ) (bs : List Blossom) (u : ℕ) → is_vertex n u ≡ true → AllByRecursion (λ a. is_node n bs a ≡ true) (chain_of bs u)
chain_nodes n bs u iu = each_from (λ a. is_node n bs a ≡ true) (chain_of bs u) (λ x e. chain_has n bs u x iu e)

-- no node holds the one alone and the other alone
apart_step : (p q is : Bool) (us vs : List ℕ) (b x : ℕ) → (holds us x ≡ true → is ≡ true) → (holds vs x ≡ true → is ≡ true) → (b ≡ x → is ≡ false)
    → (holds us x ≡ true → holds vs x ≡ true → ⊥) → holds (cond (p && not q) (us ++ b ∷ []) us) x ≡ true → holds (cond (q && not p) (vs ++ b ∷ []) vs) x ≡ true → ⊥
apart_step p q is us vs b x left right fresh both e f = grind (arith, nat_tests, holds-append)

holders_apart : (n : ℕ) (bs : List Blossom) (u v x : ℕ) → IsNested n bs → is_vertex n u ≡ true → is_vertex n v ≡ true → u ≢ v → holds (holders bs u v) x ≡ true
    → holds (holders bs v u) x ≡ true → ⊥
holders_apart n [] u v x h iu iv ne e f = ne (only_one u x e ∙ sym (only_one v x f))
holders_apart n (b ∷ older) u v x h iu iv ne e f = apart_step (holds b.members u) (holds b.members v) (is_node n older x) (holders older u v) (holders older v u) b.node x
    (holders_nodes n older u v x iu) (holders_nodes n older v u x iv) (λ same. ap (is_node n older) (sym same) ∙ h.0.fresh) (holders_apart n older u v x h.1 iu iv ne) e f

-- lists with one rest, and nothing in common before it
apart_rest : (s : List ℕ) → apart s s ≡ 0
apart_rest [] = refl
apart_rest (z ∷ zs) = ap (λ t. cond t 0 (suc (apart zs zs))) (eq-eqb z z refl)

apart_split : (p q s : List ℕ) → length p ≡ length q → ((x : ℕ) → holds p x ≡ true → holds q x ≡ true → ⊥) → apart (p ++ s) (q ++ s) ≡ length p
apart_split [] [] s e d = apart_rest s
apart_split [] (y ∷ q) s e d = absurd (omega (arith, e))
apart_split (x ∷ p) [] s e d = absurd (omega (arith, e))
apart_split (x ∷ p) (y ∷ q) s e d =
    let ne : x ≢ y = λ same. d x (or_left (eqb x x) (holds p x) (eq-eqb x x refl)) (or_left (eqb y x) (holds q x) (eq-eqb y x (sym same))) in
    ap (λ t. cond t 0 (suc (apart (p ++ s) (q ++ s)))) (ne_eqb x y ne)
    ∙ ap suc (apart_split p q s (omega (arith, e)) (λ z a b. d z (or_right (eqb x z) (holds p z) a) (or_right (eqb y z) (holds q z) b)))

holds_drop : (k : ℕ) (p : List ℕ) (x : ℕ) → holds (drop k p) x ≡ true → holds p x ≡ true
holds_drop zero p x e = e
holds_drop (suc k) [] x e = e
holds_drop (suc k) (y ∷ p) x e = or_right (eqb y x) (holds p x) (holds_drop k p x e)

-- where two lists with one rest have nothing else in common, they differ up to it
forked : (p q s : List ℕ) → ((x : ℕ) → holds p x ≡ true → holds q x ≡ true → ⊥) → (k l : ℕ) → k ≡ length (p ++ s) - length (q ++ s) → l ≡ length (q ++ s) - length (p ++ s)
    → (k + apart (drop k (p ++ s)) (drop l (q ++ s)) ≡ length p) × (l + apart (drop k (p ++ s)) (drop l (q ++ s)) ≡ length q)
forked p q s d k l ek el =
    let sizes : (length (p ++ s) ≡ length p + length s) × (length (q ++ s) ≡ length q + length s) = (length-append p s, length-append q s) in
    let same : apart (drop k (p ++ s)) (drop l (q ++ s)) ≡ length (drop k p) =
    ap₂ apart (drop-append-le k p s (omega arith)) (drop-append-le l q s (omega arith))
    ∙ apart_split (drop k p) (drop l q) s (omega (arith, length-drop k p, length-drop l q)) (λ x e f. d x (holds_drop k p x e) (holds_drop l q x f)) in
    (omega (arith, same, length-drop k p), omega (arith, same, length-drop k p))

-- the two chains of an edge's ends
pub record IsEnds (n : ℕ) (bs : List Blossom) (u v : ℕ) : Type 0 where
  pub nested : IsNested n bs
  pub size_limit : n ≤ GRAPH_VERTEX_LIMIT
  pub u_is : is_vertex n u ≡ true
  pub v_is : is_vertex n v ≡ true
  pub differ : u ≢ v

pub ends_of : (n : ℕ) (bs : List Blossom) (e : Edge) → IsNested n bs → n ≤ GRAPH_VERTEX_LIMIT → IsEdgeWithin n e → is_loop e ≡ false → IsEnds n bs e.u e.v
ends_of n bs e nested few within plain = record {
  nested = nested;
  size_limit = few;
  u_is = range_vertex n e.u within.u_low within.u_high;
  v_is = range_vertex n e.v within.v_low within.v_high;
  differ = eqb-false e.u e.v plain;
}

pub ends_turned : (n : ℕ) (bs : List Blossom) (u v : ℕ) → IsEnds n bs u v → IsEnds n bs v u
ends_turned n bs u v h = record { nested = h.nested; size_limit = h.size_limit; u_is = h.v_is; v_is = h.u_is; differ = λ e. h.differ (sym e) }

pub chain_few : (n : ℕ) (bs : List Blossom) (u v : ℕ) → IsEnds n bs u v → length (chain_of bs u) ≤ GRAPH_VERTEX_LIMIT
chain_few n bs u v h =
    let size : length (chain_of bs u) ≡ length (holders bs u v) + length (sharers bs u v) = ap length (chain_split n bs u v h.nested h.u_is h.v_is)
    ∙ length-append (holders bs u v) (sharers bs u v) in
    omega (arith, size, forks_few bs u v, blossoms_few n bs h.nested, h.size_limit)

pub holders_few : (n : ℕ) (bs : List Blossom) (u v : ℕ) → IsEnds n bs u v → length (holders bs u v) + length (holders bs v u) ≤ GRAPH_VERTEX_LIMIT
holders_few n bs u v h = omega (arith, forks_few bs u v, blossoms_few n bs h.nested, h.size_limit)

-- how much longer the one chain is than the other, and at how many places they differ after that
pub counts : (n : ℕ) (bs : List Blossom) (u v k l : ℕ) → IsEnds n bs u v → k ≡ length (chain_of bs u) - length (chain_of bs v)
    → l ≡ length (chain_of bs v) - length (chain_of bs u)
    → (k + apart (drop k (chain_of bs u)) (drop l (chain_of bs v)) ≡ length (holders bs u v)) × (l + apart (drop k (chain_of bs u)) (drop l (chain_of bs v)) ≡ length (holders bs v u))
counts n bs u v k l h ek el =
    let left : chain_of bs u ≡ holders bs u v ++ sharers bs u v = chain_split n bs u v h.nested h.u_is h.v_is in
    let right : chain_of bs v ≡ holders bs v u ++ sharers bs u v = chain_split n bs v u h.nested h.v_is h.u_is ∙ ap (λ xs. holders bs v u ++ xs) (sharers_turned bs v u) in
    rw (left, right) (forked (holders bs u v) (holders bs v u) (sharers bs u v) (λ x e f. holders_apart n bs u v x h.nested h.u_is h.v_is h.differ e f) k l
    (ek ∙ ap₂ (λ (xs ys : List ℕ). length xs - length ys) left right) (el ∙ ap₂ (λ (xs ys : List ℕ). length ys - length xs) left right))

-- the first nodes of a chain are those that hold the one vertex alone
pub first_holders : (n : ℕ) (bs : List Blossom) (u v : ℕ) → IsEnds n bs u v → take (length (holders bs u v)) (chain_of bs u) ≡ holders bs u v
first_holders n bs u v h = ap (take (length (holders bs u v))) (chain_split n bs u v h.nested h.u_is h.v_is) ∙ take_at (holders bs u v) (sharers bs u v) (length (holders bs u v)) refl
