-- The way up by the parents.
use Rattle.graph_theory.proofs.Common.{nat_tests, ◌≡◌, ℕ, zero, suc, ◌+◌, ◌≤◌, ◌<◌, ◌≢◌, ◌⊎◌, true, false, eqb, List, [], ◌∷◌, ◌++◌, length, refl}
use Rattle.graph_theory.proofs.Common.{sym, ap, ◌∙◌, subst, arith, inl, length-append, append_assoc, get_or, AllByRecursion, both_ways, cond_both, holds, holds-append, most_blossoms}
use Rattle.blossom_arena.specs.Family.{Blossom, in_ring, names_of, is_vertex, is_node, is_child, outermost, members_of, ring_of, older_than, chain_of, child_holding, IsNested}
use Rattle.blossom_arena.specs.Tables.{last_of}
use Rattle.blossom_arena.specs.Fields.{parent_of, climb, climb_to, CanClimb}
use Rattle.blossom_arena.proofs.Lists.{tails, by_test, each_from}
use Rattle.blossom_arena.proofs.Nested.{child_free, new_no_child, node_grows, new_is_node, node_range, blossoms_few, older_name}
use Rattle.blossom_arena.proofs.Sets.{member_by_ring, outermost_free}
use Rattle.blossom_arena.proofs.Tails.{last_append}

pub free_parent : (bs : List Blossom) (x : ℕ) → is_child bs x ≡ false → parent_of bs x ≡ 0
free_parent [] x e = refl
free_parent (b ∷ older) x e = grind (arith, nat_tests, free_parent older x)

-- a parent is a blossom, or 0
pub parent_is : (bs : List Blossom) (x : ℕ) → (parent_of bs x ≡ 0) ⊎ (holds (names_of bs) (parent_of bs x) ≡ true)
parent_is [] x = inl refl
parent_is (b ∷ older) x = grind (arith, nat_tests, parent_is older x)

-- what has a parent is a child
pub parent_child : (bs : List Blossom) (x : ℕ) → parent_of bs x ≢ 0 → is_child bs x ≡ true
parent_child bs x ne = grind (arith, free_parent bs x)

pub ring_child : (bs : List Blossom) (a x : ℕ) → in_ring (ring_of bs a) x ≡ true → is_child bs x ≡ true
ring_child [] a x e = e
ring_child (b ∷ older) a x e = grind (arith, nat_tests, ring_child older a x)

-- the next number is the one that the first leads to, and the last leads to none
abbrev pub IsUp : (ℕ → ℕ) → List ℕ → Type 0
IsUp p [] = Unit {0}
IsUp p (x ∷ []) = p x ≡ 0
IsUp p (x ∷ y ∷ rest) = (p x ≡ y) × IsUp p (y ∷ rest)

up_keep : (p q : ℕ → ℕ) (d : ℕ) (xs : List ℕ) → IsUp p xs → AllByRecursion (λ x. x ≢ 0) xs → ((x : ℕ) → p x ≢ 0 → q x ≡ p x)
    → q (last_of d xs) ≡ 0 → IsUp q xs
up_keep p q d [] u nz same end = tt
up_keep p q d (x ∷ []) u nz same end = end
up_keep p q d (x ∷ y ∷ rest) u nz same end =
    (same x (λ z. nz.1.0 (sym u.0 ∙ z)) ∙ u.0, up_keep p q x (y ∷ rest) u.1 nz.1 same end)

up_more : (p q : ℕ → ℕ) (d b : ℕ) (xs : List ℕ) → IsUp p xs → AllByRecursion (λ x. x ≢ 0) xs → ((x : ℕ) → p x ≢ 0 → q x ≡ p x)
    → q (last_of d xs) ≡ b → q b ≡ 0 → IsUp q (xs ++ b ∷ [])
up_more p q d b [] u nz same end top = top
up_more p q d b (x ∷ []) u nz same end top = (end, top)
up_more p q d b (x ∷ y ∷ rest) u nz same end top =
    (same x (λ z. nz.1.0 (sym u.0 ∙ z)) ∙ u.0, up_more p q x b (y ∷ rest) u.1 nz.1 same end top)

pub chain_short : (bs : List Blossom) (v : ℕ) → length (chain_of bs v) ≤ length bs + 1
chain_short [] v = omega arith
chain_short (b ∷ older) v = grind (arith, nat_tests, length-append (chain_of older v) (b.node ∷ []), chain_short older v)

pub chain_last : (bs : List Blossom) (d v : ℕ) → last_of d (chain_of bs v) ≡ outermost bs v
chain_last [] d v = refl
chain_last (b ∷ older) d v = grind (arith, nat_tests, last_append d 0 (chain_of older v) (b.node ∷ []), chain_last older d v)

-- a chain is of nodes
pub chain_node : (n : ℕ) (bs : List Blossom) (v x : ℕ) → is_vertex n v ≡ true → holds (chain_of bs v) x ≡ true → is_node n bs x ≡ true
chain_node n [] v x iv e = grind (arith, nat_tests)
chain_node n (b ∷ older) v x iv e = grind (arith, nat_tests, holds-append (chain_of older v) (b.node ∷ []) x, chain_node n older v x iv, node_grows n b older x, new_is_node n b older)

pub chain_nonzero : (n : ℕ) (bs : List Blossom) (v : ℕ) → IsNested n bs → is_vertex n v ≡ true → AllByRecursion (λ x. x ≢ 0) (chain_of bs v)
chain_nonzero n bs v h iv = each_from (λ x. x ≢ 0) (chain_of bs v) (λ x e. λ z. absurd (omega (arith, z, (node_range n bs x h (chain_node n bs v x iv e)).0)))

-- each node of a chain is the next one's child
pub chain_up : (n : ℕ) (bs : List Blossom) (v : ℕ) → IsNested n bs → is_vertex n v ≡ true → IsUp (parent_of bs) (chain_of bs v)
chain_up n [] v h iv = refl
chain_up n (b ∷ older) v h iv =
    let below = chain_up n older v h.1 iv in
    let nz = chain_nonzero n older v h.1 iv in
    let same : (x : ℕ) → parent_of older x ≢ 0 → parent_of (b ∷ older) x ≡ parent_of older x = λ x ne. grind (arith, child_free n older b x h.0, parent_child older x) in
    let last = chain_last older 0 v in
    let in_it = member_by_ring n older b v h iv in
    by_test (holds b.members v)
    (λ m. rw m (up_more (parent_of older) (parent_of (b ∷ older)) 0 b.node (chain_of older v) below nz same
    (ap (parent_of (b ∷ older)) last ∙ grind (arith, in_it)) (free_parent (b ∷ older) b.node (new_no_child n b older h))))
    (λ m. rw m (up_keep (parent_of older) (parent_of (b ∷ older)) 0 (chain_of older v) below nz same
    (ap (parent_of (b ∷ older)) last ∙ grind (arith, in_it, free_parent older (outermost older v) (outermost_free n older v h.1 iv)))))

-- a climb by the table gives the chain
climb_zero : (k : ℕ) (ps : List ℕ) → climb k ps 0 ≡ []
climb_zero zero ps = refl
climb_zero (suc k) ps = refl

pub climb_is : (k : ℕ) (ps : List ℕ) (p : ℕ → ℕ) (x : ℕ) (xs : List ℕ) → IsUp p (x ∷ xs) → AllByRecursion (λ y. get_or ps y 0 ≡ p y) (x ∷ xs)
    → AllByRecursion (λ y. y ≢ 0) (x ∷ xs) → length (x ∷ xs) ≤ k → climb k ps x ≡ x ∷ xs
climb_is zero ps p x xs u at nz short = absurd (omega arith)
climb_is (suc k) ps p x [] u at nz short = grind (arith, nat_tests, at.0, nz.0, climb_zero k ps)
climb_is (suc k) ps p x (y ∷ rest) u at nz short = grind (arith, nat_tests, at.0, u.0, nz.0, climb_is k ps p y rest u.1 at.1 nz.1 (omega arith))

pub climb_to_is : (k : ℕ) (ps : List ℕ) (p : ℕ → ℕ) (a x : ℕ) (xs rest : List ℕ) → IsUp p ((x ∷ xs) ++ (a ∷ rest))
    → AllByRecursion (λ y. get_or ps y 0 ≡ p y) (x ∷ xs) → AllByRecursion (λ y. y ≢ a) (x ∷ xs) → length (x ∷ xs) ≤ k → climb_to k ps a x ≡ last_of x xs
climb_to_is zero ps p a x xs rest u at ne short = absurd (omega arith)
climb_to_is (suc k) ps p a x [] rest u at ne short = grind (arith, nat_tests, at.0, u.0)
climb_to_is (suc k) ps p a x (y ∷ more) rest u at ne short = grind (arith, nat_tests, at.0, u.0, ne.1.0, climb_to_is k ps p a y more rest u.1 at.1 ne.1 (omega arith))

-- a chain begins with its vertex
pub chain_first : (bs : List Blossom) (v : ℕ) → (rest : List ℕ) × (chain_of bs v ≡ v ∷ rest)
chain_first [] v = ([], refl)
chain_first (b ∷ older) v =
    let r = chain_first older v in
    by_test (holds b.members v)
    (λ m. (r.0 ++ b.node ∷ [], grind (arith, r.1)))
    (λ m. (r.0, grind (arith, r.1)))

pub climb_chain : (n k : ℕ) (bs : List Blossom) (ps : List ℕ) (v : ℕ) → IsNested n bs → is_vertex n v ≡ true
    → ((x : ℕ) → is_node n bs x ≡ true → get_or ps x 0 ≡ parent_of bs x) → length bs + 1 ≤ k → climb k ps v ≡ chain_of bs v
climb_chain n k bs ps v h iv table short =
    let first = chain_first bs v in
    let is : chain_of bs v ≡ v ∷ first.0 = first.1 in
    climb_is k ps (parent_of bs) v first.0
    (subst (IsUp (parent_of bs)) is (chain_up n bs v h iv))
    (subst (AllByRecursion (λ y. get_or ps y 0 ≡ parent_of bs y)) is (each_from (λ y. get_or ps y 0 ≡ parent_of bs y) (chain_of bs v) (λ x e. table x (chain_node n bs v x iv e))))
    (subst (AllByRecursion (λ y. y ≢ 0)) is (chain_nonzero n bs v h iv))
    (omega (arith, chain_short bs v, ap length is))
    ∙ sym is

pub can_climb : (n : ℕ) (bs : List Blossom) (ps : List ℕ) (v : ℕ) → IsNested n bs → is_vertex n v ≡ true
    → ((x : ℕ) → is_node n bs x ≡ true → get_or ps x 0 ≡ parent_of bs x) → length ps ≡ n + most_blossoms n + 1 → CanClimb ps v
can_climb n bs ps v h iv table len =
    let few : length bs + 1 ≤ length ps = omega (arith, blossoms_few n bs h, len) in
    let at_len = climb_chain n (length ps) bs ps v h iv table few in
    record {
      ends = climb_chain n (suc (length ps)) bs ps v h iv table (omega arith) ∙ sym at_len;
      within = subst (AllByRecursion (λ a. a < length ps)) (sym at_len)
          (each_from (λ a. a < length ps) (chain_of bs v) (λ x e. omega (arith, (node_range n bs x h (chain_node n bs v x iv e)).1, len)));
    }

-- the chain goes on through a blossom from what was outermost before it
pub nested_older : (n : ℕ) (bs : List Blossom) (a : ℕ) → IsNested n bs → IsNested n (older_than bs a)
nested_older n [] a h = tt
nested_older n (b ∷ older) a h = cond_both (eqb b.node a) older (older_than older a) (IsNested n) (λ e. h.1) (λ e. nested_older n older a h.1)

pub older_fresh : (n : ℕ) (bs : List Blossom) (a : ℕ) → IsNested n bs → holds (names_of bs) a ≡ true → is_node n (older_than bs a) a ≡ false
older_fresh n [] a h k = absurd (both_ways false refl k)
older_fresh n (b ∷ older) a h k = grind (arith, nat_tests, h.0.fresh, older_fresh n older a h.1)

pub older_short : (bs : List Blossom) (a : ℕ) → length (older_than bs a) ≤ length bs
older_short [] a = omega arith
older_short (b ∷ older) a = grind (arith, nat_tests, older_short older a)

pub older_node : (n : ℕ) (bs : List Blossom) (a x : ℕ) → is_node n (older_than bs a) x ≡ true → is_node n bs x ≡ true
older_node n [] a x e = e
older_node n (b ∷ older) a x e = grind (arith, nat_tests, older_node n older a x, node_grows n b older x)

pub chain_through : (bs : List Blossom) (a v : ℕ) → holds (names_of bs) a ≡ true → holds (members_of bs a) v ≡ true
    → (rest : List ℕ) × (chain_of bs v ≡ chain_of (older_than bs a) v ++ (a ∷ rest))
chain_through [] a v k m = absurd (both_ways false refl k)
chain_through (b ∷ older) a v k m =
    by_test (eqb b.node a)
    (λ e. ([], grind (arith, nat_tests)))
    (λ e.
    let r = chain_through older a v (older_name b older a e k) (grind (arith, nat_tests)) in
    by_test (holds b.members v)
    (λ held. (r.0 ++ b.node ∷ [], grind (arith, nat_tests, r.1, append_assoc (chain_of (older_than older a) v) (a ∷ r.0) (b.node ∷ []))))
    (λ held. (r.0, grind (arith, nat_tests, r.1))))

pub climb_child : (n : ℕ) (bs : List Blossom) (ps : List ℕ) (a v : ℕ) → IsNested n bs → is_vertex n v ≡ true → holds (names_of bs) a ≡ true
    → holds (members_of bs a) v ≡ true
    → ((x : ℕ) → is_node n bs x ≡ true → get_or ps x 0 ≡ parent_of bs x) → length ps ≡ n + most_blossoms n + 1 → climb_to (length ps) ps a v ≡ child_holding bs a v
climb_child n bs ps a v h iv k m table len =
    let older : List Blossom = older_than bs a in
    let through = chain_through bs a v k m in
    let first = chain_first older v in
    let is : chain_of older v ≡ v ∷ first.0 = first.1 in
    let up : IsUp (parent_of bs) ((v ∷ first.0) ++ (a ∷ through.0)) = subst (IsUp (parent_of bs)) (through.1 ∙ ap (λ c. c ++ (a ∷ through.0)) is) (chain_up n bs v h iv) in
    climb_to_is (length ps) ps (parent_of bs) a v first.0 through.0 up
    (subst (AllByRecursion (λ y. get_or ps y 0 ≡ parent_of bs y)) is (each_from (λ y. get_or ps y 0 ≡ parent_of bs y) (chain_of older v)
    (λ x e. table x (older_node n bs a x (chain_node n older v x iv e)))))
    (subst (AllByRecursion (λ y. y ≢ a)) is (each_from (λ y. y ≢ a) (chain_of older v)
    (λ x e. λ s. both_ways (is_node n older a) (older_fresh n bs a h k) (subst (λ y. is_node n older y ≡ true) s (chain_node n older v x iv e)))))
    (omega (arith, ap length is, chain_short older v, older_short bs a, blossoms_few n bs h, len))
    ∙ sym (ap (last_of v) is) ∙ chain_last older v v

-- a step of a climb
pub climb_to_step : (k j : ℕ) (ps : List ℕ) (stop x : ℕ) → k ≡ suc j → get_or ps x 0 ≢ stop → climb_to j ps stop (get_or ps x 0) ≡ climb_to k ps stop x
climb_to_step k j ps stop x e ne = sym (ap (λ i. climb_to i ps stop x) e ∙ grind (arith, nat_tests))

climb_past : (k : ℕ) (ps : List ℕ) (x : ℕ) → x ≢ 0 → climb (suc k) ps x ≡ x ∷ climb k ps (get_or ps x 0)
climb_past k ps x ne = grind (arith, nat_tests)

-- a climb that more steps don't change isn't changed by still more
climb_settled : (k : ℕ) (ps : List ℕ) (x : ℕ) → climb k ps x ≡ climb (suc k) ps x → climb (suc k) ps x ≡ climb (suc (suc k)) ps x
climb_settled zero ps x e = grind (arith, nat_tests)
climb_settled (suc k) ps x e = let rest = climb_settled k ps (get_or ps x 0) in grind (arith, nat_tests, rest)

-- the next node of a chain
pub record IsStep (ps : List ℕ) (x : ℕ) : Type 0 where
  pub now : climb (length ps) ps x ≡ x ∷ climb (length ps) ps (get_or ps x 0)
  pub place : x < length ps
  pub next : CanClimb ps (get_or ps x 0)

pub climb_step : (ps : List ℕ) (x : ℕ) → CanClimb ps x → x ≢ 0 → IsStep ps x
climb_step ps x h ne =
    let now : climb (length ps) ps x ≡ x ∷ climb (length ps) ps (get_or ps x 0) = sym h.ends ∙ climb_past (length ps) ps x ne in
    let within : AllByRecursion (λ a. a < length ps) (x ∷ climb (length ps) ps (get_or ps x 0)) = subst (AllByRecursion (λ a. a < length ps)) now h.within in
    record { now = now; place = within.0; next = record { ends = sym (settled (length ps) within.0 now); within = within.1 } }
  where
    settled : (len : ℕ) → x < len → climb len ps x ≡ x ∷ climb len ps (get_or ps x 0) → climb len ps (get_or ps x 0) ≡ climb (suc len) ps (get_or ps x 0)
    settled zero low e = absurd (omega arith)
    settled (suc k) low e = climb_settled k ps (get_or ps x 0) (tails x x (climb k ps (get_or ps x 0)) (climb (suc k) ps (get_or ps x 0)) (sym (climb_past k ps x ne) ∙ e))
