-- The nodes that hold a vertex, noted one by one, each with the one before.
use Rattle.alt_forest.proofs.Common.{nat_tests, ◌≡◌, ℕ, true, false, eqb, cond, List, [], ◌∷◌, ◌++◌, length, slice_index, replicate, refl, sym, ap, ◌∙◌, arith}
use Rattle.alt_forest.proofs.Common.{⊎_elim, cases_lt, length-replicate, get_or-replicate, get_or_past, holds, Blossom, IsNested, is_vertex, chain_of, by_test, older_name, here, past}
use Rattle.alt_forest.proofs.Common.{chain_last, chain_node, members_here, members_past}
use Rattle.blossom_arena.specs.Tables.{last_of}
use Rattle.augment.specs.Opening.{LeadsTo}

-- the table with, at each of these nodes, the one before
abbrev pub noted : (ℕ → ℕ) → ℕ → List ℕ → ℕ → ℕ
noted t below [] = t
noted t below (c ∷ cs) = noted (λ x. cond (eqb c x) below (t x)) c cs

-- equal entries stay equal
pub noted_same : (t u : ℕ → ℕ) (below : ℕ) (cs : List ℕ) → ((a : ℕ) → t a ≡ u a) → (a : ℕ) → noted t below cs a ≡ noted u below cs a
noted_same t u below [] same a = same a
noted_same t u below (c ∷ cs) same a = noted_same (λ x. cond (eqb c x) below (t x)) (λ x. cond (eqb c x) below (u x)) c cs (λ x. ap (cond (eqb c x) below) (same x)) a

-- one more
noted_last : (t : ℕ → ℕ) (below : ℕ) (cs : List ℕ) (c a : ℕ) → noted t below (cs ++ (c ∷ [])) a ≡ cond (eqb c a) (last_of below cs) (noted t below cs a)
noted_last t below [] c a = refl
noted_last t below (d ∷ cs) c a = noted_last (λ x. cond (eqb d x) below (t x)) d cs c a

-- others stay
noted_else : (t : ℕ → ℕ) (below : ℕ) (cs : List ℕ) (a : ℕ) → holds cs a ≡ false → noted t below cs a ≡ t a
noted_else t below [] a out = refl
noted_else t below (c ∷ cs) a out = grind (arith, nat_tests, noted_else (λ x. cond (eqb c x) below (t x)) c cs a)

-- each blossom that holds the vertex gets its child that does
pub noted_leads : (n : ℕ) (bs : List Blossom) (v : ℕ) → IsNested n bs → is_vertex n v ≡ true → LeadsTo bs v (noted (λ _. 0) 0 (chain_of bs v))
noted_leads n [] v h iv a k = absurd (grind (arith, nat_tests))
noted_leads n (b ∷ older) v h iv a k =
    let chain : List ℕ = chain_of older v in
    let off : a ≡ b.node → holds chain a ≡ false = λ q. grind (arith, nat_tests, h.0.fresh, chain_node n older v a iv) in
    let last = noted_last (λ _. 0) 0 chain b.node a in let before = noted_leads n older v h.1 iv a in
    by_test (eqb b.node a)
    (λ s. grind (arith, nat_tests, noted_else (λ _. 0) 0 chain a, chain_last older 0 v, (here b older a s).older_is, members_here b older a s))
    (λ s. grind (arith, nat_tests, (past b older a s).older_is, members_past b older a s, older_name b older a s k))

-- a step of the loop
pub noted_more : (t u : ℕ → ℕ) (below c : ℕ) (it cs : List ℕ) (target : ℕ → ℕ) → it ≡ c ∷ cs → ((a : ℕ) → u a ≡ cond (eqb c a) below (t a))
    → ((a : ℕ) → noted t below it a ≡ target a) → (a : ℕ) → noted u c cs a ≡ target a
noted_more t u below c it cs target step is h a =
    noted_same u (λ x. cond (eqb c x) below (t x)) c cs is a ∙ sym (ap (λ xs. noted t below xs a) step) ∙ h a

-- before any is noted
pub zeros : (n a : ℕ) → slice_index (replicate n 0) a ≡ 0
zeros n a = ⊎_elim
    (λ low. get_or-replicate n a 0 0 low)
    (λ past. get_or_past (replicate n 0) a 0 (let long : length {A = ℕ} (replicate n 0) ≡ n = length-replicate n 0 in omega (arith, long, past))) (cases_lt a n)
