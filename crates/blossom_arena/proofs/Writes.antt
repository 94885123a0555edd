-- What writes to tables leave, and what walks by a table give.
use Rattle.graph_theory.proofs.Common.{nat_tests, ◌≡◌, ℕ, zero, suc, ◌<◌, true, false, cond, List, [], ◌∷◌, length, refl, sym, ap, ap₂, ◌∙◌, subst, arith, get_or}
use Rattle.graph_theory.proofs.Common.{set, AllByRecursion, get_or-set_other, get_or-set_same, length-set, holds}
use Rattle.blossom_arena.specs.declared.links.Link.{Link}
use Rattle.blossom_arena.specs.Tables.{walk, links_of, filled, next_node, threaded, noted}
use Rattle.blossom_arena.specs.Family.{nodes_of}
use Rattle.blossom_arena.proofs.Lists.{AllNew, first_in, later_in}
use Rattle.blossom_arena.proofs.Tails.{front, front_sub}

-- a table that is filled at some places
pub length-filled : (t xs : List ℕ) (e : ℕ) → length (filled t xs e) ≡ length t
length-filled t [] e = refl
length-filled t (x ∷ xs) e = length-filled (set t x e) xs e ∙ length-set t x e

pub filled_at : (t xs : List ℕ) (e v : ℕ) → v < length t → get_or (filled t xs e) v 0 ≡ cond (holds xs v) e (get_or t v 0)
filled_at t [] e v h = refl
filled_at t (x ∷ xs) e v h = grind (arith, nat_tests, filled_at (set t x e) xs e v, length-set t x e, get_or-set_same t x e 0, get_or-set_other t x v e 0)

-- walks
pub length-walk : (k : ℕ) (next : List ℕ) (x : ℕ) → length (walk k next x) ≡ k
length-walk zero next x = refl
length-walk (suc k) next x = omega (arith, length-walk k next (get_or next x 0))

-- a walk reads the table at all its numbers but the last
pub walk_front : (k : ℕ) (next next' : List ℕ) (x : ℕ) → ((y : ℕ) → holds (front (walk k next x)) y ≡ true → get_or next' y 0 ≡ get_or next y 0)
    → walk k next' x ≡ walk k next x
walk_front zero next next' x same = refl
walk_front (suc zero) next next' x same = refl
walk_front (suc (suc k)) next next' x same =
    let here : get_or next' x 0 ≡ get_or next x 0 = same x (first_in x (front (walk (suc k) next (get_or next x 0)))) in
    ap (λ t. x ∷ t) (ap (walk (suc k) next') here ∙ walk_front (suc k) next next' (get_or next x 0) (λ y e. same y (later_in x (front (walk (suc k) next (get_or next x 0))) y e)))

pub walk_same : (k : ℕ) (next next' : List ℕ) (x : ℕ) → ((y : ℕ) → holds (walk k next x) y ≡ true → get_or next' y 0 ≡ get_or next y 0) → walk k next' x ≡ walk k next x
walk_same k next next' x same = walk_front k next next' x (λ y e. same y (front_sub (walk k next x) y e))

pub links_same : (edges edges' xs : List ℕ) → ((y : ℕ) → holds xs y ≡ true → get_or edges' y 0 ≡ get_or edges y 0) → links_of edges' xs ≡ links_of edges xs
links_same edges edges' [] same = refl
links_same edges edges' (x ∷ xs) same =
    ap₂ (λ (e : ℕ) (ls : List Link). record { node = x; edge = e } ∷ ls) (same x (first_in x xs)) (links_same edges edges' xs (λ y e. same y (later_in x xs y e)))

pub nodes-links : (edges xs : List ℕ) → nodes_of (links_of edges xs) ≡ xs
nodes-links edges [] = refl
nodes-links edges (x ∷ xs) = ap (λ t. x ∷ t) (nodes-links edges xs)

-- a circuit in the tables
pub length-threaded : (nexts : List ℕ) (circuit : List Link) (z : ℕ) → length (threaded nexts circuit z) ≡ length nexts
length-threaded nexts [] z = refl
length-threaded nexts (l ∷ rest) z = length-threaded (set nexts l.node (next_node rest z)) rest z ∙ length-set nexts l.node (next_node rest z)

pub threaded_out : (nexts : List ℕ) (circuit : List Link) (z x : ℕ) → holds (nodes_of circuit) x ≡ false → get_or (threaded nexts circuit z) x 0 ≡ get_or nexts x 0
threaded_out nexts [] z x out = refl
threaded_out nexts (l ∷ rest) z x out = grind (arith, nat_tests, threaded_out (set nexts l.node (next_node rest z)) rest z x, get_or-set_other nexts l.node x (next_node rest z) 0)

pub threaded_walk : (nexts : List ℕ) (circuit : List Link) (z : ℕ) → AllNew (nodes_of circuit) → AllByRecursion (λ (l : Link). l.node < length nexts) circuit
    → walk (length circuit) (threaded nexts circuit z) (next_node circuit z) ≡ nodes_of circuit
threaded_walk nexts [] z new within = refl
threaded_walk nexts (l ∷ rest) z new within =
    let nexts' : List ℕ = set nexts l.node (next_node rest z) in
    let here : get_or (threaded nexts' rest z) l.node 0 ≡ next_node rest z = threaded_out nexts' rest z l.node new.0 ∙ get_or-set_same nexts l.node (next_node rest z) 0 within.0 in
    ap (λ t. l.node ∷ t) (ap (walk (length rest) (threaded nexts' rest z)) here ∙ threaded_walk nexts' rest z new.1
    (subst (λ m. AllByRecursion (λ (k : Link). k.node < m) rest) (sym (length-set nexts l.node (next_node rest z))) within.1))

pub length-noted : (edges : List ℕ) (circuit : List Link) → length (noted edges circuit) ≡ length edges
length-noted edges [] = refl
length-noted edges (l ∷ rest) = length-noted (set edges l.node l.edge) rest ∙ length-set edges l.node l.edge

pub noted_out : (edges : List ℕ) (circuit : List Link) (x : ℕ) → holds (nodes_of circuit) x ≡ false → get_or (noted edges circuit) x 0 ≡ get_or edges x 0
noted_out edges [] x out = refl
noted_out edges (l ∷ rest) x out = grind (arith, nat_tests, noted_out (set edges l.node l.edge) rest x, get_or-set_other edges l.node x l.edge 0)

pub noted_links : (edges : List ℕ) (circuit : List Link) → AllNew (nodes_of circuit) → AllByRecursion (λ (l : Link). l.node < length edges) circuit
    → links_of (noted edges circuit) (nodes_of circuit) ≡ circuit
noted_links edges [] new within = refl
noted_links edges (l ∷ rest) new within =
    let edges' : List ℕ = set edges l.node l.edge in
    let here : get_or (noted edges' rest) l.node 0 ≡ l.edge = noted_out edges' rest l.node new.0 ∙ get_or-set_same edges l.node l.edge 0 within.0 in
    ap₂ (λ (e : ℕ) (ls : List Link). record { node = l.node; edge = e } ∷ ls) here
    (noted_links edges' rest new.1 (subst (λ m. AllByRecursion (λ (k : Link). k.node < m) rest) (sym (length-set edges l.node l.edge)) within.1))
