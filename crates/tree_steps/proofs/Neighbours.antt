-- Links that are gone through two by two.
use Rattle.alt_forest.proofs.Common.{◌≡◌, ℕ, suc, ◌-◌, ◌<◌, ◌≤◌, ◌%◌, List, [], ◌∷◌, ◌++◌, length, get_or, take, drop, Option, refl, sym, ap, ap₂}
use Rattle.alt_forest.proofs.Common.{◌+◌, ◌∙◌, arith, take_rest, take-append-drop, drop_all, AllByRecursion, Link, each_parts}
use Rattle.std.proofs.Math.Seq.{drop-cons}
use Rattle.tree_steps.specs.Expanded.{mated}

-- the first two, and the rest
pub two_first : (ls : List Link) (a b : Link) → 2 ≤ length ls → a ≡ get_or ls 0 a → b ≡ get_or ls 1 b → ls ≡ a ∷ (b ∷ take (length ls - 2) (drop 2 ls))
two_first [] a b h p q = absurd (omega (arith, h))
two_first (x ∷ []) a b h p q = absurd (omega (arith, h))
two_first (x ∷ (y ∷ ls)) a b h p q = ap₂ (λ (k l : Link). k ∷ (l ∷ ls)) (sym p) (sym q) ∙ ap (λ (ks : List Link). a ∷ (b ∷ ks)) (sym (take_rest (x ∷ (y ∷ ls)) 2))

-- the last two, and those before them
pub two_last : (ls : List Link) (a b : Link) → 2 ≤ length ls → a ≡ get_or ls (length ls - 2) a → b ≡ get_or ls (length ls - 1) b → ls ≡ take (length ls - 2) ls ++
    (a ∷ (b ∷ []))
two_last ls a b h p q =
    let n : ℕ = length ls - 2 in let next : suc n ≡ length ls - 1 = omega (arith, h) in
    sym (take-append-drop n ls) ∙ ap (λ (ks : List Link). take n ls ++ ks)
    (drop-cons ls n a (omega (arith, h)) ∙ ap₂ (λ (k : Link) (ks : List Link). k ∷ ks) (sym p)
    (drop-cons ls (suc n) b (omega (arith, h)) ∙ ap₂ (λ (k : Link) (ks : List Link). k ∷ ks) (ap (λ i. get_or ls i b) next ∙ sym q) (drop_all (suc (suc n)) ls (omega (arith, h)))))

-- fewer than two change nothing more
pub mated_end : (m : ℕ → Option ℕ) (ls : List Link) → length ls < 2 → mated m ls ≡ m
mated_end m [] h = refl
mated_end m (a ∷ []) h = refl
mated_end m (a ∷ (b ∷ ls)) h = absurd (omega (arith, h))

-- of an even number none is left then
pub none_left : (ls : List Link) → length ls < 2 → length ls % 2 ≡ 0 → ls ≡ []
none_left [] h even = refl
none_left (a ∷ []) h even = absurd (omega (arith, even))
none_left (a ∷ (b ∷ ls)) h even = absurd (omega (arith, h))

-- two links less are of the same parity
pub even_rest : (ls rest : List Link) (a b : Link) → ls ≡ a ∷ (b ∷ rest) → length ls % 2 ≡ 0 → length rest % 2 ≡ 0
even_rest ls rest a b split even = omega (arith, ap length split, even)

-- lists with a place for each node have one for those of links, before a place and from it on
low_placed : (k len : ℕ) (ls : List Link) → len ≡ k + 1 → AllByRecursion (λ (l : Link). l.node ≤ k) ls → AllByRecursion (λ (l : Link). l.node < len) ls
low_placed k len [] is low = tt
low_placed k len (l ∷ ls) is low = (omega (arith, is, low.0), low_placed k len ls is low.1)

pub placed : (k len n : ℕ) (ls : List Link) → len ≡ k + 1 → AllByRecursion (λ (l : Link). l.node ≤ k) ls
    → AllByRecursion (λ (l : Link). l.node < len) (take n ls) × AllByRecursion (λ (l : Link). l.node < len) (drop n ls)
placed k len n ls is low = each_parts (λ (l : Link). l.node < len) (take n ls) (drop n ls) (rw take-append-drop (low_placed k len ls is low))
