-- Lists of links in two parts, and lists of different numbers in two parts.
use Rattle.graph_theory.proofs.Common.{nat_tests, ◌≡◌, ℕ, ◌+◌, ◌<◌, true, false, ◌||◌, List, [], ◌∷◌, ◌++◌, drop, length, refl, ap, ◌∙◌, arith, get_or}
use Rattle.graph_theory.proofs.Common.{sym, map, AllByRecursion, holds, holds-append}
use Rattle.std.proofs.lemmas.List.{drop_more}
use Rattle.blossom_arena.specs.declared.runs.Run.{Run}
use Rattle.blossom_arena.specs.declared.links.Link.{Link}
use Rattle.blossom_arena.specs.Family.{nodes_of, in_ring}
use Rattle.blossom_arena.proofs.Lists.{AllNew, first_in, later_in}

pub nodes_of-append : (xs ys : List Link) → nodes_of (xs ++ ys) ≡ nodes_of xs ++ nodes_of ys
nodes_of-append [] ys = refl
nodes_of-append (x ∷ xs) ys = ap (λ t. x.node ∷ t) (nodes_of-append xs ys)

pub in_ring-append : (xs ys : List Link) (c : ℕ) → in_ring (xs ++ ys) c ≡ (in_ring xs c || in_ring ys c)
in_ring-append xs ys c = ap (λ t. holds t c) (nodes_of-append xs ys) ∙ holds-append (nodes_of xs) (nodes_of ys) c

-- what holds of each element of both parts
pub each_parts : {X : Type 0} (P : X → Type 0) (xs ys : List X) → AllByRecursion P (xs ++ ys) → AllByRecursion P xs × AllByRecursion P ys
each_parts P [] ys h = (tt, h)
each_parts P (x ∷ xs) ys h = let r = each_parts P xs ys h.1 in ((h.0, r.0), r.1)

pub each_whole : {X : Type 0} (P : X → Type 0) (xs ys : List X) → AllByRecursion P xs → AllByRecursion P ys → AllByRecursion P (xs ++ ys)
each_whole P [] ys h k = k
each_whole P (x ∷ xs) ys h k = (h.0, each_whole P xs ys h.1 k)

-- different numbers, in two parts
pub record AreApart (xs ys : List ℕ) : Type 0 where
  pub left : AllNew xs
  pub right : AllNew ys
  pub apart : (v : ℕ) → holds ys v ≡ true → holds xs v ≡ false

pub new_parts : (xs ys : List ℕ) → AllNew (xs ++ ys) → AreApart xs ys
new_parts [] ys h = record { left = tt; right = h; apart = λ v e. refl }
new_parts (x ∷ xs) ys h =
    let r = new_parts xs ys h.1 in
    record { left = (grind (arith, holds-append xs ys x, h.0), r.left); right = r.right; apart = λ v e. grind (arith, nat_tests, holds-append xs ys x, h.0, r.apart v) }

-- what is true of each node that links go through is true of each link's node
pub each_link : (P : ℕ → Type 0) (links : List Link) → ((x : ℕ) → in_ring links x ≡ true → P x) → AllByRecursion (λ (l : Link). P l.node) links
each_link P [] h = tt
each_link P (l ∷ links) h = (h l.node (first_in l.node (nodes_of links)), each_link P links (λ x e. h x (later_in l.node (nodes_of links) x e)))

-- and of the run of each
pub each_run : (P : Run → Type 0) (run : ℕ → Run) (links : List Link) → ((x : ℕ) → in_ring links x ≡ true → P (run x))
    → AllByRecursion P (map (λ (l : Link). run l.node) links)
each_run P run [] h = tt
each_run P run (l ∷ links) h = (h l.node (first_in l.node (nodes_of links)), each_run P run links (λ x e. h x (later_in l.node (nodes_of links) x e)))

pub all_inside : (ring : List Link) → AllByRecursion (λ (l : Link). in_ring ring l.node ≡ true) ring
all_inside ring = each_link (λ x. in_ring ring x ≡ true) ring (λ x e. e)

-- what is left of a list begins with the one that is read
pub drop_next : (xs : List Link) (i : ℕ) (x : Link) → i < length xs → x ≡ get_or xs i x → drop i xs ≡ x ∷ drop (i + 1) xs
drop_next xs i x low e = drop_more xs i x low ∙ ap (λ (y : Link). y ∷ drop (i + 1) xs) (sym e)
