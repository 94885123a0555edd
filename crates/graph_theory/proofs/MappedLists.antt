-- A list of what a function gives, and of the numbers that stand where a list says, one longer.
use Rattle.graph_theory.proofs.Common.{◌≡◌, ℕ, ◌+◌, ◌-◌, ◌<◌, ◌≤◌, List, [], ◌∷◌, ◌++◌, length, get_or, slice_index, take, map, All, sym, ap, ◌∙◌}
use Rattle.graph_theory.proofs.Common.{arith, map_more}
use Rattle.std.proofs.lemmas.Grind.{get_or_default_zero}

-- what holds f of each item so far, and then f of the next
pub mapped-more : {X Y : Type 0} (f : X → Y) (xs : List X) (k : ℕ) (x : X) (y : Y) (ys zs : List Y) → k < length xs → ys ≡ map f (take k xs)
    → y ≡ f (get_or xs k x) → zs ≡ ys ++ y ∷ [] → zs ≡ map f (take (k + 1) xs)
mapped-more {X} {Y} f xs k x y ys zs inside so_far is longer =
    longer ∙ ap (λ (vs : List Y). vs ++ y ∷ []) so_far ∙ ap (λ (v : Y). map f (take k xs) ++ v ∷ []) is ∙ sym (map_more f xs k x inside)

-- the number y that stands where the next edge e says
pub numbered-more : (numbers es : List ℕ) (k e place y : ℕ) (ys zs : List ℕ) → All (λ x. (1 ≤ x) × (x ≤ length numbers)) es → k < length es
    → ys ≡ map (λ x. slice_index numbers (x - 1)) (take k es) → e ≡ get_or es k e → place ≡ e → y ≡ get_or numbers (place - 1) y → zs ≡ ys ++ y ∷ []
    → zs ≡ map (λ x. slice_index numbers (x - 1)) (take (k + 1) es)
numbered-more numbers es k e place y ys zs all inside so_far is same read longer =
    let range : (1 ≤ get_or es k e) × (get_or es k e ≤ length numbers) = all k e inside in
    let within : place - 1 < length numbers = omega (arith, range.0, range.1, is, same) in
    let next = read ∙ get_or_default_zero numbers (place - 1) y within ∙ ap (λ (n : ℕ). slice_index numbers (n - 1)) (same ∙ is) in
    mapped-more (λ x. slice_index numbers (x - 1)) es k e y ys zs inside so_far next longer
