-- A list of what a function gives, one longer.
use Rattle.certificates.proofs.Common.{◌≡◌, ℕ, ◌+◌, ◌<◌, List, [], ◌∷◌, ◌++◌, length, get_or, take, map, sym, ap, ◌∙◌, map_more, append_assoc}

-- some items, f of each one so far, and then f of the next
pub mapped-more : {X Y : Type 0} (f : X → Y) (xs : List X) (k : ℕ) (x : X) (y : Y) (us ys zs : List Y) → k < length xs → ys ≡ us ++ map f (take k xs) →
    y ≡ f (get_or xs k x) → zs ≡ ys ++ y ∷ [] → zs ≡ us ++ map f (take (k + 1) xs)
mapped-more {X} {Y} f xs k x y us ys zs inside so_far is longer =
    let before : List Y = map f (take k xs) in
    longer ∙ ap (λ (vs : List Y). vs ++ y ∷ []) so_far ∙ append_assoc us before (y ∷ [])
    ∙ ap (λ (vs : List Y). us ++ vs) (ap (λ (v : Y). before ++ v ∷ []) is ∙ sym (map_more f xs k x inside))
