-- One list more.
use Rattle.certificates.proofs.Common.{◌≡◌, ℕ, ◌+◌, ◌-◌, ◌<◌, ℤ, pos, List, [], ◌∷◌, ◌++◌, length, map, take, get_or, sym, ap, ap₂, ◌∙◌, arith}
use Rattle.certificates.proofs.Common.{length_push, length-append, length-map, take_more, map-append, take-append-le, take-append_seam, flat_map-append, tabled, tabled-length, tabled-more}
use Rattle.certificates.proofs.Common.{tabled-same, SetLine, PathLine, append_assoc}
use Rattle.std.proofs.lemmas.List.{append-nil}
use Rattle.array_call.specs.declared.laying.Items.{Items}
use Rattle.array_call.specs.Layout.{set_list, lists, leads, all_items, offset_at, offsets}
use Rattle.array_call.specs.Laid.{HasItemsOf}

pub items-more : (xss : List (List ℤ)) (xs : List ℤ) → all_items (xss ++ xs ∷ []) ≡ all_items xss ++ xs
items-more xss xs = flat_map-append (λ (ys : List ℤ). ys) xss (xs ∷ []) ∙ ap (λ (ys : List ℤ). all_items xss ++ ys) (append-nil xs)

abbrev begin_of : List (List ℤ) → ℤ
begin_of xss = pos (length (all_items xss))

-- where the next list begins, if there is one, the lists before it end
offsets-more : (xss yss : List (List ℤ)) → tabled (offset_at (xss ++ yss)) (length xss + 1) ≡ tabled (offset_at xss) (length xss) ++ begin_of xss ∷ []
offsets-more xss yss =
    let before = tabled-same (offset_at (xss ++ yss)) (offset_at xss) (length xss) (λ k b. ap begin_of (take-append-le k xss yss (omega arith))) in
    tabled-more (offset_at (xss ++ yss)) (length xss) ∙ ap₂ (λ ys y. ys ++ y ∷ []) before (ap begin_of (take-append_seam xss yss))

begun : (xss : List (List ℤ)) (m : Items) (ys : List ℤ) → HasItemsOf xss m → ys ≡ m.offsets.items ++ pos (length m.all.items) ∷ []
    → ys ≡ tabled (offset_at xss) (length xss) ++ begin_of xss ∷ []
begun xss m ys has is = is ∙ ap₂ (λ (zs all : List ℤ). zs ++ pos (length all) ∷ []) has.offsets has.all

pub laid-more : (xss : List (List ℤ)) (xs : List ℤ) (old new : Items) → HasItemsOf xss old → new.offsets.items ≡ old.offsets.items ++ pos (length old.all.items) ∷ []
    → new.all.items ≡ old.all.items ++ xs → HasItemsOf (xss ++ xs ∷ []) new
laid-more xss xs old new has offsets all = record {
  offsets = begun xss old new.offsets.items has offsets ∙ sym (offsets-more xss (xs ∷ [])) ∙ ap (tabled (offset_at (xss ++ xs ∷ []))) (sym (length_push xss xs));
  all = all ∙ ap (λ (ys : List ℤ). ys ++ xs) has.all ∙ sym (items-more xss xs);
}

-- with the end of all
pub laid-whole : (xss : List (List ℤ)) (m : Items) (ys : List ℤ) → HasItemsOf xss m → ys ≡ m.offsets.items ++ pos (length m.all.items) ∷ [] → ys ≡ offsets xss
laid-whole xss m ys has is =
    begun xss m ys has is ∙ sym (offsets-more xss []) ∙ ap (λ (zss : List (List ℤ)). tabled (offset_at zss) (length xss + 1)) (append-nil xss)

-- behind other lists one more of those that things have
pub lists-more : {A : Type 0} (f : A → List ℤ) (before : List (List ℤ)) (xs : List A) (k : ℕ) (d : A) → k < length xs
    → (before ++ map f (take k xs)) ++ f (get_or xs k d) ∷ [] ≡ before ++ map f (take (k + 1) xs)
lists-more f before xs k d below =
    append_assoc before (map f (take k xs)) (f (get_or xs k d) ∷ [])
    ∙ ap (λ (yss : List (List ℤ)). before ++ yss) (sym (ap (map f) (take_more xs k d below) ∙ map-append f (take k xs) (get_or xs k d ∷ [])))

abbrev edges : PathLine → List ℤ
edges r = r.edges

abbrev start : PathLine → ℤ
start r = r.vertex

abbrev dual : SetLine → ℤ
dual z = z.dual

-- one offset more than there are lists, and a lead for each of these
pub leads-count : (sets : List SetLine) (paths : List PathLine) (ys : List ℤ) → ys ≡ offsets (lists sets paths) → length ys - 1 ≡ length (leads sets paths)
leads-count sets paths ys is =
    let xss = lists sets paths in
    let all : length ys ≡ length xss + 1 = ap (λ (zs : List ℤ). length zs) is ∙ tabled-length (offset_at xss) (length xss + 1) in
    let items : length xss ≡ length (map set_list sets) + length (map edges paths) = length-append (map set_list sets) (map edges paths) in
    let heads : length (leads sets paths) ≡ length (map dual sets) + length (map start paths) = length-append (map dual sets) (map start paths) in
    omega (arith, length-map sets set_list, length-map paths edges, length-map sets dual, length-map paths start)
