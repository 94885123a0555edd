-- The items of the sets of a document: no reference is below 0.
use Rattle.certificates.proofs.Common.{◌≡◌, ℕ, ◌+◌, ◌<◌, true, List, [], ◌∷◌, ◌++◌, length, map, take, get_or, All, refl, ap, sym, subst, ◌∙◌}
use Rattle.certificates.proofs.Common.{map-append, take_more, list_all, and_parts, and_from, All-nil, All-cons, All-head, All-tail, All-push, Document, SetItem, SetLine, is_item, is_formed}
use Rattle.certificates.proofs.Common.{body_of}
use Rattle.doc_format.proofs.PartLaws.{part_by_part}
use Rattle.array_call.specs.Sheets.{HasItems}
use Rattle.doc_format.specs.declared.part.Part.TheVariants as part

every-item : (xs : List SetItem) → All (λ x. is_item x ≡ true) xs → list_all is_item xs ≡ true
every-item [] h = refl
every-item (x ∷ xs) h = and_from (is_item x) (list_all is_item xs) (All-head (λ x. is_item x ≡ true) x xs h) (every-item xs (All-tail (λ x. is_item x ≡ true) x xs h))

pub sets-formed : (sets : List SetLine) → All HasItems sets → list_all is_formed (map part.Set sets) ≡ true
sets-formed [] h = refl
sets-formed (z ∷ sets) h =
    and_from (list_all is_item z.items) (list_all is_formed (map part.Set sets)) (every-item z.items (All-head HasItems z sets h)) (sets-formed sets (All-tail HasItems z sets h))

all-items : (xs : List SetItem) → list_all is_item xs ≡ true → All (λ x. is_item x ≡ true) xs
all-items [] h = All-nil (λ x. is_item x ≡ true)
all-items (x ∷ xs) h = (let both = and_parts (is_item x) (list_all is_item xs) h in All-cons (λ x. is_item x ≡ true) x xs both.0 (all-items xs both.1))

all-sets : (sets : List SetLine) → list_all is_formed (map part.Set sets) ≡ true → All HasItems sets
all-sets [] h = All-nil HasItems
all-sets (z ∷ sets) h =
    let both = and_parts (list_all is_item z.items) (list_all is_formed (map part.Set sets)) h in
    All-cons HasItems z sets (all-items z.items both.0) (all-sets sets both.1)

pub document-items : (d : Document) → All HasItems d.sets
document-items d = all-sets d.sets (part_by_part is_formed (body_of d) d.form.formed).sets

-- ---- one more, which is made of the number at a place

pub made-more : {X Y : Type 0} (f : X → Y) (xs ys : List X) (x : X) (ns : List Y) (k : ℕ) (d : Y) → k < length ns → ys ≡ xs ++ x ∷ [] → map f xs ≡ take k ns
    → f x ≡ get_or ns k d → map f ys ≡ take (k + 1) ns
made-more f xs ys x ns k d low more before is =
    ap (map f) more
    ∙ map-append f xs (x ∷ [])
    ∙ ap (λ zs. zs ++ f x ∷ []) before
    ∙ ap (λ y. take k ns ++ y ∷ []) is
    ∙ sym (take_more ns k d low)

pub all-more : {X : Type 0} (P : X → Type 0) (xs ys : List X) (x : X) → ys ≡ xs ++ x ∷ [] → All P xs → P x → All P ys
all-more P xs ys x more h p = subst (All P) (sym more) (All-push P xs x h p)
