-- A text by pieces, one after another.
use Rattle.mb_problem.proofs.Common.{◌≡◌, ℕ, ◌+◌, ◌<◌, List, [], ◌∷◌, ◌++◌, length, take, get_or, map, sym, ap, ◌∙◌, append-nil, Result, Ok, Err, flat_map}
use Rattle.std.specs.Result.{OnOk}
use Rattle.std.proofs.lemmas.List.{append_assoc, map_more, map-append}
use Rattle.std.proofs.lemmas.Grind.{flat_map-append}
use Rattle.doc_format.specs.Spelling.{after_space, row_text, part_row, parts_text}

-- a text of a list is that of its pieces
abbrev pub Adds : {X : Type 0} → (List X → List ℕ) → Type 0
Adds {X} text = (ps qs : List X) → text (ps ++ qs) ≡ text ps ++ text qs

pub spaced-adds : Adds (flat_map after_space)
spaced-adds ps qs = flat_map-append after_space ps qs

pub parts-adds : Adds parts_text
parts-adds ps qs = ap (flat_map row_text) (map-append part_row ps qs) ∙ flat_map-append row_text (map part_row ps) (map part_row qs)

pub spelled-then : {X : Type 0} (text : List X → List ℕ) (ps qs : List X) (out next last : List ℕ) → Adds text → next ≡ out ++ text ps → last ≡ next ++ text qs →
    last ≡ out ++ text (ps ++ qs)
spelled-then text ps qs out next last adds first second =
    second ∙ ap (λ (bytes : List ℕ). bytes ++ text qs) first ∙ append_assoc out (text ps) (text qs) ∙ ap (λ (bytes : List ℕ). out ++ bytes) (sym (adds ps qs))

-- the text of the items so far, and then that of the next
pub spelled-more : {X Y : Type 0} (text : List Y → List ℕ) (f : X → Y) (xs : List X) (k : ℕ) (x : X) (piece out so_far next : List ℕ) → Adds text → k < length xs →
    so_far ≡ out ++ text (map f (take k xs)) → piece ++ [] ≡ text (f (get_or xs k x) ∷ []) → next ≡ so_far ++ piece → next ≡ out ++ text (map f (take (k + 1) xs))
spelled-more {X} {Y} text f xs k x piece out so_far next adds inside before is longer =
    let last : next ≡ so_far ++ text (f (get_or xs k x) ∷ []) = longer ∙ ap (λ (bytes : List ℕ). so_far ++ bytes) (sym (append-nil piece) ∙ is) in
    spelled-then text (map f (take k xs)) (f (get_or xs k x) ∷ []) out so_far next adds before last
    ∙ ap (λ (ys : List Y). out ++ text ys) (sym (map_more f xs k x inside))

pub on_ok : {T E P Q : Type 0} (r : Result T E) → (P → Q) → OnOk r P → OnOk r Q
on_ok (Ok t) f p = f p
on_ok (Err e) f p = tt
