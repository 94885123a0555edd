use Rattle.mb_problem.proofs.Common.{◌≡◌, ℕ, ℤ, List, [], ◌∷◌, ◌++◌, sym, ap, ◌∙◌, rules, to_z, of_z, w64, flat_map}
use Rattle.mb_problem.specs.Kinds.{kind_text}
use Rattle.std.proofs.lemmas.List.{append_assoc}
use Rattle.doc_format.specs.Status.{status_text}
use Rattle.doc_format.specs.Spelling.{after_space, weight_fields}
use Rattle.doc_format.proofs.Spelled.{on_ok}
use Rattle.doc_format.proofs.spelling.put_head.Goals as goal

-- a piece, and what was put after it
then : (u v p q : List ℕ) (w : List ℕ) → v ≡ u ++ p → w ≡ v ++ q → w ≡ u ++ (p ++ q)
then u v p q w first second = second ∙ ap (λ (bytes : List ℕ). bytes ++ q) first ∙ append_assoc u p q

-- the pieces of a first line
pieces : (s k w : List ℕ) → s ++ (32 ∷ (k ++ (w ++ 10 ∷ []))) ≡ (s ++ 32 ∷ (k ++ w)) ++ 10 ∷ []
pieces s k w = ap (λ (bytes : List ℕ). s ++ 32 ∷ bytes) (sym (append_assoc k w (10 ∷ []))) ∙ sym (append_assoc s (32 ∷ (k ++ w)) (10 ∷ []))

pub returns : goal.returns
returns c =
    let s = status_text c.args.status in
    let k = kind_text c.args.kind in
    let fields = weight_fields c.args.status c.args.weight in
    let same : to_z w64 (of_z w64 c.args.weight) ≡ c.args.weight = search rules in
    let weight = c.in_ok-put_weight.ensures ∙ ap (λ (w : ℤ). c.extend_from_slice-3.new.self.items ++ flat_map after_space (weight_fields c.args.status w)) same in
    let name = c.in_ok-extend_from_slice-2.ensures.items ∙ ap (λ (bytes : List ℕ). c.extend_from_slice.new.self.items ++ bytes) c.name.ensures in
    let kind = c.in_ok-extend_from_slice-3.ensures.items ∙ ap (λ (bytes : List ℕ). c.put_byte.new.out.items ++ bytes) c.name-2.ensures.text in
    on_ok c.put_byte-2.result (λ last.
    then _ _ (115 ∷ 32 ∷ []) _ _ c.in_ok-extend_from_slice.ensures.items
    (then _ _ s _ _ name (then _ _ (32 ∷ []) _ _ c.in_ok-put_byte.ensures
    (then _ _ k _ _ kind (then _ _ (flat_map after_space fields) (10 ∷ []) _ weight last))))
    ∙ ap (λ (bytes : List ℕ). c.args.out.now.items ++ 115 ∷ 32 ∷ bytes) (pieces s k (flat_map after_space fields))) c.put_byte-2.ensures
