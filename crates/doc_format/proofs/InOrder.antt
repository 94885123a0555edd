-- The parts of a document stand in order, on whatever lines.
use Rattle.graph_theory.proofs.Common.{◌≡◌, ℕ, zero, suc, ◌+◌, ◌<◌, Bool, true, List, [], ◌∷◌, ◌++◌, length, map, take, get_or, ℤ, refl, ap, ◌∙◌, arith}
use Rattle.graph_theory.proofs.Common.{int_lt, list_all, and_parts, and_from, list_all-append, All-get_or, All-take, AllPass-from_list_all, list_all-from_AllPass}
use Rattle.mb_problem.specs.declared.kind.Kind.{Kind}
use Rattle.doc_format.specs.declared.status.DocStatus.{DocStatus}
use Rattle.doc_format.specs.declared.part.Part.{Part}
use Rattle.doc_format.specs.Parts.{on_line}
use Rattle.doc_format.specs.Form.{ascends, may_follow, in_order, takes, admits, is_formed}
use Rattle.doc_format.proofs.PartLaws.{line_laws}
use Rattle.doc_format.proofs.PartsBack.{on_lines}

pub all_joined : {A : Type 0} (p : A → Bool) (xs ys : List A) → list_all p xs ≡ true → list_all p ys ≡ true → list_all p (xs ++ ys) ≡ true
all_joined p xs ys h k = list_all-append p xs ys ∙ and_from (list_all p xs) (list_all p ys) h k

pub all_mapped : {A B : Type 0} (p : B → Bool) (f : A → B) (xs : List A) → ((x : A) → p (f x) ≡ true) → list_all p (map f xs) ≡ true
all_mapped p f [] h = refl
all_mapped p f (x ∷ xs) h = and_from (p (f x)) (list_all p (map f xs)) (h x) (all_mapped p f xs h)

pub passes : {A : Type 0} (p : A → Bool) (xs : List A) (k : ℕ) (d : A) → list_all p xs ≡ true → k < length xs → p (get_or xs k d) ≡ true
passes p xs k d h lt = All-get_or (λ x. p x ≡ true) xs k d lt (AllPass-from_list_all p xs h)

pub all_taken : {A : Type 0} (p : A → Bool) (xs : List A) (k : ℕ) → list_all p xs ≡ true → list_all p (take k xs) ≡ true
all_taken p xs k h = list_all-from_AllPass p (take k xs) (All-take (λ x. p x ≡ true) k xs (AllPass-from_list_all p xs h))

pub ascends_tail : (z : ℤ) (zs : List ℤ) → ascends (z ∷ zs) ≡ true → ascends zs ≡ true
ascends_tail z [] h = refl
ascends_tail z (y ∷ zs) h = (and_parts (int_lt z y) (ascends (y ∷ zs)) h).1

-- what stands before a place may be followed by what stands there
pub in_order_at : (parts : List Part) (k : ℕ) (none : Part) → in_order parts ≡ true → k < length parts →
    list_all (λ earlier. may_follow earlier (get_or parts k none)) (take k parts) ≡ true
in_order_at [] k none h lt = absurd (omega arith)
in_order_at (p ∷ ps) zero none h lt = refl
in_order_at (p ∷ ps) (suc k) none h lt =
    let b = and_parts (list_all (may_follow p) ps) (in_order ps) h in
    let next = get_or ps k none in
    and_from (may_follow p next) (list_all (λ earlier. may_follow earlier next) (take k ps)) (passes (may_follow p) ps k none b.0 (omega arith)) (in_order_at ps k none b.1 (omega arith))

-- ---- the line of a part doesn't matter

pub admits-line : (status : DocStatus) (kind : Kind) (n : ℕ) (part : Part) → admits status kind (on_line n part) ≡ admits status kind part
admits-line status kind n part = ap (takes status kind) (line_laws n part).same_letter

may_follow-line : (n m : ℕ) (p q : Part) → may_follow (on_line n p) (on_line m q) ≡ may_follow p q
may_follow-line n m p q = rw ((line_laws n p).same_letter, (line_laws m q).same_letter, (line_laws n p).same_key, (line_laws m q).same_key) refl

-- a test that doesn't see lines
same_tests : (p q : Part → Bool) → ((m : ℕ) (part : Part) → p (on_line m part) ≡ q part) → (n : ℕ) (parts : List Part) → list_all p (on_lines n parts) ≡ list_all q parts
same_tests p q same n [] = refl
same_tests p q same n (part ∷ parts) = rw (same n part, same_tests p q same (n + 1) parts) refl

pub follow-lines : (n m : ℕ) (parts : List Part) (part : Part) →
    list_all (λ earlier. may_follow earlier (on_line m part)) (on_lines n parts) ≡ list_all (λ earlier. may_follow earlier part) parts
follow-lines n m parts part = same_tests (λ earlier. may_follow earlier (on_line m part)) (λ earlier. may_follow earlier part) (λ k p. may_follow-line k m p part) n parts

pub admitted-lines : (status : DocStatus) (kind : Kind) (n : ℕ) (parts : List Part) → list_all (admits status kind) (on_lines n parts) ≡ list_all (admits status kind) parts
admitted-lines status kind n parts = same_tests (admits status kind) (admits status kind) (admits-line status kind) n parts

pub order-lines : (n : ℕ) (parts : List Part) → in_order (on_lines n parts) ≡ in_order parts
order-lines n [] = refl
order-lines n (part ∷ parts) = rw (same_tests (may_follow (on_line n part)) (may_follow part) (λ m q. may_follow-line n m part q) (n + 1) parts, order-lines (n + 1) parts) refl

pub formed-lines : (n : ℕ) (parts : List Part) → list_all is_formed (on_lines n parts) ≡ list_all is_formed parts
formed-lines n parts = same_tests is_formed is_formed (λ m part. (line_laws m part).same_form) n parts
