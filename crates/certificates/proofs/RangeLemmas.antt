-- The first fault of the lines of a document, letter by letter.
use Rattle.graph_theory.proofs.Common.{◌≡◌, ℕ, ◌+◌, Bool, not, List, [], ◌∷◌, ◌++◌, map, Option, None, Some, refl, sym, ap, ap₂, ◌∙◌, arith, option_map, AllByRecursion}
use Rattle.graph_theory.proofs.Common.{option_or, find-append}
use Rattle.doc_format.specs.declared.part.Part.{Part}
use Rattle.doc_format.specs.declared.part.Part.TheVariants.{Set}
use Rattle.doc_format.specs.Parts.{Body, parts_of, line_of, set_count}
use Rattle.doc_format.proofs.Tests.{joined}
use Rattle.doc_format.proofs.PartLaws.{HasNoSets, before_sets, after_sets, by_letter, joined_parts, none_before, none_after}
use Rattle.certificates.specs.Ranges.{Checked, first_fault, in_range, checked}

option_or-line : (a b : Option Checked) → option_map (λ l. l.line) (option_or a b) ≡ option_or (option_map (λ l. l.line) a) (option_map (λ l. l.line) b)
option_or-line None b = refl
option_or-line (Some x) b = refl

-- what is at fault first of two lists of lines
first-append : (xs ys : List Checked) → first_fault (xs ++ ys) ≡ option_or (first_fault xs) (first_fault ys)
first-append xs ys = rw (find-append (λ (l : Checked). not l.in_range) xs ys, option_or-line) refl

-- the first fault of several lists, by that of each
abbrev pub first_of : List (Option ℕ) → Option ℕ
first_of [] = None
first_of (o ∷ []) = o
first_of (o ∷ p ∷ os) = option_or o (first_of (p ∷ os))

or-none : (o : Option ℕ) → o ≡ option_or o None
or-none None = refl
or-none (Some k) = refl

pub first_of-cons : (o : Option ℕ) (os : List (Option ℕ)) → first_of (o ∷ os) ≡ option_or o (first_of os)
first_of-cons o [] = or-none o
first_of-cons o (p ∷ os) = refl

-- how many z lines there are
abbrev sets_in : List Part → ℕ
sets_in [] = 0
sets_in (part ∷ parts) = set_count part + sets_in parts

no-sets_in : (parts : List Part) → HasNoSets parts → sets_in parts ≡ 0
no-sets_in [] none = refl
no-sets_in (part ∷ parts) none = omega (arith, none.0, no-sets_in parts none.1)

module _ (n m p : ℕ) where
  -- each z line counts for the lines after it
  checked-append : (k : ℕ) (xs ys : List Part) → checked n m p k (xs ++ ys) ≡ checked n m p k xs ++ checked n m p (k + sets_in xs) ys
  checked-append k [] ys = (let same : k ≡ k + 0 = omega arith in ap (λ (j : ℕ). checked n m p j ys) same)
  checked-append k (x ∷ xs) ys =
      let here : Checked = record { line = line_of x; in_range = in_range n m p k x } in
      let j = k + set_count x in
      let same : j + sets_in xs ≡ k + (set_count x + sets_in xs) = omega arith in
      ap (λ (cs : List Checked). here ∷ cs) (checked-append j xs ys ∙ ap (λ (q : ℕ). checked n m p j xs ++ checked n m p q ys) same)

  -- and for none of another letter
  range-alike : (k : ℕ) (part : Part) → set_count part ≡ 0 → in_range n m p k part ≡ in_range n m p 0 part
  range-alike k (Set z) none = absurd (omega (arith, none))
  range-alike k other none = refl

  alike : (k : ℕ) (parts : List Part) → HasNoSets parts → checked n m p k parts ≡ checked n m p 0 parts
  alike k [] none = refl
  alike k (x ∷ xs) none =
      let here : Checked = record { line = line_of x; in_range = in_range n m p 0 x } in
      ap (λ (b : Bool). record { line = line_of x; in_range = b } ∷ checked n m p (k + set_count x) xs) (range-alike k x none.0)
      ∙ ap (λ (cs : List Checked). here ∷ cs) (alike (k + set_count x) xs none.1 ∙ sym (alike (0 + set_count x) xs none.1))

  -- what is at fault first in a list of lines, after k z lines or after none
  abbrev fault_after : ℕ → List Part → Option ℕ
  fault_after k parts = first_fault (checked n m p k parts)

  abbrev pub fault_in : List Part → Option ℕ
  fault_in parts = fault_after 0 parts

  fault-append : (k : ℕ) (xs ys : List Part) → fault_after k (xs ++ ys) ≡ option_or (fault_after k xs) (fault_after (k + sets_in xs) ys)
  fault-append k xs ys = ap first_fault (checked-append k xs ys) ∙ first-append (checked n m p k xs) (checked n m p (k + sets_in xs) ys)

  -- lists without z lines
  first-after : (k : ℕ) (lists : List (List Part)) → AllByRecursion HasNoSets lists → fault_after k (joined lists) ≡ first_of (map fault_in lists)
  first-after k [] none = refl
  first-after k (parts ∷ lists) none =
      fault-append k parts (joined lists)
      ∙ ap₂ option_or (ap first_fault (alike k parts none.0)) (first-after (k + sets_in parts) lists none.1)
      ∙ sym (first_of-cons (fault_in parts) (map fault_in lists))

  -- a list with z lines between lists without
  first-around : (before : List (List Part)) (sets : List Part) (after : List (List Part)) → AllByRecursion HasNoSets before → AllByRecursion HasNoSets after →
      fault_in (joined (before ++ sets ∷ after)) ≡ first_of (map fault_in (before ++ sets ∷ after))
  first-around [] sets after none others =
      fault-append 0 sets (joined after)
      ∙ ap (option_or (fault_in sets)) (first-after (0 + sets_in sets) after others)
      ∙ sym (first_of-cons (fault_in sets) (map fault_in after))
  first-around (parts ∷ before) sets after none others =
      let lists = before ++ sets ∷ after in
      let start : 0 + sets_in parts ≡ 0 = omega (arith, no-sets_in parts none.0) in
      fault-append 0 parts (joined lists)
      ∙ ap (λ (k : ℕ). option_or (fault_in parts) (fault_after k (joined lists))) start
      ∙ ap (option_or (fault_in parts)) (first-around before sets after none.1 others)
      ∙ sym (first_of-cons (fault_in parts) (map fault_in lists))

  -- the first fault of a document, letter by letter
  pub first_of_all : (b : Body) → fault_in (parts_of b) ≡ first_of (map fault_in (by_letter b))
  first_of_all b = ap fault_in (sym (joined_parts b)) ∙ first-around (before_sets b) (map Set b.sets) (after_sets b) (none_before b) (none_after b)
