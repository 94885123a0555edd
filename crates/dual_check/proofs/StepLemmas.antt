-- One more set in each of the tables that trees of sets are made from.
use Rattle.graph_theory.proofs.Common.{◌≡◌, ◌≢◌, ◌∙◌, sym, ap, ap₂, subst, inl, inr, arith, ℕ, ◌+◌, ◌-◌, ◌<◌, ◌≤◌, ◌⊎◌, true, false, cond, eqb}
use Rattle.graph_theory.proofs.Common.{List, [], ◌∷◌, ◌++◌, length, set, take, All, length-append, get_or-append_seam, cases_lt, cases_eq, cases_Bool, eq-eqb, or_parts}
use Rattle.graph_theory.proofs.Common.{false≢true, false_from_ne_true, get_or_append_left, get_or-take, length-take-le, IsStrictlyIncreasing, holds, given_at, AreEarlier, sum_to-same}
use Rattle.graph_theory.proofs.Common.{holds-take, holds_at, holds_all, not_before, get_or, get_or_read, no_given, Bool, ◌||◌, ne_eqb, or_right, or-false}
use Rattle.graph_theory.specs.declared.odd_set.OddSet.{OddSet}
use Rattle.std.proofs.Common.{get_or-set_same, get_or-set_other, length-set}
use Rattle.dual_check.specs.Forests.{AreItemLists}
use Rattle.dual_check.specs.Trees.{number_at, before, whole_size, roots_to, AreSizes, IsSpreadFrom}
use Rattle.dual_check.proofs.TreeLemmas.{root_next, inner_next, parent_of, parent_within, fits}

-- what a set refers to are earlier sets
pub range_of : (sets : List OddSet) (s : OddSet) (j m : ℕ) → AreEarlier sets → j < length sets → s ≡ given_at sets j → j ≤ m → All (λ r. (1 ≤ r) × (r ≤ m)) s.references
range_of sets s j m earlier b is c = λ k d e.
    let r = subst (λ (z : OddSet). All (λ r. (1 ≤ r) × (r ≤ j)) z.references) (sym is) (earlier j b) k d e in
    (r.0, omega (arith, r.1))

-- ---- parents

-- the parents that the first i sets are
pub record AreParentsTo (sets : List OddSet) (n i : ℕ) (parents : List ℕ) : Type 0 where
  pub size : length parents ≡ n
  pub later : (k : ℕ) → k < n → number_at parents k < n → k < number_at parents k
  pub refers : (k : ℕ) → k < n → number_at parents k < n → holds (given_at sets (number_at parents k)).references (k + 1) ≡ true
  pub known : (j r : ℕ) → j < i → holds (given_at sets j).references r ≡ true → number_at parents (r - 1) ≡ j

pub parents_next : (sets : List OddSet) (n j : ℕ) (old new : List ℕ) → AreEarlier sets → AreItemLists sets n → n ≤ length sets → j < n
    → length new ≡ length old → ((k : ℕ) → number_at new k ≡ cond (holds (given_at sets j).references (k + 1)) j (number_at old k))
    → AreParentsTo sets n j old → AreParentsTo sets n (j + 1) new
parents_next sets n j old new earlier lists few b size noted so =
    let Refers : ℕ → ℕ → Type 0 = λ i r. holds (given_at sets i).references r ≡ true in
    let range : (i r : ℕ) → i ≤ j → Refers i r → (1 ≤ r) × (r ≤ i) = λ i r c h. holds_all (λ r. (1 ≤ r) × (r ≤ i)) (given_at sets i).references r (earlier i
    (omega arith)) h in
    let read : (k : ℕ) → (Refers j (k + 1) × (number_at new k ≡ j)) ⊎ ((holds (given_at sets j).references (k + 1) ≡ false) × (number_at new k ≡ number_at old k)) = λ k.
    elim (cases_Bool (holds (given_at sets j).references (k + 1))) [
      | inl e ↦ inl (e, noted k ∙ ap (λ t. cond t j (number_at old k)) e)
      | inr e ↦ inr (e, noted k ∙ ap (λ t. cond t j (number_at old k)) e)
    ] in
    record {
      size = size ∙ so.size;
      later = λ k c d. elim (read k) [
        | inl e ↦ let r = range j (k + 1) (omega arith) e.0 in omega (arith, e.1, r.1)
        | inr e ↦ let r = so.later k c (omega (arith, e.1, d)) in omega (arith, e.1, r)
      ];
      refers = λ k c d. elim (read k) [
        | inl e ↦ subst (λ z. Refers z (k + 1)) (sym e.1) e.0
        | inr e ↦ subst (λ z. Refers z (k + 1)) (sym e.1) (so.refers k c (omega (arith, e.1, d)))
      ];
      known = λ i r c h.
          let whole = ap (holds (given_at sets j).references) (let e : (r - 1) + 1 ≡ r = omega (arith, (range i r (omega arith) h).0) in e) in
          elim (cases_lt i j) [
            | inl less ↦ elim (read (r - 1)) [
              | inl e ↦ absurd (false≢true (sym ((lists j b).free i r less h) ∙ sym whole ∙ e.0))
              | inr e ↦ e.1 ∙ so.known i r less h
            ]
            | inr last ↦
                let same : i ≡ j = omega arith in
                elim (read (r - 1)) [
                  | inl e ↦ e.1 ∙ sym same
                  | inr e ↦ absurd (false≢true (sym e.0 ∙ whole ∙ subst (λ z. Refers z r) same h))
                ]
          ];
    }

-- ---- sizes

pub sizes_next : (sets : List OddSet) (j : ℕ) (old new : List ℕ) (x : ℕ) → AreEarlier sets → j < length sets → new ≡ old ++ x ∷ [] → x ≡ whole_size old (given_at sets j)
    → AreSizes sets j old → AreSizes sets (j + 1) new
sizes_next sets j old new x earlier few is value so =
    let kept : (i : ℕ) → i < j → number_at new i ≡ number_at old i = λ i b.
    ap (λ (l : List ℕ). number_at l i) is ∙ get_or_append_left old (x ∷ []) 0 i (omega (arith, so.size)) in
    let whole : (k : ℕ) → k ≤ j → whole_size new (given_at sets k) ≡ whole_size old (given_at sets k) = λ k b.
    let refs = (given_at sets k).references in
    ap (λ s. length (given_at sets k).vertices + s) (sum_to-same (λ a. number_at new (number_at refs a - 1)) (λ a. number_at old (number_at refs a - 1)) (length refs)
    (λ a c. let r = earlier k (omega arith) a 0 c in kept (number_at refs a - 1) (omega (arith, r.0, r.1)))) in
    record {
      size = ap (λ (l : List ℕ). length l) is ∙ length-append old (x ∷ []) ∙ ap (λ z. z + 1) so.size;
      each = λ k b. elim (cases_lt k j) [
        | inl e ↦ kept k e ∙ so.each k e ∙ sym (whole k (omega arith))
        | inr e ↦
            let same : k ≡ j = omega arith in
            let seam : number_at new j ≡ x = ap (λ (l : List ℕ). number_at l j) is ∙ ap (λ z. number_at (old ++ x ∷ []) z) (sym so.size) ∙ get_or-append_seam old x [] 0 in
            subst (λ z. number_at new z ≡ whole_size new (given_at sets z)) (sym same) (seam ∙ value ∙ sym (whole j (omega arith)))
      ];
    }

-- ---- begins

-- the first i sets that are referred to begin one after the other
pub record ArePlaced (references sizes : List ℕ) (base i : ℕ) (old now : List ℕ) : Type 0 where
  pub size : length now ≡ length old
  pub inner : (a : ℕ) → a < i → number_at now (number_at references a - 1) ≡ base + before sizes references a
  pub others : (k : ℕ) → holds (take i references) (k + 1) ≡ false → number_at now k ≡ number_at old k

pub placed_next : (references sizes : List ℕ) (base i r at : ℕ) (old now new : List ℕ) → IsStrictlyIncreasing references → All (λ r. (1 ≤ r) × (r ≤ length old)) references
    → i < length references → r ≡ number_at references i → at ≡ base + before sizes references i → new ≡ set now (r - 1) at
    → ArePlaced references sizes base i old now → ArePlaced references sizes base (i + 1) old new
placed_next references sizes base i r at old now new up range b here value is so =
    let low = range i 0 b in
    let within : r - 1 < length now = omega (arith, low.0, low.1, here, so.size) in
    let fresh : holds (take i references) (number_at references i) ≡ false = not_before references i up b in
    record {
      size = ap (λ (l : List ℕ). length l) is ∙ length-set now (r - 1) at ∙ so.size;
      inner = λ a c. elim (cases_lt a i) [
        | inl e ↦
            let long : length (take i references) ≡ i = length-take-le i references (omega arith) in
            let held : holds (take i references) (number_at references a) ≡ true
            = ap (λ v. holds (take i references) v) (sym (get_or-take i references a 0 e)) ∙ holds_at (take i references) a 0 (omega (arith, long)) in
            let differ : number_at references a - 1 ≢ r - 1 = λ same.
            let equal : number_at references a ≡ number_at references i = omega (arith, same, (range a 0 (omega arith)).0, low.0, here) in
            false≢true (sym fresh ∙ ap (λ v. holds (take i references) v) (sym equal) ∙ held) in
            ap (λ (l : List ℕ). number_at l (number_at references a - 1)) is ∙ get_or-set_other now (r - 1) (number_at references a - 1) at 0 differ ∙ so.inner a e
        | inr e ↦
            let same : a ≡ i = omega arith in
            let place : number_at references a - 1 ≡ r - 1 = ap (λ z. number_at references z - 1) same ∙ ap (λ z. z - 1) (sym here) in
            ap₂ (λ (l : List ℕ) z. number_at l z) is place ∙ get_or-set_same now (r - 1) at 0 within ∙ value ∙ ap (λ z. base + before sizes references z) (sym same)
      ];
      others = λ k none.
          let parts = or_parts (holds (take i references) (k + 1)) (eqb (number_at references i) (k + 1)) (sym (holds-take references i (k + 1) b) ∙ none) in
          let differ : k ≢ r - 1 = λ same. false≢true (sym parts.1 ∙ eq-eqb (number_at references i) (k + 1) (omega (arith, same, low.0, here))) in
          ap (λ (l : List ℕ). number_at l k) is ∙ get_or-set_other now (r - 1) k at 0 differ ∙ so.others k parts.0;
    }

-- the set at place j has begun, after the later ones
pub record HasBegun (sets : List OddSet) (n : ℕ) (parents sizes : List ℕ) (j : ℕ) (begins : List ℕ) : Type 0 where
  pub later : IsSpreadFrom sets n parents sizes (j + 1) begins
  pub root : n ≤ number_at parents j → number_at begins j + roots_to n parents sizes (j + 1) ≡ roots_to n parents sizes n
  pub fits_in : number_at begins j + number_at sizes j ≤ roots_to n parents sizes n

begun_inner : (sets : List OddSet) (n : ℕ) (parents sizes : List ℕ) (j : ℕ) (begins : List ℕ) → j < n → number_at parents j < n
    → IsSpreadFrom sets n parents sizes (j + 1) begins → HasBegun sets n parents sizes j begins
begun_inner sets n parents sizes j begins b inner so =
    let after = so.parents_are.later j b inner in
    let within = parent_within sets n parents sizes (j + 1) begins so j b inner (omega (arith, after)) in
    let up = fits sets n parents sizes (j + 1) begins so (number_at parents j) (omega (arith, after)) inner in
    record { later = so; root = λ root. absurd (omega (arith, root, inner)); fits_in = omega (arith, within.1, up) }

begun_root : (sets : List OddSet) (n : ℕ) (parents sizes : List ℕ) (j end : ℕ) (old new : List ℕ) → j < n → n ≤ number_at parents j
    → end + roots_to n parents sizes (j + 1) ≡ roots_to n parents sizes n → new ≡ set old j end → IsSpreadFrom sets n parents sizes (j + 1) old
    → HasBegun sets n parents sizes j new
begun_root sets n parents sizes j end old new b root at is so =
    let begins = so.begins_are in
    let other : (k : ℕ) → k ≢ j → number_at new k ≡ number_at old k = λ k differ. ap (λ (l : List ℕ). number_at l k) is ∙ get_or-set_other old j k end 0 differ in
    let here : number_at new j ≡ end = ap (λ (l : List ℕ). number_at l j) is ∙ get_or-set_same old j end 0 (omega (arith, begins.size)) in
    record {
      later = record {
        size_limit = so.size_limit;
        earlier = so.earlier;
        parents_are = so.parents_are;
        sizes_are = so.sizes_are;
        begins_are = record {
          size = ap (λ (l : List ℕ). length l) is ∙ length-set old j end ∙ begins.size;
          roots = λ k low high top. ap (λ z. z + roots_to n parents sizes (k + 1)) (other k (λ e. absurd (omega (arith, e, low)))) ∙ begins.roots k low high top;
          children = λ i a low high c.
              let up = parent_of sets n parents i a so.parents_are high c in
              other (number_at (given_at sets i).references a - 1) (λ e. let same = ap (number_at parents) (sym e) ∙ up in absurd (omega (arith, same, root, high)))
              ∙ begins.children i a low high c
              ∙ ap (λ z. z + length (given_at sets i).vertices + before sizes (given_at sets i).references a) (sym (other i (λ e. absurd (omega (arith, e, low)))));
        };
      };
      root = λ _. ap (λ z. z + roots_to n parents sizes (j + 1)) here ∙ at;
      fits_in = omega (arith, here, at, root_next n parents (number_at sizes) j root);
    }

pub begun : (sets : List OddSet) (n : ℕ) (parents sizes : List ℕ) (j m end : ℕ) (old new : List ℕ) → m ≡ j + 1 → j < n
    → end + roots_to n parents sizes m ≡ roots_to n parents sizes n
    → (n ≤ number_at parents j → new ≡ set old j end) → (number_at parents j < n → new ≡ old) → IsSpreadFrom sets n parents sizes m old
    → HasBegun sets n parents sizes j new
begun sets n parents sizes j m end old new down b at top inner so =
    let before = subst (λ z. IsSpreadFrom sets n parents sizes z old) down so in
    elim (cases_lt (number_at parents j) n) [
      | inl e ↦ subst (λ (l : List ℕ). HasBegun sets n parents sizes j l) (sym (inner e)) (begun_inner sets n parents sizes j old b e before)
      | inr e ↦ begun_root sets n parents sizes j end old new b e (subst (λ z. end + roots_to n parents sizes z ≡ roots_to n parents sizes n) down at) (top e) before
    ]

pub end_next : (n : ℕ) (parents sizes : List ℕ) (j end after : ℕ) → end + roots_to n parents sizes (j + 1) ≡ roots_to n parents sizes n
    → (n ≤ number_at parents j → after ≡ end + number_at sizes j) → (number_at parents j < n → after ≡ end)
    → after + roots_to n parents sizes j ≡ roots_to n parents sizes n
end_next n parents sizes j end after at top inner =
    elim (cases_lt (number_at parents j) n) [
      | inl e ↦ let step = inner_next n parents (number_at sizes) j e in let same = inner e in omega (arith, step, same, at)
      | inr e ↦ let step = root_next n parents (number_at sizes) j e in let more = top e in omega (arith, step, more, at)
    ]

pub begins_next : (sets : List OddSet) (n : ℕ) (parents sizes : List ℕ) (j : ℕ) (old new : List ℕ) → j < n → HasBegun sets n parents sizes j old → length new ≡ length old
    → ((a : ℕ) → a < length (given_at sets j).references → number_at new (number_at (given_at sets j).references a - 1)
    ≡ number_at old j + length (given_at sets j).vertices + before sizes (given_at sets j).references a)
    → ((k : ℕ) → holds (given_at sets j).references (k + 1) ≡ false → number_at new k ≡ number_at old k) → IsSpreadFrom sets n parents sizes j new
begins_next sets n parents sizes j old new b so size inner others =
    let refs = (given_at sets j).references in
    let before_it = so.later.begins_are in
    let kept : (k : ℕ) → j ≤ k → number_at new k ≡ number_at old k = λ k c. others k (false_from_ne_true (holds refs (k + 1)) (λ h.
    let r = holds_all (λ r. (1 ≤ r) × (r ≤ j)) refs (k + 1) (so.later.earlier j (omega (arith, so.later.size_limit))) h in absurd (omega (arith, r.1, c)))) in
    record {
      size_limit = so.later.size_limit;
      earlier = so.later.earlier;
      parents_are = so.later.parents_are;
      sizes_are = so.later.sizes_are;
      begins_are = record {
        size = size ∙ before_it.size;
        roots = λ k low high top. ap (λ z. z + roots_to n parents sizes (k + 1)) (kept k low) ∙ elim (cases_eq k j) [
          | inl e ↦ subst (λ z. number_at old z + roots_to n parents sizes (z + 1) ≡ roots_to n parents sizes n) (sym e) (so.root (subst (λ z. n ≤ number_at parents z) e top))
          | inr e ↦ before_it.roots k (omega (arith, low, e)) high top
        ];
        children = λ i a low high c. elim (cases_eq i j) [
          | inl e ↦ subst (λ z. (a : ℕ) → a < length (given_at sets z).references → number_at new (number_at (given_at sets z).references a - 1)
              ≡ number_at new z + length (given_at sets z).vertices + before sizes (given_at sets z).references a) (sym e)
              (λ a c. inner a c ∙ ap (λ z. z + length (given_at sets j).vertices + before sizes refs a) (sym (kept j (omega arith)))) a c
          | inr e ↦
              let child = number_at (given_at sets i).references a - 1 in
              let off = false_from_ne_true (holds refs (child + 1)) (λ h.
              let whole = ap (number_at parents) (let back : (child + 1) - 1 ≡ child = omega arith in back) in
              absurd (e (sym (parent_of sets n parents i a so.later.parents_are high c) ∙ sym whole ∙ so.later.parents_are.known j (child + 1) b h))) in
              others child off ∙ before_it.children i a (omega (arith, low, e)) high c
              ∙ ap (λ z. z + length (given_at sets i).vertices + before sizes (given_at sets i).references a) (sym (kept i low))
        ];
      };
    }

-- ---- where sets begin, from the last to the first

pub record Begun (sets : List OddSet) (n : ℕ) (parents sizes : List ℕ) (k after : ℕ) (table : List ℕ) : Type 0 where
  pub begins : IsSpreadFrom sets n parents sizes (n - k) table
  pub end : after + roots_to n parents sizes (n - k) ≡ roots_to n parents sizes n

abbrev Inner : List ℕ → List ℕ → OddSet → ℕ → Type 0
Inner sizes new s begin = (a : ℕ) → a < length s.references → number_at new (number_at s.references a - 1) ≡ begin + length s.vertices + before sizes s.references a

abbrev Others : List ℕ → List ℕ → OddSet → Type 0
Others old new s = (k : ℕ) → holds s.references (k + 1) ≡ false → number_at new k ≡ number_at old k

pub begun_next : (sets : List OddSet) (n : ℕ) (parents sizes : List ℕ) (k end after begin : ℕ) (old mid new : List ℕ) (s : OddSet) → k < n → n ≤ length sets
    → IsSpreadFrom sets n parents sizes (n - k) old → end + roots_to n parents sizes (n - k) ≡ roots_to n parents sizes n
    → (n ≤ number_at parents (n - 1 - k) → (after ≡ end + number_at sizes (n - 1 - k)) × (mid ≡ set old (n - 1 - k) end))
    → (number_at parents (n - 1 - k) < n → (after ≡ end) × (mid ≡ old))
    → begin ≡ get_or mid (n - 1 - k) begin → s ≡ get_or sets (n - 1 - k) s → length new ≡ length mid → Inner sizes new s begin → Others mid new s
    → Begun sets n parents sizes (k + 1) after new
begun_next sets n parents sizes k end after begin old mid new s b few so_far at root inner is_begin is_set size inside others =
    let j = n - 1 - k in
    let within : j < n = omega (arith, b) in
    let down : n - k ≡ j + 1 = omega (arith, b) in
    let past : j ≡ n - (k + 1) = omega (arith, b) in
    let so : HasBegun sets n parents sizes j mid = begun sets n parents sizes j (n - k) end old mid down within at (λ t. (root t).1) (λ t. (inner t).1) so_far in
    let read : begin ≡ number_at mid j = get_or_read mid j begin (omega (arith, so.later.begins_are.size, within)) is_begin 0 in
    let here : s ≡ given_at sets j = get_or_read sets j s (omega (arith, within, few)) is_set no_given in
    let inside_it = subst (λ (z : OddSet). Inner sizes new z (number_at mid j)) here (subst (λ z. Inner sizes new s z) read inside) in
    let others_it = subst (λ (z : OddSet). Others mid new z) here others in
    let at_it = subst (λ z. end + roots_to n parents sizes z ≡ roots_to n parents sizes n) down at in
    record {
      begins = subst (λ z. IsSpreadFrom sets n parents sizes z new) past (begins_next sets n parents sizes j mid new within so size inside_it others_it);
      end = subst (λ z. after + roots_to n parents sizes z ≡ roots_to n parents sizes n) past (end_next n parents sizes j end after at_it (λ t. (root t).0) (λ t. (inner t).0));
    }

-- the table keeps its length
pub begun_long : (n : ℕ) (parents old mid : List ℕ) (j end : ℕ) (P Q : Type 0) → length old ≡ n → (n ≤ number_at parents j → P × (mid ≡ set old j end))
    → (number_at parents j < n → Q × (mid ≡ old)) → length mid ≡ n
begun_long n parents old mid j end P Q size root inner = elim (cases_lt (number_at parents j) n) [
  | inl less ↦ ap length (inner less).1 ∙ size
  | inr most ↦ ap length (root most).1 ∙ length-set old j end ∙ size
]

-- one more of the sets that one refers to has it for its parent
pub noted-next : (old parents refs : List ℕ) (i s : ℕ) → i < length refs → 1 ≤ get_or refs i 0 → get_or refs i 0 ≤ length parents
    → ((k : ℕ) → number_at parents k ≡ cond (holds (take i refs) (k + 1)) s (number_at old k)) → (k : ℕ)
    → number_at (set parents (get_or refs i 0 - 1) s) k ≡ cond (holds (take (i + 1) refs) (k + 1)) s (number_at old k)
noted-next old parents refs i s below low high so k =
    let r = get_or refs i 0 in
    let before = holds (take i refs) (k + 1) in
    let more : (t : Bool) → (before || eqb r (k + 1)) ≡ t → cond t s (number_at old k) ≡ cond (holds (take (i + 1) refs) (k + 1)) s (number_at old k)
    = λ t is. ap (λ q. cond q s (number_at old k)) (sym (holds-take refs i (k + 1) below ∙ is)) in
    elim (cases_eq r (k + 1)) [
      | inl same ↦
          let place : r - 1 ≡ k = omega (arith, same) in
          ap (λ j. number_at (set parents j s) k) place ∙ get_or-set_same parents k s 0 (omega (arith, same, high)) ∙ more true (or_right before (eqb r (k + 1)) (eq-eqb r (k + 1) same))
      | inr differ ↦ get_or-set_other parents (r - 1) k s 0 (λ e. differ (omega (arith, e, low))) ∙ so k
          ∙ more before (ap (λ b. before || b) (ne_eqb r (k + 1) differ) ∙ or-false before)
    ]
