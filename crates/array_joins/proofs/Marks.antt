-- Values that are written at terminals.
use Rattle.mb_problem.proofs.Common.{◌≡◌, ◌≢◌, ℕ, ◌+◌, ◌-◌, ◌<◌, ◌≤◌, Bool, true, false, cond, not, ltb, ◌||◌, List, [], ◌∷◌, ◌++◌, slice_index, slice_set}
use Rattle.mb_problem.proofs.Common.{Option, None, Some, refl, ap, sym, ◌∙◌, arith, inl, inr, cases_eq, cases_Bool, cond-true, cond-false, eq-eqb, ne_eqb, lt-ltb, ltb-true, ltb-false}
use Rattle.mb_problem.proofs.Common.{not-true}
use Rattle.mb_problem.proofs.Common.{and_from, and_parts, not_from_false, get_or-set_same, get_or-set_other, length-set, holds-push, Network, vertices, value_of, holds}
use Rattle.graph_theory.proofs.Members.{holds-of_take}
use Rattle.std.proofs.lemmas.Bool.{le-ltb}
use Rattle.std.proofs.Math.Bool.{or-true, or-false}
use Rattle.gadget_base.proofs.Common.{tabled, tabled-at, tabled-length, tabled-same, is-tabled}
use Rattle.array_call.specs.Faults.{is_vertex}
use Rattle.array_joins.specs.declared.outcome.TerminalFault.{TerminalFault}
use Rattle.array_joins.specs.declared.outcome.TerminalRule.TheVariants.{OutOfRange, Repeated}
use Rattle.array_joins.specs.Terminals.{terminal_rule, mark_at, network_with, HasNoTerminals}
use Rattle.array_joins.specs.Marked.{sound_part, cleared, unmarked, left_at}

-- ---- vertices

pub vertex-within : (n v : ℕ) → is_vertex n v ≡ true → (1 ≤ v) × (v ≤ n)
vertex-within n v e =
    let parts = and_parts (ltb 0 v) (not (ltb n v)) e in
    (ltb-true 0 v parts.0, ltb-false n v (not-true (ltb n v) parts.1))

within-vertex : (n v : ℕ) → 1 ≤ v → v ≤ n → is_vertex n v ≡ true
within-vertex n v low high = and_from (ltb 0 v) (not (ltb n v)) (lt-ltb 0 v low) (not_from_false (ltb n v) (le-ltb n v high))

-- ---- one value more is written

set-tabled : (f g : ℕ → ℕ) (n p x : ℕ) → p < n → g p ≡ x → ((k : ℕ) → k < n → k ≢ p → g k ≡ f k) → slice_set (tabled f n) p x ≡ tabled g n
set-tabled f g n p x h here others =
    let size = tabled-length f n in
    is-tabled (slice_set (tabled f n) p x) g n (length-set (tabled f n) p x ∙ size)
    (λ k b. elim (cases_eq k p) [
      | inl same ↦ ap (slice_index (slice_set (tabled f n) p x)) same ∙ get_or-set_same (tabled f n) p x 0 (omega (arith, size)) ∙ sym here ∙ ap g (sym same)
      | inr other ↦ get_or-set_other (tabled f n) p k x 0 other ∙ tabled-at f n k 0 b ∙ sym (others k b other)
    ])

held-here : (ts : List ℕ) (v w : ℕ) → w ≡ v → holds (ts ++ v ∷ []) w ≡ true
held-here ts v w e = holds-push ts v w ∙ ap (λ (b : Bool). holds ts w || b) (eq-eqb v w (sym e)) ∙ or-true (holds ts w)

held-other : (ts : List ℕ) (v w : ℕ) → w ≢ v → holds (ts ++ v ∷ []) w ≡ holds ts w
held-other ts v w e = holds-push ts v w ∙ ap (λ (b : Bool). holds ts w || b) (ne_eqb v w (λ same. e (sym same))) ∙ or-false (holds ts w)

-- numbers by whether a vertex is listed, with one vertex more
pub set-held : (h : Bool → ℕ → ℕ) (n : ℕ) (ts : List ℕ) (v x : ℕ) → 1 ≤ v → v ≤ n → h true (v - 1) ≡ x
    → slice_set (tabled (λ k. h (holds ts (k + 1)) k) n) (v - 1) x ≡ tabled (λ k. h (holds (ts ++ v ∷ []) (k + 1)) k) n
set-held h n ts v x low high on =
    set-tabled (λ k. h (holds ts (k + 1)) k) (λ k. h (holds (ts ++ v ∷ []) (k + 1)) k) n (v - 1) x (omega (arith, low, high))
    (ap (λ (b : Bool). h b (v - 1)) (held-here ts v (v - 1 + 1) (omega (arith, low))) ∙ on)
    (λ k b other. ap (λ (t : Bool). h t k) (held-other ts v (k + 1) (λ same. other (omega (arith, same)))))

-- and with a number more that is no vertex
pub pass-held : (h : Bool → ℕ → ℕ) (n : ℕ) (ts : List ℕ) (v : ℕ) → is_vertex n v ≡ false
    → tabled (λ k. h (holds ts (k + 1)) k) n ≡ tabled (λ k. h (holds (ts ++ v ∷ []) (k + 1)) k) n
pass-held h n ts v off =
    tabled-same (λ k. h (holds ts (k + 1)) k) (λ k. h (holds (ts ++ v ∷ []) (k + 1)) k) n
    (λ k b. ap (λ (t : Bool). h t k) (sym (held-other ts v (k + 1) (λ same.
    let there : is_vertex n (k + 1) ≡ true = within-vertex n (k + 1) (omega arith) (omega (arith, b)) in
    let gone : true ≡ false = sym there ∙ ap (is_vertex n) same ∙ off in
    absurd cc))))

-- ---- the instance with terminals

pub vertices-with : (i : Network) (ts : List ℕ) → vertices (network_with i ts) ≡ vertices i
vertices-with i ts = tabled-length (mark_at ts) (vertices i)

-- no terminal at all
pub with-none : (i : Network) → HasNoTerminals i → i ≡ network_with i []
with-none i bare = ap (λ (vs : List ℕ). record i { values = vs }) bare

-- one terminal more
pub with-more : (i : Network) (ts : List ℕ) (v : ℕ) → 1 ≤ v → v ≤ vertices i
    → record (network_with i ts) { values = slice_set (network_with i ts).values (v - 1) 1 } ≡ network_with i (ts ++ v ∷ [])
with-more i ts v low high = ap (λ (vs : List ℕ). record i { values = vs }) (set-held (λ b k. cond b 1 0) (vertices i) ts v 1 low high refl)

-- the value of a vertex says whether it is a terminal
pub value-with : (i : Network) (ts : List ℕ) (v : ℕ) → 1 ≤ v → v ≤ vertices i → value_of (network_with i ts) v ≡ cond (holds ts v) 1 0
value-with i ts v low high =
    tabled-at (mark_at ts) (vertices i) (v - 1) 0 (omega (arith, low, high)) ∙ ap (λ (w : ℕ). cond (holds ts w) 1 0) (let e : v - 1 + 1 ≡ v = omega (arith, low) in e)

-- ---- the terminals taken away again

pub unmarked-none : (i : Network) → i ≡ unmarked i []
unmarked-none i = ap (λ (vs : List ℕ). record i { values = vs }) (is-tabled i.values (left_at i []) (vertices i) refl (λ k b. refl))

pub unmarked-more : (i : Network) (ts : List ℕ) (v : ℕ) → cleared (unmarked i ts) v ≡ unmarked i (ts ++ v ∷ [])
unmarked-more i ts v =
    let h : Bool → ℕ → ℕ = λ b k. cond b 0 (slice_index i.values k) in
    let n = vertices i in
    let size : vertices (unmarked i ts) ≡ n = tabled-length (left_at i ts) n in
    let put : List ℕ → Network = λ vs. record i { values = vs } in
    let both : Bool → Network = λ b. cond b (put (slice_set (tabled (left_at i ts) n) (v - 1) 0)) (unmarked i ts) in
    ap (λ (m : ℕ). both (is_vertex m v)) size
    ∙ elim (cases_Bool (is_vertex n v)) [
      | inl on ↦ (let here = vertex-within n v on in ap both on ∙ ap put (set-held h n ts v 0 here.0 here.1 refl))
      | inr off ↦ ap both off ∙ ap put (pass-held h n ts v off)
    ]

-- the terminals that were marked are among those that are taken away
part-held : (fault : Option TerminalFault) (ts : List ℕ) (v : ℕ) → holds (sound_part fault ts) v ≡ true → holds ts v ≡ true
part-held None ts v on = on
part-held (Some fault) ts v on = holds-of_take ts fault.index v on

abbrev unless : Bool → ℕ → ℕ
unless b x = cond b 0 x

gone : (a b : Bool) → (a ≡ true → b ≡ true) → unless b (cond a 1 0) ≡ 0
gone a true h = refl
gone true false h = absurd (let e : false ≡ true = h refl in cc)
gone false false h = refl

pub unmarked-with : (i : Network) (fault : Option TerminalFault) (ts : List ℕ) → HasNoTerminals i → unmarked (network_with i (sound_part fault ts)) ts ≡ i
unmarked-with i fault ts bare =
    let n = vertices i in
    let part = sound_part fault ts in
    let marks = network_with i part in
    let size : vertices marks ≡ n = vertices-with i part in
    let at : (k : ℕ) → k < n → left_at marks ts k ≡ 0 = λ k b.
    ap (λ (x : ℕ). cond (holds ts (k + 1)) 0 x) (tabled-at (mark_at part) n k 0 b) ∙ gone (holds part (k + 1)) (holds ts (k + 1)) (part-held fault ts (k + 1)) in
    ap (λ (vs : List ℕ). record i { values = vs }) (ap (tabled (left_at marks ts)) size ∙ tabled-same (left_at marks ts) (λ k. 0) n at ∙ sym bare)

-- ---- which rule a terminal breaks

-- a terminal that breaks no rule is a vertex
broken : (there held : Bool) → cond (not there) (Some OutOfRange) (cond held (Some Repeated) None) ≡ None → there ≡ true
broken true held e = refl
broken false held e = absurd cc

pub ruled-within : (n : ℕ) (before : List ℕ) (v : ℕ) → terminal_rule n before v ≡ None → (1 ≤ v) × (v ≤ n)
ruled-within n before v e = vertex-within n v (broken (is_vertex n v) (holds before v) e)

pub ruled-out : (n : ℕ) (before : List ℕ) (v : ℕ) → is_vertex n v ≡ false → terminal_rule n before v ≡ Some OutOfRange
ruled-out n before v e = cond-true _ _ _ (not_from_false (is_vertex n v) e)

ruled : (there held : Bool) → there ≡ true → cond (not there) (Some OutOfRange) (cond held (Some Repeated) None) ≡ cond held (Some Repeated) None
ruled true held e = refl
ruled false held e = absurd cc

held-by : (b : Bool) (x : ℕ) → x ≡ unless (not b) 1 → (x ≡ 0 → b ≡ false) × ((x ≡ 0 → ⊥) → b ≡ true)
held-by true x e = ((λ z. absurd (omega (arith, e, z))), (λ z. refl))
held-by false x e = ((λ z. refl), (λ z. absurd (z e)))

as-unless : (b : Bool) (x : ℕ) → x ≡ cond b 1 0 → x ≡ unless (not b) 1
as-unless true x e = e
as-unless false x e = e

-- with the value of the vertex where the terminals before are marked
pub ruled-free : (i : Network) (before : List ℕ) (v x : ℕ) → is_vertex (vertices i) v ≡ true → x ≡ value_of (network_with i before) v → x ≡ 0
    → terminal_rule (vertices i) before v ≡ None
ruled-free i before v x there is none =
    let in_range = vertex-within (vertices i) v there in
    let held = held-by (holds before v) x (as-unless (holds before v) x (is ∙ value-with i before v in_range.0 in_range.1)) in
    ruled (is_vertex (vertices i) v) (holds before v) there ∙ cond-false _ _ _ (held.0 none)

pub ruled-held : (i : Network) (before : List ℕ) (v x : ℕ) → is_vertex (vertices i) v ≡ true → x ≡ value_of (network_with i before) v → (x ≡ 0 → ⊥)
    → terminal_rule (vertices i) before v ≡ Some Repeated
ruled-held i before v x there is some =
    let in_range = vertex-within (vertices i) v there in
    let held = held-by (holds before v) x (as-unless (holds before v) x (is ∙ value-with i before v in_range.0 in_range.1)) in
    ruled (is_vertex (vertices i) v) (holds before v) there ∙ cond-true _ _ _ (held.1 some)
