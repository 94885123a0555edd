-- Sums over a list of edges, each with its count: in parts, over blocks, rows, rectangles and cliques. Degree and weight are such sums.
use Rattle.mb_problem.proofs.Common.{◌≡◌, ℕ, zero, suc, ◌+◌, ◌*◌, ◌-◌, ◌<◌, ℤ, pos, ◌+ℤ◌, ◌*ℤ◌, Bool, true, false, cond, refl, ap, ap₂, sym}
use Rattle.mb_problem.proofs.Common.{◌∙◌, arith, List, [], ◌∷◌, ◌++◌, length, slice_index, slice_index_or, length-append, ints, get_or_append_left, get_or-append-add, Edge}
use Rattle.mb_problem.proofs.Common.{sum_to, int_sum_to, no_edge, ends_at, sum_to-same, sum_to-one, int_sum_to-same, sum_to-append, int_sum_to-append}
use Rattle.gadget_base.specs.Blocks.{blocks, tabled, rectangle, clique}
use Rattle.gadget_base.proofs.Blocks.{tabled-length, tabled-at, blocks-length}

-- a sum over the edges of a list, each with its count
abbrev pub over : (Edge → ℕ → ℕ) → List Edge → List ℕ → ℕ
over F es cs = sum_to (λ k. F (slice_index_or es k no_edge) (slice_index cs k)) (length es)

-- degree and weight

abbrev pub at_vertex : ℕ → Edge → ℕ → ℕ
at_vertex v e c = c * ends_at e v

abbrev pub weighing : Edge → ℕ → ℤ
weighing e c = pos c *ℤ e.w

-- what sums of natural numbers and of integers share
pub record IsSum {A : Type 0} (total : (ℕ → A) → ℕ → A) (none : A) (plus : A → A → A) : Type 0 where
  pub empty : (f : ℕ → A) → total f 0 ≡ none
  pub more : (f : ℕ → A) (n : ℕ) → total f (suc n) ≡ plus (total f n) (f n)
  pub alone : (a : A) → plus none a ≡ a
  pub same : (f g : ℕ → A) (n : ℕ) → ((k : ℕ) → k < n → f k ≡ g k) → total f n ≡ total g n
  pub split : (f : ℕ → A) (m n : ℕ) → total f (m + n) ≡ plus (total f m) (total (λ k. f (m + k)) n)

pub nat-sum : IsSum sum_to 0 (λ a b. a + b)
nat-sum = record { empty = λ f. refl; more = λ f n. refl; alone = λ a. omega arith; same = sum_to-same; split = sum_to-append }

pub int-sum : IsSum int_sum_to (pos 0) (λ a b. a +ℤ b)
int-sum = record { empty = λ f. refl; more = λ f n. refl; alone = λ a. omega (arith, ints); same = int_sum_to-same; split = int_sum_to-append }

-- one count for each edge of a list, and s is the sum over these edges
pub record Sums {A : Type 0} (total : (ℕ → A) → ℕ → A) (F : Edge → ℕ → A) (es : List Edge) (cs : List ℕ) (s : A) : Type 0 where
  pub one_each : length es ≡ length cs
  pub is : total (λ k. F (slice_index_or es k no_edge) (slice_index cs k)) (length es) ≡ s

module _ {A : Type 0} {total : (ℕ → A) → ℕ → A} {none : A} {plus : A → A → A} (law : IsSum total none plus) where
  pub total-append : (F : Edge → ℕ → A) (es fs : List Edge) (cs ds : List ℕ) → length es ≡ length cs
      → total (λ k. F (slice_index_or (es ++ fs) k no_edge) (slice_index (cs ++ ds) k)) (length (es ++ fs))
      ≡ plus (total (λ k. F (slice_index_or es k no_edge) (slice_index cs k)) (length es)) (total (λ k. F (slice_index_or fs k no_edge) (slice_index ds k)) (length fs))
  total-append F es fs cs ds e =
      ap (total _) (length-append es fs)
      ∙ law.split _ (length es) (length fs)
      ∙ ap₂ plus (law.same _ _ (length es) (λ k b. ap₂ F (get_or_append_left es fs no_edge k b) (get_or_append_left cs ds 0 k (omega (arith, e)))))
      (law.same _ _ (length fs) (λ k b. ap₂ F (get_or-append-add es fs k no_edge) (ap (λ n. slice_index (cs ++ ds) (n + k)) e ∙ get_or-append-add cs ds k 0)))

  pub sums-none : (F : Edge → ℕ → A) → Sums total F [] [] none
  sums-none F = record { one_each = refl; is = law.empty _ }

  pub sums-one : (F : Edge → ℕ → A) (e : Edge) (c : ℕ) → Sums total F (e ∷ []) (c ∷ []) (F e c)
  sums-one F e c = record { one_each = refl; is = law.more _ 0 ∙ ap (λ a. plus a (F e c)) (law.empty _) ∙ law.alone (F e c) }

  pub sums-append : {F : Edge → ℕ → A} {es fs : List Edge} {cs ds : List ℕ} {s t : A} → Sums total F es cs s → Sums total F fs ds t
      → Sums total F (es ++ fs) (cs ++ ds) (plus s t)
  sums-append {F} {es} {fs} {cs} {ds} p q = record {
    one_each = omega (arith, length-append es fs, length-append cs ds, p.one_each, q.one_each);
    is = total-append F es fs cs ds p.one_each ∙ ap₂ plus p.is q.is;
  }

  pub sums-blocks : {F : Edge → ℕ → A} {es : ℕ → List Edge} {cs : ℕ → List ℕ} {s : ℕ → A} (n : ℕ) → ((k : ℕ) → k < n → Sums total F (es k) (cs k) (s k))
      → Sums total F (blocks es n) (blocks cs n) (total s n)
  sums-blocks zero h = record { one_each = refl; is = law.empty _ ∙ sym (law.empty _) }
  sums-blocks {s = s} (suc n) h =
      let all = sums-append (sums-blocks n (λ k b. h k (omega arith))) (h n (omega arith)) in
      record { one_each = all.one_each; is = all.is ∙ sym (law.more s n) }

  -- over a list that is given by places
  pub sums-tabled : (F : Edge → ℕ → A) (e : ℕ → Edge) (c : ℕ → ℕ) (n : ℕ) → Sums total F (tabled e n) (tabled c n) (total (λ k. F (e k) (c k)) n)
  sums-tabled F e c n = record {
    one_each = tabled-length e n ∙ sym (tabled-length c n);
    is = ap (total _) (tabled-length e n) ∙ law.same _ _ n (λ k b. ap₂ F (tabled-at e n k no_edge b) (tabled-at c n k 0 b));
  }

  -- edges where a test passes, or where it doesn't
  pub sums-if : {F : Edge → ℕ → A} {es : List Edge} {cs : List ℕ} {s : A} (t : Bool) → Sums total F es cs s → Sums total F (cond t es []) (cond t cs []) (cond t s none)
  sums-if true p = p
  sums-if {F} false p = sums-none F

  pub sums-unless : {F : Edge → ℕ → A} {es : List Edge} {cs : List ℕ} {s : A} (t : Bool) → Sums total F es cs s → Sums total F (cond t [] es) (cond t [] cs) (cond t none s)
  sums-unless {F} true p = sums-none F
  sums-unless false p = p

pub sums-same : {A : Type 0} {total : (ℕ → A) → ℕ → A} {F : Edge → ℕ → A} {es : List Edge} {cs : List ℕ} {s t : A} → Sums total F es cs s → s ≡ t
    → Sums total F es cs t
sums-same p e = record { one_each = p.one_each; is = p.is ∙ e }

-- how many edges there are
pub sums-length : {es : List Edge} {cs : List ℕ} {s : ℕ} → Sums sum_to (λ _ _. 1) es cs s → length es ≡ s
sums-length {es} p = sym (sum_to-one (length es)) ∙ p.is

-- in two parts, and over blocks, each as long as its block of counts

pub blocks-lengths : (es : ℕ → List Edge) (cs : ℕ → List ℕ) (n : ℕ) → ((k : ℕ) → k < n → length (es k) ≡ length (cs k)) → length (blocks es n) ≡ length (blocks cs n)
blocks-lengths es cs n h = blocks-length es n ∙ sum_to-same _ _ n h ∙ sym (blocks-length cs n)

pub over-blocks : (F : Edge → ℕ → ℕ) (es : ℕ → List Edge) (cs : ℕ → List ℕ) (n : ℕ) → ((k : ℕ) → k < n → length (es k) ≡ length (cs k)) → over F (blocks es n) (blocks cs n)
    ≡ sum_to (λ k. over F (es k) (cs k)) n
over-blocks F es cs n h = (sums-blocks nat-sum {F = F} {s = λ k. over F (es k) (cs k)} n (λ k b. record { one_each = h k b; is = refl })).is

-- counts of a rectangle, N a j row by row, and of a clique, M a b for the edge between the vertices of places a and b, a the lesser

abbrev pub table : (ℕ → ℕ → ℕ) → ℕ → ℕ → List ℕ
table N m n = blocks (λ a. tabled (N a) n) m

abbrev pub clique_table : (ℕ → ℕ → ℕ) → ℕ → List ℕ
clique_table M n = blocks (λ a. tabled (λ d. M a (a + d + 1)) (n - 1 - a)) n

module _ {A : Type 0} {total : (ℕ → A) → ℕ → A} {none : A} {plus : A → A → A} (law : IsSum total none plus) (F : Edge → ℕ → A) where
  pub sums-rectangle : (N : ℕ → ℕ → ℕ) (first m second n : ℕ) (w : ℤ) → Sums total F (rectangle first m second n w) (table N m n)
      (total (λ a. total (λ j. F (record { u = first + a + 1; v = second + j + 1; w = w }) (N a j)) n) m)
  sums-rectangle N first m second n w = sums-blocks law m (λ a _. sums-tabled law F _ (N a) n)

  pub sums-clique : (M : ℕ → ℕ → ℕ) (before n : ℕ) (w : ℤ) → Sums total F (clique before n w) (clique_table M n)
      (total (λ a. total (λ d. F (record { u = before + a + 1; v = before + a + 1 + d + 1; w = w }) (M a (a + d + 1))) (n - 1 - a)) n)
  sums-clique M before n w = sums-blocks law n (λ a _. sums-tabled law F _ _ (n - 1 - a))
