-- The edges of a circuit are an even set, and so is a join without a path between its two odd vertices.
use Rattle.mb_problem.proofs.Common.{◌≡◌, ◌≢◌, ℕ, ◌+◌, ◌-◌, ◌*◌, ◌%◌, ◌<◌, ◌≤◌, ℤ, pos, ◌+ℤ◌, ◌*ℤ◌, ◌≤ℤ◌, cond, eqb, refl, ap}
use Rattle.mb_problem.proofs.Common.{sym, ◌∙◌, inl, inr, arith, List, length, slice_index, ints, cases_eq, eq-eqb, ne_eqb, Multigraph, edge_at, ends_at, degree, weight, IsWalk}
use Rattle.mb_problem.proofs.Common.{IsCircuit, walk_end, walk_weight, sum_to-same, sum_to-add, int_sum_to-same, int_sum_to-add, plus-times, walk-numbers, Network, IsNetwork, graph_of}
use Rattle.mb_problem.proofs.Common.{IsOddJoin, IsJoinOf, ListsJoin, listed_counts, odd_between, HasNoNegativeEvenSet, edges-count, network-graph}
use Rattle.gadget_base.proofs.Common.{tabled, times, times_each, tabled-length, tabled-at, All-tabled, times_each-length, times_each-at, weight_of_list, differ-once}
use Rattle.mb_problem.specs.declared.answer.Parity.TheVariants.{Empty}
use Rattle.gadget_tjoin.proofs.WalkParity.{walk-parity}
use Rattle.conservative_paths.specs.Within.{EvenSetsDecide}
use Rattle.conservative_paths.proofs.ListedCounts.{listed-weight, listed-small}

-- circuits

circuit-even : (i : Network) (v : ℕ) (es : List ℕ) → IsNetwork i → IsCircuit (graph_of i) v es → IsJoinOf Empty i (times_each (graph_of i) es)
circuit-even i v es ok c =
    let g = graph_of i in
    record {
      one_each = times_each-length g es ∙ edges-count i;
      at_most_once = All-tabled (λ c. c ≤ 1) (λ k. times es (k + 1)) (length g.edges) (λ k b. differ-once es (k + 1) c.edges_differ);
      degrees = λ x low high.
          let home : cond {A = ℕ} (eqb (walk_end g v es) x) 1 0 ≡ cond {A = ℕ} (eqb v x) 1 0 = ap (λ (y : ℕ). cond {A = ℕ} (eqb y x) 1 0) c.closed in
          omega (arith, walk-parity g v x es (network-graph i ok).ends c.walk, home);
    }

pub even_sets_decide : EvenSetsDecide
even_sets_decide i ok even v es c =
    let g = graph_of i in
    omega (arith, ints, even (times_each g es) (circuit-even i v es ok c), weight_of_list g es (walk-numbers g v es c.walk))

-- a set of edges without a walk over some of them

abbrev pub without : List ℕ → List ℕ → ℕ → List ℕ
without total way m = tabled (λ k. slice_index total k - times way (k + 1)) m

record IsSplit (g : Multigraph) (total way : List ℕ) : Type 0 where
  degrees : (v : ℕ) → degree g total v ≡ degree g (without total way (length g.edges)) v + degree g (times_each g way) v
  weights : weight g total ≡ weight g (without total way (length g.edges)) +ℤ weight g (times_each g way)

parts : (a b c x y : ℕ) → b ≤ a → x ≡ a - b → y ≡ b → a * c ≡ x * c + y * c
parts a b c x y h is here =
    let whole : a ≡ x + y = omega (arith, h, is, here) in
    let spread : (x + y) * c ≡ x * c + y * c = grind arith in
    ap (λ (z : ℕ). z * c) whole ∙ spread

int_parts : (a b x y : ℕ) (w : ℤ) → b ≤ a → x ≡ a - b → y ≡ b → pos a *ℤ w ≡ pos x *ℤ w +ℤ pos y *ℤ w
int_parts a b x y w h is here =
    let whole : a ≡ x + y = omega (arith, h, is, here) in
    ap (λ (z : ℕ). pos z *ℤ w) whole ∙ plus-times x y w

split : (g : Multigraph) (total way : List ℕ) → ((k : ℕ) → k < length g.edges → times way (k + 1) ≤ slice_index total k) → IsSplit g total way
split g total way below =
    let m = length g.edges in
    let rest : ℕ → ℕ = λ k. slice_index (without total way m) k in
    let used : ℕ → ℕ = λ k. slice_index (times_each g way) k in
    let is : (k : ℕ) → k < m → rest k ≡ slice_index total k - times way (k + 1) = λ k b. tabled-at (λ k. slice_index total k - times way (k + 1)) m k 0 b in
    record {
      degrees = λ v.
          let at : ℕ → ℕ = λ k. ends_at (edge_at g k) v in
          sum_to-same (λ k. slice_index total k * at k) (λ k. rest k * at k + used k * at k) m
          (λ k b. parts (slice_index total k) (times way (k + 1)) (at k) (rest k) (used k) (below k b) (is k b) (times_each-at g way k b))
          ∙ sum_to-add (λ k. rest k * at k) (λ k. used k * at k) m;
      weights =
          let w : ℕ → ℤ = λ k. (edge_at g k).w in
          int_sum_to-same (λ k. pos (slice_index total k) *ℤ w k) (λ k. pos (rest k) *ℤ w k +ℤ pos (used k) *ℤ w k) m
          (λ k b. int_parts (slice_index total k) (times way (k + 1)) (rest k) (used k) (w k) (below k b) (is k b) (times_each-at g way k b))
          ∙ int_sum_to-add (λ k. pos (rest k) *ℤ w k) (λ k. pos (used k) *ℤ w k) m;
    }

-- 1 at each of two vertices that differ
pub between : (s t v : ℕ) → s ≢ t → odd_between s t v ≡ cond {A = ℕ} (eqb s v) 1 0 + cond {A = ℕ} (eqb t v) 1 0
between s t v apart =
    elim (cases_eq v s) [
      | inl e ↦ rw (eq-eqb v s e, eq-eqb s v (sym e), ne_eqb t v (λ h. apart (sym (h ∙ e)))) refl
      | inr d ↦ elim (cases_eq v t) [
        | inl e ↦ rw (ne_eqb v s d, ne_eqb s v (λ h. d (sym h)), eq-eqb v t e, eq-eqb t v (sym e)) refl
        | inr o ↦ rw (ne_eqb v s d, ne_eqb s v (λ h. d (sym h)), ne_eqb v t o, ne_eqb t v (λ h. o (sym h))) refl
      ]
    ]

rest-even : (i : Network) (s t : ℕ) (total way : List ℕ) → IsNetwork i → s ≢ t → IsOddJoin i (odd_between s t) total
    → ((k : ℕ) → k < length (graph_of i).edges → slice_index total k ≤ 1) → IsWalk (graph_of i) s way → walk_end (graph_of i) s way ≡ t
    → ((k : ℕ) → k < length (graph_of i).edges → times way (k + 1) ≤ slice_index total k) → IsJoinOf Empty i (without total way (length (graph_of i).edges))
rest-even i s t total way ok apart join small walk arrives below =
    let g = graph_of i in
    let m = length g.edges in
    record {
      one_each = tabled-length (λ k. slice_index total k - times way (k + 1)) m ∙ edges-count i;
      at_most_once = All-tabled (λ c. c ≤ 1) (λ k. slice_index total k - times way (k + 1)) m (λ k b. let h = small k b in omega (arith, h));
      degrees = λ x low high.
          let home : cond {A = ℕ} (eqb (walk_end g s way) x) 1 0 ≡ cond {A = ℕ} (eqb t x) 1 0 = ap (λ (y : ℕ). cond {A = ℕ} (eqb y x) 1 0) arrives in
          let odd : degree g total x % 2 ≡ odd_between s t x = join.degrees x low high in
          omega (arith, (split g total way below).degrees x, walk-parity g s x way (network-graph i ok).ends walk, home, odd, between s t x apart);
    }

-- a path within a join weighs no more than the join where no even set weighs less than 0
pub path-weighs : (i : Network) (s t : ℕ) (join way : List ℕ) → IsNetwork i → s ≢ t → ListsJoin i (odd_between s t) join → IsWalk (graph_of i) s way
    → walk_end (graph_of i) s way ≡ t → ((k : ℕ) → k < length (graph_of i).edges → times way (k + 1) ≤ slice_index (listed_counts join (length i.edges)) k)
    → HasNoNegativeEvenSet i → walk_weight (graph_of i) way ≤ℤ walk_weight (graph_of i) join
path-weighs i s t join way ok apart lists walk arrives below even =
    let g = graph_of i in
    let total = listed_counts join (length i.edges) in
    let size = edges-count i in
    let rest = rest-even i s t total way ok apart lists.join (λ k b. listed-small join (length i.edges) k (omega (arith, size, b))) walk arrives below in
    let whole : weight g total ≡ walk_weight g join = ap (λ (n : ℕ). weight g (listed_counts join n)) (sym size) ∙ listed-weight g join lists.ascending lists.in_range in
    omega (arith, ints, even (without total way (length g.edges)) rest, (split g total way below).weights, weight_of_list g way (walk-numbers g s way walk), whole)
