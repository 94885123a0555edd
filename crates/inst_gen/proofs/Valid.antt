-- A made instance is within the ranges that every instance keeps.
use Rattle.mb_problem.proofs.Common.{◌≡◌, ℕ, zero, suc, ◌+◌, ◌-◌, ◌*◌, ◌<◌, ◌≤◌, ◌/◌, ◌^◌, ◌||◌, ◌==◌, Bool, true, false, cond, ltb, leb, List}
use Rattle.mb_problem.proofs.Common.{length, slice_index, replicate, All, pos, ◌-ℤ◌, refl, sym, ap, ap₂, subst, ◌∙◌, arith, ltb-true, ints, mod_below, length-replicate}
use Rattle.mb_problem.proofs.Common.{All-replicate, IfSome, IsWeight, vertex_value_of, edge_use_of, Network, IsInstanceEdge, IsNetwork}
use Rattle.mb_problem.specs.declared.instance.InstanceEdge.{InstanceEdge}
use Rattle.mb_problem.specs.declared.kind.Kind.{Kind}
use Rattle.mb_problem.specs.declared.kind.VertexValue.{VertexValue}
use Rattle.mb_problem.specs.declared.kind.VertexValue.TheVariants.{Unused, Degree, End, Bounds, Parity}
use Rattle.mb_problem.specs.declared.kind.EdgeUse.{EdgeUse}
use Rattle.mb_problem.specs.declared.kind.EdgeUse.TheVariants.{Once, AnyNumber, WithinCapacity, WithinBounds}
use Rattle.mb_problem.specs.declared.limits.TheConstants.{VERTEX_LIMIT, EDGE_LIMIT, VALUE_LIMIT}
use Rattle.gadget_base.proofs.Blocks.{tabled-length, All-tabled}
use Rattle.inst_gen.specs.declared.limits.TheConstants.{MADE_WEIGHT_LIMIT, MADE_CAPACITY_LIMIT}
use Rattle.inst_gen.specs.Draws.{next_state, state_after, drawn}
use Rattle.inst_gen.specs.Made.{value_draws, value_by, value_at, is_from_zero, capacity_by, edge_between, other_than, edge_at, edge_draws, values_from, edges_from, made}

pub drawn_below : (k s : ℕ) → 0 < k → drawn k s < k
drawn_below k s some = mod_below (next_state s / 2 ^ 33) k some

-- ---- one vertex, one edge

choice_small : (b : Bool) → cond {A = ℕ} b 1 0 ≤ VALUE_LIMIT
choice_small true = omega arith
choice_small false = omega arith

value_small : (value : VertexValue) (s n k : ℕ) → value_by value s n k ≤ VALUE_LIMIT
value_small Unused s n k = omega arith
value_small Degree s n k = omega (arith, drawn_below 2 s (omega arith))
value_small Parity s n k = omega (arith, drawn_below 2 s (omega arith))
value_small End s n k = choice_small ((k == 0) || (k + 1 == n))
value_small Bounds s n k = omega arith

shifted : (r : ℕ) → r < 2 * MADE_WEIGHT_LIMIT + 1 → IsWeight (pos r -ℤ pos MADE_WEIGHT_LIMIT)
shifted r h = (omega (arith, ints, h), omega (arith, ints, h))

plain : (r : ℕ) → r < MADE_WEIGHT_LIMIT + 1 → IsWeight (pos r)
plain r h = (omega (arith, ints, h), omega (arith, ints, h))

shifted_draw : (s : ℕ) → IsWeight (pos (drawn (2 * MADE_WEIGHT_LIMIT + 1) s) -ℤ pos MADE_WEIGHT_LIMIT)
shifted_draw s = shifted (drawn (2 * MADE_WEIGHT_LIMIT + 1) s) (drawn_below (2 * MADE_WEIGHT_LIMIT + 1) s (omega arith))

plain_draw : (s : ℕ) → IsWeight (pos (drawn (MADE_WEIGHT_LIMIT + 1) s))
plain_draw s = plain (drawn (MADE_WEIGHT_LIMIT + 1) s) (drawn_below (MADE_WEIGHT_LIMIT + 1) s (omega arith))

weight_fits : (least : Bool) (s : ℕ) → IsWeight (cond least (pos (drawn (MADE_WEIGHT_LIMIT + 1) s)) (pos (drawn (2 * MADE_WEIGHT_LIMIT + 1) s) -ℤ pos MADE_WEIGHT_LIMIT))
weight_fits true s = plain_draw s
weight_fits false s = shifted_draw s

capacity_small : (often : EdgeUse) (s : ℕ) → IfSome (capacity_by often s) (λ c. c ≤ VALUE_LIMIT)
capacity_small Once s = tt
capacity_small AnyNumber s = tt
capacity_small WithinCapacity s = omega (arith, drawn_below MADE_CAPACITY_LIMIT s (omega arith))
capacity_small WithinBounds s = omega (arith, drawn_below MADE_CAPACITY_LIMIT s (omega arith))

between_fits : (kind : Kind) (s u v n : ℕ) → 1 ≤ u → u ≤ n → 1 ≤ v → v ≤ n → IsInstanceEdge n (edge_between kind s u v)
between_fits kind s u v n u_low u_high v_low v_high = record {
  ends = record { u_low = u_low; u_high = u_high; v_low = v_low; v_high = v_high };
  weight = weight_fits (is_from_zero kind) s;
  capacity = capacity_small (edge_use_of kind) (next_state s);
}

other_fits : (n r : ℕ) (b : Bool) → r < n - 1 → (1 ≤ cond b (2 + r) (1 + r)) × (cond b (2 + r) (1 + r) ≤ n)
other_fits n r true below = (omega arith, omega (arith, below))
other_fits n r false below = (omega arith, omega (arith, below))

drawn_fits : (kind : Kind) (s n r t : ℕ) → r < n → t < n - 1 → IsInstanceEdge n (edge_between kind s (1 + r) (other_than (1 + r) t))
drawn_fits kind s n r t first second =
    let other = other_fits n t (leb (1 + r) (1 + t)) second in
    between_fits kind s (1 + r) (other_than (1 + r) t) n (omega arith) (omega (arith, first)) other.0 other.1

edge_by : (kind : Kind) (s n k : ℕ) (b : Bool) → ltb (k + 1) n ≡ b → 2 ≤ n →
    IsInstanceEdge n (cond b (edge_between kind s (k + 1) (k + 2)) (edge_between kind (state_after s 2) (1 + drawn n s) (other_than (1 + drawn n s) (drawn (n - 1) (next_state s)))))
edge_by kind s n k true e two =
    let less = ltb-true (k + 1) n e in between_fits kind s (k + 1) (k + 2) n (omega arith) (omega (arith, less)) (omega arith) (omega (arith, less))
edge_by kind s n k false e two =
    drawn_fits kind (state_after s 2) n (drawn n s) (drawn (n - 1) (next_state s)) (drawn_below n s (omega (arith, two))) (drawn_below (n - 1) (next_state s) (omega (arith, two)))

edge_fits : (kind : Kind) (s n k : ℕ) → 2 ≤ n → IsInstanceEdge n (edge_at kind s n k)
edge_fits kind s n k two = edge_by kind s n k (ltb (k + 1) n) refl two

-- ---- the whole

ordered : (n k : ℕ) → slice_index (replicate n 0) k ≤ slice_index (replicate n 1) k
ordered zero k = omega arith
ordered (suc n) zero = omega arith
ordered (suc n) (suc k) = ordered n k

pub made_is_network : (kind : Kind) (start n m : ℕ) → n ≤ VERTEX_LIMIT → m ≤ EDGE_LIMIT → (0 < m → 2 ≤ n) → IsNetwork (made kind start n m)
made_is_network kind start n m few_vertices few_edges ends =
    let s = state_after start (value_draws kind n) in
    let size = tabled-length (λ k. value_at kind (state_after start (value_draws kind k)) n k) n in
    record {
      few_vertices = omega (arith, size, few_vertices);
      few_edges = omega (arith, tabled-length (λ k. edge_at kind (state_after s (edge_draws kind n k)) n k) m, few_edges);
      edges = subst (λ (v : ℕ). All (IsInstanceEdge v) (edges_from kind s n m)) (sym size)
          (All-tabled (IsInstanceEdge n) (λ k. edge_at kind (state_after s (edge_draws kind n k)) n k) m
          (λ k below. edge_fits kind (state_after s (edge_draws kind n k)) n k (ends (omega (arith, below)))));
      values = All-tabled (λ b. b ≤ VALUE_LIMIT) (λ k. value_at kind (state_after start (value_draws kind k)) n k) n
          (λ k below. value_small (vertex_value_of kind) (state_after start (value_draws kind k)) n k);
      low_each = length-replicate n 0 ∙ sym size;
      high_each = length-replicate n 1 ∙ sym size;
      ordered = ordered n;
      highs = All-replicate (λ b. b ≤ VALUE_LIMIT) n 1 (omega arith);
    }

-- the instance of these edges and values, with the bounds 0 and 1
abbrev pub valued : List InstanceEdge → List ℕ → Network
valued edges values = record { edges = edges; values = values; lows = replicate (length values) 0; highs = replicate (length values) 1 }

-- values that are drawn from the start, and then edges, are those of the made instance
pub valued-made : (kind : Kind) (start n m first second : ℕ) (edges : List InstanceEdge) (values : List ℕ) → first ≡ start → values ≡ values_from kind first n
    → second ≡ state_after first (value_draws kind n) → edges ≡ edges_from kind second n m → valued edges values ≡ made kind start n m
valued-made kind start n m first second edges values begins are_values goes_on are_edges =
    let size = tabled-length (λ k. value_at kind (state_after start (value_draws kind k)) n k) n in
    let es = are_edges ∙ ap (λ (s : ℕ). edges_from kind s n m) (goes_on ∙ ap (λ (s : ℕ). state_after s (value_draws kind n)) begins) in
    let vs = are_values ∙ ap (λ (s : ℕ). values_from kind s n) begins in
    ap₂ valued es vs ∙ ap (λ (k : ℕ). (let i : Network = record (made kind start n m) { lows = replicate k 0; highs = replicate k 1 } in i)) size
