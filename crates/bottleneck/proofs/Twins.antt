-- Graphs whose edges join the same vertices have the same barriers, and edges that join the same vertices as those of a perfect
-- matching are one.
use Rattle.mb_problem.proofs.Common.{◌≡◌, ℕ, ◌≤◌, cond, refl, sym, ◌∙◌, subst, arith, List, [], ◌∷◌, All, count_by, AllZip, sum_by-cons, All-head, All-tail}
use Rattle.mb_problem.proofs.Common.{AllZip-get_or, length_all_zip, Multigraph, IsEdgeNumber, edge_of, touches, IsBarrier, IsTwin, HasTwin, AreAlike, touches-twin, count-twin}
use Rattle.gadget_base.specs.Certified.{IsPerfectList}

pub barrier-twin : (a b : Multigraph) (removed : List ℕ) → AreAlike a b → IsBarrier a removed → IsBarrier b removed
barrier-twin a b removed like barrier = (barrier.0, count-twin a b removed barrier.0 like barrier.1, barrier.2)

-- the edges of one list have the ends of those of the other
abbrev pub AreTwins : Multigraph → Multigraph → List ℕ → List ℕ → Type 0
AreTwins a b = AllZip (IsTwin a b)

twins-numbers : (a b : Multigraph) (es fs : List ℕ) → AreTwins a b es fs → All (IsEdgeNumber b) fs
twins-numbers a b es fs h = λ k d below. (AllZip-get_or (IsTwin a b) es fs k d d h (omega (arith, below, length_all_zip (IsTwin a b) es fs h))).is_edge

twins-count : (a b : Multigraph) (v : ℕ) (es fs : List ℕ) → AreTwins a b es fs → count_by (λ f. touches (edge_of b f) v) fs ≡ count_by (λ e. touches (edge_of a e) v) es
twins-count a b v [] [] h = refl
twins-count a b v [] (f ∷ fs) h = absurd h
twins-count a b v (e ∷ es) [] h = absurd h
twins-count a b v (e ∷ es) (f ∷ fs) h =
    let here : touches (edge_of b f) v ≡ touches (edge_of a e) v = touches-twin (edge_of a e) (edge_of b f) v h.0.u h.0.v in
    rw (sum_by-cons (λ x. cond (touches (edge_of b x) v) 1 0) f fs, sum_by-cons (λ x. cond (touches (edge_of a x) v) 1 0) e es, here, twins-count a b v es fs h.1) refl

pub perfect-twin : (a b : Multigraph) (es fs : List ℕ) → a.vertices ≡ b.vertices → AreTwins a b es fs → IsPerfectList a es → IsPerfectList b fs
perfect-twin a b es fs same twins perfect = record {
  numbers = twins-numbers a b es fs twins;
  one_each = λ v low high. twins-count a b v es fs twins ∙ perfect.one_each v low (subst (λ (n : ℕ). v ≤ n) (sym same) high);
}

-- each listed edge has one
pub twins-of : (a b : Multigraph) (es : List ℕ) → All (HasTwin a b) es → (fs : List ℕ) × AreTwins a b es fs
twins-of a b [] h = ([], tt)
twins-of a b (e ∷ es) h =
    let first = All-head (HasTwin a b) e es h in
    let rest = twins-of a b es (All-tail (HasTwin a b) e es h) in
    (first.0 ∷ rest.0, (first.1, rest.1))
