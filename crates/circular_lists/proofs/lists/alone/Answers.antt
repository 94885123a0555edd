use Rattle.graph_theory.proofs.Common.{◌≡◌, ◌∙◌, ℕ, ◌+◌, ◌<◌, ◌≤◌, List, [], ◌∷◌, ◌++◌, ⊎_elim, ap, arith, cases_lt, get_or_append_left, get_or_past}
use Rattle.graph_theory.proofs.Common.{get_or_push, length, length_push}
use Rattle.circular_lists.specs.Linked.{link_at}
use Rattle.circular_lists.proofs.lists.alone.Goals as goal

-- one place more
alone_more : (links new : List ℕ) (n : ℕ) → length links ≡ n → new ≡ links ++ n ∷ [] → ((a : ℕ) → link_at links a ≡ a) → (a : ℕ) → link_at new a ≡ a
alone_more links new n size is alone a = ap (λ (l : List ℕ). link_at l a) is ∙ ⊎_elim
    (λ (low : a < n). get_or_append_left links (n ∷ []) a a (omega (arith, size, low)) ∙ alone a)
    (λ (high : n ≤ a). ⊎_elim
    (λ (past : n < a). get_or_past (links ++ n ∷ []) a a (omega (arith, length_push links n, size, past)))
    (λ (low : a ≤ n). get_or_push links n a a (omega (arith, size, high, low)) ∙ (let e : n ≡ a = omega (arith, high, low) in e))
    (cases_lt n a))
    (cases_lt a n)

pub loop-place-preserved : goal.loop-place-preserved
loop-place-preserved c =
    let links : List ℕ = c.loop-place.links.items in
    record {
      alone = alone_more links c.push.new.self.items c.loop-place.place c.loop-place.invariant.len c.in_ok-push.ensures.items c.loop-place.invariant.alone;
      len = ap length c.in_ok-push.ensures.items ∙ length_push links c.loop-place.place ∙ ap (λ (n : ℕ). n + 1) c.loop-place.invariant.len;
    }
