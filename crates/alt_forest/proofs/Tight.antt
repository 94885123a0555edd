-- Circuits of tight edges, where the edges that are tight stay so.
use Rattle.graph_theory.proofs.Common.{ℕ, List, [], ◌∷◌, AllByRecursion}
use Rattle.blossom_arena.specs.declared.links.Link.{Link}
use Rattle.blossom_arena.specs.Family.{Blossom}
use Rattle.alt_forest.specs.State.{State, IsTight}

-- what follows of each thing follows of all
pub each_kept : {X : Type 0} (P Q : X → Type 0) → ((x : X) → P x → Q x) → (xs : List X) → AllByRecursion P xs → AllByRecursion Q xs
each_kept P Q f [] each = tt
each_kept P Q f (x ∷ xs) each = (f x each.0, each_kept P Q f xs each.1)

module _ (s t : State) (stays : (e : ℕ) → IsTight s e → IsTight t e) where
  pub tight_ring : (ring : List Link) → AllByRecursion (λ (l : Link). IsTight s l.edge) ring → AllByRecursion (λ (l : Link). IsTight t l.edge) ring
  tight_ring = each_kept (λ (l : Link). IsTight s l.edge) (λ (l : Link). IsTight t l.edge) (λ l. stays l.edge)

  pub tight_rings : (bs : List Blossom) → AllByRecursion (λ (b : Blossom). AllByRecursion (λ (l : Link). IsTight s l.edge) b.ring) bs
      → AllByRecursion (λ (b : Blossom). AllByRecursion (λ (l : Link). IsTight t l.edge) b.ring) bs
  tight_rings = each_kept _ _ (λ b. tight_ring b.ring)
