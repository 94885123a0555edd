-- The edges of a matching, listed.
use Rattle.graph_theory.proofs.Common.{◌≡◌, ℕ, ◌+◌, ◌<◌, Bool, cond, eqb, List, length, sym, ◌∙◌, arith, slice_index, get_or-map-range_with_len, Multigraph, edge_of}
use Rattle.gadget_base.specs.Listed.{ListsCounts}
use Rattle.mwpm_engine.specs.Solutions.{mate_at, matching_of}
use Rattle.graph_theory.proofs.Passing.{passing, passing-range}
use Rattle.least_joins.proofs.Listing.{passing-times}

-- the edge is the one at its first end
abbrev pub is_in : Multigraph → List ℕ → ℕ → Bool
is_in g mates e = eqb (mate_at mates (edge_of g e).u) e

-- the count of an edge
matching-at : (g : Multigraph) (mates : List ℕ) (k : ℕ) → k < length g.edges → slice_index (matching_of g mates) k ≡ cond (is_in g mates (k + 1)) 1 0
matching-at g mates k below = get_or-map-range_with_len (λ e. cond (is_in g mates e) 1 0) 1 (length g.edges) k (k + 1) 0 below (omega arith)

pub matching-listed : (g : Multigraph) (mates : List ℕ) → ListsCounts g (matching_of g mates) (passing (is_in g mates) (length g.edges))
matching-listed g mates =
    let m = length g.edges in
    let p = is_in g mates in
    record {
      numbers = passing-range p m;
      each = λ k b. passing-times p m (k + 1) (omega arith) (omega arith) ∙ sym (matching-at g mates k b);
    }
