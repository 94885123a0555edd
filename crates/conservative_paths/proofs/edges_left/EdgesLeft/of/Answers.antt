use Rattle.mb_problem.proofs.Common.{◌≡◌, ℕ, ◌+◌, ◌≤◌, List, length, slice_index, replicate, ap, sym, ◌∙◌, arith, length-replicate, get_or-replicate, vertices}
use Rattle.mb_problem.proofs.Common.{edges-count, listed-length}
use Rattle.conservative_paths.proofs.edges_left.EdgesLeft.of.Goals as goal

pub returns-clause-left : goal.returns-clause-left
returns-clause-left c =
    let i = c.args.instance.now in
    let n = c.vertices.result + 1 in
    let count : c.vertices.result ≡ vertices i = c.vertices.ensures.count in
    let zeros : c.in_ok-looked.looked.items ≡ replicate n 0 = c.in_ok-looked.ensures.items_if_clones_equal (λ y h. h) in
    let zero : (v : ℕ) → v ≤ vertices i → slice_index c.in_ok-looked.looked.items v ≡ 0 =
    λ v b. ap (λ (xs : List ℕ). slice_index xs v) zeros ∙ get_or-replicate n v 0 0 (omega (arith, b, count)) in
    record {
      one_each = ap length c.in_ok-counts.ensures ∙ listed-length c.args.edges.now c.edges.result ∙ c.edges.ensures.count ∙ sym (edges-count i);
      looked = record {
        size = ap length zeros ∙ length-replicate n 0 ∙ ap (λ (x : ℕ). x + 1) count;
        within = λ v b. omega (arith, zero v b);
        none = λ v b j low. absurd (omega (arith, zero v b, low));
      };
    }
