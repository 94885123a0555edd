-- No edge of the instance's graph without its loops is one.
use Rattle.mb_problem.proofs.Common.{not-true, ◌≡◌, ◌≢◌, true, false, not, sym, ◌∙◌, map, slice_index_or, eq-eqb, false≢true, filter_passes, Edge, is_loop, HasNoLoop}
use Rattle.mb_problem.proofs.Common.{Network, plain, plain_graph}

pub apart_ends : (e : Edge) → is_loop e ≡ false → e.u ≢ e.v
apart_ends e link same = false≢true (sym link ∙ eq-eqb e.u e.v same)

pub plain-no_loop : (i : Network) → HasNoLoop (plain_graph i)
plain-no_loop i = λ k d b. let e = slice_index_or (plain_graph i).edges k d in not-true (is_loop e) (filter_passes (λ e. not (is_loop e)) (map plain i.edges) k d b)
