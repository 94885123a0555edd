use Rattle.alt_forest.proofs.Common.{◌≡◌, ◌∙◌, ◌-◌, ◌<◌, ◌++◌, ◌∷◌, [], List, ℕ, length, sym, ap, subst, arith, is_some, length_push, edge_of, other_end}
use Rattle.alt_forest.proofs.Common.{vertex_range, edge_in}
use Rattle.mwpm_engine.proofs.EvenPaths.{IsEvenSoFar, at_vertex, first_is, second_is, goes_on, goes_further, ends_even, short}
use Rattle.mwpm_engine.proofs.even_paths.alternate.Goals as goal

pub edge_at-requires : goal.edge_at-requires
edge_at-requires c = omega (arith, (vertex_range c.args.graph.now.vertices _ (at_vertex c.requires.possible c.loop-first.invariant.even)).1, c.requires.places)

pub other_end-across-requires : goal.other_end-across-requires
other_end-across-requires c = first_is c.requires.possible c.loop-first.invariant.even c.in-Some.first (sym c.edge_at.ensures ∙ c.in-Some.is)

pub kept_edge-second-requires-clause-some : goal.kept_edge-second-requires-clause-some
kept_edge-second-requires-clause-some c =
    let on = goes_on c.requires.possible c.loop-first.invariant.even c.in-Some.first (sym c.edge_at.ensures ∙ c.in-Some.is) in
    ap is_some (ap (edge_in c.args.other.now) c.other_end-across.ensures.end ∙ on.1)

pub other_end-at-requires : goal.other_end-at-requires
other_end-at-requires c =
    let on = ap (edge_in c.args.other.now) (sym c.other_end-across.ensures.end) ∙ sym c.kept_edge-second.ensures in
    second_is c.requires.possible c.loop-first.invariant.even c.in-Some.first (sym c.edge_at.ensures ∙ c.in-Some.is) c.kept_edge-second.result on

pub loop-first-smaller : goal.loop-first-smaller
loop-first-smaller c =
    let es = c.loop-first.path.items in let few = short c.requires.possible c.loop-first.invariant.even in
    let long : length c.push_both.new.path.items ≡ length ((es ++ c.in-Some.first ∷ []) ++ c.kept_edge-second.result ∷ []) = ap length c.in_ok-push_both.ensures in
    let less : c.args.graph.now.vertices - length c.push_both.new.path.items < c.args.graph.now.vertices - length es =
    omega (arith, few, length_push es c.in-Some.first, length_push (es ++ c.in-Some.first ∷ []) c.kept_edge-second.result, long) in
    less

pub loop-first-preserved : goal.loop-first-preserved
loop-first-preserved c =
    let g = c.args.graph.now in
    let so_far = IsEvenSoFar g (edge_in c.args.mates.now) (edge_in c.args.other.now) c.args.v in
    let there = c.other_end-across.ensures.end in
    let on = ap (edge_in c.args.other.now) (sym there) ∙ sym c.kept_edge-second.ensures in
    let further = goes_further c.requires.possible c.loop-first.invariant.even c.in-Some.first (sym c.edge_at.ensures ∙ c.in-Some.is) c.kept_edge-second.result on in
    record {
      even = subst (λ (es : List ℕ). so_far es c.other_end-at.result) (sym c.in_ok-push_both.ensures)
          (subst (so_far _) (sym (c.other_end-at.ensures.end ∙ ap (other_end (edge_of g c.kept_edge-second.result)) there)) further);
    }

pub returns : goal.returns
returns c = ends_even c.requires.possible c.loop-first.invariant.even (sym c.edge_at.ensures ∙ c.in_default.is)
