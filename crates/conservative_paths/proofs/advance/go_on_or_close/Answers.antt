use Rattle.graph_theory.proofs.Common.{◌≡◌, refl, ℕ, ◌∷◌, ◌++◌, [], pos, ◌≤ℤ◌, ◌<ℤ◌, List, All, length, length-append, drop, Option, subst, sym, ap}
use Rattle.graph_theory.proofs.Common.{◌∙◌, arith, ints, by_lt_z, false≢true, IsEdgeNumber, walk_weight}
use Rattle.conservative_paths.specs.Trails.{Follows, GoesOn, ComesBack}
use Rattle.conservative_paths.proofs.Steps.{keeps-goes, keeps-back, closed-comes, numbers-since}
use Rattle.conservative_paths.proofs.advance.go_on_or_close.Goals as goal

pub returns-in_default : goal.returns-in_default
returns-in_default c =
    let old = c.args.trail.now in
    let new = c.follow.new.self in
    let F : Option ℕ → Type 0 = Follows c.args.edge c.args.there old new in
    let goes : GoesOn c.args.edge c.args.there old new = subst F c.in_default.is c.in_ok-place.ensures in
    keeps-goes c.args.graph.now c.args.edge c.args.there old new c.requires.graph.ends goes

pub since-requires : goal.since-requires
since-requires c =
    let old = c.args.trail.now in
    let mid = c.follow.new.self in
    let F : Option ℕ → Type 0 = Follows c.args.edge c.args.there old mid in
    let comes : ComesBack c.args.edge c.args.there c.in-Some.place old mid = subst F c.in-Some.is c.in_ok-place.ensures in
    let size : length mid.edges.items ≡ length (old.edges.items ++ c.args.edge ∷ []) = ap length comes.edges in
    omega (arith, comes.below, c.requires.listed, size, length-append old.edges.items (c.args.edge ∷ []))

pub is_negative-requires : goal.is_negative-requires
is_negative-requires c =
    let old = c.args.trail.now in
    let mid = c.follow.new.self in
    let p = c.in-Some.place in
    let F : Option ℕ → Type 0 = Follows c.args.edge c.args.there old mid in
    let comes : ComesBack c.args.edge c.args.there p old mid = subst F c.in-Some.is c.in_ok-place.ensures in
    let is : c.since.result.now ≡ drop p (old.edges.items ++ c.args.edge ∷ []) = c.since.ensures ∙ ap (drop p) comes.edges in
    let N : List ℕ → Type 0 = All (IsEdgeNumber c.args.graph.now) in
    subst N (sym is) (numbers-since (IsEdgeNumber c.args.graph.now) old.edges.items c.args.edge p c.requires.numbers c.requires.number)

pub returns-then-is_negative : goal.returns-then-is_negative
returns-then-is_negative c =
    let old = c.args.trail.now in
    let mid = c.follow.new.self in
    let p = c.in-Some.place in
    let g = c.args.graph.now in
    let F : Option ℕ → Type 0 = Follows c.args.edge c.args.there old mid in
    let comes : ComesBack c.args.edge c.args.there p old mid = subst F c.in-Some.is c.in_ok-place.ensures in
    let same : walk_weight g c.since.result.now ≡ walk_weight g (drop p mid.edges.items) = ap (walk_weight g) c.since.ensures in
    let less : walk_weight g c.since.result.now <ℤ pos 0 = c.if-is_negative.ensures.0 refl in
    record {
      closed = closed-comes g c.args.edge c.args.there p old mid c.requires.graph.ends comes;
      negative = omega (arith, ints, same, less);
    }

pub returns : goal.returns
returns c =
    let old = c.args.trail.now in
    let mid = c.follow.new.self in
    let p = c.in-Some.place in
    let g = c.args.graph.now in
    let F : Option ℕ → Type 0 = Follows c.args.edge c.args.there old mid in
    let comes : ComesBack c.args.edge c.args.there p old mid = subst F c.in-Some.is c.in_ok-place.ensures in
    let same : walk_weight g c.since.result.now ≡ walk_weight g (drop p mid.edges.items) = ap (walk_weight g) c.since.ensures in
    let low : pos 0 ≤ℤ walk_weight g (drop p mid.edges.items) = by_lt_z (walk_weight g (drop p mid.edges.items)) (pos 0)
    (λ less. absurd (false≢true (c.if-is_negative.ensures.1 (omega (arith, ints, same, less)))))
    (λ more. more) in
    keeps-back g c.args.edge c.args.there p old mid c.cut.new.self c.requires.graph.ends comes c.cut.ensures low
