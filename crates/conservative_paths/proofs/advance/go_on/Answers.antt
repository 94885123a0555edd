use Rattle.graph_theory.proofs.Common.{ℕ, Option, subst}
use Rattle.conservative_paths.specs.Trails.{Follows, GoesOn, ComesBack}
use Rattle.conservative_paths.proofs.Steps.{open-goes, open-back}
use Rattle.conservative_paths.proofs.advance.go_on.Goals as goal

pub returns-in-Some : goal.returns-in-Some
returns-in-Some c =
    let old = c.args.trail.now in
    let mid = c.follow.new.self in
    let F : Option ℕ → Type 0 = Follows c.args.edge c.args.there old mid in
    let comes : ComesBack c.args.edge c.args.there c.in-Some.place old mid = subst F c.in-Some.is c.in_ok-place.ensures in
    open-back c.args.graph.now c.args.edge c.args.there c.in-Some.place old mid c.cut.new.self c.requires.graph.ends comes c.cut.ensures

pub returns-in_default : goal.returns-in_default
returns-in_default c =
    let old = c.args.trail.now in
    let new = c.follow.new.self in
    let F : Option ℕ → Type 0 = Follows c.args.edge c.args.there old new in
    let goes : GoesOn c.args.edge c.args.there old new = subst F c.in_default.is c.in_ok-place.ensures in
    open-goes c.args.graph.now c.args.edge c.args.there old new c.requires.graph.ends goes
