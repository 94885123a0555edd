use Rattle.graph_theory.proofs.Common.{◌≡◌, ◌≢◌, ◌∙◌, ◌↔◌, ℕ, List, ◌∷◌, drop, None, sym, ap, subst, arith}
use Rattle.alt_forest.specs.declared.search.Search.{Search}
use Rattle.alt_forest.specs.State.{IsOutermost}
use Rattle.alt_forest.specs.Trees.{path_of, up_of, root_of, first_common, last_of}
use Rattle.alt_forest.specs.Searches.{IsSound, state_of}
use Rattle.alt_forest.specs.Routes.{AreLevel}
use Rattle.alt_forest.proofs.Places.{nested_of, outer_range}
use Rattle.alt_forest.proofs.Paths.{path_of-step}
use Rattle.alt_forest.proofs.Routes.{IsRoute, way_route, levelled, common_ends}
use Rattle.alt_forest.proofs.search.Search.meet.Goals.{After-shortened-2}
use Rattle.alt_forest.proofs.search.Search.meet.Goals as goal

ends : (s : Search) (a b : ℕ) → IsSound s → IsOutermost (state_of s) a → IsOutermost (state_of s) b
    → (first_common (path_of (state_of s) a) (path_of (state_of s) b) ≡ None) ↔ (root_of (state_of s) a ≢ root_of (state_of s) b)
ends s a b h a_is b_is =
    let t = state_of s in
    let some : (x : ℕ) → IsOutermost t x → x ≢ 0 = λ x is e. absurd (omega (arith, e, (outer_range s x h.shape is).0)) in
    let left : path_of t a ≡ a ∷ path_of t (up_of t a) = path_of-step t h.depth a (nested_of s h.shape) h.state a_is (some a a_is) in
    let right : path_of t b ≡ b ∷ path_of t (up_of t b) = path_of-step t h.depth b (nested_of s h.shape) h.state b_is (some b b_is) in
    let both = common_ends (path_of t) a (path_of t (up_of t a)) b (path_of t (up_of t b)) (subst (IsRoute (path_of t)) left (way_route s a h a_is))
    (subst (IsRoute (path_of t)) right (way_route s b h b_is)) in
    subst (λ (xs : List ℕ). (first_common xs (path_of t b) ≡ None) ↔ (last_of 0 xs ≢ last_of 0 (path_of t b))) (sym left)
    (subst (λ (ys : List ℕ). (first_common (a ∷ path_of t (up_of t a)) ys ≡ None) ↔ (last_of 0 (a ∷ path_of t (up_of t a)) ≢ last_of 0 ys)) (sym right) both)

-- the two ways are cut to one length, and that keeps what they share first
levelled_ways : (c : After-shortened-2) → AreLevel c.shortened.result c.shortened-2.result
    × (first_common c.shortened.result c.shortened-2.result ≡ first_common (path_of (state_of c.args.self.now) c.args.a) (path_of (state_of c.args.self.now) c.args.b))
levelled_ways c =
    let s = state_of c.args.self.now in let left = c.shortened.ensures ∙ ap (drop _) c.path_to_root.ensures.path in
    let right = c.shortened-2.ensures ∙ ap (drop _) c.path_to_root-2.ensures.path in
    rw (left, right) (levelled (path_of s) (path_of s c.args.a) (path_of s c.args.b) (way_route c.args.self.now c.args.a c.requires.sound c.requires.a_outermost)
    (way_route c.args.self.now c.args.b c.requires.sound c.requires.b_outermost) _ _ (omega (arith, c.saturating_sub.ensures, c.heights-left.ensures))
    (omega (arith, c.saturating_sub-2.ensures, c.heights-left.ensures)))

pub first_shared-requires : goal.first_shared-requires
first_shared-requires c = (levelled_ways (goal.at.first_shared-requires c).After-shortened-2).0

pub returns : goal.returns
returns c =
    let meet = c.first_shared.ensures ∙ (levelled_ways (goal.at.returns c).After-shortened-2).1 in
    record { meet = meet; none = rw meet (ends c.args.self.now c.args.a c.args.b c.requires.sound c.requires.a_outermost c.requires.b_outermost) }
