use Rattle.graph_theory.proofs.Common.{◌≡◌, ℕ, ◌-◌, ◌*◌, ◌<◌, ◌≤◌, List, length, Option, Some, None, sym, ap, subst, arith, IfNone, IfSome, same_Some}
use Rattle.alt_forest.specs.Trees.{path_of}
use Rattle.alt_forest.specs.Searches.{state_of}
use Rattle.alt_forest.specs.Routes.{IsAt}
use Rattle.alt_forest.proofs.Relabelled.{some_not_none}
use Rattle.alt_forest.proofs.Routes.{heights_differ, way_few}
use Rattle.alt_forest.proofs.meet.heights.Goals.{In-Some}
use Rattle.alt_forest.proofs.meet.heights.Goals as goal

-- the node that comes after those that were counted
comes_after : (o : Option ℕ) (xs ys : List ℕ) (k n x : ℕ) → IfSome o (λ y. (k ≡ n) × IsAt xs n y) → o ≡ Some x → xs ≡ ys → (k ≡ n) × IsAt ys k x
comes_after None xs ys k n x e has same = some_not_none x (sym has)
comes_after (Some y) xs ys k n x e has same = (e.0, subst (λ zs. IsAt zs k x) same (subst (λ j. IsAt xs j x) (sym e.0) (subst (IsAt xs n) (same_Some y x has) e.1)))

less_left : (n k : ℕ) → k < n → 0 < k → n - k * 2 < n - k
less_left n k within some = omega (arith, within, some)

-- a path that is shorter than what is counted is counted to its end
to_end : (o : Option ℕ) (xs : List ℕ) (k n : ℕ) → IfNone o (k ≡ length xs) → IfSome o (λ y. (k ≡ n) × IsAt xs n y) → length xs ≤ n → k ≡ length xs
to_end None xs k n e on few = e
to_end (Some y) xs k n e on few = absurd (omega (arith, on.1.0, few))

pub returns-in_default : goal.returns-in_default
returns-in_default c =
    let s = c.args.search.now in
    let one : c.path_to_root.result ≡ path_of (state_of s) c.args.a = c.path_to_root.ensures.path in
    let other : c.path_to_root-in_default.result ≡ path_of (state_of s) c.args.b = c.path_to_root-in_default.ensures.path in
    let left : c.counted-left.result.0 ≡ length c.path_to_root.result =
    subst (λ o. IfNone o (c.counted-left.result.0 ≡ length c.path_to_root.result)) c.in_default.is c.counted-left.ensures.ended in
    let few : length c.path_to_root-in_default.result ≤ 4294967295 = omega (arith, ap length other, way_few s c.args.b c.requires.sound c.requires.b_outermost) in
    let right = to_end c.counted-right.result.1 c.path_to_root-in_default.result c.counted-right.result.0 4294967295 c.counted-right.ensures.ended c.counted-right.ensures.goes_on few in
    omega (arith, left, right, ap length one, ap length other)

-- the node that was found stands on the way of the first node, behind those that were counted
found : (c : In-Some) → (c.counted-left.result.0 ≡ c.loop-node.reach) × IsAt (path_of (state_of c.args.search.now) c.args.a) c.counted-left.result.0 c.in-Some.node
found c = comes_after c.counted-left.result.1 _ (path_of (state_of c.args.search.now) c.args.a) c.counted-left.result.0 c.loop-node.reach c.in-Some.node
    c.counted-left.ensures.goes_on c.in-Some.is c.path_to_root.ensures.path

pub returns-in-Some-place_of : goal.returns-in-Some-place_of
returns-in-Some-place_of c =
    heights_differ c.args.search.now c.args.a c.args.b c.counted-left.result.0 c.in-Some-place_of.right c.in-Some.node c.requires.sound c.requires.a_outermost c.requires.b_outermost
    (found (goal.at.returns-in-Some-place_of c).In-Some).1
    (subst (λ (xs : List ℕ). IsAt xs c.in-Some-place_of.right c.in-Some.node) c.path_to_root-in-loop-node.ensures.path c.in-Some-place_of.ensures.found)

pub loop-node-smaller : goal.loop-node-smaller
loop-node-smaller c =
    let at = found (goal.at.loop-node-smaller c).In-Some in
    less_left (length (path_of (state_of c.args.search.now) c.args.a)) c.loop-node.reach (omega (arith, at.1.0, at.0)) c.loop-node.invariant.some

pub loop-node-preserved : goal.loop-node-preserved
loop-node-preserved c =
    let at = found (goal.at.loop-node-preserved c).In-Some in
    record { some = omega (arith, c.loop-node.invariant.some); low = omega (arith, at.1.0, at.0, way_few c.args.search.now c.args.a c.requires.sound c.requires.a_outermost) }
