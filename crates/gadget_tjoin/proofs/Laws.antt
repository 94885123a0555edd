-- The joins of each parity, and what the contracts say of them.
use Rattle.mb_problem.proofs.Common.{◌≡◌, ℕ, ℤ, pos, ◌*ℤ◌, ◌≤ℤ◌, sym, subst, arith, List, length, Result, Ok, Err, IfOk, ints, weight, Network, IsNetwork, graph_of}
use Rattle.mb_problem.proofs.Common.{IsJoin, odd_at, IsJoinOf, listed_counts, odd_at-bit}
use Rattle.mb_problem.specs.declared.answer.Answer.TheVariants.{Counts, Walk, Nothing}
use Rattle.gadget_base.proofs.Common.{ports_graph, ReachesAll, IsPerfectList}
use Rattle.mb_problem.specs.declared.kind.Kind.TheVariants.{TJoin}
use Rattle.mb_problem.specs.declared.answer.Parity.{Parity}
use Rattle.mb_problem.specs.declared.answer.Parity.TheVariants.{Values}
use Rattle.gadget_tjoin.specs.Joins.{ReachesJoins}
use Rattle.gadget_tjoin.proofs.Reached.{IsOddAt, paired, paired-perfect, paired-weight}
use Rattle.gadget_tjoin.proofs.Back.{AreOwn, own-join}

pub as_odd : (parity : Parity) (i : Network) (counts : List ℕ) → IsJoinOf parity i counts → IsOddAt i (odd_at parity i) counts
as_odd parity i counts join = record { one_each = join.one_each; value_limit = join.at_most_once; parity = join.degrees }

pub as_join : (parity : Parity) (i : Network) (counts : List ℕ) → IsOddAt i (odd_at parity i) counts → IsJoinOf parity i counts
as_join parity i counts odd = record { one_each = odd.one_each; at_most_once = odd.value_limit; degrees = odd.parity }

pub reaches-joins : (parity : Parity) (i : Network) → IsNetwork i → ReachesJoins parity i
reaches-joins parity i ok = λ counts join. record {
  counts = paired i (odd_at parity i) counts;
  perfect = paired-perfect i (odd_at parity i) counts ok (as_odd parity i counts join);
  weighs = paired-weight i (odd_at parity i) counts;
}

value-join : (i : Network) (counts : List ℕ) → IsJoin i counts → IsJoinOf Values i counts
value-join i counts join = record { one_each = join.one_each; at_most_once = join.at_most_once; degrees = join.degrees }

twice-le : (a b : ℤ) → a ≡ b → (pos 2 *ℤ a) ≤ℤ (pos 2 *ℤ b)
twice-le a b e = omega (arith, ints, e)

tjoins-reached : (i : Network) → IsNetwork i → ReachesAll TJoin i
tjoins-reached i ok (Counts counts) join =
    let r = reaches-joins Values i ok counts (value-join i counts join) in
    record { counts = r.counts; perfect = r.perfect; weighs = twice-le (weight (ports_graph i (odd_at Values i)) r.counts) (weight (graph_of i) counts) r.weighs }
tjoins-reached i ok (Walk start edges) join = absurd join
tjoins-reached i ok Nothing join = absurd join

pub reaches_tjoins : (parity : Parity) (i : Network) → IsNetwork i → parity ≡ Values → ReachesAll TJoin i
reaches_tjoins parity i ok is = tjoins-reached i ok

pub own-join_of : (parity : Parity) (i : Network) (join matching : List ℕ) → IsNetwork i → AreOwn (length i.edges) join matching → IsPerfectList (ports_graph i (odd_at parity i)) matching
    → IsJoinOf parity i (listed_counts join (length i.edges))
own-join_of parity i join matching ok own perfect = as_join parity i (listed_counts join (length i.edges)) (own-join i (odd_at parity i) join matching ok (odd_at-bit parity i) own perfect)

-- what holds of the one value that a result may have
pub if_that : {T E : Type 0} (P : T → Type 0) (r : Result T E) (x : T) → IfOk r (λ y. y ≡ x) → P x → IfOk r P
if_that P (Ok y) x is p = subst P (sym is) p
if_that P (Err e) x is p = tt
