use Rattle.mb_problem.proofs.Common.{◌≡◌, ℕ, ◌+◌, ◌%◌, ◌==◌, Bool, get_or, arith, refl, sym, ap, ◌∙◌, value_of, count_by, take_all, eq-eqb, eqb-true}
use Rattle.mb_problem.proofs.Common.{count_by_more_yes, count_by_more_no, take, length-take-le}
use Rattle.std.proofs.lemmas.List.Sums.{count_by-le-length}
use Rattle.cert_check.proofs.parts.holds_odd.Goals.{then-value-eq1, else-value-eq1}
use Rattle.cert_check.proofs.parts.holds_odd.Goals as goal

pub loop-v-preserved : goal.loop-v-preserved
loop-v-preserved c =
    let i = c.args.instance.now in
    let vs = c.args.members.now in
    let k = c.loop-v.v-index in
    let v = c.v-item.result in
    let odd : ℕ → Bool = λ n. value_of i n % 2 == 1 in
    let value : c.value.result ≡ value_of i (get_or vs k v) = c.value.ensures.value ∙ ap (value_of i) c.v-item.is in
    elim c.if-value-eq1.branch [
      | then-value-eq1 w ↦
          let one : value_of i (get_or vs k v) % 2 ≡ 1 = ap (λ (n : ℕ). n % 2) (sym value) ∙ w.if-value-eq1.true in
          w.count-is ∙ ap (λ (n : ℕ). n + 1) c.loop-v.invariant ∙ sym (count_by_more_yes odd vs k v c.loop-v-test.true (rw one refl))
      | else-value-eq1 w ↦
          let zero : value_of i (get_or vs k v) % 2 ≡ 0 = omega (arith, w.if-value-eq1.false, value) in
          w.count-is ∙ c.loop-v.invariant ∙ sym (count_by_more_no odd vs k v c.loop-v-test.true (rw zero refl))
    ]

pub overflow_add-count : goal.overflow_add-count
overflow_add-count c =
    let most = count_by-le-length (λ n. value_of c.args.instance.now n % 2 == 1) (take c.loop-v.v-index c.args.members.now) in
    omega (arith, c.loop-v.invariant, most, length-take-le c.loop-v.v-index c.args.members.now (omega (arith, c.loop-v-test.true)), c.loop-v-test.true)

pub value-requires : goal.value-requires
value-requires c =
    let range = c.requires c.loop-v.v-index c.v-item.result c.loop-v-test.true in
    record { low = omega (arith, c.v-item.is, range.0); high = omega (arith, c.v-item.is, range.1) }

pub returns : goal.returns
returns c =
    let odd : ℕ → Bool = λ n. value_of c.args.instance.now n % 2 == 1 in
    let all : c.loop-v.count ≡ count_by odd c.args.members.now = c.loop-v.invariant ∙ ap (count_by odd) (take_all c.loop-v.v-index c.args.members.now c.loop-v-test.false) in
    let rest = ap (λ (n : ℕ). n % 2) all in
    ((λ t. sym rest ∙ eqb-true _ _ t), (λ is. eq-eqb _ _ (rest ∙ is)))
