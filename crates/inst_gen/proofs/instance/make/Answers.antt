use Rattle.mb_problem.proofs.Common.{◌≡◌, sym, subst, ◌∙◌, IfOk-weaker, IsNetwork, IsReady}
use Rattle.inst_gen.specs.Made.{made}
use Rattle.inst_gen.proofs.Valid.{made_is_network, valued, valued-made}
use Rattle.inst_gen.proofs.Fit.{made_is_ready}
use Rattle.inst_gen.proofs.instance.make.Goals as goal

pub from_values-requires : goal.from_values-requires
from_values-requires c =
    let kind = c.args.kind in
    let n = c.args.n in
    let m = c.args.m in
    let same = valued-made kind c.args.start n m _ _ _ _ c.new-draws.ensures c.in_ok-values.ensures.values c.in_ok-values.ensures.state c.in_ok-edges.ensures in
    subst IsNetwork (sym same) (made_is_network kind c.args.start n m c.requires.vertices c.requires.edges c.requires.ends)

pub returns-clause-made : goal.returns-clause-made
returns-clause-made c =
    let kind = c.args.kind in
    let n = c.args.n in
    let m = c.args.m in
    let same = valued-made kind c.args.start n m _ _ _ _ c.new-draws.ensures c.in_ok-values.ensures.values c.in_ok-values.ensures.state c.in_ok-edges.ensures in
    IfOk-weaker c.from_values.result (λ i. i ≡ valued c.in_ok-edges.edges.items c.in_ok-values.values.items) (λ i. i ≡ made kind c.args.start n m)
    (λ i is. is ∙ same) c.from_values.ensures

pub returns-clause-well_formed : goal.returns-clause-well_formed
returns-clause-well_formed c = IfOk-weaker c.from_values.result (λ i. i ≡ made c.args.kind c.args.start c.args.n c.args.m) (IsReady c.args.kind)
    (λ i is. subst (IsReady c.args.kind) (sym is) (made_is_ready c.args.kind c.args.start c.args.n c.args.m c.requires.path)) (returns-clause-made c)

pub returns-clause-network : goal.returns-clause-network
returns-clause-network c = IfOk-weaker c.from_values.result (λ i. i ≡ made c.args.kind c.args.start c.args.n c.args.m) IsNetwork
    (λ i is. subst IsNetwork (sym is) (made_is_network c.args.kind c.args.start c.args.n c.args.m c.requires.vertices c.requires.edges c.requires.ends)) (returns-clause-made c)
