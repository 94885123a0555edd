use Rattle.mb_problem.proofs.Common.{rules, ◌≡◌, ℕ, ◌+◌, ℤ, pos, neg_ℤ, ◌-ℤ◌, to_z, of_z, w64, true, false, ap, ap₂, sym, ◌∙◌, List}
use Rattle.mb_problem.proofs.Common.{[], ◌∷◌, ◌++◌, append-nil, Edge, Multigraph, is_loop, plain}
use Rattle.std.proofs.lemmas.List.{append_assoc}
use Rattle.gadget_match.proofs.doubling.add_twice.Goals as goal

pub returns-then-eq : goal.returns-then-eq
returns-then-eq c =
    let g = c.args.graph.now in
    let loop : is_loop (plain c.args.edge.now) ≡ true = sym c.eq.ensures ∙ c.if-eq.true in
    record { added = rw loop (ap (λ (es : List Edge). record g { edges = es }) (sym (append-nil g.edges))) }

pub returns : goal.returns
returns c =
    let g = c.args.graph.now in
    let e = c.args.edge.now in
    let link : is_loop (plain e) ≡ false = sym c.eq.ensures ∙ c.if-eq.false in
    let w = to_z w64 (of_z w64 (pos 0 -ℤ to_z w64 (of_z w64 e.w))) in
    let minus : w ≡ neg_ℤ e.w = search rules in
    let first : Edge = record { u = e.u; v = e.v; w = w } in
    let second : Edge = record { u = c.new-u.result; v = c.new-v.result; w = w } in
    let twice : ℤ → ℕ → ℕ → Multigraph = λ x s t. record g { edges = g.edges ++ record { u = e.u; v = e.v; w = x } ∷ record { u = s; v = t; w = x } ∷ [] } in
    let both = c.in_ok-add-2.ensures.added ∙ ap (λ (h : Multigraph). record h { edges = h.edges ++ second ∷ [] }) c.in_ok-add.ensures.added in
    let ends = ap₂ (twice (neg_ℤ e.w)) (c.new-u.ensures ∙ ap (λ (x : ℕ). x + c.args.n) c.number.ensures) (c.new-v.ensures ∙ ap (λ (x : ℕ). x + c.args.n) c.number-2.ensures) in
    let listed = ap (λ (es : List Edge). record g { edges = es }) (append_assoc g.edges (first ∷ []) (second ∷ [])) in
    record { added = rw link (both ∙ listed ∙ ap (λ (x : ℤ). twice x c.new-u.result c.new-v.result) minus ∙ ends) }
