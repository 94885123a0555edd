use Rattle.certificates.proofs.Common.{◌≡◌, ℕ, List, ◌∷◌, [], ◌++◌, ◌+◌, drop, nat_abs, ap, sym, ◌∙◌, append-nil, rules, to_z, of_z, w64, SetItem, vertices_in}
use Rattle.certificates.proofs.Common.{◌<◌, ℤ, pos, length, get_or, All, All-get_or, subst, arith, IsUpTo, IsItemWithin, GRAPH_VERTEX_LIMIT, Vertex}
use Rattle.std.proofs.lemmas.List.{drop_all}
use Rattle.cert_check.proofs.ListLemmas.{gathered-more, passed}
use Rattle.cert_check.proofs.claims.vertices_in.Goals.{in-Vertex+in_ok-push, in_default}
use Rattle.cert_check.proofs.claims.vertices_in.Goals as goal

pub loop-item-preserved : goal.loop-item-preserved
loop-item-preserved c =
    let xs = c.args.items.now in
    let k = c.loop-item.item-index in
    let rest : List SetItem = drop (k + 1) xs in
    let ns : List ℕ = c.loop-item.vertices.items in
    elim c.match-item.branch [
      | in-Vertex+in_ok-push w ↦
          let same : to_z w64 (of_z w64 w.in-Vertex.v) ≡ w.in-Vertex.v = search rules in
          let longer = ap (λ v. v.items) w.vertices-is ∙ w.in_ok-push.ensures.items ∙ ap (λ (n : ℕ). ns ++ n ∷ []) (w.new.ensures ∙ w.natural.ensures ∙ ap nat_abs same) in
          gathered-more vertices_in xs k _ _ ns _ c.loop-item-test.true c.loop-item.invariant (ap (λ (x : SetItem). vertices_in (x ∷ rest)) w.in-Vertex.is) longer
      | in_default w ↦
          let same = ap (λ v. v.items) w.vertices-is ∙ sym (append-nil ns) in
          gathered-more vertices_in xs k _ [] ns _ c.loop-item-test.true c.loop-item.invariant (ap (λ (x : SetItem). vertices_in (x ∷ rest)) w.in_default.is) same
    ]

-- the number of an item within the limits
item_within : (xs : List SetItem) (k : ℕ) (v : ℤ) → All (IsItemWithin GRAPH_VERTEX_LIMIT 4294967295) xs → k < length xs →
    get_or xs k (Vertex (pos 0)) ≡ Vertex v → IsUpTo GRAPH_VERTEX_LIMIT v
item_within xs k v within inside is = subst (IsItemWithin GRAPH_VERTEX_LIMIT 4294967295) is (All-get_or (IsItemWithin GRAPH_VERTEX_LIMIT 4294967295) xs k (Vertex (pos 0)) inside within)

pub natural-requires : goal.natural-requires
natural-requires c =
    let h = passed GRAPH_VERTEX_LIMIT _ (item_within c.args.items.now c.loop-item.item-index c.in-Vertex.v c.requires c.loop-item-test.true c.in-Vertex.is) (omega arith) in
    record { low = h.low; high = h.high }

pub returns : goal.returns
returns c =
    let ns : List ℕ = c.loop-item.vertices.items in
    sym (append-nil ns) ∙ ap (λ (xs : List SetItem). ns ++ vertices_in xs) (sym (drop_all c.loop-item.item-index c.args.items.now c.loop-item-test.false)) ∙ sym c.loop-item.invariant
