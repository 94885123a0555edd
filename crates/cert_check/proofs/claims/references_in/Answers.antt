use Rattle.certificates.proofs.Common.{◌≡◌, ℕ, List, ◌∷◌, [], ◌++◌, ◌+◌, drop, nat_abs, ap, sym, ◌∙◌, append-nil, rules, to_z, of_z, w64, SetItem, references_in}
use Rattle.certificates.proofs.Common.{◌<◌, ℤ, pos, length, get_or, All, All-get_or, subst, arith, IsUpTo, IsItemWithin, GRAPH_VERTEX_LIMIT, Vertex, Reference}
use Rattle.std.proofs.lemmas.List.{drop_all}
use Rattle.cert_check.proofs.ListLemmas.{gathered-more, passed}
use Rattle.cert_check.proofs.claims.references_in.Goals.{in-Reference+in_ok-push, in_default}
use Rattle.cert_check.proofs.claims.references_in.Goals as goal

pub loop-item-preserved : goal.loop-item-preserved
loop-item-preserved c =
    let xs = c.args.items.now in
    let k = c.loop-item.item-index in
    let rest : List SetItem = drop (k + 1) xs in
    let ns : List ℕ = c.loop-item.references.items in
    elim c.match-item.branch [
      | in-Reference+in_ok-push w ↦
          let same : to_z w64 (of_z w64 w.in-Reference.j) ≡ w.in-Reference.j = search rules in
          let longer = ap (λ v. v.items) w.references-is ∙ w.in_ok-push.ensures.items ∙ ap (λ (n : ℕ). ns ++ n ∷ []) (w.natural.ensures ∙ ap nat_abs same) in
          gathered-more references_in xs k _ _ ns _ c.loop-item-test.true c.loop-item.invariant (ap (λ (x : SetItem). references_in (x ∷ rest)) w.in-Reference.is) longer
      | in_default w ↦
          let same = ap (λ v. v.items) w.references-is ∙ sym (append-nil ns) in
          gathered-more references_in xs k _ [] ns _ c.loop-item-test.true c.loop-item.invariant (ap (λ (x : SetItem). references_in (x ∷ rest)) w.in_default.is) same
    ]

-- the number of an item within the limits
item_within : (xs : List SetItem) (k : ℕ) (j : ℤ) → All (IsItemWithin GRAPH_VERTEX_LIMIT 4294967295) xs → k < length xs →
    get_or xs k (Vertex (pos 0)) ≡ Reference j → IsUpTo 4294967295 j
item_within xs k j within inside is = subst (IsItemWithin GRAPH_VERTEX_LIMIT 4294967295) is (All-get_or (IsItemWithin GRAPH_VERTEX_LIMIT 4294967295) xs k (Vertex (pos 0)) inside within)

pub natural-requires : goal.natural-requires
natural-requires c =
    let h = passed 4294967295 _ (item_within c.args.items.now c.loop-item.item-index c.in-Reference.j c.requires c.loop-item-test.true c.in-Reference.is) (omega arith) in
    record { low = h.low; high = h.high }

pub returns : goal.returns
returns c =
    let ns : List ℕ = c.loop-item.references.items in
    let none = drop_all c.loop-item.item-index c.args.items.now c.loop-item-test.false in
    sym (append-nil ns) ∙ ap (λ (xs : List SetItem). ns ++ references_in xs) (sym none) ∙ sym c.loop-item.invariant
