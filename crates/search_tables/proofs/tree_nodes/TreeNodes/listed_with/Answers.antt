use Rattle.graph_theory.proofs.Common.{◌≡◌, ◌∙◌, ℕ, ◌+◌, ◌<◌, true, length, get_or, rules, Option, Some, is_some, sym, ap, arith, get_or_read}
use Rattle.search_tables.specs.Listing.{Listing, tree_id_at}
use Rattle.search_tables.specs.Linked.{place_at}
use Rattle.circular_lists.specs.Linked.{link_at}
use Rattle.circular_lists.proofs.Owners.{first_found, none_found}
use Rattle.search_tables.proofs.Kept.{seeded_within, some_same}
use Rattle.search_tables.proofs.tree_nodes.TreeNodes.listed_with.Goals.{After-index-begin}
use Rattle.search_tables.proofs.tree_nodes.TreeNodes.listed_with.Goals as goal

first_is : (c : After-index-begin) → c.index-begin.result.now ≡ link_at c.self.inside.lists.next.items (length c.self.inside.tree_ids.items + c.args.tree_id)
first_is c =
    let s = c.self.inside in
    let fit : c.args.tree_id < length s.tree_ids.items = omega (arith, c.requires, ap (λ (l : Listing). length l.tree_ids) c.self.view_is) in
    get_or_read s.lists.next.items (length s.tree_ids.items + c.args.tree_id) c.index-begin.result.now (omega (arith, fit, c.self.invariant.links.nexts)) (search rules)
    (length s.tree_ids.items + c.args.tree_id)

-- a node that is first on the list of the tree id has that tree id, and its place
first_has : (c : After-index-begin) → c.index-begin.result.now < length c.self.inside.tree_ids.items → tree_id_at c.self.inside.tree_ids.items c.index-begin.result.now ≡ Some c.args.tree_id
first_has c low =
    let s = c.self.inside in
    ap (tree_id_at s.tree_ids.items) (first_is c)
    ∙ first_found (length s.tree_ids.items) (tree_id_at s.tree_ids.items) (link_at s.lists.next.items) (link_at s.lists.previous.items) c.args.tree_id
    c.self.invariant.owned (omega (arith, first_is c, low))

pub returns-then-first-len-clause-none : goal.returns-then-first-len-clause-none
returns-then-first-len-clause-none c = λ e a has.
    let s = c.self.inside in
    let own : tree_id_at s.tree_ids.items a ≡ Some c.args.tree_id = ap (λ (l : Listing). tree_id_at l.tree_ids a) c.self.view_is ∙ has in
    none_found (length s.tree_ids.items) (tree_id_at s.tree_ids.items) (link_at s.lists.next.items)
    (link_at s.lists.previous.items) c.args.tree_id c.self.invariant.links.linked c.self.invariant.owned
    (omega (arith, first_is (goal.at.returns-then-first-len-clause-none c).After-index-begin, c.if-first-len.true, c.len-2.ensures)) a
    (seeded_within s.tree_ids.items a (ap (λ (o : Option ℕ). is_some o) own)) own

pub index-requires-2 : goal.index-requires-2
index-requires-2 c =
    let x : ℕ = c.index-begin.result.now in
    let low : x < length c.self.inside.tree_ids.items = omega (arith, c.if-first-len.false, c.len-2.ensures) in
    let at = get_or_read c.self.inside.places.items x c.index.result.now (omega (arith, low, c.self.invariant.places)) c.index.ensures 0 in
    omega (arith, at, c.self.invariant.placed.within x (ap (λ (o : Option ℕ). is_some o) (first_has (goal.at.index-requires-2 c).After-index-begin low)))

pub returns-clause-found : goal.returns-clause-found
returns-clause-found c = λ a e.
    let s = c.self.inside in let k = c.self.invariant in let x : ℕ = c.index-begin.result.now in
    let low : x < length s.tree_ids.items = omega (arith, c.if-first-len.false, c.len-2.ensures) in
    let has = first_has (goal.at.returns-clause-found c).After-index-begin low in
    let some : is_some (tree_id_at s.tree_ids.items x) ≡ true = ap (λ (o : Option ℕ). is_some o) has in
    let at : c.index.result.now ≡ place_at s.places.items x = get_or_read s.places.items x c.index.result.now (omega (arith, low, k.places)) c.index.ensures 0 in
    let node : c.index-2.result.now ≡ x = get_or_read s.nodes.items c.index.result.now c.index-2.result.now (omega (arith, at, k.placed.within x some)) c.index-2.ensures 0
    ∙ ap (λ j. get_or s.nodes.items j 0) at ∙ k.placed.in_tree x some in
    sym (ap (λ (l : Listing). tree_id_at l.tree_ids a) c.self.view_is) ∙ ap (tree_id_at s.tree_ids.items) (sym (some_same c.index-2.result.now a e) ∙ node) ∙ has
