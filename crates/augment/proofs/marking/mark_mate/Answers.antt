use Rattle.alt_forest.proofs.Common.{◌≡◌, ◌∙◌, ℕ, true, Option, sym, ap, subst, arith, is_outermost, outermost_parts, node_range, edge_in}
use Rattle.augment.proofs.Holders.{spread_whole}
use Rattle.augment.proofs.Marks.{IsMarked, nested_of, marked_mate, none_spread}
use Rattle.augment.proofs.marking.mark_mate.Goals as goal

pub returns-then-not-is_outermost-clause-spread : goal.returns-then-not-is_outermost-clause-spread
returns-then-not-is_outermost-clause-spread c = none_spread c.args.graph.now c.args.arena.now (edge_in c.args.mates.now.items)
    (edge_in c.args.mates.now.items) c.args.node c.requires.possible (sym c.is_outermost.ensures.outermost ∙ c.if-not-is_outermost.true)

pub edge_for-requires : goal.edge_for-requires
edge_for-requires c =
    let f = c.args.arena.now in
    let is = sym c.is_outermost.ensures.outermost ∙ c.if-not-is_outermost.false in
    let r = node_range f.vertex_count f.blossoms c.args.node c.requires.possible.family.nested (outermost_parts f.vertex_count f.blossoms c.args.node is).0 in
    record { place = omega (arith, r.1, c.requires.places, c.deref.ensures.len) }

pub returns-in-Some : goal.returns-in-Some
returns-in-Some c =
    let g = c.args.graph.now in let f = c.args.arena.now in let m = edge_in c.args.mates.now.items in
    let can = c.requires.possible in let e = c.in-Some.e in
    let is = sym c.is_outermost.ensures.outermost ∙ c.if-not-is_outermost.false in
    let has = ap (λ xs. edge_in xs c.args.node) (sym c.deref.ensures.value) ∙ sym c.edge_for.ensures ∙ c.in-Some.is in
    let number = (can.mated c.args.node e (subst (λ n. is_outermost n f.blossoms c.args.node ≡ true) can.vertices is) has).1.edge in
    let now = c.mark_ends.ensures.mates ∙ spread_whole g f.blossoms m c.new.result e (nested_of g f m can) can.ends number c.new.ensures in
    let all : IsMarked g f m (edge_in c.mark_ends.new.mates.items) c.args.node = subst (λ (n : ℕ → Option ℕ). IsMarked g f m n c.args.node) (sym now)
    (marked_mate g f m c.args.node e can is (sym has)) in
    record { bare = all.bare; spread = all.spread; keeps = all.keeps; outermost = all.outermost; len = c.mark_ends.ensures.len }
