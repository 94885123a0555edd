use Rattle.alt_forest.proofs.Common.{ap₂, ◌≡◌, ◌∙◌, List, [], length, ◌++◌, refl, ap, arith, ℕ, ◌∷◌, sym, append_assoc, Link, State, path_of, state_of, reverse}
use Rattle.alt_forest.proofs.Common.{true, holds, subst, IsOutermost, reverse-append}
use Rattle.alt_forest.specs.declared.search.Search.{Search}
use Rattle.tree_steps.specs.Circuits.{before, shifted, last_edge, links_above, mirror}
use Rattle.tree_steps.proofs.WaysUp.{links_length}
use Rattle.tree_steps.proofs.circuit.fill_circuit.Goals as goal

pub push_reserved-requires : goal.push_reserved-requires
push_reserved-requires c =
    let s : State = state_of c.args.search.now in
    let ls : List Link = links_above s (before (path_of s c.args.a) c.args.base) in
    let pushed : c.push_way.new.search.circuit.items ≡ ls = c.push_way.ensures.circuit ∙ ap (λ xs. xs ++ ls) c.clear.ensures.items in
    omega (arith, ap length pushed, links_length s (before (path_of s c.args.a) c.args.base))

pub push_way-requires-2-clause-room : goal.push_way-requires-2-clause-room
push_way-requires-2-clause-room c =
    let s : State = state_of c.args.search.now in
    let ls : List Link = links_above s (before (path_of s c.args.a) c.args.base) in
    let pushed : c.push_way.new.search.circuit.items ≡ ls = c.push_way.ensures.circuit ∙ ap (λ xs. xs ++ ls) c.clear.ensures.items in
    let same : length (before (path_of (state_of c.push_way.new.search) c.args.b) c.args.base) ≡ length (before (path_of s c.args.b) c.args.base) =
    ap (λ (f : Search). length (before (path_of (state_of f) c.args.b) c.args.base)) c.push_way.ensures.frame in
    omega (arith, same, ap length pushed, links_length s (before (path_of s c.args.a) c.args.base))

-- links that are turned are shifted and reversed
mirror_reverse : (e : ℕ) (ls rest : List Link) → mirror e ls rest ≡ reverse (shifted e ls) ++ rest
mirror_reverse e [] rest = refl
mirror_reverse e (l ∷ ls) rest =
    let x : Link = record { node = l.node; edge = e } in
    mirror_reverse l.edge ls (x ∷ rest)
    ∙ sym (ap (λ (ys : List Link). ys ++ rest) (reverse-append (x ∷ []) (shifted l.edge ls)) ∙ append_assoc (reverse (shifted l.edge ls)) (x ∷ []) rest)

pub returns-clause-circuit : goal.returns-clause-circuit
returns-clause-circuit c =
    let s : State = state_of c.args.search.now in
    let ls : List Link = links_above s (before (path_of s c.args.a) c.args.base) in
    let ks : List Link = links_above s (before (path_of s c.args.b) c.args.base) in
    let base : Link = record { node = c.args.base; edge = last_edge c.args.e ls } in
    let pushed : c.push_way.new.search.circuit.items ≡ ls = c.push_way.ensures.circuit ∙ ap (λ xs. xs ++ ls) c.clear.ensures.items in
    let turned : c.reverse.new.self.items ≡ base ∷ reverse (shifted c.args.e ls) =
    c.reverse.ensures.items
    ∙ ap reverse (c.push_reserved.ensures.items ∙ ap₂ (λ (xs : List Link) k. xs ++ record { node = c.args.base; edge = k } ∷ [])
    (c.shift_edges-edge.ensures.links ∙ ap (shifted c.args.e) pushed) (c.shift_edges-edge.ensures.last ∙ ap (last_edge c.args.e) pushed))
    ∙ reverse-append (shifted c.args.e ls) (base ∷ []) in
    c.push_way-2.ensures.circuit
    ∙ ap (λ (f : Search). c.reverse.new.self.items ++ links_above (state_of f) (before (path_of (state_of f) c.args.b) c.args.base)) c.push_way.ensures.frame
    ∙ ap (λ (xs : List Link). xs ++ ks) turned ∙ ap (λ (xs : List Link). base ∷ xs) (sym (mirror_reverse c.args.e ls ks))

pub push_way-requires-2-clause-outermost : goal.push_way-requires-2-clause-outermost
push_way-requires-2-clause-outermost c = subst (λ (y : Search). IsOutermost (state_of y) c.args.b) (sym c.push_way.ensures.frame) c.requires.b_outermost

pub push_way-requires-2-clause-on_path : goal.push_way-requires-2-clause-on_path
push_way-requires-2-clause-on_path c = subst (λ (y : Search). holds (path_of (state_of y) c.args.b) c.args.base ≡ true) (sym c.push_way.ensures.frame) c.requires.b_there

pub returns-clause-frame : goal.returns-clause-frame
returns-clause-frame c = c.push_way-2.ensures.frame ∙ ap (λ (y : Search). let x : Search = record y { circuit = c.push_way-2.new.search.circuit } in x) c.push_way.ensures.frame
