use Rattle.graph_theory.proofs.Common.{◌≡◌, ◌∙◌, ℕ, ◌<◌, length, sym, ap, ap₂, arith, eqb, slice_index_or, get_or_default}
use Rattle.blossom_arena.specs.Family.{Family, is_outermost}
use Rattle.blossom_arena.specs.declared.arena.Arena.TheInside.{Inside}
use Rattle.blossom_arena.specs.Fields.{IsSound, blossoms_of, family_of}
use Rattle.blossom_arena.proofs.Asked.{outer_entry}
use Rattle.blossom_arena.proofs.Marks.{none_above}
use Rattle.blossom_arena.proofs.arena.Arena.is_outermost.Goals as goal

-- the test of an entry that is read, by the view
tested : (a : Inside) (f : Family) (x y p : ℕ) → IsSound a → family_of a ≡ f → y ≡ x → y < length a.parents.items → p ≡ slice_index_or a.parents.items y p
    → eqb p 0 ≡ is_outermost f.vertex_count f.blossoms x
tested a f x y p s view same low read =
    ap (λ (q : ℕ). eqb q 0) (read ∙ get_or_default a.parents.items y p 0 low ∙ s.parents y (omega (arith, low, s.places.parents)))
    ∙ outer_entry a.vertex_count (blossoms_of a) y s.family.nested
    ∙ ap₂ (λ (g : Family) (z : ℕ). is_outermost g.vertex_count g.blossoms z) view same

pub returns-then-number-len-clause-outermost : goal.returns-then-number-len-clause-outermost
returns-then-number-len-clause-outermost c =
    sym (none_above c.self.inside.vertex_count (blossoms_of c.self.inside) c.number-number.result c.self.invariant.family.nested
    (omega (arith, c.if-number-len.true, c.len.ensures, c.self.invariant.places.parents)))
    ∙ ap₂ (λ (f : Family) (x : ℕ). is_outermost f.vertex_count f.blossoms x) c.self.view_is c.number-number.ensures

pub returns-clause-outermost : goal.returns-clause-outermost
returns-clause-outermost c =
    tested c.self.inside _ c.args.node c.number-number.result c.index.result.now c.self.invariant c.self.view_is c.number-number.ensures
    (omega (arith, c.if-number-len.false, c.len.ensures)) c.index.ensures
