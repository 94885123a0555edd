-- Circuits whose nodes are mates two by two (chapter 24).
use Rattle.std.specs.Prelude.{◌≡◌, ℕ, List, [], ◌∷◌, Option, Some}
use Rattle.blossom_arena.specs.declared.links.Link.{Link}

-- neighbours, two by two, are mates
abbrev pub ArePaired : (ℕ → Option ℕ) → List Link → Type 0
ArePaired m [] = Unit {0}
ArePaired m (l ∷ []) = ⊥
ArePaired m (l ∷ (k ∷ rest)) = (m l.node ≡ Some l.edge) × (m k.node ≡ Some l.edge)
    × ArePaired m rest
