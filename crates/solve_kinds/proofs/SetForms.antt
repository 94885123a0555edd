-- The forms of documents of circuits.
use Rattle.certificates.proofs.Common.{◌≡◌, pos, true, Option, None, Some, refl, and_from, Kind, asks_conservative, NonConservative, WalkLine, blank, has_any, IsDocument}
use Rattle.solve_kinds.proofs.Forms.{has_edges}

-- the line of a circuit
pub form-nonconservative : (kind : Kind) (walk : Option WalkLine) → asks_conservative kind ≡ true → has_edges walk ≡ true →
    IsDocument NonConservative kind (pos 0) (record blank { walk = walk })
form-nonconservative kind None asks some = record { headed = asks; no_weight = λ h. refl; letters = refl; ordered = refl; formed = refl }
form-nonconservative kind (Some w) asks some = record { headed = asks; no_weight = λ h. refl; letters = refl; ordered = refl; formed = and_from (has_any w.edges) true some refl }
