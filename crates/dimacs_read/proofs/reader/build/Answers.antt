use Rattle.mb_problem.proofs.Common.{◌≡◌, ◌∙◌, ℕ, List, map, ap, sym, subst, Network, IsNetwork}
use Rattle.mb_problem.specs.declared.instance.InstanceEdge.{InstanceEdge}
use Rattle.dimacs_read.specs.Format.{value_or}
use Rattle.dimacs_read.proofs.reader.build.Goals as goal

abbrev network : List InstanceEdge → List ℕ → List ℕ → List ℕ → Network
network es vs ls hs = record { edges = es; values = vs; lows = ls; highs = hs }

same-parts : (es : List InstanceEdge) (vs ls hs ws ms ks : List ℕ) → vs ≡ ws → ls ≡ ms → hs ≡ ks → network es vs ls hs ≡ network es ws ms ks
same-parts es vs ls hs ws ms ks values lows highs =
    ap (λ (x : List ℕ). network es x ls hs) values ∙ ap (λ (x : List ℕ). network es ws x hs) lows ∙ ap (λ (x : List ℕ). network es ws ms x) highs

pub from_parts-requires : goal.from_parts-requires
from_parts-requires c =
    let all = c.in_ok-all.ensures in
    let values = all.values ∙ ap (λ (d : ℕ). map (value_or d) c.args.values.now) c.default_value.ensures in
    subst IsNetwork (sym (same-parts c.args.edges.items _ _ _ _ _ _ values all.lows all.highs)) c.requires

pub returns : goal.returns
returns c =
    let all = c.in_ok-all.ensures in
    let values = all.values ∙ ap (λ (d : ℕ). map (value_or d) c.args.values.now) c.default_value.ensures in
    c.from_parts.ensures ∙ same-parts c.args.edges.items _ _ _ _ _ _ values all.lows all.highs
