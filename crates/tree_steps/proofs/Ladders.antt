-- A ladder: nodes of a circuit that are mates two by two. A tree climbs it upwards, from an open node.
use Rattle.alt_forest.proofs.Common.{◌≡◌, ◌≢◌, ℕ, ◌+◌, ◌-◌, ◌<◌, ◌⊎◌, true, false, eqb, List, [], ◌∷◌, ◌++◌, length, Option, Some, refl, sym, ap}
use Rattle.alt_forest.proofs.Common.{◌∙◌, subst, arith, ⊎_elim, inl, inr, or_parts, or_cases, both_ways, eqb-true, eqb-false, same_Some, Link, in_ring, nodes_of, AllNew, first_in}
use Rattle.alt_forest.proofs.Common.{later_in, Label, Outer, Inner, Out, State, IsOutermost, Joins, IsTight, IsMate, FitsLabel, next_node, put, put_here, put_other, outer_not_inner}
use Rattle.alt_forest.proofs.Common.{outer_not_out, joins_unique, joins_turned, mate_turned, next_node-append}
use Rattle.tree_steps.specs.Circuits.{mirror, last_edge}
use Rattle.tree_steps.specs.Expanded.{labels_up}
use Rattle.tree_steps.proofs.Carried.{rehung, mate_rehung}
use Rattle.tree_steps.proofs.Climbed.{IsOpenAt, IsTaken, old, ranked, risen_q, step_up, closes}
use Rattle.tree_steps.proofs.Elsewhere.{ArePairs, HangAlong, end_of, labels_up_other}

-- an outermost node and its mate
pub record IsRung (s : State) (a edge b : ℕ) : Type 0 where
  pub is : IsOutermost s a
  pub mate : s.mate a ≡ Some edge
  pub is_mate : IsMate s a edge b

rung_turned : (s : State) (a edge b : ℕ) → IsRung s a edge b → IsRung s b edge a
rung_turned s a edge b r = record { is = r.is_mate.outermost; mate = r.is_mate.back; is_mate = mate_turned s a edge b r.is r.mate r.is_mate }

-- the links are mates two by two, and from each pair a tight edge leads to the next one, from the last one to z
abbrev pub IsLadder : State → List Link → ℕ → Type 0
IsLadder s [] z = Unit {0}
IsLadder s (a ∷ []) z = ⊥
IsLadder s (a ∷ (b ∷ rest)) z = IsRung s a.node a.edge b.node × IsTight s b.edge × Joins s.graph s.blossoms b.edge b.node (next_node rest z) × IsLadder s rest z

-- a node of a ladder has its mate there
pub record HasRung (s : State) (ls : List Link) (c : ℕ) : Type 0 where
  pub edge : ℕ
  pub other : ℕ
  pub rung : IsRung s c edge other
  pub inside : in_ring ls other ≡ true

pub has_wider : (s : State) (ls js : List Link) (c : ℕ) → ((d : ℕ) → in_ring ls d ≡ true → in_ring js d ≡ true) → HasRung s ls c → HasRung s js c
has_wider s ls js c more g = record { edge = g.edge; other = g.other; rung = g.rung; inside = more g.other g.inside }

pub rung_at : (s : State) (ls : List Link) (z c : ℕ) → IsLadder s ls z → in_ring ls c ≡ true → HasRung s ls c
rung_at s [] z c h r = absurd (both_ways false refl r)
rung_at s (a ∷ []) z c h r = absurd h
rung_at s (a ∷ (b ∷ rest)) z c h r =
    ⊎_elim
    (λ here. subst (HasRung s (a ∷ (b ∷ rest))) (eqb-true a.node c here)
    (record { edge = a.edge; other = b.node; rung = h.0; inside = later_in a.node (nodes_of (b ∷ rest)) b.node (first_in b.node (nodes_of rest)) }))
    (λ more. ⊎_elim
    (λ here. subst (HasRung s (a ∷ (b ∷ rest))) (eqb-true b.node c here)
    (record { edge = a.edge; other = a.node; rung = rung_turned s a.node a.edge b.node h.0; inside = first_in a.node (nodes_of (b ∷ rest)) }))
    (λ later. has_wider s rest (a ∷ (b ∷ rest)) c (λ d i. later_in a.node (nodes_of (b ∷ rest)) d (later_in b.node (nodes_of rest) d i)) (rung_at s rest z c h.3 later))
    (or_cases (eqb b.node c) (in_ring rest c) more))
    (or_cases (eqb a.node c) (in_ring (b ∷ rest) c) r)

-- a ladder in two parts
pub ladder_parts : (s : State) (xs ys : List Link) (z : ℕ) → ArePairs xs → IsLadder s (xs ++ ys) z → IsLadder s xs (next_node ys z) × IsLadder s ys z
ladder_parts s [] ys z even h = (tt, h)
ladder_parts s (a ∷ []) ys z even h = absurd even
ladder_parts s (a ∷ (b ∷ xs)) ys z even h =
    let r = ladder_parts s xs ys z even h.3 in
    ((h.0, h.1, subst (Joins s.graph s.blossoms b.edge b.node) (next_node-append xs ys z) h.2, r.0), r.1)

-- a ladder the other way round, and the edge that leads to it
pub ladder_turned : (s : State) (edge : ℕ) (ls rest : List Link) (z up : ℕ) → IsLadder s ls z → IsTight s edge → Joins s.graph s.blossoms edge (next_node ls z) (next_node rest up)
    → IsLadder s rest up → IsLadder s (mirror edge ls rest) up × IsTight s (last_edge edge ls) × Joins s.graph s.blossoms (last_edge edge ls) z (next_node (mirror edge ls rest) up)
ladder_turned s edge [] rest z up h tight joins more = (more, tight, joins)
ladder_turned s edge (a ∷ []) rest z up h tight joins more = absurd h
ladder_turned s edge (a ∷ (b ∷ ls)) rest z up h tight joins more =
    ladder_turned s b.edge ls (record { node = b.node; edge = a.edge } ∷ (record { node = a.node; edge = edge } ∷ rest)) z up h.3 h.1
    (joins_turned s.graph s.blossoms b.edge b.node (next_node ls z) h.2) (rung_turned s a.node a.edge b.node h.0, tight, joins, more)

-- all fit once the way has come into the tree
pub climb : (s : State) (p : ℕ → Option ℕ) (z : ℕ) (ls : List Link) (l : ℕ → Label) (depth : ℕ → ℕ) (x g u up : ℕ) → IsOpenAt (rehung s l p) depth x → IsLadder s ls z
    → HangAlong p x g u ls → IsTight s g → Joins s.graph s.blossoms g x (next_node ls z) → ((c : ℕ) → in_ring ls c ≡ true → l c ≡ Out) → AllNew (nodes_of ls)
    → IsTight s u → Joins s.graph s.blossoms u (end_of x ls) up → IsOutermost s up → l up ≡ Outer → depth up + length ls < depth x
    → (after : ℕ → ℕ) × ((c : ℕ) → IsOutermost s c → FitsLabel (rehung s (labels_up l ls) p) after c)
climb s p z [] l depth x g u up h ladder along g_tight g_joins outs new u_tight u_joins up_is up_outer low = (
  depth,
  closes (rehung s l p) depth x u up h along (record { is_edge = u_tight.edge; joins = u_joins; tight = u_tight.tight; up_is = up_is; outer = up_outer; falls = omega (arith, low) }),
)
climb s p z (a ∷ []) l depth x g u up h ladder along g_tight g_joins outs new u_tight u_joins up_is up_outer low = absurd ladder
climb s p z (a ∷ (b ∷ rest)) l depth x g u up h ladder along g_tight g_joins outs new u_tight u_joins up_is up_outer low =
    let now : ℕ → Label = put (put l a.node Outer) b.node Inner in
    let r = rung_turned s a.node a.edge b.node ladder.0 in
    let k : IsTaken (rehung s l p) b.node a.edge a.node now = record {
      is = r.is;
      mate = r.mate;
      is_mate = mate_rehung s l p b.node a.edge a.node r.is_mate;
      out = outs b.node (later_in a.node (nodes_of (b ∷ rest)) b.node (first_in b.node (nodes_of rest)));
      mate_out = outs a.node (first_in a.node (nodes_of (b ∷ rest)));
      inner = put_here (put l a.node Outer) b.node Inner;
      outer = put_other (put l a.node Outer) b.node Inner a.node ladder.0.is_mate.different ∙ put_here l a.node Outer;
      others = λ c nb na. put_other (put l a.node Outer) b.node Inner c nb ∙ put_other l a.node Outer c na;
    } in
    let level : ℕ = depth x - 2 in
    let step = step_up (rehung s l p) depth x g b.node a.edge a.node level now h k along.0 (record { edge = g_tight.edge; tight = g_tight.tight }) g_joins (omega (arith, low)) in
    let o = old (rehung s l p) depth b.node a.edge a.node level now p k up (λ e. outer_not_out (sym up_outer ∙ e)) in
    let apart : in_ring rest a.node ≡ false = (or_parts (eqb b.node a.node) (in_ring rest a.node) new.0).1 in
    climb s p z rest now (ranked depth b.node a.node level) b.node b.edge u up step ladder.3 along.1 ladder.1 ladder.2
    (λ c i. k.others c (λ e. both_ways (in_ring rest c) (ap (in_ring rest) e ∙ new.1.0) i) (λ e. both_ways (in_ring rest c) (ap (in_ring rest) e ∙ apart) i)
    ∙ outs c (later_in a.node (nodes_of (b ∷ rest)) c (later_in b.node (nodes_of rest) c i)))
    new.1.1 u_tight u_joins up_is (o.label ∙ up_outer) (omega (arith, low, o.rank, risen_q (rehung s l p) depth b.node a.edge a.node level now p k))

-- the edge up from an inner node of the way leads to a node of it, or is the one at its end
pub way_leads : (s : State) (p : ℕ → Option ℕ) (z : ℕ) (ls : List Link) (l : ℕ → Label) (x g u c f d : ℕ) → IsLadder s ls z → HangAlong p x g u ls
    → Joins s.graph s.blossoms g x (next_node ls z) → in_ring ls x ≡ false → AllNew (nodes_of ls) → (c ≡ x) ⊎ (in_ring ls c ≡ true) → labels_up l ls c ≡ Inner
    → p c ≡ Some f → Joins s.graph s.blossoms f c d → (in_ring ls d ≡ true) ⊎ (u ≡ f)
way_leads s p z [] l x g u c f d ladder along g_joins out new on lab has joins =
    ⊎_elim (λ at. inr (same_Some u f (sym along ∙ ap p (sym at) ∙ has))) (λ r. absurd (both_ways false refl r)) on
way_leads s p z (a ∷ []) l x g u c f d ladder along g_joins out new on lab has joins = absurd ladder
way_leads s p z (a ∷ (b ∷ rest)) l x g u c f d ladder along g_joins out new on lab has joins =
    let now : ℕ → Label = put (put l a.node Outer) b.node Inner in
    let apart : in_ring rest a.node ≡ false = (or_parts (eqb b.node a.node) (in_ring rest a.node) new.0).1 in
    let outer : labels_up now rest a.node ≡ Outer = labels_up_other now rest a.node apart ∙ put_other (put l a.node Outer) b.node Inner a.node ladder.0.is_mate.different
    ∙ put_here l a.node Outer in
    let further : (c ≡ b.node) ⊎ (in_ring rest c ≡ true) → (in_ring (a ∷ (b ∷ rest)) d ≡ true) ⊎ (u ≡ f) = λ later. ⊎_elim
    (λ i. inl (later_in a.node (nodes_of (b ∷ rest)) d (later_in b.node (nodes_of rest) d i))) (λ q. inr q)
    (way_leads s p z rest now b.node b.edge u c f d ladder.3 along.1 ladder.2 new.1.0 new.1.1 later lab has joins) in
    ⊎_elim
    (λ at.
    let it : g ≡ f = same_Some g f (sym along.0 ∙ ap p (sym at) ∙ has) in
    let ne : x ≢ a.node = λ q. eqb-false a.node x (or_parts (eqb a.node x) (in_ring (b ∷ rest) x) out).0 (sym q) in
    let same : a.node ≡ d = joins_unique s.graph s.blossoms g x a.node d g_joins (subst (λ y. Joins s.graph s.blossoms y x d) (sym it)
    (subst (λ y. Joins s.graph s.blossoms f y d) at joins)) ne in
    inl (subst (λ y. in_ring (a ∷ (b ∷ rest)) y ≡ true) same (first_in a.node (nodes_of (b ∷ rest)))))
    (λ r. ⊎_elim
    (λ here. outer_not_inner (sym outer ∙ ap (labels_up now rest) (eqb-true a.node c here) ∙ lab))
    (λ more. further (⊎_elim (λ here. inl (sym (eqb-true b.node c here))) (λ i. inr i) (or_cases (eqb b.node c) (in_ring rest c) more)))
    (or_cases (eqb a.node c) (in_ring (b ∷ rest) c) r))
    on
