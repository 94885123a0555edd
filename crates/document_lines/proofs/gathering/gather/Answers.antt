use Rattle.graph_theory.proofs.Common.{◌≡◌, ℕ, ◌+◌, ◌<◌, Bool, true, false, cond, eqb, List, ◌∷◌, length, set, All, refl, ap, ◌∙◌, sym, subst, arith, All-head}
use Rattle.graph_theory.proofs.Common.{All-tail}
use Rattle.std.proofs.Common.{length-set}
use Rattle.document_lines.specs.LastLines.{entry}
use Rattle.document_lines.proofs.GatherSteps.{AreGathered}
use Rattle.document_lines.proofs.TakenIn.{gathers-first, gathers-next, gathers-all}
use Rattle.document_lines.proofs.gathering.gather.Goals as goal

pub loop-member-init : goal.loop-member-init
loop-member-init c =
    let number = c.args.number in
    let O = c.args.last.now in
    let S = c.args.seen.now in
    let T : List ℕ = set S number number in
    let V = c.args.vertices.now.items in
    let R = c.args.references.now.items in
    let ms : List ℕ = c.args.members in
    let gives : c.into_iter-member-iterator.result ≡ ms = c.into_iter-member-iterator.ensures.into_iter_gives in
    record {
      last_size = refl;
      seen_size = length-set _ _ _;
      within = subst (λ (xs : List ℕ). All (λ m. m < length O) xs) (sym gives) c.requires.in_range;
      gathered = subst (λ (xs : List ℕ). AreGathered number O ms xs O T V R) (sym gives)
          (gathers-first number O ms S T V R c.requires.number c.requires.last c.requires.seen refl c.requires.no_vertices c.requires.no_references);
    }

kept_size : (S T : List ℕ) (l number : ℕ) (t : Bool) → T ≡ cond t S (set S l number) → length T ≡ length S
kept_size S T l number true is = ap (λ (xs : List ℕ). length xs) is
kept_size S T l number false is = ap (λ (xs : List ℕ). length xs) is ∙ length-set _ _ _

pub take_in-requires-clause-member : goal.take_in-requires-clause-member
take_in-requires-clause-member c =
    let P : ℕ → Type 0 = λ m. m < length c.args.last.now in
    let within : All P (c.in-Some.member ∷ c.next.new.self) = subst (λ (xs : List ℕ). All P xs) c.in-Some.ensures.steps c.loop-member.invariant.within in
    omega (arith, All-head P c.in-Some.member c.next.new.self within, c.loop-member.invariant.last_size)

pub take_in-requires-clause-line : goal.take_in-requires-clause-line
take_in-requires-clause-line c = omega (arith, c.loop-member.invariant.gathered.low c.in-Some.member, c.requires.number, c.loop-member.invariant.seen_size)

pub loop-member-preserved : goal.loop-member-preserved
loop-member-preserved c =
    let number = c.args.number in
    let O = c.args.last.now in
    let ms : List ℕ = c.args.members in
    let L = c.loop-member.last in
    let S = c.loop-member.seen in
    let V = c.loop-member.vertices.items in
    let R = c.loop-member.references.items in
    let x = c.in-Some.member in
    let rest : List ℕ = c.next.new.self in
    let P : ℕ → Type 0 = λ m. m < length O in
    let first : c.loop-member.member-iterator ≡ x ∷ rest = c.in-Some.ensures.steps in
    let within : All P (x ∷ rest) = subst (λ (xs : List ℕ). All P xs) first c.loop-member.invariant.within in
    let low : x < length O = All-head P x rest within in
    let g : AreGathered number O ms (x ∷ rest) L S V R = subst (λ (xs : List ℕ). AreGathered number O ms xs L S V R) first c.loop-member.invariant.gathered in
    let some : entry O 0 < number = c.requires.last 0 in
    let line : entry L x < number + 1 = g.low x in
    let done = c.in_ok-take_in.ensures in
    record {
      last_size = ap length done.last ∙ (length-set _ _ _ ∙ c.loop-member.invariant.last_size);
      seen_size = kept_size S c.take_in.new.seen (entry L x) number (eqb (entry L x) 0) done.seen ∙ c.loop-member.invariant.seen_size;
      within = All-tail P x rest within;
      gathered = gathers-next number x O ms rest L c.take_in.new.last S c.take_in.new.seen V c.take_in.new.vertices.items R c.take_in.new.references.items
          (omega (arith, some)) (omega (arith, low, c.loop-member.invariant.last_size)) (omega (arith, line, c.requires.number, c.loop-member.invariant.seen_size)) g
          done.last done.vertices done.seen done.references;
    }

pub returns : goal.returns
returns c =
    let i = c.loop-member.invariant in
    let all = gathers-all c.args.number c.args.last.now c.args.members c.loop-member.member-iterator c.loop-member.last c.loop-member.seen c.loop-member.vertices.items
    c.loop-member.references.items c.requires.last c.in-None.ensures.steps.0 i.gathered in
    record { last_size = i.last_size; seen_size = i.seen_size; seen = i.gathered.seen_low; gathered = all }
