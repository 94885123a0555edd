use Rattle.mb_problem.proofs.Common.{◌≤◌, ℕ, Bool, List, All, sym, subst, vertices, AreMarks}
use Rattle.cert_check.proofs.PartLemmas.{split-by_marks}
use Rattle.cert_check.proofs.parts.is_split_part.Goals as goal

pub marks_of-requires : goal.marks_of-requires
marks_of-requires c = subst (λ (n : ℕ). All (λ v. (1 ≤ v) × (v ≤ n)) c.args.members.now) (sym c.vertices-n.ensures.count) c.requires.in_range

pub returns : goal.returns
returns c =
    let i = c.args.instance.now in
    let set = c.args.members.now in
    let marked : AreMarks c.vertices-n.result c.in_ok-marks.marks.items set = c.in_ok-marks.ensures in
    let are : AreMarks (vertices i) c.deref.result.now set =
    subst (λ (n : ℕ). AreMarks n c.deref.result.now set) c.vertices-n.ensures.count
    (subst (λ (ms : List Bool). AreMarks c.vertices-n.result ms set) (sym c.deref.ensures.value) marked) in
    split-by_marks i c.deref.result.now set c.is_split.result c.vertices-n.ensures.network are c.requires c.is_split.ensures
