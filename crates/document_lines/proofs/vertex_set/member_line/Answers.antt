use Rattle.certificates.proofs.Common.{ℤ, List, ap, ◌∙◌, ascends}
use Rattle.document_lines.proofs.Ascents.{ascends-pos}
use Rattle.document_lines.proofs.vertex_set.member_line.Goals as goal

pub returns-clause-ascending : goal.returns-clause-ascending
returns-clause-ascending c = ap (λ (zs : List ℤ). ascends zs) (c.from_vec-members.ensures ∙ c.in_ok-vertex_numbers.ensures) ∙ ascends-pos c.args.set.now c.requires.ascending
