use Rattle.certificates.proofs.Common.{rules, body_of, first_of_all}
use Rattle.cert_check.proofs.ranges.first_part.Goals as goal

pub returns : goal.returns
returns c = rw (first_of_all c.args.extent.vertices c.args.extent.edges c.args.extent.certified (body_of c.args.document.now)) (search rules)
