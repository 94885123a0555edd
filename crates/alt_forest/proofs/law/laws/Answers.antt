use Rattle.alt_forest.proofs.Roots.{ways_lead, trees_have_parity, forests_have_parity}
use Rattle.alt_forest.proofs.Balance.{trees_balance}
use Rattle.alt_forest.proofs.Counted.{roots_counted, exposed_counted}
use Rattle.alt_forest.proofs.law.laws.Goals as goal

pub returns : goal.returns
returns c = record {
  roots = ways_lead;
  parity = trees_have_parity;
  forest_parity = forests_have_parity;
  balance = trees_balance;
  roots_counted = roots_counted;
  exposed_counted = exposed_counted;
}
