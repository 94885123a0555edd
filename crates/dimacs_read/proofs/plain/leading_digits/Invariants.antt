use Rattle.graph_theory.proofs.Common.{◌≡◌, ◌<◌, ◌≤◌, ◌^◌, ◌-◌, true, take, list_all}
use Rattle.mb_base.specs.Text.{is_digit, value_from}
use Rattle.dimacs_read.proofs.plain.leading_digits.Given as goal

abbrev pub invariant-digits : goal.invariant-digits
invariant-digits l = record {
  size_limit : l.count ≤ l.most;
  digits : list_all is_digit (take l.count l.bytes) ≡ true;
  value : l.value ≡ value_from 0 (take l.count l.bytes);
  value_limit : l.value < 10 ^ l.count;
}

abbrev pub decreases-digits : goal.decreases-digits
decreases-digits l = l.most - l.count
