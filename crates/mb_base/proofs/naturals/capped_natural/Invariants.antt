use Rattle.std.proofs.Common.{◌≡◌, ◌≤◌, drop, min}
use Rattle.std.specs.List.{list_all}
use Rattle.mb_base.specs.Text.{is_digit, value_from}
use Rattle.mb_base.proofs.naturals.capped_natural.Given as goal

abbrev pub invariant-loop-b : goal.invariant-loop-b
invariant-loop-b l = record {
  digits : list_all is_digit (drop l.b-index l.digits) ≡ list_all is_digit l.digits;
  value : min (value_from l.value (drop l.b-index l.digits)) l.cap ≡ min (value_from 0 l.digits) l.cap;
  value_limit : l.value ≤ l.cap;
}
