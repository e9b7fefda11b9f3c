use Rattle.std.proofs.Common.{◌≡◌, ◌<◌, ◌^◌, take, true}
use Rattle.std.specs.List.{list_all}
use Rattle.h2_spec.specs.Requests.Request.{is_between, decimal_value}
use Rattle.h2_hpack_validity.proofs.octets.number_of_digits.Given as goal

abbrev pub invariant-loop-digit : goal.invariant-loop-digit
invariant-loop-digit l = record {
  so_far : l.number ≡ decimal_value (take l.digit-index l.digits);
  fits : l.number < 10 ^ l.digit-index;
  digits : list_all (is_between 48 57) (take l.digit-index l.digits) ≡ true;
}
