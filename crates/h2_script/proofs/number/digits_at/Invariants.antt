use Rattle.std.proofs.Common.{◌≡◌, ◌<◌, ◌^◌, drop}
use Rattle.h2_spec.specs.Texts.Assemble.{scanned}
use Rattle.h2_script.proofs.number.digits_at.Given as goal

abbrev pub invariant-loop-digit : goal.invariant-loop-digit
invariant-loop-digit l = record { so_far : scanned l.number (drop l.digit-index l.text) ≡ scanned 0 l.text; small : l.number < 10 ^ l.digit-index }
