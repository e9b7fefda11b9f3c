-- The rule of an item: the row of its cause, of why it is ignored, or of something that is accepted.
use Rattle.std.specs.Prelude.{◌≡◌, Option, Some, None}
use Rattle.h2_spec.specs.Causes.AcceptedWords.{accepted_row}
use Rattle.h2_spec.specs.Causes.Rules as rules
use Rattle.h2_spec.specs.Causes.Rules.{row_shown}
use Rattle.h2_spec.specs.declared.accepted.Accepted.{Accepted}
use Rattle.h2_spec.specs.declared.causes.Cause.{Cause}
use Rattle.h2_spec.specs.declared.ignored.Ignored.{Ignored}
use Rattle.h2_spec.specs.declared.rules.Row.{Row}
use Rattle.h2_explain_item.specs.Special.{case_of_error, case_of_reason, rule_of_cause, rule_of_reason}
use Rattle.h2_explain_item.specs.declared.diagnosis.special.CaseFacts.{CaseFacts}
use Rattle.h2_explain_item.specs.declared.item.Explained.{Explained}

-- that of an item that is no error, whatever facts of special cases are found
abbrev pub IsRowWithoutError : Option Ignored → Explained → rules.Row → Type 0
IsRowWithoutError (Some reason) x shown = (f : CaseFacts) × (shown ≡ rule_of_reason reason (case_of_reason x f))
IsRowWithoutError None x shown = (a : Accepted) × (shown ≡ accepted_row a)

abbrev pub IsRowBy : Option Cause → Explained → rules.Row → Type 0
IsRowBy (Some cause) x shown = (f : CaseFacts) × (shown ≡ rule_of_cause cause (case_of_error x f))
IsRowBy None x shown = IsRowWithoutError x.ignored x shown

-- the row of an item's rule
abbrev pub IsRowOf : Explained → Row → Type 0
IsRowOf x row = IsRowBy x.cause x (row_shown row)
