-- The numbers of the reasons against fields.
use Rattle.std.specs.Prelude.{ℕ}
use Rattle.h2_request_well_formed.specs.declared.reason.Reason.{Reason}
use Rattle.h2_request_well_formed.specs.declared.reason.Reason.TheVariants.{BadName, BadValue, LatePseudoField, UnknownPseudoField, DoublePseudoField, LackingPseudoField, ConnectionField, BadTe, BadContentLength}

-- the number of a reason, as the definitions count them
abbrev pub reason_number : Reason → ℕ
reason_number BadName = 1
reason_number BadValue = 2
reason_number LatePseudoField = 3
reason_number UnknownPseudoField = 4
reason_number DoublePseudoField = 5
reason_number LackingPseudoField = 6
reason_number ConnectionField = 7
reason_number BadTe = 8
reason_number BadContentLength = 9
