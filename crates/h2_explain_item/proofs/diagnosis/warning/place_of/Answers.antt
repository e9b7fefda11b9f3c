use denote.Enum.Declared.{tag_of}
use Rattle.std.proofs.Common.{◌≡◌, refl, Some}
use Rattle.std.specs.Prelude.{slice_get}
use Rattle.h2_explain_item.specs.contracts.diagnosis.warning.Warning.{the_type}
use Rattle.h2_explain_item.specs.declared.diagnosis.warning.Warning.TheVariants.{BadMethod, BadScheme, BadPath, Userinfo, EmptyAuthority, NoAuthority, HostTwice, HostDiffers, LengthTwice, NameNoToken, ManySizeUpdates, PaddingNotZero, ReservedBit, UndefinedFlags, ConnectProtocolValue, StreamAfterGoaway, AfterErrorGoaway, GoawayRaised, GoawayOddStream, OnClosedStream, IncrementOfZero, SentBeforeGranted, SentBeforeAcknowledged, DataOnNegativeWindow, ManyEmptyContinuations, SettingsNotAcknowledged, AnswerUnfinished}
use Rattle.h2_explain_item.specs.Warnings.{all_warnings}
use Rattle.h2_explain_item.proofs.diagnosis.warning.place_of.Goals as goal

pub returns : goal.returns
unfolding all_warnings
returns c = elim c.args.warning as (λ x. slice_get all_warnings (tag_of the_type x) ≡ Some x) [ BadMethod ↦ refl | BadScheme ↦ refl | BadPath ↦ refl | Userinfo ↦ refl | EmptyAuthority ↦ refl | NoAuthority ↦ refl | HostTwice ↦ refl | HostDiffers ↦ refl | LengthTwice ↦ refl | NameNoToken ↦ refl | ManySizeUpdates ↦ refl | PaddingNotZero ↦ refl | ReservedBit ↦ refl | UndefinedFlags ↦ refl | ConnectProtocolValue ↦ refl | StreamAfterGoaway ↦ refl | AfterErrorGoaway ↦ refl | GoawayRaised ↦ refl | GoawayOddStream ↦ refl | OnClosedStream ↦ refl | IncrementOfZero ↦ refl | SentBeforeGranted ↦ refl | SentBeforeAcknowledged ↦ refl | DataOnNegativeWindow ↦ refl | ManyEmptyContinuations ↦ refl | SettingsNotAcknowledged ↦ refl | AnswerUnfinished ↦ refl ]
