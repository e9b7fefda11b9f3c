use denote.Enum.Declared.{tag_of}
use Rattle.std.proofs.Common.{◌≡◌, refl, Some}
use Rattle.std.specs.Prelude.{slice_get}
use Rattle.h2_spec.specs.contracts.special_cases.SpecialCase.{the_type}
use Rattle.h2_spec.specs.declared.special_cases.SpecialCase.TheVariants.{LimitNotAcknowledged, BehindContinuation, UnknownTypeInBlock, EmptyName, ConnectPseudoFields, EmptyPathOfOtherScheme, ContentLengthsDiffer, ContentLengthTooLong, UnfollowedWindow, EvenStream, DataAfterEnd, BlockAfterEnd, FirstUnknownType, PriorityLengthOnIdle, FrameTooLargeOnIdle, EmptyPath, TeOfTrailersAlone, WindowValueThenLawful, ContinuationOnEndedStream, IntegerBeyondAllTables, WindowUpdateAfterEnd}
use Rattle.h2_spec.specs.Causes.SpecialCases.{all_special_cases}
use Rattle.h2_spec.proofs.special_cases.place_of.Goals as goal

pub returns : goal.returns
unfolding all_special_cases
returns c = elim c.args.case as (λ x. slice_get all_special_cases (tag_of the_type x) ≡ Some x) [ LimitNotAcknowledged ↦ refl | BehindContinuation ↦ refl | UnknownTypeInBlock ↦ refl | EmptyName ↦ refl | ConnectPseudoFields ↦ refl | EmptyPathOfOtherScheme ↦ refl | ContentLengthsDiffer ↦ refl | ContentLengthTooLong ↦ refl | UnfollowedWindow ↦ refl | EvenStream ↦ refl | DataAfterEnd ↦ refl | BlockAfterEnd ↦ refl | FirstUnknownType ↦ refl | PriorityLengthOnIdle ↦ refl | FrameTooLargeOnIdle ↦ refl | EmptyPath ↦ refl | TeOfTrailersAlone ↦ refl | WindowValueThenLawful ↦ refl | ContinuationOnEndedStream ↦ refl | IntegerBeyondAllTables ↦ refl | WindowUpdateAfterEnd ↦ refl ]
