use denote.Enum.Declared.{tag_of}
use Rattle.std.proofs.Common.{◌≡◌, refl, Some}
use Rattle.std.specs.Prelude.{slice_get}
use Rattle.h2_spec.specs.contracts.accepted.Accepted.{the_type}
use Rattle.h2_spec.specs.declared.accepted.Accepted.TheVariants.{Lawful, Settings, UnknownSetting, SettingTwice, UndefinedFlags, ReservedBit, Ping, PaddingNotZero, EmptyFragments, EmptyData, NoAuthority, HostDiffers, HostTwice, Userinfo, BadPath, BadMethod, BadScheme, NameNoToken, ValueControlOctet, ContentLengthTwice, TeCase, Trailers, TrailersEmpty, PriorityFlag, DependsOnItself, Goaway, GoawayOddStream, RequestAfterGoaway, UnknownCode, SettingsNotAcknowledged, LongInteger, SizeUpdates, ManySizeUpdates, Connect, OptionsStar, SkippedPriorityFlood, EmptyDataBelowZero, LargeFieldSection}
use Rattle.h2_spec.specs.Causes.AcceptedWords.{all_accepted}
use Rattle.h2_spec.proofs.accepted.place_of.Goals as goal

pub returns : goal.returns
unfolding all_accepted
returns c = elim c.args.accepted as (λ x. slice_get all_accepted (tag_of the_type x) ≡ Some x) [ Lawful ↦ refl | Settings ↦ refl | UnknownSetting ↦ refl | SettingTwice ↦ refl | UndefinedFlags ↦ refl | ReservedBit ↦ refl | Ping ↦ refl | PaddingNotZero ↦ refl | EmptyFragments ↦ refl | EmptyData ↦ refl | NoAuthority ↦ refl | HostDiffers ↦ refl | HostTwice ↦ refl | Userinfo ↦ refl | BadPath ↦ refl | BadMethod ↦ refl | BadScheme ↦ refl | NameNoToken ↦ refl | ValueControlOctet ↦ refl | ContentLengthTwice ↦ refl | TeCase ↦ refl | Trailers ↦ refl | TrailersEmpty ↦ refl | PriorityFlag ↦ refl | DependsOnItself ↦ refl | Goaway ↦ refl | GoawayOddStream ↦ refl | RequestAfterGoaway ↦ refl | UnknownCode ↦ refl | SettingsNotAcknowledged ↦ refl | LongInteger ↦ refl | SizeUpdates ↦ refl | ManySizeUpdates ↦ refl | Connect ↦ refl | OptionsStar ↦ refl | SkippedPriorityFlood ↦ refl | EmptyDataBelowZero ↦ refl | LargeFieldSection ↦ refl ]
