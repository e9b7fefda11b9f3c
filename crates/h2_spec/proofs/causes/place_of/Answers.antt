use denote.Enum.Declared.{tag_of}
use Rattle.std.proofs.Common.{◌≡◌, refl, Some}
use Rattle.std.specs.Prelude.{slice_get}
use Rattle.h2_spec.specs.contracts.causes.Cause.{the_type}
use Rattle.h2_spec.specs.declared.causes.Cause.TheVariants.{BadPreface, FirstNotSettings, FirstIsSettingsAck, FrameTooLarge, StreamFrameTooLarge, BlockInterrupted, DataOnStreamZero, HeadersOnStreamZero, PriorityOnStreamZero, RstStreamOnStreamZero, ContinuationOnStreamZero, SettingsOnStream, PingOnStream, GoawayOnStream, DataLength, HeadersLength, PriorityLength, RstStreamLength, SettingsLength, SettingsAckLength, PingLength, GoawayLength, WindowUpdateLength, DataPadding, HeadersPadding, PushPromiseFromClient, ContinuationOutsideBlock, DataOnIdle, DataOnSkipped, DataAfterEndStream, DataOnClosed, HeadersOnEven, HeadersOnSkipped, HeadersAfterEndStream, HeadersOnClosed, RstStreamOnIdle, WindowUpdateOnIdle, ConnectionWindowExceeded, StreamWindowExceeded, ConnectionIncrementZero, StreamIncrementZero, ConnectionWindowOverflow, StreamWindowOverflow, EnablePushValue, InitialWindowSizeValue, MaxFrameSizeValue, InitialWindowSizeOverflow, BlockTooLarge, BlockTruncated, IntegerTooLong, IndexZero, IndexOutOfTables, HuffmanString, SizeUpdateLate, SizeUpdateTooLarge, SizeUpdateMissing, TooManyStreams, ListTooLarge, BadName, BadValue, LatePseudoField, UnknownPseudoField, DoublePseudoField, LackingPseudoField, ConnectionField, BadTe, BadContentLength, ContentMissing, ContentTooLong, ContentTooShort, TrailersWithoutEndStream, TrailersBadName, TrailersBadValue, TrailersPseudoField, TrailersConnectionField, TrailersBadTe}
use Rattle.h2_spec.specs.Causes.CauseWords.{all_causes}
use Rattle.h2_spec.proofs.causes.place_of.Goals as goal

pub returns : goal.returns
unfolding all_causes
returns c = elim c.args.cause as (λ x. slice_get all_causes (tag_of the_type x) ≡ Some x) [ BadPreface ↦ refl | FirstNotSettings ↦ refl | FirstIsSettingsAck ↦ refl | FrameTooLarge ↦ refl | StreamFrameTooLarge ↦ refl | BlockInterrupted ↦ refl | DataOnStreamZero ↦ refl | HeadersOnStreamZero ↦ refl | PriorityOnStreamZero ↦ refl | RstStreamOnStreamZero ↦ refl | ContinuationOnStreamZero ↦ refl | SettingsOnStream ↦ refl | PingOnStream ↦ refl | GoawayOnStream ↦ refl | DataLength ↦ refl | HeadersLength ↦ refl | PriorityLength ↦ refl | RstStreamLength ↦ refl | SettingsLength ↦ refl | SettingsAckLength ↦ refl | PingLength ↦ refl | GoawayLength ↦ refl | WindowUpdateLength ↦ refl | DataPadding ↦ refl | HeadersPadding ↦ refl | PushPromiseFromClient ↦ refl | ContinuationOutsideBlock ↦ refl | DataOnIdle ↦ refl | DataOnSkipped ↦ refl | DataAfterEndStream ↦ refl | DataOnClosed ↦ refl | HeadersOnEven ↦ refl | HeadersOnSkipped ↦ refl | HeadersAfterEndStream ↦ refl | HeadersOnClosed ↦ refl | RstStreamOnIdle ↦ refl | WindowUpdateOnIdle ↦ refl | ConnectionWindowExceeded ↦ refl | StreamWindowExceeded ↦ refl | ConnectionIncrementZero ↦ refl | StreamIncrementZero ↦ refl | ConnectionWindowOverflow ↦ refl | StreamWindowOverflow ↦ refl | EnablePushValue ↦ refl | InitialWindowSizeValue ↦ refl | MaxFrameSizeValue ↦ refl | InitialWindowSizeOverflow ↦ refl | BlockTooLarge ↦ refl | BlockTruncated ↦ refl | IntegerTooLong ↦ refl | IndexZero ↦ refl | IndexOutOfTables ↦ refl | HuffmanString ↦ refl | SizeUpdateLate ↦ refl | SizeUpdateTooLarge ↦ refl | SizeUpdateMissing ↦ refl | TooManyStreams ↦ refl | ListTooLarge ↦ refl | BadName ↦ refl | BadValue ↦ refl | LatePseudoField ↦ refl | UnknownPseudoField ↦ refl | DoublePseudoField ↦ refl | LackingPseudoField ↦ refl | ConnectionField ↦ refl | BadTe ↦ refl | BadContentLength ↦ refl | ContentMissing ↦ refl | ContentTooLong ↦ refl | ContentTooShort ↦ refl | TrailersWithoutEndStream ↦ refl | TrailersBadName ↦ refl | TrailersBadValue ↦ refl | TrailersPseudoField ↦ refl | TrailersConnectionField ↦ refl | TrailersBadTe ↦ refl ]
