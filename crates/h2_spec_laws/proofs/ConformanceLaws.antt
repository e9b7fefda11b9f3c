-- What this server does conforms: each row by computation. And what a row allows, it allows in other forms too.
use Rattle.std.proofs.Common.{◌≡◌, ℕ, Bool, true, false, ◌||◌, refl}
use Rattle.std.specs.Prelude.{if◌then◌else◌}
use Rattle.h2_spec.specs.declared.accepted.Accepted.{Accepted}
use Rattle.h2_spec.specs.declared.accepted.Accepted.TheVariants as accepted
use Rattle.h2_spec.specs.declared.causes.Cause.{Cause}
use Rattle.h2_spec.specs.declared.causes.Cause.TheVariants as cause
use Rattle.h2_spec.specs.declared.conforming.Codes.{Codes}
use Rattle.h2_spec.specs.declared.conforming.Codes.TheVariants as code
use Rattle.h2_spec.specs.declared.conforming.Conforming.{Conforming}
use Rattle.h2_spec.specs.declared.conforming.Observed.{Observed}
use Rattle.h2_spec.specs.declared.conforming.Observed.TheVariants.{Accept, ConnectionError, Ignore, StreamError}
use Rattle.h2_spec.specs.declared.conforming.Permission.{Permission}
use Rattle.h2_spec.specs.declared.conforming.Permission.TheVariants.{Allowed, Open, NotAllowed}
use Rattle.h2_spec.specs.declared.ignored.Ignored.{Ignored}
use Rattle.h2_spec.specs.declared.ignored.Ignored.TheVariants as ignored
use Rattle.h2_spec.specs.declared.special_cases.SpecialCase.{SpecialCase}
use Rattle.h2_spec.specs.declared.special_cases.SpecialCase.TheVariants as special
use Rattle.h2_spec.specs.Causes.AcceptedWords.{accepted_row}
use Rattle.h2_spec.specs.Causes.CauseWords.{row_of}
use Rattle.h2_spec.specs.Causes.Conforming.{allows, conforms, is_open, names_code, takes_code}
use Rattle.h2_spec.specs.Causes.IgnoredWords.{reason_row}
use Rattle.h2_spec.specs.Causes.SpecialCases.{special_row}
use Rattle.h2_spec_laws.specs.Conformance.{has_its_least, permission_of_case, permission_to_accept, seen_of, seen_of_case}

pub error-conforms : (it : Cause) → allows (row_of it).conforming (seen_of it) ≡ Allowed
unfolding row_of
error-conforms it = elim it as (λ k. allows (row_of k).conforming (seen_of k) ≡ Allowed) [ cause.BadPreface ↦ refl | cause.FirstNotSettings ↦ refl | cause.FirstIsSettingsAck ↦ refl | cause.FrameTooLarge ↦ refl | cause.StreamFrameTooLarge ↦ refl | cause.BlockInterrupted ↦ refl | cause.DataOnStreamZero ↦ refl | cause.HeadersOnStreamZero ↦ refl | cause.PriorityOnStreamZero ↦ refl | cause.RstStreamOnStreamZero ↦ refl | cause.ContinuationOnStreamZero ↦ refl | cause.SettingsOnStream ↦ refl | cause.PingOnStream ↦ refl | cause.GoawayOnStream ↦ refl | cause.DataLength ↦ refl | cause.HeadersLength ↦ refl | cause.PriorityLength ↦ refl | cause.RstStreamLength ↦ refl | cause.SettingsLength ↦ refl | cause.SettingsAckLength ↦ refl | cause.PingLength ↦ refl | cause.GoawayLength ↦ refl | cause.WindowUpdateLength ↦ refl | cause.DataPadding ↦ refl | cause.HeadersPadding ↦ refl | cause.PushPromiseFromClient ↦ refl | cause.ContinuationOutsideBlock ↦ refl | cause.DataOnIdle ↦ refl | cause.DataOnSkipped ↦ refl | cause.DataAfterEndStream ↦ refl | cause.DataOnClosed ↦ refl | cause.HeadersOnEven ↦ refl | cause.HeadersOnSkipped ↦ refl | cause.HeadersAfterEndStream ↦ refl | cause.HeadersOnClosed ↦ refl | cause.RstStreamOnIdle ↦ refl | cause.WindowUpdateOnIdle ↦ refl | cause.ConnectionWindowExceeded ↦ refl | cause.StreamWindowExceeded ↦ refl | cause.ConnectionIncrementZero ↦ refl | cause.StreamIncrementZero ↦ refl | cause.ConnectionWindowOverflow ↦ refl | cause.StreamWindowOverflow ↦ refl | cause.EnablePushValue ↦ refl | cause.InitialWindowSizeValue ↦ refl | cause.MaxFrameSizeValue ↦ refl | cause.InitialWindowSizeOverflow ↦ refl | cause.BlockTooLarge ↦ refl | cause.BlockTruncated ↦ refl | cause.IntegerTooLong ↦ refl | cause.IndexZero ↦ refl | cause.IndexOutOfTables ↦ refl | cause.HuffmanString ↦ refl | cause.SizeUpdateLate ↦ refl | cause.SizeUpdateTooLarge ↦ refl | cause.SizeUpdateMissing ↦ refl | cause.TooManyStreams ↦ refl | cause.ListTooLarge ↦ refl | cause.BadName ↦ refl | cause.BadValue ↦ refl | cause.LatePseudoField ↦ refl | cause.UnknownPseudoField ↦ refl | cause.DoublePseudoField ↦ refl | cause.LackingPseudoField ↦ refl | cause.ConnectionField ↦ refl | cause.BadTe ↦ refl | cause.BadContentLength ↦ refl | cause.ContentMissing ↦ refl | cause.ContentTooLong ↦ refl | cause.ContentTooShort ↦ refl | cause.TrailersWithoutEndStream ↦ refl | cause.TrailersBadName ↦ refl | cause.TrailersBadValue ↦ refl | cause.TrailersPseudoField ↦ refl | cause.TrailersConnectionField ↦ refl | cause.TrailersBadTe ↦ refl ]

pub ignored-conforms : (it : Ignored) → allows (reason_row it).conforming Ignore ≡ Allowed
unfolding reason_row
ignored-conforms it = elim it as (λ k. allows (reason_row k).conforming Ignore ≡ Allowed) [ ignored.Priority ↦ refl | ignored.UnknownType ↦ refl | ignored.SecondAcknowledgement ↦ refl | ignored.PingAcknowledgement ↦ refl | ignored.RstStreamOnSkipped ↦ refl | ignored.RstStreamOnClosed ↦ refl | ignored.RstStreamOnPeerReset ↦ refl | ignored.RstStreamOnReset ↦ refl | ignored.WindowUpdateOnSkipped ↦ refl | ignored.WindowUpdateOnClosed ↦ refl | ignored.WindowUpdateOnPeerReset ↦ refl | ignored.WindowUpdateOnReset ↦ refl | ignored.WindowUpdateByZero ↦ refl | ignored.DataOnReset ↦ refl | ignored.TableOnlyBlock ↦ refl ]

pub case-conforms : (it : SpecialCase) → allows (special_row it).conforming (seen_of_case it) ≡ permission_of_case it
unfolding special_row
case-conforms it = elim it as (λ k. allows (special_row k).conforming (seen_of_case k) ≡ permission_of_case k) [ special.LimitNotAcknowledged ↦ refl | special.BehindContinuation ↦ refl | special.UnknownTypeInBlock ↦ refl | special.EmptyName ↦ refl | special.ConnectPseudoFields ↦ refl | special.EmptyPathOfOtherScheme ↦ refl | special.ContentLengthsDiffer ↦ refl | special.ContentLengthTooLong ↦ refl | special.UnfollowedWindow ↦ refl | special.EvenStream ↦ refl | special.DataAfterEnd ↦ refl | special.BlockAfterEnd ↦ refl | special.FirstUnknownType ↦ refl | special.PriorityLengthOnIdle ↦ refl | special.FrameTooLargeOnIdle ↦ refl | special.EmptyPath ↦ refl | special.TeOfTrailersAlone ↦ refl | special.WindowValueThenLawful ↦ refl | special.ContinuationOnEndedStream ↦ refl | special.IntegerBeyondAllTables ↦ refl | special.WindowUpdateAfterEnd ↦ refl ]

pub accepted-conforms : (it : Accepted) → allows (accepted_row it).conforming Accept ≡ permission_to_accept it
unfolding accepted_row
accepted-conforms it = elim it as (λ k. allows (accepted_row k).conforming Accept ≡ permission_to_accept k) [ accepted.Lawful ↦ refl | accepted.Settings ↦ refl | accepted.UnknownSetting ↦ refl | accepted.SettingTwice ↦ refl | accepted.UndefinedFlags ↦ refl | accepted.ReservedBit ↦ refl | accepted.Ping ↦ refl | accepted.PaddingNotZero ↦ refl | accepted.EmptyFragments ↦ refl | accepted.EmptyData ↦ refl | accepted.NoAuthority ↦ refl | accepted.HostDiffers ↦ refl | accepted.HostTwice ↦ refl | accepted.Userinfo ↦ refl | accepted.BadPath ↦ refl | accepted.BadMethod ↦ refl | accepted.BadScheme ↦ refl | accepted.NameNoToken ↦ refl | accepted.ValueControlOctet ↦ refl | accepted.ContentLengthTwice ↦ refl | accepted.TeCase ↦ refl | accepted.Trailers ↦ refl | accepted.TrailersEmpty ↦ refl | accepted.PriorityFlag ↦ refl | accepted.DependsOnItself ↦ refl | accepted.Goaway ↦ refl | accepted.GoawayOddStream ↦ refl | accepted.RequestAfterGoaway ↦ refl | accepted.UnknownCode ↦ refl | accepted.SettingsNotAcknowledged ↦ refl | accepted.LongInteger ↦ refl | accepted.SizeUpdates ↦ refl | accepted.ManySizeUpdates ↦ refl | accepted.Connect ↦ refl | accepted.OptionsStar ↦ refl | accepted.SkippedPriorityFlood ↦ refl | accepted.EmptyDataBelowZero ↦ refl | accepted.LargeFieldSection ↦ refl ]

pub cause-least : (it : Cause) → has_its_least (row_of it).conforming ≡ true
unfolding row_of
cause-least it = elim it as (λ k. has_its_least (row_of k).conforming ≡ true) [ cause.BadPreface ↦ refl | cause.FirstNotSettings ↦ refl | cause.FirstIsSettingsAck ↦ refl | cause.FrameTooLarge ↦ refl | cause.StreamFrameTooLarge ↦ refl | cause.BlockInterrupted ↦ refl | cause.DataOnStreamZero ↦ refl | cause.HeadersOnStreamZero ↦ refl | cause.PriorityOnStreamZero ↦ refl | cause.RstStreamOnStreamZero ↦ refl | cause.ContinuationOnStreamZero ↦ refl | cause.SettingsOnStream ↦ refl | cause.PingOnStream ↦ refl | cause.GoawayOnStream ↦ refl | cause.DataLength ↦ refl | cause.HeadersLength ↦ refl | cause.PriorityLength ↦ refl | cause.RstStreamLength ↦ refl | cause.SettingsLength ↦ refl | cause.SettingsAckLength ↦ refl | cause.PingLength ↦ refl | cause.GoawayLength ↦ refl | cause.WindowUpdateLength ↦ refl | cause.DataPadding ↦ refl | cause.HeadersPadding ↦ refl | cause.PushPromiseFromClient ↦ refl | cause.ContinuationOutsideBlock ↦ refl | cause.DataOnIdle ↦ refl | cause.DataOnSkipped ↦ refl | cause.DataAfterEndStream ↦ refl | cause.DataOnClosed ↦ refl | cause.HeadersOnEven ↦ refl | cause.HeadersOnSkipped ↦ refl | cause.HeadersAfterEndStream ↦ refl | cause.HeadersOnClosed ↦ refl | cause.RstStreamOnIdle ↦ refl | cause.WindowUpdateOnIdle ↦ refl | cause.ConnectionWindowExceeded ↦ refl | cause.StreamWindowExceeded ↦ refl | cause.ConnectionIncrementZero ↦ refl | cause.StreamIncrementZero ↦ refl | cause.ConnectionWindowOverflow ↦ refl | cause.StreamWindowOverflow ↦ refl | cause.EnablePushValue ↦ refl | cause.InitialWindowSizeValue ↦ refl | cause.MaxFrameSizeValue ↦ refl | cause.InitialWindowSizeOverflow ↦ refl | cause.BlockTooLarge ↦ refl | cause.BlockTruncated ↦ refl | cause.IntegerTooLong ↦ refl | cause.IndexZero ↦ refl | cause.IndexOutOfTables ↦ refl | cause.HuffmanString ↦ refl | cause.SizeUpdateLate ↦ refl | cause.SizeUpdateTooLarge ↦ refl | cause.SizeUpdateMissing ↦ refl | cause.TooManyStreams ↦ refl | cause.ListTooLarge ↦ refl | cause.BadName ↦ refl | cause.BadValue ↦ refl | cause.LatePseudoField ↦ refl | cause.UnknownPseudoField ↦ refl | cause.DoublePseudoField ↦ refl | cause.LackingPseudoField ↦ refl | cause.ConnectionField ↦ refl | cause.BadTe ↦ refl | cause.BadContentLength ↦ refl | cause.ContentMissing ↦ refl | cause.ContentTooLong ↦ refl | cause.ContentTooShort ↦ refl | cause.TrailersWithoutEndStream ↦ refl | cause.TrailersBadName ↦ refl | cause.TrailersBadValue ↦ refl | cause.TrailersPseudoField ↦ refl | cause.TrailersConnectionField ↦ refl | cause.TrailersBadTe ↦ refl ]

pub ignored-least : (it : Ignored) → has_its_least (reason_row it).conforming ≡ true
unfolding reason_row
ignored-least it = elim it as (λ k. has_its_least (reason_row k).conforming ≡ true) [ ignored.Priority ↦ refl | ignored.UnknownType ↦ refl | ignored.SecondAcknowledgement ↦ refl | ignored.PingAcknowledgement ↦ refl | ignored.RstStreamOnSkipped ↦ refl | ignored.RstStreamOnClosed ↦ refl | ignored.RstStreamOnPeerReset ↦ refl | ignored.RstStreamOnReset ↦ refl | ignored.WindowUpdateOnSkipped ↦ refl | ignored.WindowUpdateOnClosed ↦ refl | ignored.WindowUpdateOnPeerReset ↦ refl | ignored.WindowUpdateOnReset ↦ refl | ignored.WindowUpdateByZero ↦ refl | ignored.DataOnReset ↦ refl | ignored.TableOnlyBlock ↦ refl ]

pub case-least : (it : SpecialCase) → has_its_least (special_row it).conforming ≡ true
unfolding special_row
case-least it = elim it as (λ k. has_its_least (special_row k).conforming ≡ true) [ special.LimitNotAcknowledged ↦ refl | special.BehindContinuation ↦ refl | special.UnknownTypeInBlock ↦ refl | special.EmptyName ↦ refl | special.ConnectPseudoFields ↦ refl | special.EmptyPathOfOtherScheme ↦ refl | special.ContentLengthsDiffer ↦ refl | special.ContentLengthTooLong ↦ refl | special.UnfollowedWindow ↦ refl | special.EvenStream ↦ refl | special.DataAfterEnd ↦ refl | special.BlockAfterEnd ↦ refl | special.FirstUnknownType ↦ refl | special.PriorityLengthOnIdle ↦ refl | special.FrameTooLargeOnIdle ↦ refl | special.EmptyPath ↦ refl | special.TeOfTrailersAlone ↦ refl | special.WindowValueThenLawful ↦ refl | special.ContinuationOnEndedStream ↦ refl | special.IntegerBeyondAllTables ↦ refl | special.WindowUpdateAfterEnd ↦ refl ]

pub accepted-least : (it : Accepted) → has_its_least (accepted_row it).conforming ≡ true
unfolding accepted_row
accepted-least it = elim it as (λ k. has_its_least (accepted_row k).conforming ≡ true) [ accepted.Lawful ↦ refl | accepted.Settings ↦ refl | accepted.UnknownSetting ↦ refl | accepted.SettingTwice ↦ refl | accepted.UndefinedFlags ↦ refl | accepted.ReservedBit ↦ refl | accepted.Ping ↦ refl | accepted.PaddingNotZero ↦ refl | accepted.EmptyFragments ↦ refl | accepted.EmptyData ↦ refl | accepted.NoAuthority ↦ refl | accepted.HostDiffers ↦ refl | accepted.HostTwice ↦ refl | accepted.Userinfo ↦ refl | accepted.BadPath ↦ refl | accepted.BadMethod ↦ refl | accepted.BadScheme ↦ refl | accepted.NameNoToken ↦ refl | accepted.ValueControlOctet ↦ refl | accepted.ContentLengthTwice ↦ refl | accepted.TeCase ↦ refl | accepted.Trailers ↦ refl | accepted.TrailersEmpty ↦ refl | accepted.PriorityFlag ↦ refl | accepted.DependsOnItself ↦ refl | accepted.Goaway ↦ refl | accepted.GoawayOddStream ↦ refl | accepted.RequestAfterGoaway ↦ refl | accepted.UnknownCode ↦ refl | accepted.SettingsNotAcknowledged ↦ refl | accepted.LongInteger ↦ refl | accepted.SizeUpdates ↦ refl | accepted.ManySizeUpdates ↦ refl | accepted.Connect ↦ refl | accepted.OptionsStar ↦ refl | accepted.SkippedPriorityFlood ↦ refl | accepted.EmptyDataBelowZero ↦ refl | accepted.LargeFieldSection ↦ refl ]

-- ---- what a row allows

-- what is allowed conforms
conforming : (yes maybe : Bool) → (if yes then Allowed else if maybe then Open else NotAllowed) ≡ Allowed → yes ≡ true
conforming true maybe h = refl
conforming false true h = cc
conforming false false h = cc

conforming-at : (row : Conforming) (seen : Observed) → allows row seen ≡ Allowed → conforms row.allowed seen ≡ true
conforming-at row seen h = conforming (conforms row.allowed seen) (is_open row seen) h

allowed-at : (row : Conforming) (seen : Observed) → conforms row.allowed seen ≡ true → allows row seen ≡ Allowed
allowed-at row seen h = rw h refl

on-right : (a b : Bool) → b ≡ true → (a || b) ≡ true
on-right true b h = refl
on-right false b h = h

on-left : (a b : Bool) → a ≡ true → (a || b) ≡ true
on-left a b h = rw h refl

pub stream-as-connection : (row : Conforming) (k : ℕ) → allows row (StreamError k) ≡ Allowed → allows row (ConnectionError k) ≡ Allowed
stream-as-connection row k h =
    allowed-at row (ConnectionError k) (on-right (takes_code row.allowed.connection k) (takes_code row.allowed.stream k) (conforming-at row (StreamError k) h))

-- where a code is taken, the generic ones are
taken-one : (these : Codes) (k : ℕ) → takes_code these k ≡ true → takes_code these 1 ≡ true
taken-one code.None k h = cc
taken-one (code.One n) k h = on-right _ true refl
taken-one (code.Two n m) k h = on-right _ true refl
taken-one code.Any k h = refl

taken-two : (these : Codes) (k : ℕ) → takes_code these k ≡ true → takes_code these 2 ≡ true
taken-two code.None k h = cc
taken-two (code.One n) k h = on-right _ true refl
taken-two (code.Two n m) k h = on-right _ true refl
taken-two code.Any k h = refl

either : (a b c d : Bool) → (a ≡ true → c ≡ true) → (b ≡ true → d ≡ true) → (a || b) ≡ true → (c || d) ≡ true
either true b c d f g h = on-left c d (f refl)
either false b c d f g h = on-right c d (g h)

pub generic-of-stream : (row : Conforming) (k : ℕ) → allows row (StreamError k) ≡ Allowed → (allows row (StreamError 1) ≡ Allowed) × (allows row (StreamError 2) ≡ Allowed)
generic-of-stream row k h =
    let taken = conforming-at row (StreamError k) h in
    (allowed-at row (StreamError 1) (taken-one row.allowed.stream k taken), allowed-at row (StreamError 2) (taken-two row.allowed.stream k taken))

pub generic-of-connection : (row : Conforming) (k : ℕ) → allows row (ConnectionError k) ≡ Allowed → (allows row (ConnectionError 1) ≡ Allowed) × (allows row (ConnectionError 2) ≡ Allowed)
generic-of-connection row k h =
    let taken = conforming-at row (ConnectionError k) h in
    let c = row.allowed.connection in
    let s = row.allowed.stream in (
      allowed-at row (ConnectionError 1) (either (takes_code c k) (takes_code s k) (takes_code c 1) (takes_code s 1) (taken-one c k) (taken-one s k) taken),
      allowed-at row (ConnectionError 2) (either (takes_code c k) (takes_code s k) (takes_code c 2) (takes_code s 2) (taken-two c k) (taken-two s k) taken),
    )
