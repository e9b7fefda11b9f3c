-- What the special case of a cause does not depend on.
use Rattle.std.proofs.Common.{◌≡◌, ℕ, Bool, false, List, [], Option, refl, ap}
use Rattle.h2_spec.specs.declared.causes.Cause.{Cause}
use Rattle.h2_spec.specs.declared.causes.Cause.TheVariants as cause
use Rattle.h2_spec.specs.Frames.Payload.{Part}
use Rattle.h2_explain_item.specs.CaseFacts.{facts_by}
use Rattle.h2_explain_item.specs.Special.{case_of_cause}
use Rattle.h2_explain_item.specs.declared.diagnosis.field_facts.FieldFacts.{FieldFacts}
use Rattle.h2_explain_item.specs.declared.diagnosis.special.Seen.{Seen}

-- on a stream that was reset, but for an integer that is too long on the octets of its block, and of CONTINUATION where no block
-- is open on fields
pub other-facts : (it : Cause) (s : Seen) (continued : Bool) (part : Option Part) (before fields : FieldFacts) (octets : List ℕ) (after_end : Bool) → (it ≡ cause.IntegerTooLong → ⊥)
    → ((it ≡ cause.ContinuationOutsideBlock → ⊥) → before ≡ fields) → case_of_cause it s (facts_by continued part before [] false) ≡ case_of_cause it s (facts_by continued part fields octets after_end)
other-facts it s continued part before fields octets after_end = elim it as (λ k. (k ≡ cause.IntegerTooLong → ⊥) → ((k ≡ cause.ContinuationOutsideBlock → ⊥) → before ≡ fields) → case_of_cause k s (facts_by continued part before [] false) ≡ case_of_cause k s (facts_by continued part fields octets after_end)) [ cause.BadPreface ↦ λ other same. refl | cause.FirstNotSettings ↦ λ other same. refl | cause.FirstIsSettingsAck ↦ λ other same. refl | cause.FrameTooLarge ↦ λ other same. refl | cause.StreamFrameTooLarge ↦ λ other same. refl | cause.BlockInterrupted ↦ λ other same. refl | cause.DataOnStreamZero ↦ λ other same. refl | cause.HeadersOnStreamZero ↦ λ other same. refl | cause.PriorityOnStreamZero ↦ λ other same. refl | cause.RstStreamOnStreamZero ↦ λ other same. refl | cause.ContinuationOnStreamZero ↦ λ other same. refl | cause.SettingsOnStream ↦ λ other same. refl | cause.PingOnStream ↦ λ other same. refl | cause.GoawayOnStream ↦ λ other same. refl | cause.DataLength ↦ λ other same. refl | cause.HeadersLength ↦ λ other same. refl | cause.PriorityLength ↦ λ other same. refl | cause.RstStreamLength ↦ λ other same. refl | cause.SettingsLength ↦ λ other same. refl | cause.SettingsAckLength ↦ λ other same. refl | cause.PingLength ↦ λ other same. refl | cause.GoawayLength ↦ λ other same. refl | cause.WindowUpdateLength ↦ λ other same. refl | cause.DataPadding ↦ λ other same. refl | cause.HeadersPadding ↦ λ other same. refl | cause.PushPromiseFromClient ↦ λ other same. refl | cause.ContinuationOutsideBlock ↦ λ other same. refl | cause.DataOnIdle ↦ λ other same. refl | cause.DataOnSkipped ↦ λ other same. refl | cause.DataAfterEndStream ↦ λ other same. refl | cause.DataOnClosed ↦ λ other same. refl | cause.HeadersOnEven ↦ λ other same. refl | cause.HeadersOnSkipped ↦ λ other same. refl | cause.HeadersAfterEndStream ↦ λ other same. refl | cause.HeadersOnClosed ↦ λ other same. refl | cause.RstStreamOnIdle ↦ λ other same. refl | cause.WindowUpdateOnIdle ↦ λ other same. refl | cause.ConnectionWindowExceeded ↦ λ other same. refl | cause.StreamWindowExceeded ↦ λ other same. refl | cause.ConnectionIncrementZero ↦ λ other same. refl | cause.StreamIncrementZero ↦ λ other same. refl | cause.ConnectionWindowOverflow ↦ λ other same. refl | cause.StreamWindowOverflow ↦ λ other same. refl | cause.EnablePushValue ↦ λ other same. refl | cause.InitialWindowSizeValue ↦ λ other same. refl | cause.MaxFrameSizeValue ↦ λ other same. refl | cause.InitialWindowSizeOverflow ↦ λ other same. refl | cause.BlockTooLarge ↦ λ other same. refl | cause.BlockTruncated ↦ λ other same. refl | cause.IntegerTooLong ↦ λ other same. absurd (other refl) | cause.IndexZero ↦ λ other same. refl | cause.IndexOutOfTables ↦ λ other same. refl | cause.HuffmanString ↦ λ other same. refl | cause.SizeUpdateLate ↦ λ other same. refl | cause.SizeUpdateTooLarge ↦ λ other same. refl | cause.SizeUpdateMissing ↦ λ other same. refl | cause.TooManyStreams ↦ λ other same. refl | cause.ListTooLarge ↦ λ other same. refl | cause.BadName ↦ λ other same. ap (λ (x : FieldFacts). case_of_cause cause.BadName s (facts_by continued part x octets after_end)) (same (λ e. cc)) | cause.BadValue ↦ λ other same. refl | cause.LatePseudoField ↦ λ other same. refl | cause.UnknownPseudoField ↦ λ other same. refl | cause.DoublePseudoField ↦ λ other same. refl | cause.LackingPseudoField ↦ λ other same. ap (λ (x : FieldFacts). case_of_cause cause.LackingPseudoField s (facts_by continued part x octets after_end)) (same (λ e. cc)) | cause.ConnectionField ↦ λ other same. refl | cause.BadTe ↦ λ other same. ap (λ (x : FieldFacts). case_of_cause cause.BadTe s (facts_by continued part x octets after_end)) (same (λ e. cc)) | cause.BadContentLength ↦ λ other same. ap (λ (x : FieldFacts). case_of_cause cause.BadContentLength s (facts_by continued part x octets after_end)) (same (λ e. cc)) | cause.ContentMissing ↦ λ other same. refl | cause.ContentTooLong ↦ λ other same. refl | cause.ContentTooShort ↦ λ other same. refl | cause.TrailersWithoutEndStream ↦ λ other same. refl | cause.TrailersBadName ↦ λ other same. ap (λ (x : FieldFacts). case_of_cause cause.TrailersBadName s (facts_by continued part x octets after_end)) (same (λ e. cc)) | cause.TrailersBadValue ↦ λ other same. refl | cause.TrailersPseudoField ↦ λ other same. refl | cause.TrailersConnectionField ↦ λ other same. refl | cause.TrailersBadTe ↦ λ other same. ap (λ (x : FieldFacts). case_of_cause cause.TrailersBadTe s (facts_by continued part x octets after_end)) (same (λ e. cc)) ]
