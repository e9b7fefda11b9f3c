-- Why the server answers with a connection error or a stream error: each cause with its code (RFC 9113, 7).
use Rattle.std.specs.Prelude.{Option, Some, None}
use Rattle.h2_spec.specs.declared.causes.Cause.{Cause}
use Rattle.h2_spec.specs.declared.causes.Cause.TheVariants.{BadPreface, FirstNotSettings, FirstIsSettingsAck, FrameTooLarge, StreamFrameTooLarge, BlockInterrupted, DataOnStreamZero, HeadersOnStreamZero, PriorityOnStreamZero, RstStreamOnStreamZero, ContinuationOnStreamZero, SettingsOnStream, PingOnStream, GoawayOnStream, DataLength, HeadersLength, PriorityLength, RstStreamLength, SettingsLength, SettingsAckLength, PingLength, GoawayLength, WindowUpdateLength, DataPadding, HeadersPadding, PushPromiseFromClient, ContinuationOutsideBlock, DataOnIdle, DataOnSkipped, DataAfterEndStream, DataOnClosed, HeadersOnEven, HeadersOnSkipped, HeadersAfterEndStream, HeadersOnClosed, RstStreamOnIdle, WindowUpdateOnIdle, ConnectionWindowExceeded, StreamWindowExceeded, ConnectionIncrementZero, StreamIncrementZero, ConnectionWindowOverflow, StreamWindowOverflow, EnablePushValue, InitialWindowSizeValue, MaxFrameSizeValue, InitialWindowSizeOverflow, BlockTooLarge, BlockTruncated, IntegerTooLong, IndexZero, IndexOutOfTables, HuffmanString, SizeUpdateLate, SizeUpdateTooLarge, SizeUpdateMissing, TooManyStreams, ListTooLarge, BadName, BadValue, LatePseudoField, UnknownPseudoField, DoublePseudoField, LackingPseudoField, ConnectionField, BadTe, BadContentLength, ContentMissing, ContentTooLong, ContentTooShort, TrailersWithoutEndStream, TrailersBadName, TrailersBadValue, TrailersPseudoField, TrailersConnectionField, TrailersBadTe}
use Rattle.h2_spec.specs.declared.errors.ErrorCode.{ErrorCode}
use Rattle.h2_spec.specs.declared.errors.ErrorCode.TheVariants.{ProtocolError, FlowControlError, StreamClosed, FrameSizeError, RefusedStream, CompressionError, EnhanceYourCalm}

-- the code that is sent
abbrev pub code_of : Cause → ErrorCode
code_of BadPreface = ProtocolError
code_of FirstNotSettings = ProtocolError
code_of FirstIsSettingsAck = ProtocolError
code_of FrameTooLarge = FrameSizeError
code_of StreamFrameTooLarge = FrameSizeError
code_of BlockInterrupted = ProtocolError
code_of DataOnStreamZero = ProtocolError
code_of HeadersOnStreamZero = ProtocolError
code_of PriorityOnStreamZero = ProtocolError
code_of RstStreamOnStreamZero = ProtocolError
code_of ContinuationOnStreamZero = ProtocolError
code_of SettingsOnStream = ProtocolError
code_of PingOnStream = ProtocolError
code_of GoawayOnStream = ProtocolError
code_of DataLength = FrameSizeError
code_of HeadersLength = FrameSizeError
code_of PriorityLength = FrameSizeError
code_of RstStreamLength = FrameSizeError
code_of SettingsLength = FrameSizeError
code_of SettingsAckLength = FrameSizeError
code_of PingLength = FrameSizeError
code_of GoawayLength = FrameSizeError
code_of WindowUpdateLength = FrameSizeError
code_of DataPadding = ProtocolError
code_of HeadersPadding = ProtocolError
code_of PushPromiseFromClient = ProtocolError
code_of ContinuationOutsideBlock = ProtocolError
code_of DataOnIdle = ProtocolError
code_of DataOnSkipped = StreamClosed
code_of DataAfterEndStream = StreamClosed
code_of DataOnClosed = StreamClosed
code_of HeadersOnEven = ProtocolError
code_of HeadersOnSkipped = ProtocolError
code_of HeadersAfterEndStream = StreamClosed
code_of HeadersOnClosed = StreamClosed
code_of RstStreamOnIdle = ProtocolError
code_of WindowUpdateOnIdle = ProtocolError
code_of ConnectionWindowExceeded = FlowControlError
code_of StreamWindowExceeded = FlowControlError
code_of ConnectionIncrementZero = ProtocolError
code_of StreamIncrementZero = ProtocolError
code_of ConnectionWindowOverflow = FlowControlError
code_of StreamWindowOverflow = FlowControlError
code_of EnablePushValue = ProtocolError
code_of InitialWindowSizeValue = FlowControlError
code_of MaxFrameSizeValue = ProtocolError
code_of InitialWindowSizeOverflow = FlowControlError
code_of BlockTooLarge = EnhanceYourCalm
code_of BlockTruncated = CompressionError
code_of IntegerTooLong = CompressionError
code_of IndexZero = CompressionError
code_of IndexOutOfTables = CompressionError
code_of HuffmanString = CompressionError
code_of SizeUpdateLate = CompressionError
code_of SizeUpdateTooLarge = CompressionError
code_of SizeUpdateMissing = CompressionError
code_of TooManyStreams = RefusedStream
code_of ListTooLarge = EnhanceYourCalm
code_of BadName = ProtocolError
code_of BadValue = ProtocolError
code_of LatePseudoField = ProtocolError
code_of UnknownPseudoField = ProtocolError
code_of DoublePseudoField = ProtocolError
code_of LackingPseudoField = ProtocolError
code_of ConnectionField = ProtocolError
code_of BadTe = ProtocolError
code_of BadContentLength = ProtocolError
code_of ContentMissing = ProtocolError
code_of ContentTooLong = ProtocolError
code_of ContentTooShort = ProtocolError
code_of TrailersWithoutEndStream = ProtocolError
code_of TrailersBadName = ProtocolError
code_of TrailersBadValue = ProtocolError
code_of TrailersPseudoField = ProtocolError
code_of TrailersConnectionField = ProtocolError
code_of TrailersBadTe = ProtocolError

-- the first cause, if there is one, and else the second
abbrev pub first_of : Option Cause → Option Cause → Option Cause
first_of (Some cause) second = Some cause
first_of None second = second
