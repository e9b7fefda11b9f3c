-- What is said about each cause: its row of the table of rules.
use Rattle.std.specs.Prelude.{ℕ, List, [], ◌∷◌, true, codes}
use Rattle.h2_spec.specs.declared.causes.Cause.{Cause}
use Rattle.h2_spec.specs.declared.causes.Cause.TheVariants.{BadPreface, FirstNotSettings, FirstIsSettingsAck, FrameTooLarge, StreamFrameTooLarge, BlockInterrupted, DataOnStreamZero, HeadersOnStreamZero, PriorityOnStreamZero, RstStreamOnStreamZero, ContinuationOnStreamZero, SettingsOnStream, PingOnStream, GoawayOnStream, DataLength, HeadersLength, PriorityLength, RstStreamLength, SettingsLength, SettingsAckLength, PingLength, GoawayLength, WindowUpdateLength, DataPadding, HeadersPadding, PushPromiseFromClient, ContinuationOutsideBlock, DataOnIdle, DataOnSkipped, DataAfterEndStream, DataOnClosed, HeadersOnEven, HeadersOnSkipped, HeadersAfterEndStream, HeadersOnClosed, RstStreamOnIdle, WindowUpdateOnIdle, ConnectionWindowExceeded, StreamWindowExceeded, ConnectionIncrementZero, StreamIncrementZero, ConnectionWindowOverflow, StreamWindowOverflow, EnablePushValue, InitialWindowSizeValue, MaxFrameSizeValue, InitialWindowSizeOverflow, BlockTooLarge, BlockTruncated, IntegerTooLong, IndexZero, IndexOutOfTables, HuffmanString, SizeUpdateLate, SizeUpdateTooLarge, SizeUpdateMissing, TooManyStreams, ListTooLarge, BadName, BadValue, LatePseudoField, UnknownPseudoField, DoublePseudoField, LackingPseudoField, ConnectionField, BadTe, BadContentLength, ContentMissing, ContentTooLong, ContentTooShort, TrailersWithoutEndStream, TrailersBadName, TrailersBadValue, TrailersPseudoField, TrailersConnectionField, TrailersBadTe}
use Rattle.h2_spec.specs.declared.conforming.Codes.TheVariants as code
use Rattle.h2_spec.specs.declared.conforming.Least.TheVariants as least
use Rattle.h2_spec.specs.declared.rules.ClientDuty.TheVariants as client_duty
use Rattle.h2_spec.specs.declared.rules.ServerDuty.TheVariants as server_duty
use Rattle.h2_spec.specs.Causes.Conforming.{besides, errors, no_reaction, only}
use Rattle.h2_spec.specs.Causes.Rules.{Row}

-- the row of a cause
unfoldable pub row_of : Cause → Row
row_of BadPreface = record { name = codes "bad-preface"; section = codes "RFC 9113 3.4"; client = client_duty.Breach; client_section = codes "RFC 9113 3.4"; server = server_duty.Must; conforming = only least.Connection (record (errors (code.One 1) code.None) { wait = true; http1 = true }); sentence = codes "the octets are not the connection preface" }
row_of FirstNotSettings = record { name = codes "first-not-settings"; section = codes "RFC 9113 3.4"; client = client_duty.Must; client_section = codes "RFC 9113 3.4"; server = server_duty.Must; conforming = only least.Connection (errors (code.One 1) code.None); sentence = codes "the first frame after the preface has to be SETTINGS" }
row_of FirstIsSettingsAck = record { name = codes "first-is-settings-ack"; section = codes "RFC 9113 3.4"; client = client_duty.Must; client_section = codes "RFC 9113 3.4"; server = server_duty.Own; conforming = only least.None (record (errors (code.One 1) code.None) { accept = true }); sentence = codes "the first SETTINGS is the client's own and has no ACK" }
row_of FrameTooLarge = record { name = codes "frame-too-large"; section = codes "RFC 9113 4.2"; client = client_duty.MustNot; client_section = codes "RFC 9113 4.1"; server = server_duty.Must; conforming = only least.Connection (record (errors (code.One 6) code.None) { wait = true }); sentence = codes "the frame is longer than this server takes" }
row_of StreamFrameTooLarge = record { name = codes "stream-frame-too-large"; section = codes "RFC 9113 4.2"; client = client_duty.MustNot; client_section = codes "RFC 9113 4.1"; server = server_duty.Must; conforming = only least.Stream (record (errors code.None (code.One 6)) { wait = true }); sentence = codes "the frame is longer than this server takes" }
row_of BlockInterrupted = record { name = codes "block-interrupted"; section = codes "RFC 9113 6.2"; client = client_duty.Must; client_section = codes "RFC 9113 6.2"; server = server_duty.Must; conforming = besides least.Connection (errors (code.One 1) code.None) (errors (code.One 9) code.None); sentence = codes "while a field block is open, only CONTINUATION on its stream may follow" }
row_of DataOnStreamZero = record { name = codes "data-on-stream-zero"; section = codes "RFC 9113 6.1"; client = client_duty.Must; client_section = codes "RFC 9113 6.1"; server = server_duty.Must; conforming = only least.Connection (errors (code.One 1) code.None); sentence = codes "DATA has to be on a stream, not on 0" }
row_of HeadersOnStreamZero = record { name = codes "headers-on-stream-zero"; section = codes "RFC 9113 6.2"; client = client_duty.Must; client_section = codes "RFC 9113 6.2"; server = server_duty.Must; conforming = only least.Connection (errors (code.One 1) code.None); sentence = codes "HEADERS has to be on a stream, not on 0" }
row_of PriorityOnStreamZero = record { name = codes "priority-on-stream-zero"; section = codes "RFC 9113 6.3"; client = client_duty.Breach; client_section = codes "RFC 9113 6.3"; server = server_duty.Must; conforming = only least.Connection (errors (code.One 1) code.None); sentence = codes "PRIORITY has to be on a stream, not on 0" }
row_of RstStreamOnStreamZero = record { name = codes "rst-stream-on-stream-zero"; section = codes "RFC 9113 6.4"; client = client_duty.Must; client_section = codes "RFC 9113 6.4"; server = server_duty.Must; conforming = only least.Connection (errors (code.One 1) code.None); sentence = codes "RST_STREAM has to be on a stream, not on 0" }
row_of ContinuationOnStreamZero = record { name = codes "continuation-on-stream-zero"; section = codes "RFC 9113 6.10"; client = client_duty.Must; client_section = codes "RFC 9113 6.10"; server = server_duty.Must; conforming = only least.Connection (errors (code.One 1) code.None); sentence = codes "CONTINUATION has to be on a stream, not on 0" }
row_of SettingsOnStream = record { name = codes "settings-on-stream"; section = codes "RFC 9113 6.5"; client = client_duty.Must; client_section = codes "RFC 9113 6.5"; server = server_duty.Must; conforming = only least.Connection (errors (code.One 1) code.None); sentence = codes "SETTINGS has to be on stream 0" }
row_of PingOnStream = record { name = codes "ping-on-stream"; section = codes "RFC 9113 6.7"; client = client_duty.Breach; client_section = codes "RFC 9113 6.7"; server = server_duty.Must; conforming = only least.Connection (errors (code.One 1) code.None); sentence = codes "PING has to be on stream 0" }
row_of GoawayOnStream = record { name = codes "goaway-on-stream"; section = codes "RFC 9113 6.8"; client = client_duty.Breach; client_section = codes "RFC 9113 6.8"; server = server_duty.Must; conforming = only least.Connection (errors (code.One 1) code.None); sentence = codes "GOAWAY has to be on stream 0" }
row_of DataLength = record { name = codes "data-length"; section = codes "RFC 9113 4.2"; client = client_duty.Breach; client_section = codes "RFC 9113 6.1"; server = server_duty.Must; conforming = only least.Stream (errors code.None (code.One 6)); sentence = codes "DATA with PADDED has no octet for the Pad Length" }
row_of HeadersLength = record { name = codes "headers-length"; section = codes "RFC 9113 4.2"; client = client_duty.Breach; client_section = codes "RFC 9113 6.2"; server = server_duty.Must; conforming = only least.Connection (errors (code.One 6) code.None); sentence = codes "HEADERS is too short for what its flags announce" }
row_of PriorityLength = record { name = codes "priority-length"; section = codes "RFC 9113 6.3"; client = client_duty.Breach; client_section = codes "RFC 9113 6.3"; server = server_duty.Must; conforming = only least.Stream (errors code.None (code.One 6)); sentence = codes "PRIORITY has to have 5 octets" }
row_of RstStreamLength = record { name = codes "rst-stream-length"; section = codes "RFC 9113 6.4"; client = client_duty.Breach; client_section = codes "RFC 9113 6.4"; server = server_duty.Must; conforming = only least.Connection (errors (code.One 6) code.None); sentence = codes "RST_STREAM has to have 4 octets" }
row_of SettingsLength = record { name = codes "settings-length"; section = codes "RFC 9113 6.5"; client = client_duty.Breach; client_section = codes "RFC 9113 6.5"; server = server_duty.Must; conforming = only least.Connection (errors (code.One 6) code.None); sentence = codes "the length of SETTINGS has to be a multiple of 6" }
row_of SettingsAckLength = record { name = codes "settings-ack-length"; section = codes "RFC 9113 6.5"; client = client_duty.Must; client_section = codes "RFC 9113 6.5"; server = server_duty.Must; conforming = only least.Connection (errors (code.One 6) code.None); sentence = codes "SETTINGS with ACK has to be empty" }
row_of PingLength = record { name = codes "ping-length"; section = codes "RFC 9113 6.7"; client = client_duty.Must; client_section = codes "RFC 9113 6.7"; server = server_duty.Must; conforming = only least.Connection (errors (code.One 6) code.None); sentence = codes "PING has to have 8 octets" }
row_of GoawayLength = record { name = codes "goaway-length"; section = codes "RFC 9113 4.2"; client = client_duty.Breach; client_section = codes "RFC 9113 6.8"; server = server_duty.Must; conforming = only least.Connection (errors (code.One 6) code.None); sentence = codes "GOAWAY has to have 8 octets or more" }
row_of WindowUpdateLength = record { name = codes "window-update-length"; section = codes "RFC 9113 6.9"; client = client_duty.Breach; client_section = codes "RFC 9113 6.9"; server = server_duty.Must; conforming = only least.Connection (errors (code.One 6) code.None); sentence = codes "WINDOW_UPDATE has to have 4 octets" }
row_of DataPadding = record { name = codes "data-padding"; section = codes "RFC 9113 6.1"; client = client_duty.Breach; client_section = codes "RFC 9113 6.1"; server = server_duty.Must; conforming = only least.Connection (errors (code.One 1) code.None); sentence = codes "the padding of DATA is longer than the rest of its payload" }
row_of HeadersPadding = record { name = codes "headers-padding"; section = codes "RFC 9113 6.2"; client = client_duty.Breach; client_section = codes "RFC 9113 6.2"; server = server_duty.Must; conforming = besides least.Connection (errors (code.One 1) code.None) (errors (code.One 6) code.None); sentence = codes "the padding of HEADERS is longer than the rest of its payload" }
row_of PushPromiseFromClient = record { name = codes "push-promise-from-client"; section = codes "RFC 9113 8.4"; client = client_duty.Breach; client_section = codes "RFC 9113 8.4"; server = server_duty.Must; conforming = besides least.Connection (errors (code.One 1) code.None) (errors (code.One 6) code.None); sentence = codes "a client can't push: PUSH_PROMISE may not be sent to a server" }
row_of ContinuationOutsideBlock = record { name = codes "continuation-outside-block"; section = codes "RFC 9113 6.10"; client = client_duty.Must; client_section = codes "RFC 9113 6.10"; server = server_duty.Must; conforming = only least.Connection (errors (code.One 1) code.None); sentence = codes "no field block is open that CONTINUATION could continue" }
row_of DataOnIdle = record { name = codes "data-on-idle"; section = codes "RFC 9113 5.1"; client = client_duty.Breach; client_section = codes "RFC 9113 6.1"; server = server_duty.Must; conforming = besides least.Connection (errors (code.Two 1 5) code.None) (errors code.None (code.One 5)); sentence = codes "the stream is idle: only HEADERS opens it" }
row_of DataOnSkipped = record { name = codes "data-on-skipped"; section = codes "RFC 9113 5.1"; client = client_duty.MustNot; client_section = codes "RFC 9113 5.1"; server = server_duty.May; conforming = only least.None (record (errors (code.One 5) (code.One 5)) { ignore = true }); sentence = codes "the stream was closed, unused, when a higher one was opened" }
row_of DataAfterEndStream = record { name = codes "data-after-end-stream"; section = codes "RFC 9113 5.1"; client = client_duty.Breach; client_section = codes "RFC 9113 5.1"; server = server_duty.Must; conforming = only least.Stream (errors code.None (code.One 5)); sentence = codes "the client has already ended this stream by END_STREAM" }
row_of DataOnClosed = record { name = codes "data-on-closed"; section = codes "RFC 9113 5.1"; client = client_duty.MustNot; client_section = codes "RFC 9113 5.1"; server = server_duty.May; conforming = only least.None (record (errors (code.One 5) (code.One 5)) { ignore = true }); sentence = codes "the stream is closed" }
row_of HeadersOnEven = record { name = codes "headers-on-even"; section = codes "RFC 9113 5.1.1"; client = client_duty.Must; client_section = codes "RFC 9113 5.1.1"; server = server_duty.Must; conforming = only least.Connection (errors (code.One 1) code.None); sentence = codes "a client opens streams with odd identifiers" }
row_of HeadersOnSkipped = record { name = codes "headers-on-skipped"; section = codes "RFC 9113 5.1.1"; client = client_duty.Must; client_section = codes "RFC 9113 5.1.1"; server = server_duty.Must; conforming = only least.Connection (errors (code.Two 1 5) code.None); sentence = codes "a new stream has to have a higher identifier than all streams before" }
row_of HeadersAfterEndStream = record { name = codes "headers-after-end-stream"; section = codes "RFC 9113 5.1"; client = client_duty.Breach; client_section = codes "RFC 9113 5.1"; server = server_duty.Must; conforming = only least.Stream (errors code.None (code.One 5)); sentence = codes "the client has already ended this stream by END_STREAM" }
row_of HeadersOnClosed = record { name = codes "headers-on-closed"; section = codes "RFC 9113 5.1"; client = client_duty.MustNot; client_section = codes "RFC 9113 5.1"; server = server_duty.May; conforming = only least.None (record (errors (code.One 5) (code.One 5)) { ignore = true }); sentence = codes "the stream is closed" }
row_of RstStreamOnIdle = record { name = codes "rst-stream-on-idle"; section = codes "RFC 9113 6.4"; client = client_duty.MustNot; client_section = codes "RFC 9113 6.4"; server = server_duty.Must; conforming = only least.Connection (errors (code.One 1) code.None); sentence = codes "an idle stream can't be reset" }
row_of WindowUpdateOnIdle = record { name = codes "window-update-on-idle"; section = codes "RFC 9113 5.1"; client = client_duty.Breach; client_section = codes "RFC 9113 5.1"; server = server_duty.Must; conforming = only least.Connection (errors (code.One 1) code.None); sentence = codes "the stream is idle: it has no window yet" }
row_of ConnectionWindowExceeded = record { name = codes "connection-window-exceeded"; section = codes "RFC 9113 6.9"; client = client_duty.MustNot; client_section = codes "RFC 9113 6.9.1"; server = server_duty.May; conforming = besides least.None (record (errors (code.One 3) code.None) { accept = true }) (errors code.None (code.One 3)); sentence = codes "DATA is longer than the connection's receive window" }
row_of StreamWindowExceeded = record { name = codes "stream-window-exceeded"; section = codes "RFC 9113 6.9"; client = client_duty.MustNot; client_section = codes "RFC 9113 6.9.1"; server = server_duty.May; conforming = only least.None (record (errors (code.One 3) (code.One 3)) { accept = true }); sentence = codes "DATA is longer than the stream's receive window" }
row_of ConnectionIncrementZero = record { name = codes "connection-increment-zero"; section = codes "RFC 9113 6.9"; client = client_duty.Breach; client_section = codes "RFC 9113 6.9"; server = server_duty.Must; conforming = only least.Connection (errors (code.One 1) code.None); sentence = codes "the increment of WINDOW_UPDATE has to be 1 or more" }
row_of StreamIncrementZero = record { name = codes "stream-increment-zero"; section = codes "RFC 9113 6.9"; client = client_duty.Breach; client_section = codes "RFC 9113 6.9"; server = server_duty.Must; conforming = only least.Stream (errors code.None (code.One 1)); sentence = codes "the increment of WINDOW_UPDATE has to be 1 or more" }
row_of ConnectionWindowOverflow = record { name = codes "connection-window-overflow"; section = codes "RFC 9113 6.9.1"; client = client_duty.Breach; client_section = codes "RFC 9113 6.9.1"; server = server_duty.Must; conforming = only least.Connection (errors (code.One 3) code.None); sentence = codes "the connection's send window would be above 2147483647" }
row_of StreamWindowOverflow = record { name = codes "stream-window-overflow"; section = codes "RFC 9113 6.9.1"; client = client_duty.Breach; client_section = codes "RFC 9113 6.9.1"; server = server_duty.Must; conforming = only least.Stream (errors code.None (code.One 3)); sentence = codes "the stream's send window would be above 2147483647" }
row_of EnablePushValue = record { name = codes "enable-push-value"; section = codes "RFC 9113 6.5.2"; client = client_duty.Breach; client_section = codes "RFC 9113 6.5.2"; server = server_duty.Must; conforming = only least.Connection (errors (code.One 1) code.None); sentence = codes "SETTINGS_ENABLE_PUSH has to be 0 or 1" }
row_of InitialWindowSizeValue = record { name = codes "initial-window-size-value"; section = codes "RFC 9113 6.5.2"; client = client_duty.Breach; client_section = codes "RFC 9113 6.5.2"; server = server_duty.Must; conforming = only least.Connection (errors (code.One 3) code.None); sentence = codes "SETTINGS_INITIAL_WINDOW_SIZE has to be 2147483647 or less" }
row_of MaxFrameSizeValue = record { name = codes "max-frame-size-value"; section = codes "RFC 9113 6.5.2"; client = client_duty.Must; client_section = codes "RFC 9113 6.5.2"; server = server_duty.Must; conforming = only least.Connection (errors (code.One 1) code.None); sentence = codes "SETTINGS_MAX_FRAME_SIZE has to be 16384 to 16777215" }
row_of InitialWindowSizeOverflow = record { name = codes "initial-window-size-overflow"; section = codes "RFC 9113 6.9.2"; client = client_duty.Breach; client_section = codes "RFC 9113 6.9.2"; server = server_duty.Must; conforming = only least.Connection (errors (code.One 3) code.None); sentence = codes "SETTINGS_INITIAL_WINDOW_SIZE takes a stream's send window above 2147483647" }
row_of BlockTooLarge = record { name = codes "block-too-large"; section = codes "RFC 9113 10.5.1"; client = client_duty.Limit; client_section = codes "RFC 9113 10.5.1"; server = server_duty.Own; conforming = only least.None (record (errors (code.One 9) (code.One 11)) { accept = true; answer = true }); sentence = codes "the fragments of the field block have more than 65536 octets" }
row_of BlockTruncated = record { name = codes "block-truncated"; section = codes "RFC 9113 4.3"; client = client_duty.Breach; client_section = codes "RFC 9113 4.3"; server = server_duty.Must; conforming = only least.Connection (errors (code.One 9) code.None); sentence = codes "the field block ends inside an instruction" }
row_of IntegerTooLong = record { name = codes "integer-too-long"; section = codes "RFC 7541 5.1"; client = client_duty.Limit; client_section = codes "RFC 7541 5.1"; server = server_duty.Own; conforming = only least.None (record (errors (code.One 9) code.None) { accept = true }); sentence = codes "an integer has more than five continuation octets" }
row_of IndexZero = record { name = codes "index-zero"; section = codes "RFC 7541 6.1"; client = client_duty.Breach; client_section = codes "RFC 7541 6.1"; server = server_duty.Must; conforming = only least.Connection (errors (code.One 9) code.None); sentence = codes "an indexed field has the index 0" }
row_of IndexOutOfTables = record { name = codes "index-out-of-tables"; section = codes "RFC 7541 2.3.3"; client = client_duty.Breach; client_section = codes "RFC 7541 2.3.3"; server = server_duty.Must; conforming = only least.Connection (errors (code.One 9) code.None); sentence = codes "an index is beyond the end of both tables" }
row_of HuffmanString = record { name = codes "huffman-string"; section = codes "RFC 7541 5.2"; client = client_duty.Breach; client_section = codes "RFC 7541 5.2"; server = server_duty.Must; conforming = only least.Connection (errors (code.One 9) code.None); sentence = codes "a Huffman string contains EOS, or its padding is longer than 7 bits or has a 0 in it" }
row_of SizeUpdateLate = record { name = codes "size-update-late"; section = codes "RFC 7541 4.2"; client = client_duty.Must; client_section = codes "RFC 7541 4.2"; server = server_duty.Own; conforming = only least.None (record (errors (code.One 9) code.None) { accept = true }); sentence = codes "a table size update may only be at the beginning of a field block" }
row_of SizeUpdateTooLarge = record { name = codes "size-update-too-large"; section = codes "RFC 7541 6.3"; client = client_duty.Must; client_section = codes "RFC 7541 6.3"; server = server_duty.Must; conforming = only least.Connection (errors (code.One 9) code.None); sentence = codes "a table size update is above the limit of the table" }
row_of SizeUpdateMissing = record { name = codes "size-update-missing"; section = codes "RFC 9113 4.3.1"; client = client_duty.Must; client_section = codes "RFC 9113 4.3.1"; server = server_duty.Must; conforming = besides least.Connection (errors (code.One 9) code.None) (record no_reaction { accept = true }); sentence = codes "the limit of the table is lower now: the field block has to begin with a table size update" }
row_of TooManyStreams = record { name = codes "too-many-streams"; section = codes "RFC 9113 5.1.2"; client = client_duty.MustNot; client_section = codes "RFC 9113 5.1.2"; server = server_duty.Must; conforming = only least.Stream (errors code.None (code.One 7)); sentence = codes "as many streams are open as this server allows" }
row_of ListTooLarge = record { name = codes "list-too-large"; section = codes "RFC 9113 10.5.1"; client = client_duty.Limit; client_section = codes "RFC 9113 10.5.1"; server = server_duty.Own; conforming = only least.None (record (errors (code.One 9) (code.Two 11 1)) { accept = true; answer = true }); sentence = codes "the list of fields has more than 65536 octets" }
row_of BadName = record { name = codes "bad-name"; section = codes "RFC 9113 8.2.1"; client = client_duty.MustNot; client_section = codes "RFC 9113 8.2.1"; server = server_duty.Must; conforming = only least.Malformed (record (errors code.None (code.One 1)) { answer = true }); sentence = codes "the name of a field is empty or has an octet that names may not have" }
row_of BadValue = record { name = codes "bad-value"; section = codes "RFC 9113 8.2.1"; client = client_duty.MustNot; client_section = codes "RFC 9113 8.2.1"; server = server_duty.Must; conforming = only least.Malformed (record (errors code.None (code.One 1)) { answer = true }); sentence = codes "the value of a field has an octet that values may not have, or a blank at an end" }
row_of LatePseudoField = record { name = codes "late-pseudo-field"; section = codes "RFC 9113 8.3"; client = client_duty.Must; client_section = codes "RFC 9113 8.3"; server = server_duty.Must; conforming = only least.Malformed (record (errors code.None (code.One 1)) { answer = true }); sentence = codes "a pseudo-field is after a regular field" }
row_of UnknownPseudoField = record { name = codes "unknown-pseudo-field"; section = codes "RFC 9113 8.3"; client = client_duty.MustNot; client_section = codes "RFC 9113 8.3"; server = server_duty.Must; conforming = only least.Malformed (record (errors code.None (code.One 1)) { answer = true }); sentence = codes "a pseudo-field is not one of a request" }
row_of DoublePseudoField = record { name = codes "double-pseudo-field"; section = codes "RFC 9113 8.3"; client = client_duty.MustNot; client_section = codes "RFC 9113 8.3"; server = server_duty.Must; conforming = only least.Malformed (record (errors code.None (code.One 1)) { answer = true }); sentence = codes "a pseudo-field is there twice" }
row_of LackingPseudoField = record { name = codes "lacking-pseudo-field"; section = codes "RFC 9113 8.3.1"; client = client_duty.Must; client_section = codes "RFC 9113 8.3.1"; server = server_duty.Must; conforming = only least.Malformed (record (errors code.None (code.One 1)) { answer = true }); sentence = codes "a pseudo-field is missing or empty, or CONNECT has one that it may not have" }
row_of ConnectionField = record { name = codes "connection-field"; section = codes "RFC 9113 8.2.2"; client = client_duty.MustNot; client_section = codes "RFC 9113 8.2.2"; server = server_duty.Must; conforming = only least.Malformed (record (errors code.None (code.One 1)) { answer = true }); sentence = codes "a field belongs to HTTP/1.1 connections" }
row_of BadTe = record { name = codes "bad-te"; section = codes "RFC 9113 8.2.2"; client = client_duty.MustNot; client_section = codes "RFC 9113 8.2.2"; server = server_duty.Must; conforming = only least.Malformed (record (errors code.None (code.One 1)) { answer = true }); sentence = codes "te has another value than trailers" }
row_of BadContentLength = record { name = codes "bad-content-length"; section = codes "RFC 9113 8.1.1"; client = client_duty.MustNot; client_section = codes "RFC 9110 8.6"; server = server_duty.Must; conforming = besides least.Malformed (record (errors code.None (code.One 1)) { answer = true; wait = true }) (record no_reaction { accept = true }); sentence = codes "content-length is not 1 to 18 digits, or is there twice with different numbers" }
row_of ContentMissing = record { name = codes "content-missing"; section = codes "RFC 9113 8.1.1"; client = client_duty.Breach; client_section = codes "RFC 9113 8.1.1"; server = server_duty.Must; conforming = only least.Malformed (record (errors code.None (code.One 1)) { answer = true }); sentence = codes "the request ends with its fields and declares content" }
row_of ContentTooLong = record { name = codes "content-too-long"; section = codes "RFC 9113 8.1.1"; client = client_duty.Breach; client_section = codes "RFC 9113 8.1.1"; server = server_duty.Must; conforming = only least.Malformed (record (errors code.None (code.One 1)) { answer = true; wait = true }); sentence = codes "the content is longer than content-length declares" }
row_of ContentTooShort = record { name = codes "content-too-short"; section = codes "RFC 9113 8.1.1"; client = client_duty.Breach; client_section = codes "RFC 9113 8.1.1"; server = server_duty.Must; conforming = only least.Malformed (record (errors code.None (code.One 1)) { answer = true }); sentence = codes "the content is shorter than content-length declares" }
row_of TrailersWithoutEndStream = record { name = codes "trailers-without-end-stream"; section = codes "RFC 9113 8.1"; client = client_duty.Breach; client_section = codes "RFC 9113 8.1"; server = server_duty.Must; conforming = only least.Malformed (record (errors code.None (code.One 1)) { answer = true }); sentence = codes "trailers have to end the stream by END_STREAM" }
row_of TrailersBadName = record { name = codes "trailers-bad-name"; section = codes "RFC 9113 8.2.1"; client = client_duty.MustNot; client_section = codes "RFC 9113 8.2.1"; server = server_duty.Must; conforming = only least.Malformed (record (errors code.None (code.One 1)) { answer = true }); sentence = codes "the name of a trailer is empty or has an octet that names may not have" }
row_of TrailersBadValue = record { name = codes "trailers-bad-value"; section = codes "RFC 9113 8.2.1"; client = client_duty.MustNot; client_section = codes "RFC 9113 8.2.1"; server = server_duty.Must; conforming = only least.Malformed (record (errors code.None (code.One 1)) { answer = true }); sentence = codes "the value of a trailer has an octet that values may not have, or a blank at an end" }
row_of TrailersPseudoField = record { name = codes "trailers-pseudo-field"; section = codes "RFC 9113 8.1"; client = client_duty.MustNot; client_section = codes "RFC 9113 8.1"; server = server_duty.Must; conforming = only least.Malformed (record (errors code.None (code.One 1)) { answer = true }); sentence = codes "trailers may not have a pseudo-field" }
row_of TrailersConnectionField = record { name = codes "trailers-connection-field"; section = codes "RFC 9113 8.2.2"; client = client_duty.MustNot; client_section = codes "RFC 9113 8.2.2"; server = server_duty.Must; conforming = only least.Malformed (record (errors code.None (code.One 1)) { answer = true }); sentence = codes "a trailer belongs to HTTP/1.1 connections" }
row_of TrailersBadTe = record { name = codes "trailers-bad-te"; section = codes "RFC 9113 8.2.2"; client = client_duty.MustNot; client_section = codes "RFC 9113 8.2.2"; server = server_duty.Must; conforming = only least.Malformed (record (errors code.None (code.One 1)) { answer = true }); sentence = codes "te, in the trailers, has another value than trailers" }

abbrev pub cause_name : Cause → List ℕ
cause_name cause = (row_of cause).name

-- all causes, in the order of the code
unfoldable pub all_causes : List Cause
all_causes =
    BadPreface ∷ FirstNotSettings ∷ FirstIsSettingsAck ∷ FrameTooLarge ∷ StreamFrameTooLarge ∷ BlockInterrupted ∷
    DataOnStreamZero ∷ HeadersOnStreamZero ∷ PriorityOnStreamZero ∷ RstStreamOnStreamZero ∷
    ContinuationOnStreamZero ∷ SettingsOnStream ∷ PingOnStream ∷ GoawayOnStream ∷ DataLength ∷ HeadersLength ∷
    PriorityLength ∷ RstStreamLength ∷ SettingsLength ∷ SettingsAckLength ∷ PingLength ∷ GoawayLength ∷
    WindowUpdateLength ∷ DataPadding ∷ HeadersPadding ∷ PushPromiseFromClient ∷ ContinuationOutsideBlock ∷
    DataOnIdle ∷ DataOnSkipped ∷ DataAfterEndStream ∷ DataOnClosed ∷ HeadersOnEven ∷ HeadersOnSkipped ∷
    HeadersAfterEndStream ∷ HeadersOnClosed ∷ RstStreamOnIdle ∷ WindowUpdateOnIdle ∷ ConnectionWindowExceeded ∷
    StreamWindowExceeded ∷ ConnectionIncrementZero ∷ StreamIncrementZero ∷ ConnectionWindowOverflow ∷
    StreamWindowOverflow ∷ EnablePushValue ∷ InitialWindowSizeValue ∷ MaxFrameSizeValue ∷ InitialWindowSizeOverflow ∷
    BlockTooLarge ∷ BlockTruncated ∷ IntegerTooLong ∷ IndexZero ∷ IndexOutOfTables ∷ HuffmanString ∷ SizeUpdateLate ∷
    SizeUpdateTooLarge ∷ SizeUpdateMissing ∷ TooManyStreams ∷ ListTooLarge ∷ BadName ∷ BadValue ∷ LatePseudoField ∷
    UnknownPseudoField ∷ DoublePseudoField ∷ LackingPseudoField ∷ ConnectionField ∷ BadTe ∷ BadContentLength ∷
    ContentMissing ∷ ContentTooLong ∷ ContentTooShort ∷ TrailersWithoutEndStream ∷ TrailersBadName ∷
    TrailersBadValue ∷ TrailersPseudoField ∷ TrailersConnectionField ∷ TrailersBadTe ∷ []
