-- What is said about each reason to ignore a frame: its row of the table of rules.
use Rattle.std.specs.Prelude.{ℕ, List, [], ◌∷◌, true, codes}
use Rattle.h2_spec.specs.declared.ignored.Ignored.{Ignored}
use Rattle.h2_spec.specs.declared.ignored.Ignored.TheVariants.{Priority, UnknownType, SecondAcknowledgement, PingAcknowledgement, RstStreamOnSkipped, RstStreamOnClosed, RstStreamOnPeerReset, RstStreamOnReset, WindowUpdateOnSkipped, WindowUpdateOnClosed, WindowUpdateOnPeerReset, WindowUpdateOnReset, WindowUpdateByZero, DataOnReset, TableOnlyBlock}
use Rattle.h2_spec.specs.declared.conforming.Codes.TheVariants as code
use Rattle.h2_spec.specs.declared.conforming.Least.TheVariants as least
use Rattle.h2_spec.specs.declared.rules.ClientDuty.TheVariants as client_duty
use Rattle.h2_spec.specs.declared.rules.ServerDuty.TheVariants as server_duty
use Rattle.h2_spec.specs.Causes.Conforming.{besides, errors, no_reaction, only}
use Rattle.h2_spec.specs.Causes.Rules.{Row}

-- the row of a reason
unfoldable pub reason_row : Ignored → Row
reason_row Priority = record { name = codes "priority"; section = codes "RFC 9113 6.3"; client = client_duty.Nothing; client_section = codes "RFC 9113 6.3"; server = server_duty.Must; conforming = besides least.Ignore (record no_reaction { ignore = true }) (errors (code.One 1) (code.One 1)); sentence = codes "this server does not use priorities" }
reason_row UnknownType = record { name = codes "unknown-type"; section = codes "RFC 9113 5.5"; client = client_duty.Nothing; client_section = codes "RFC 9113 5.5"; server = server_duty.Must; conforming = only least.Ignore (record no_reaction { ignore = true }); sentence = codes "the type of the frame is unknown" }
reason_row SecondAcknowledgement = record { name = codes "second-acknowledgement"; section = codes "RFC 9113 6.5.3"; client = client_duty.Nothing; client_section = codes "RFC 9113 6.5.3"; server = server_duty.Own; conforming = only least.None (record (errors (code.One 1) code.None) { ignore = true }); sentence = codes "the server's SETTINGS were acknowledged before" }
reason_row PingAcknowledgement = record { name = codes "ping-acknowledgement"; section = codes "RFC 9113 6.7"; client = client_duty.Nothing; client_section = codes "RFC 9113 6.7"; server = server_duty.Own; conforming = only least.None (record (errors (code.One 1) code.None) { ignore = true }); sentence = codes "this server sends no PING that could be acknowledged" }
reason_row RstStreamOnSkipped = record { name = codes "rst-stream-on-skipped"; section = codes "RFC 9113 5.1"; client = client_duty.MustNot; client_section = codes "RFC 9113 5.1"; server = server_duty.May; conforming = only least.None (record (errors (code.One 5) code.None) { ignore = true }); sentence = codes "the stream was closed, unused, when a higher one was opened" }
reason_row RstStreamOnClosed = record { name = codes "rst-stream-on-closed"; section = codes "RFC 9113 5.1"; client = client_duty.Nothing; client_section = codes "RFC 9113 5.1"; server = server_duty.Must; conforming = besides least.Ignore (record no_reaction { ignore = true }) (errors (code.Two 5 1) code.None); sentence = codes "the stream is closed" }
reason_row RstStreamOnPeerReset = record { name = codes "rst-stream-on-peer-reset"; section = codes "RFC 9113 5.1"; client = client_duty.MustNot; client_section = codes "RFC 9113 5.1"; server = server_duty.May; conforming = only least.None (record (errors (code.One 5) code.None) { ignore = true }); sentence = codes "the client has already reset the stream" }
reason_row RstStreamOnReset = record { name = codes "rst-stream-on-reset"; section = codes "RFC 9113 5.1"; client = client_duty.Nothing; client_section = codes "RFC 9113 5.1"; server = server_duty.Must; conforming = besides least.Ignore (record no_reaction { ignore = true }) (errors (code.Two 5 1) code.None); sentence = codes "the server has reset the stream" }
reason_row WindowUpdateOnSkipped = record { name = codes "window-update-on-skipped"; section = codes "RFC 9113 5.1"; client = client_duty.MustNot; client_section = codes "RFC 9113 5.1"; server = server_duty.May; conforming = only least.None (record (errors (code.One 5) (code.One 5)) { ignore = true }); sentence = codes "the stream was closed, unused, when a higher one was opened" }
reason_row WindowUpdateOnClosed = record { name = codes "window-update-on-closed"; section = codes "RFC 9113 6.9"; client = client_duty.Nothing; client_section = codes "RFC 9113 6.9"; server = server_duty.Must; conforming = besides least.Ignore (record no_reaction { ignore = true }) (errors (code.One 1) code.None); sentence = codes "the stream is closed" }
reason_row WindowUpdateOnPeerReset = record { name = codes "window-update-on-peer-reset"; section = codes "RFC 9113 5.1"; client = client_duty.MustNot; client_section = codes "RFC 9113 5.1"; server = server_duty.May; conforming = only least.None (record (errors (code.One 5) (code.One 5)) { ignore = true }); sentence = codes "the client has reset the stream" }
reason_row WindowUpdateOnReset = record { name = codes "window-update-on-reset"; section = codes "RFC 9113 5.1"; client = client_duty.Nothing; client_section = codes "RFC 9113 5.1"; server = server_duty.Must; conforming = besides least.Ignore (record no_reaction { ignore = true }) (errors (code.Two 5 1) code.None); sentence = codes "the server has reset the stream" }
reason_row WindowUpdateByZero = record { name = codes "window-update-by-zero"; section = codes "RFC 9113 6.9"; client = client_duty.Breach; client_section = codes "RFC 9113 6.9"; server = server_duty.Own; conforming = only least.None (record (errors (code.One 5) (code.One 1)) { ignore = true }); sentence = codes "the increment of WINDOW_UPDATE has to be 1 or more, but the stream is closed" }
reason_row DataOnReset = record { name = codes "data-on-reset"; section = codes "RFC 9113 5.1"; client = client_duty.Nothing; client_section = codes "RFC 9113 5.1"; server = server_duty.Must; conforming = besides least.Ignore (record no_reaction { ignore = true }) (errors (code.Two 5 1) (code.One 5)); sentence = codes "the server has reset the stream: DATA counts for the connection's window and no more" }
reason_row TableOnlyBlock = record { name = codes "table-only-block"; section = codes "RFC 9113 5.1"; client = client_duty.Nothing; client_section = codes "RFC 9113 5.1"; server = server_duty.Must; conforming = besides least.Ignore (record no_reaction { ignore = true }) (errors (code.Two 5 1) (code.One 5)); sentence = codes "the server has reset the stream: the block changes the header table and no more" }

abbrev pub ignored_name : Ignored → List ℕ
ignored_name reason = (reason_row reason).name

-- all reasons, in the order of the code
unfoldable pub all_reasons : List Ignored
all_reasons =
    Priority ∷ UnknownType ∷ SecondAcknowledgement ∷ PingAcknowledgement ∷ RstStreamOnSkipped ∷ RstStreamOnClosed ∷
    RstStreamOnPeerReset ∷ RstStreamOnReset ∷ WindowUpdateOnSkipped ∷ WindowUpdateOnClosed ∷
    WindowUpdateOnPeerReset ∷ WindowUpdateOnReset ∷ WindowUpdateByZero ∷ DataOnReset ∷ TableOnlyBlock ∷ []
