-- Why an item is ignored, if it is (RFC 9113, 4.1, 5.1 and 6). The table and the rules of frames say which are.
use Rattle.std.specs.Prelude.{Bool, true, false, Option}
use Rattle.h2_spec.specs.declared.ignored.Ignored.{Ignored}
use Rattle.h2_spec.specs.declared.ignored.Ignored.TheVariants.{Priority, UnknownType, SecondAcknowledgement, PingAcknowledgement, RstStreamOnSkipped, RstStreamOnClosed, RstStreamOnPeerReset, RstStreamOnReset, WindowUpdateOnSkipped, WindowUpdateOnClosed, WindowUpdateOnPeerReset, WindowUpdateOnReset, WindowUpdateByZero, DataOnReset, TableOnlyBlock}
use Rattle.h2_spec.specs.Hpack.Block.{decoded}
use Rattle.h2_spec.specs.Requests.Answer.{pick_of}
use Rattle.h2_spec.specs.Change.{with_outcome, shifted, received}
use Rattle.h2_spec.specs.Checks.{refusal, oversize}
use Rattle.h2_spec.specs.Frames.Frame.{Item}
use Rattle.h2_spec.specs.Requests.Headers.{request_outcome, trailers_outcome}
use Rattle.h2_spec.specs.Frames.Payload.{part_as}
use Rattle.h2_spec.specs.Requests.Request.{malformed, malformed_trailers, declared_length, request_of}
use Rattle.h2_spec.specs.SettingsFrame.{settings_rule}
use Rattle.h2_spec.specs.State.{State}
use Rattle.h2_spec.specs.Stream.{stream_at}
use Rattle.h2_spec.specs.WindowUpdate.{connection_window}
use Rattle.h2_spec.specs.Effect.{effect_ignored, item_effect, on_data, on_reset, on_window}

-- why an item is ignored, if it is
unfoldable pub ignored_of : State → Item → Option Ignored
unfolding refusal oversize part_as on_data on_reset on_window connection_window settings_rule request_outcome trailers_outcome stream_at with_outcome decoded shifted received malformed malformed_trailers declared_length request_of pick_of
ignored_of s item = effect_ignored (item_effect s item)

-- whether nothing at all changes for this reason: DATA moves the connection's window, and a block the header table
abbrev pub changes_nothing : Ignored → Bool
changes_nothing Priority = true
changes_nothing UnknownType = true
changes_nothing SecondAcknowledgement = true
changes_nothing PingAcknowledgement = true
changes_nothing RstStreamOnSkipped = true
changes_nothing RstStreamOnClosed = true
changes_nothing RstStreamOnPeerReset = true
changes_nothing RstStreamOnReset = true
changes_nothing WindowUpdateOnSkipped = true
changes_nothing WindowUpdateOnClosed = true
changes_nothing WindowUpdateOnPeerReset = true
changes_nothing WindowUpdateOnReset = true
changes_nothing WindowUpdateByZero = true
changes_nothing DataOnReset = false
changes_nothing TableOnlyBlock = false
