-- Error codes (RFC 9113, 7), and the numbers of faults.
use Rattle.std.specs.Prelude.{ℕ}
use Rattle.h2_spec.specs.declared.errors.ErrorCode.{ErrorCode}
use Rattle.h2_spec.specs.declared.errors.ErrorCode.TheVariants.{ProtocolError, FlowControlError, StreamClosed, FrameSizeError, RefusedStream, CompressionError, EnhanceYourCalm}
use Rattle.h2_spec.specs.declared.errors.FlowFault.{FlowFault}
use Rattle.h2_spec.specs.declared.errors.FlowFault.TheVariants.{BadSetting, Overflow, Exceeded}

-- the number that represents a code in RST_STREAM and GOAWAY
abbrev pub code_number : ErrorCode → ℕ
code_number ProtocolError = 1
code_number FlowControlError = 3
code_number StreamClosed = 5
code_number FrameSizeError = 6
code_number RefusedStream = 7
code_number CompressionError = 9
code_number EnhanceYourCalm = 11

-- the number of what windows and settings refuse
abbrev pub fault_number : FlowFault → ℕ
fault_number (BadSetting cause) = 9
fault_number Overflow = 10
fault_number Exceeded = 11
