-- What is wrong with a payload, by the error code of the cause that its reader answers (RFC 9113, 4.2, 6.1 and 6.2).
use Rattle.h2_spec.specs.declared.errors.ErrorCode.{ErrorCode}
use Rattle.h2_spec.specs.declared.errors.ErrorCode.TheVariants.{ProtocolError, FlowControlError, StreamClosed, FrameSizeError, RefusedStream, CompressionError, EnhanceYourCalm}
use Rattle.h2_frame.specs.declared.fault.PayloadFault.{PayloadFault}
use Rattle.h2_frame.specs.declared.fault.PayloadFault.TheVariants.{SizeFault, PadFault}

-- a wrong length is FRAME_SIZE_ERROR, padding that is too long PROTOCOL_ERROR
abbrev pub fault_of_code : ErrorCode → PayloadFault
fault_of_code FrameSizeError = SizeFault
fault_of_code ProtocolError = PadFault
fault_of_code FlowControlError = PadFault
fault_of_code StreamClosed = PadFault
fault_of_code RefusedStream = PadFault
fault_of_code CompressionError = PadFault
fault_of_code EnhanceYourCalm = PadFault
