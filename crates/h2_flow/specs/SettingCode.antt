-- The error code of a setting that is refused (RFC 9113, 6.5.2).
use Rattle.std.specs.Prelude.{Option, Some, None}
use Rattle.h2_spec.specs.Causes.Cause.{code_of}
use Rattle.h2_spec.specs.declared.errors.ErrorCode.{ErrorCode}
use Rattle.h2_spec.specs.declared.errors.FlowFault.{FlowFault}
use Rattle.h2_spec.specs.declared.errors.FlowFault.TheVariants.{BadSetting, Overflow, Exceeded}

-- that of its cause; a window that is refused has none
abbrev pub setting_code : FlowFault → Option ErrorCode
setting_code (BadSetting cause) = Some (code_of cause)
setting_code Overflow = None
setting_code Exceeded = None
