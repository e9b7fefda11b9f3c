-- Frames by what they hold.
use Rattle.h2_frame.specs.declared.payload.Part.{Part}
use Rattle.h2_frame.specs.declared.payload.Part.TheVariants as part

-- no CONTINUATION
abbrev pub IsNoContinuation : Part → Type 0
IsNoContinuation (part.Data d) = Unit {0}
IsNoContinuation (part.Headers h) = Unit {0}
IsNoContinuation part.Priority = Unit {0}
IsNoContinuation (part.RstStream code) = Unit {0}
IsNoContinuation (part.Settings s) = Unit {0}
IsNoContinuation part.SettingsAck = Unit {0}
IsNoContinuation part.PushPromise = Unit {0}
IsNoContinuation (part.Ping octets) = Unit {0}
IsNoContinuation (part.Goaway last code) = Unit {0}
IsNoContinuation (part.WindowUpdate increment) = Unit {0}
IsNoContinuation (part.Continuation fragment) = ⊥
IsNoContinuation part.Unknown = Unit {0}
