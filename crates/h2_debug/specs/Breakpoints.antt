-- Breakpoints as the definitions have them.
use Rattle.h2_spec.specs.Texts.Debug as spec
use Rattle.h2_debug.specs.declared.breakpoints.Break.{Break}
use Rattle.h2_debug.specs.declared.breakpoints.Break.TheVariants as code

abbrev pub break_of : Break → spec.Break
break_of (code.Position p) = spec.AtPosition p
break_of (code.Type kind) = spec.OnType kind
break_of (code.Stream id) = spec.OnStream id
break_of (code.Sent kind) = spec.OnSent kind
