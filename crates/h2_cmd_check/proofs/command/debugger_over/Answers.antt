use Rattle.std.proofs.Common.{◌∙◌, ap}
use Rattle.std.specs.List.{each_same}
use Rattle.h2_debug.specs.Loaded.{loaded}
use Rattle.h2_cmd_check.proofs.command.debugger_over.Goals as goal

pub returns-in-Ok-load : goal.returns-in-Ok-load
returns-in-Ok-load c =
    let same = each_same c.args.octets.now.items c.in-Ok.octets.items c.in-Ok.ensures.cases.0 in
    c.in-Ok-load.ensures.ok ∙ ap (loaded c.args.given.now.book.now c.args.given.now.config) same
