use Rattle.std.proofs.Common.{◌∙◌, Some, ap, sym}
use Rattle.clap.specs.Words.{found_of, rows_of, subcommand_rows_of}
use Rattle.h2_cmd_args.proofs.Grammar.{devices_entered, entered, not_entered}
use Rattle.h2_cmd_args.proofs.command.command_in.Goals as goal

pub returns-in_default-clause-refused : goal.returns-in_default-clause-refused
returns-in_default-clause-refused c = not_entered (subcommand_rows_of c.args.matches.now) c.in_default.ensures.rows

pub returns-in-Ok-Some-clause-plan : goal.returns-in-Ok-Some-clause-plan
returns-in-Ok-Some-clause-plan c =
    entered c.args.matches.now c.in-Some.name.now (rows_of (found_of c.in-Some.inner.now)) c.in-Some.ensures.name c.in-Some.ensures.rows
    ∙ sym (rw c.in-Ok-Some.field-0-is at c.in-Ok-Some.ensures)

pub returns-in-Ok-Some-clause-devices : goal.returns-in-Ok-Some-clause-devices
returns-in-Ok-Some-clause-devices c =
    devices_entered (subcommand_rows_of c.args.matches.now) (rows_of (found_of c.in-Some.inner.now)) c.in-Some.ensures.rows
    ∙ ap Some (sym c.devices_in.ensures)

pub returns-in-Ok-None-clause-refused : goal.returns-in-Ok-None-clause-refused
returns-in-Ok-None-clause-refused c =
    entered c.args.matches.now c.in-Some.name.now (rows_of (found_of c.in-Some.inner.now)) c.in-Some.ensures.name c.in-Some.ensures.rows
    ∙ sym (rw c.in-Ok-None.field-0-is at c.in-Ok-None.ensures)
