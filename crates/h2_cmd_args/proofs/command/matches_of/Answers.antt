use Rattle.std.proofs.Common.{map, string_bytes}
use Rattle.clap.specs.Words.{app_of}
use Rattle.h2_cmd_args.proofs.Grammar.{printed_refuses, clap_took, rows_found}
use Rattle.h2_cmd_args.proofs.command.matches_of.Goals as goal

pub returns-in-Err-clause-refused : goal.returns-in-Err-clause-refused
returns-in-Err-clause-refused c =
    printed_refuses (app_of c.in-Ok.command) (map string_bytes c.as_slice.result.now) c.args.words.now c.in-Err.error c.printed_of.result
    (c.in-Ok.ensures.0) c.as_slice.ensures c.in-Err.ensures.kinds c.printed_of.ensures

pub returns-in-Ok-try_get_matches_from-clause-ok : goal.returns-in-Ok-try_get_matches_from-clause-ok
returns-in-Ok-try_get_matches_from-clause-ok c =
    clap_took (app_of c.in-Ok.command) (map string_bytes c.as_slice.result.now) c.args.words.now c.in-Ok-try_get_matches_from.matches
    (c.in-Ok.ensures.0) c.as_slice.ensures c.in-Ok-try_get_matches_from.ensures.matches c.in-Ok-try_get_matches_from.ensures.kinds

pub returns-in-Ok-try_get_matches_from-clause-rows : goal.returns-in-Ok-try_get_matches_from-clause-rows
returns-in-Ok-try_get_matches_from-clause-rows c =
    rows_found (app_of c.in-Ok.command) (map string_bytes c.as_slice.result.now) c.args.words.now c.in-Ok-try_get_matches_from.matches
    (c.in-Ok.ensures.0) c.as_slice.ensures c.in-Ok-try_get_matches_from.ensures.matches
