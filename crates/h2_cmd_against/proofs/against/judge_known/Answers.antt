use Rattle.std.proofs.Common.{◌≡◌, ◌∙◌, Err, List, Option, Result, Vec, ap, false, map, subst, true, ℕ}
use Rattle.std.specs.declared.alloc.Global.{Global}
use Rattle.h2_cmd_batch.specs.CommandEnd.{PrintsSome}
use Rattle.h2_cmd_batch.specs.declared.fault.BenchFault.TheVariants.{NoMemory}
use Rattle.h2_cmd_book_file.specs.Entries.{Directory}
use Rattle.h2_cmd_check.specs.JUnit.{FileResults, results_in}
use Rattle.h2_cmd_check.specs.declared.junit.Suite.{Suite}
use Rattle.h2_cmd_against.specs.Files.{trial_of}
use Rattle.h2_cmd_against.specs.Program.{CutsSuites, GainsSuites, IsEnd, is_unwritten}
use Rattle.h2_cmd_against.specs.Results.{SoFar}
use Rattle.h2_cmd_against.specs.declared.program.Stop.{Stop}
use Rattle.h2_cmd_against.proofs.ProgramLaws.{judges-cut, judges-whole}
use Rattle.h2_cmd_against.proofs.against.judge_known.Goals as goal

pub returns-in-Ok-print_files-clause-printed : goal.returns-in-Ok-print_files-clause-printed
returns-in-Ok-print_files-clause-printed g c = λ printed well.
    let d = g.F.Files.file c.args.files.now in
    let d' = g.F.Files.file c.print_end.new.files in
    let names : List (List ℕ) = map (λ n. n.now) c.args.names.now in
    let trial = trial_of d c.args.bench in
    let junit = c.args.plan.now.junit.now in
    let log = g.L.Link.log c.args.link.now in
    let log' = g.L.Link.log c.print_files.new.link in
    let s = c.print_files.new.so_far in
    let suites : List FileResults = map results_in c.in-Ok-print_files.suites.items in
    let a₀ = g.O.Output.written c.args.output.now in
    let a = g.O.Output.written c.write.new.self in
    let b = g.O.Output.written c.print_files.new.output in
    let e = g.O.Output.written c.print_end.new.output in
    let all = subst (λ (u : SoFar). GainsSuites false trial u log names suites s log' a b) c.new-so_far.ensures (c.in-Ok-print_files.ensures.results printed) in
    let known = c.print_files.ensures.same_printed ∙ printed in
    let end = subst (λ (w : Directory). PrintsSome (λ t. IsEnd junit w s (map results_in c.as_slice-suites.result.now) d' t) b e c.print_end.result) c.print_files.ensures.same_files (c.print_end.ensures.printed known well) in
    let ended = subst (λ (xs : List Suite). PrintsSome (λ t. IsEnd junit d s (map results_in xs) d' t) b e c.print_end.result) c.as_slice-suites.ensures.value end in
    judges-whole junit d' trial names log log' s suites a₀ a b e c.print_end.result c.in-Ok.ensures.octets all ended

pub returns-in-Err-NoMemory-clause-printed : goal.returns-in-Err-NoMemory-clause-printed
returns-in-Err-NoMemory-clause-printed g c = λ printed well.
    let d = g.F.Files.file c.args.files.now in
    let names : List (List ℕ) = map (λ n. n.now) c.args.names.now in
    let trial = trial_of d c.args.bench in
    let log = g.L.Link.log c.args.link.now in
    let a₀ = g.O.Output.written c.args.output.now in
    let a = g.O.Output.written c.write.new.self in
    let b = g.O.Output.written c.print_files.new.output in
    let inner = c.in-Err-NoMemory.is ∙ ap (λ (w : Stop). Err w) c.in-Err-NoMemory.field-0-is in
    let flag = c.print_files.ensures.flag ∙ ap (λ (r : Result (Vec Suite Global) Stop). is_unwritten r) inner in
    let some = subst (λ (u : SoFar). CutsSuites trial u log names a b) c.new-so_far.ensures (c.in-Err-NoMemory.ensures.cut printed flag) in
    judges-cut c.args.plan.now.junit.now (g.F.Files.file c.print_files.new.files) trial names log (g.L.Link.log c.print_files.new.link) NoMemory a₀ a b (g.O.Output.written c.print_fault.new.output) c.print_fault.result
    c.in-Ok.ensures.octets some c.print_files.ensures.same_files (c.print_fault.ensures.printed well)
