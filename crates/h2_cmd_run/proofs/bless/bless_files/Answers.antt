use Rattle.std.proofs.Common.{◌∙◌, Bool, List, Result, ℕ, ap, is_err, map}
use Rattle.std.proofs.lemmas.Result.{err_from_is_err_and}
use Rattle.h2_cmd_run.specs.CheckProgram.{common_of, not_checked}
use Rattle.h2_cmd_batch.specs.declared.commands.each.PrintFault.{PrintFault}
use Rattle.h2_cmd_run.proofs.Blessed.{file-went, file-stopped, file-told}
use Rattle.h2_cmd_run.proofs.bless.bless_files.Goals as goal

pub loop-file-preserved : goal.loop-file-preserved
loop-file-preserved g c =
    let d = g.F.Files.file c.args.files.now in
    let d₁ = g.F.Files.file c.loop-file.files in
    let s = common_of c.args.common in
    let names = c.args.names.now in
    let inv = c.loop-file.invariant in
    let all : List (List ℕ) = map (λ n. n.now) names in
    record {
      writer = c.bless_file.ensures.flag ∙ ap (λ (r : Result Bool PrintFault). not_checked r) c.in_ok-is_whole.was;
      name = c.bless_file.ensures.name ∙ inv.name;
      same_printed = c.bless_file.ensures.same_printed ∙ inv.same_printed;
      same_files = λ off. c.bless_file.ensures.same_files off ∙ inv.same_files off;
      blesses = λ on printed.
          file-went s d d₁ (g.F.Files.file c.bless_file.new.files) all names c.loop-file.file-index _ (is_err c.bless_file.result) c.loop-file-test.true
          (ap (λ (r : Result Bool PrintFault). is_err r) c.in_ok-is_whole.was) (inv.blesses on printed) (c.bless_file.ensures.blesses on (inv.same_printed ∙ printed));
      prints = λ off printed.
          file-told s d d₁ all names c.loop-file.file-index _ (g.O.Output.written c.args.output.now) (g.O.Output.written c.loop-file.output) (g.O.Output.written c.bless_file.new.output) c.loop-file-test.true
          (inv.same_files off) (inv.prints off printed) (c.in_ok-is_whole.ensures.prints off (inv.same_printed ∙ printed));
    }

pub returns-in_err-is_whole-clause-blesses : goal.returns-in_err-is_whole-clause-blesses
returns-in_err-is_whole-clause-blesses g c = λ on printed.
    let inv = c.loop-file.invariant in
    let p = err_from_is_err_and c.from_residual.result c.from_residual.ensures.1 in
    rw p.1 (file-stopped (common_of c.args.common) (g.F.Files.file c.args.files.now) (g.F.Files.file c.loop-file.files) (g.F.Files.file c.bless_file.new.files) (map (λ n. n.now) c.args.names.now) c.args.names.now c.loop-file.file-index _
    (is_err c.bless_file.result) c.loop-file-test.true (ap (λ (r : Result Bool PrintFault). is_err r) c.in_err-is_whole.was) (inv.blesses on printed) (c.bless_file.ensures.blesses on (inv.same_printed ∙ printed)))
