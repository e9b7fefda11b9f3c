use Rattle.std.proofs.Common.{List, ℕ, ap, map}
use Rattle.std.specs.Borrow.{Bor}
use Rattle.h2_cmd_run.proofs.Blessed.{blesses-all}
use Rattle.h2_cmd_run.proofs.bless.print_blessed.Goals as goal

pub returns-clause-blesses : goal.returns-clause-blesses
returns-clause-blesses g c = λ printed.
    blesses-all (record { config = c.args.plan.now.config; book = c.args.book.now }) (g.F.Files.file c.args.files.now) (g.F.Files.file c.bless_files-ended.new.files) (map (λ n. n.now) c.as_slice-names.result.now) (map (λ n. n.now) c.args.plan.now.files.items)
    c.args.plan.now.in_place (g.O.Output.written c.args.output.now) (g.O.Output.written c.bless_files-ended.new.output) (g.O.Output.written c.print_ended.new.output) c.print_ended.result c.bless_files-ended.result
    (ap (λ (ns : List (Bor (List ℕ))). map (λ n. n.now) ns) c.as_slice-names.ensures.value)
    c.bless_files-ended.ensures.same_files (λ on. c.bless_files-ended.ensures.blesses on printed) (λ off. c.bless_files-ended.ensures.prints off printed) c.print_ended.ensures.ok
