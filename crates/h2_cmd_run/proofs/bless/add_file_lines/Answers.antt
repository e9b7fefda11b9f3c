use Rattle.h2_cmd_run.specs.CheckProgram.{common_of}
use Rattle.h2_cmd_run.proofs.Blessed.{lines-joined}
use Rattle.h2_cmd_run.proofs.bless.add_file_lines.Goals as goal

pub returns-clause-text : goal.returns-clause-text
returns-clause-text g c = λ printed.
    lines-joined (g.F.Files.file c.args.files.now) (common_of c.args.common) c.args.file.now c.args.lines.now c.first_lines-preamble.result.now c.preamble_length.result c.args.text.now.items c.add_lines.new.text.items _ c.add_cases.result
    c.preamble_length.ensures.value c.first_lines-preamble.ensures c.in_ok-add_lines.ensures (c.add_cases.ensures.text printed)
