use Rattle.std.proofs.Common.{◌++◌, codes}
use Rattle.h2_cmd_check.specs.JUnit.{counts_text, xml_text}
use Rattle.h2_cmd_check.proofs.XmlGains.{gains-both}
use Rattle.h2_cmd_check.proofs.junit.put_suite_front.Goals as goal

pub returns : goal.returns
returns c =
    let file = xml_text c.args.file.now in
    let counts = counts_text c.args.counts in
    gains-both (codes "<testsuite name=\"") (file ++ counts) c.args.out.now c.text.new.self c.put_counts.new.out c.text.ensures
    (gains-both file counts c.text.new.self c.put_xml.new.out c.put_counts.new.out c.put_xml.ensures c.put_counts.ensures)
