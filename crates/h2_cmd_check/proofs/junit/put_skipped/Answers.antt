use Rattle.std.proofs.Common.{◌++◌, Option, List, ℕ, codes, subst}
use Rattle.h2_cmd_check.specs.JUnit.{case_front, reason_behind, title_of_line, xml_text}
use Rattle.h2_cmd_check.specs.Tap.{Gains}
use Rattle.h2_cmd_check.proofs.XmlGains.{gains-both}
use Rattle.h2_cmd_check.proofs.junit.put_skipped.Goals as goal

pub returns : goal.returns
returns c =
    let file = c.args.file.now in
    let out = c.args.out.now in
    let title = title_of_line c.args.shown.now c.args.line.now in
    let reason = reason_behind c.args.mark.now c.args.line.now in
    let one : List ℕ = case_front file title in
    let two : List ℕ = one ++ codes "><skipped message=\"" in
    let three : List ℕ = two ++ xml_text reason in
    let front = subst (λ (t : Option (List ℕ)). Gains (case_front file t) out c.put_case.new.out) c.title_of.ensures c.put_case.ensures in
    let said = subst (λ (t : List ℕ). Gains (xml_text t) c.text.new.self c.put_xml.new.out) c.reason_behind.ensures c.put_xml.ensures in
    gains-both three (codes "\"") out c.put_xml.new.out c.text-2.new.self
    (gains-both two (xml_text reason) out c.text.new.self c.put_xml.new.out
    (gains-both one (codes "><skipped message=\"") out c.put_case.new.out c.text.new.self front c.text.ensures) said) c.text-2.ensures
