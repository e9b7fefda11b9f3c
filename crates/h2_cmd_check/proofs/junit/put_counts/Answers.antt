use Rattle.std.proofs.Common.{◌++◌, List, ℕ, codes, decimal}
use Rattle.h2_cmd_check.proofs.XmlGains.{gains-both}
use Rattle.h2_cmd_check.proofs.junit.put_counts.Goals as goal

pub returns : goal.returns
returns c =
    let n = c.args.counts in
    let out = c.args.out.now in
    let one : List ℕ = codes "\" tests=\"" in
    let two : List ℕ = one ++ decimal n.tests in
    let three : List ℕ = two ++ codes "\" failures=\"" in
    let four : List ℕ = three ++ decimal n.failures in
    let five : List ℕ = four ++ codes "\" errors=\"0\" skipped=\"" in
    let six : List ℕ = five ++ decimal n.skipped in
    gains-both six (codes "\">\n") out c.number-3.new.self c.text-4.new.self
    (gains-both five (decimal n.skipped) out c.text-3.new.self c.number-3.new.self
    (gains-both four (codes "\" errors=\"0\" skipped=\"") out c.number-2.new.self c.text-3.new.self
    (gains-both three (decimal n.failures) out c.text-2.new.self c.number-2.new.self
    (gains-both two (codes "\" failures=\"") out c.number.new.self c.text-2.new.self
    (gains-both one (decimal n.tests) out c.text.new.self c.number.new.self c.text.ensures c.number.ensures) c.text-2.ensures) c.number-2.ensures) c.text-3.ensures) c.number-3.ensures)
    c.text-4.ensures
