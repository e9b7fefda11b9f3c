use Rattle.std.proofs.Common.{◌≡◌, ◌∙◌, ◌++◌, Bor, List, ℕ, ap, arith, drop, flat_map, length, length-drop, map, subst, take}
use Rattle.h2_cmd_book_file.specs.Entries.{Directory}
use Rattle.h2_cmd_cases.specs.Files.{case_length, cases_in}
use Rattle.h2_cmd_run.specs.Blessing.{blessed_case}
use Rattle.h2_cmd_run.specs.CheckProgram.{common_of}
use Rattle.h2_cmd_run.proofs.Blessed.{bless-ended, bless-next}
use Rattle.h2_cmd_run.proofs.bless.add_cases.Goals as goal

pub loop-first-preserved : goal.loop-first-preserved
loop-first-preserved g c =
    let d = g.F.Files.file c.args.files.now in
    let s = common_of c.args.common in
    let file = c.args.file.now in
    let lines = c.args.lines.now in
    let inv = c.loop-first.invariant in
    let n = c.case_length-length.result in
    let rest : c.lines_from-rest.result.now ≡ drop c.loop-first.first lines = c.lines_from-rest.ensures in
    let taken : c.first_lines.result.now ≡ take n (drop c.loop-first.first lines) = c.first_lines.ensures ∙ ap (λ (ls : List (Bor (List ℕ))). take n ls) rest in
    let value : n ≡ case_length (map (λ l. l.now) (drop c.loop-first.first lines)) = c.case_length-length.ensures.value ∙ ap (λ (ls : List (Bor (List ℕ))). case_length (map (λ l. l.now) ls)) rest in
    let all = c.args.text.now.items ++ flat_map (blessed_case d s file) (cases_in (map (λ l. l.now) lines)) in
    record {
      within = omega (arith, c.loop-first-test.true, c.case_length-length.ensures.within, ap (λ (ls : List (Bor (List ℕ))). length ls) rest, length-drop c.loop-first.first lines);
      same_printed = c.add_case.ensures.same_printed ∙ inv.same_printed;
      same_files = c.add_case.ensures.same_files ∙ inv.same_files;
      text = λ printed.
          let gained = c.in-Ok.ensures.text (inv.same_printed ∙ printed) in
          let here = subst (λ (e : Directory). c.add_case.new.text.items ≡ c.loop-first.text.items ++ blessed_case e s file (map (λ l. l.now) c.first_lines.result.now)) inv.same_files gained in
          let one = subst (λ (ls : List (Bor (List ℕ))). c.add_case.new.text.items ≡ c.loop-first.text.items ++ blessed_case d s file (map (λ l. l.now) ls)) taken here in
          bless-next d s file lines c.loop-first.first n c.loop-first.text.items c.add_case.new.text.items all c.loop-first-test.true value one (inv.text printed);
    }

pub returns-clause-text : goal.returns-clause-text
returns-clause-text g c = λ printed.
    let d = g.F.Files.file c.args.files.now in
    let s = common_of c.args.common in
    let lines = c.args.lines.now in
    bless-ended d s c.args.file.now lines c.loop-first.first c.loop-first.text.items _ c.loop-first-test.false (c.loop-first.invariant.text printed)
