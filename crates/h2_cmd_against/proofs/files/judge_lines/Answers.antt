use Rattle.std.proofs.Common.{◌≡◌, ◌∙◌, Bor, List, Ok, Result, ℕ, ap, arith, drop, length, length-drop, map, subst, take}
use Rattle.h2_cmd_book_file.specs.Entries.{Directory}
use Rattle.h2_cmd_cases.specs.Files.{case_length, cases_in}
use Rattle.h2_cmd_against.specs.Files.{JudgesCase, trial_of}
use Rattle.h2_cmd_against.specs.declared.ends.Refusal.{Refusal}
use Rattle.h2_cmd_against.proofs.FileLaws.{case-next, cases-ended}
use Rattle.h2_cmd_against.proofs.files.judge_lines.Goals as goal

pub loop-first-preserved : goal.loop-first-preserved
loop-first-preserved g c =
    let d = g.F.Files.file c.args.files.now in
    let trial = trial_of d c.args.bench in
    let file = c.args.file.now in
    let lines = c.args.lines.now in
    let inv = c.loop-first.invariant in
    let all : List (Result (List (List ℕ)) Refusal) = map (λ l. Ok l) (cases_in (map (λ l. l.now) lines)) in
    let n = c.case_length-length.result in
    let mid = c.loop-first.so_far in
    let next = c.judge_case.new.so_far in
    let between = g.L.Link.log c.loop-first.link in
    let after = g.L.Link.log c.judge_case.new.link in
    let rest : c.lines_from-rest.result.now ≡ drop c.loop-first.first lines = c.lines_from-rest.ensures in
    let taken : c.first_lines.result.now ≡ take n (drop c.loop-first.first lines) = c.first_lines.ensures ∙ ap (λ (ls : List (Bor (List ℕ))). take n ls) rest in
    let value : n ≡ case_length (map (λ l. l.now) (drop c.loop-first.first lines)) = c.case_length-length.ensures.value ∙ ap (λ (ls : List (Bor (List ℕ))). case_length (map (λ l. l.now) ls)) rest in
    record {
      within = omega (arith, c.loop-first-test.true, c.case_length-length.ensures.within, ap (λ (ls : List (Bor (List ℕ))). length ls) rest, length-drop c.loop-first.first lines);
      same_printed = c.judge_case.ensures.same_printed ∙ inv.same_printed;
      same_files = c.judge_case.ensures.same_files ∙ inv.same_files;
      results = λ printed.
          let here = subst (λ (e : Directory). JudgesCase (trial_of e c.args.bench) (record { file = file; lines = map (λ l. l.now) c.first_lines.result.now }) mid between next after) inv.same_files
          (rw c.in_ok-judge_case.was at (c.judge_case.ensures.result (inv.same_printed ∙ printed))) in
          let one = subst (λ (ls : List (Bor (List ℕ))). JudgesCase trial (record { file = file; lines = map (λ l. l.now) ls }) mid between next after) taken here in
          case-next trial file lines c.loop-first.first n all c.args.so_far.now mid next (g.L.Link.log c.args.link.now) between after c.loop-first-test.true value (inv.results printed) one;
    }

pub returns-clause-results : goal.returns-clause-results
returns-clause-results g c = λ printed.
    let lines = c.args.lines.now in
    cases-ended (trial_of (g.F.Files.file c.args.files.now) c.args.bench) c.args.file.now lines c.loop-first.first (map (λ l. Ok l) (cases_in (map (λ l. l.now) lines)))
    c.args.so_far.now c.loop-first.so_far (g.L.Link.log c.args.link.now) (g.L.Link.log c.loop-first.link) c.loop-first-test.false (c.loop-first.invariant.results printed)
