use Rattle.std.proofs.Common.{◌≡◌, ◌∙◌, ◌++◌, ◌+◌, ◌∷◌, [], ℕ, List, Option, Result, ap, map, refl, subst, sym}
use Rattle.std.proofs.KnownBytes.{Appends-trans}
use Rattle.std.proofs.lemmas.Result.{err_from_is_err_and}
use Rattle.std.specs.Io.KnownBytes.{Appends}
use Rattle.h2_cmd_book_file.specs.Entries.{Directory}
use Rattle.h2_cmd_check.specs.JUnit.{results_in}
use Rattle.h2_cmd_check.specs.declared.junit.Suite.{Suite}
use Rattle.h2_cmd_against.specs.Files.{trial_of}
use Rattle.h2_cmd_against.specs.Program.{is_unwritten, texts}
use Rattle.h2_cmd_against.specs.declared.program.Stop.{Stop}
use Rattle.h2_cmd_against.proofs.FileLaws.{names_left, suite-next, suites-cut, suites-ended, texts-more}
use Rattle.h2_cmd_against.proofs.program.print_files.Goals as goal

pub returns-in_err-suite-clause-cut : goal.returns-in_err-suite-clause-cut
returns-in_err-suite-clause-cut g c = λ printed well.
    let inv = c.loop-file.invariant in
    let names = c.args.names.now in
    let suites = c.loop-file.suites.items in
    let between = g.L.Link.log c.loop-file.link in
    let cut = suites-cut (trial_of (g.F.Files.file c.args.files.now) c.args.bench) (names_left names c.loop-file.file-index) (map (λ n. n.now) names)
    c.args.so_far.now c.loop-file.so_far (g.L.Link.log c.args.link.now) between suites (inv.results printed) in
    let same = c.in_err-suite.ensures.kept well in
    let written = subst (λ (b : Option (List ℕ)). Appends (g.O.Output.written c.args.output.now) b (texts (map results_in suites))) (sym same) inv.written in
    let p = err_from_is_err_and c.from_residual.result c.from_residual.ensures.1 in
    rw p.1 (map results_in suites, c.loop-file.so_far, between, (cut, written))

pub returns-in_err-suite-clause-flag : goal.returns-in_err-suite-clause-flag
returns-in_err-suite-clause-flag g c =
    let p = err_from_is_err_and c.from_residual.result c.from_residual.ensures.1 in
    rw (p.1, p.2) (rw c.in_err-suite.was at c.print_file.ensures.flag)

pub returns-in-Err-clause-cut : goal.returns-in-Err-clause-cut
returns-in-Err-clause-cut g c = λ printed well.
    let inv = c.loop-file.invariant in
    let trial = trial_of (g.F.Files.file c.args.files.now) c.args.bench in
    let names = c.args.names.now in
    let all : List (List ℕ) = map (λ n. n.now) names in
    let i = c.loop-file.file-index in
    let suites = c.loop-file.suites.items in
    let suite = c.in_ok-suite.suite in
    let more : List Suite = suites ++ suite ∷ [] in
    let log = g.L.Link.log c.args.link.now in
    let between = g.L.Link.log c.loop-file.link in
    let after = g.L.Link.log c.print_file.new.link in
    let a₀ = g.O.Output.written c.args.output.now in
    let b = g.O.Output.written c.print_file.new.output in
    let next = suite-next trial (trial_of (g.F.Files.file c.loop-file.files) c.args.bench) names i _ all c.args.so_far.now c.loop-file.so_far c.print_file.new.so_far log between after suites more suite c.loop-file-test.true (ap (λ (d : Directory). trial_of d c.args.bench) inv.same_files)
    (inv.results printed) (c.in_ok-suite.ensures.results (inv.same_printed ∙ printed)) refl in
    let cut = suites-cut trial (names_left names (i + 1)) all c.args.so_far.now c.print_file.new.so_far log after more next in
    let written = subst (λ (t : List ℕ). Appends a₀ b t) (texts-more suites more suite refl)
    (Appends-trans a₀ (g.O.Output.written c.loop-file.output) b (texts (map results_in suites)) suite.results.items inv.written c.in_ok-suite.ensures.written) in
    (map results_in more, c.print_file.new.so_far, after, (cut, written))

pub loop-file-preserved : goal.loop-file-preserved
loop-file-preserved g c =
    let inv = c.loop-file.invariant in
    let trial = trial_of (g.F.Files.file c.args.files.now) c.args.bench in
    let names = c.args.names.now in
    let all : List (List ℕ) = map (λ n. n.now) names in
    let suites = c.loop-file.suites.items in
    let suite = c.in_ok-suite.suite in
    let more = c.push.new.self.items in
    let log = g.L.Link.log c.args.link.now in
    let between = g.L.Link.log c.loop-file.link in
    let after = g.L.Link.log c.print_file.new.link in
    let a₀ = g.O.Output.written c.args.output.now in
    let b = g.O.Output.written c.print_file.new.output in
    let grown : more ≡ suites ++ suite ∷ [] = c.in-Ok.ensures.items in
    record {
      writer = c.print_file.ensures.flag ∙ ap (λ (r : Result Suite Stop). is_unwritten r) c.in_ok-suite.was;
      same_printed = c.print_file.ensures.same_printed ∙ inv.same_printed;
      same_files = c.print_file.ensures.same_files ∙ inv.same_files;
      results = λ printed.
          suite-next trial (trial_of (g.F.Files.file c.loop-file.files) c.args.bench) names c.loop-file.file-index _ all c.args.so_far.now c.loop-file.so_far c.print_file.new.so_far log between after suites more suite c.loop-file-test.true (ap (λ (d : Directory). trial_of d c.args.bench) inv.same_files)
          (inv.results printed) (c.in_ok-suite.ensures.results (inv.same_printed ∙ printed)) grown;
      written = subst (λ (t : List ℕ). Appends a₀ b t) (texts-more suites more suite grown)
          (Appends-trans a₀ (g.O.Output.written c.loop-file.output) b (texts (map results_in suites)) suite.results.items inv.written c.in_ok-suite.ensures.written);
    }

pub returns-clause-results : goal.returns-clause-results
returns-clause-results g c = λ printed.
    let inv = c.loop-file.invariant in
    let names = c.args.names.now in (
      suites-ended (trial_of (g.F.Files.file c.args.files.now) c.args.bench) names c.loop-file.file-index (map (λ n. n.now) names)
          c.args.so_far.now c.loop-file.so_far (g.L.Link.log c.args.link.now) (g.L.Link.log c.loop-file.link) c.loop-file.suites.items c.loop-file-test.false (inv.results printed),
      inv.written,
    )
