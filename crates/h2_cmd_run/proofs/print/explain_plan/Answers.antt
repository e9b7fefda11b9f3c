use Rattle.std.proofs.Common.{◌≡◌, ℕ, Bool, List, Option, Result, Ok, ap, inl, inr, refl, subst, sym}
use Rattle.h2_spec.specs.Requests.Answer.{Entry}
use Rattle.h2_spec.specs.declared.connection.Config.{Config}
use Rattle.h2_cmd_book_file.specs.Entries.{Directory}
use Rattle.h2_cmd_args.specs.Plans.{form_asked}
use Rattle.h2_cmd_run.specs.ExplainProgram.{ReportsFrom, ReportsWith, form_of}
use Rattle.h2_explain.specs.declared.run.Form.{Form}
use Rattle.h2_cmd_batch.specs.Printing.{Printed, failed_as}
use Rattle.h2_cmd_batch.specs.CommandEnd.{KnowsFile}
use Rattle.h2_cmd_batch.specs.declared.fault.BenchFault.{BenchFault}
use Rattle.h2_cmd_run.proofs.print.explain_plan.Goals as goal

-- what is known of a file is known where as much is printed
still-known : (path : List ℕ) (before after : Bool) → after ≡ before → KnowsFile path before → KnowsFile path after
still-known path before after same known = subst (λ (b : Bool). KnowsFile path b) (sym same) known

-- what is read with the book that was made, of files that are as they were
with-book : (form : Form) (raw : Bool) (made : Result (List Entry) ℕ) (book : List Entry) (before after : Directory) (file : List ℕ) (input : Option (List ℕ)) (input_failed : Bool) (config : Config) (t : Printed)
    → made ≡ Ok book → after ≡ before → ReportsFrom form raw after file input input_failed book config t → ReportsWith form raw made before file input input_failed config t
with-book form raw made book before after file input input_failed config t is same summary =
    subst (λ (r : Result (List Entry) ℕ). ReportsWith form raw r before file input input_failed config t) (sym is)
    (subst (λ (files : Directory). ReportsFrom form raw files file input input_failed book config t) same summary)

pub returns-in-Err-clause-printed : goal.returns-in-Err-clause-printed
returns-in-Err-clause-printed g c = λ book file well held is. (
  failed_as c.args.plan.now.json c.in-Err.fault,
  elim (c.in-Err.ensures.err book) [
    | inl memory ↦ inl (inr (ap (λ (f : BenchFault). failed_as c.args.plan.now.json f) memory), c.requires.reader)
    | inr found ↦ inr (subst (λ (r : Result (List Entry) ℕ). ReportsWith (form_of (form_asked c.args.plan.now)) c.args.plan.now.raw r (g.F.Files.file c.args.files.now) c.args.plan.now.file.now (g.I.Input.remaining c.args.input.now) (g.I.Input.has_failed c.args.input.now) c.args.plan.now.config (failed_as c.args.plan.now.json c.in-Err.fault)) (sym found) refl)
  ],
  c.print_fault_as.ensures.printed well held is,
)

pub returns-clause-printed : goal.returns-clause-printed
returns-clause-printed g c = λ book file well held is.
    let known = still-known c.args.plan.now.file.now (g.F.Files.is_printed c.args.files.now) (g.F.Files.is_printed c.book_for_words.new.files) c.book_for_words.ensures.same_printed file in
    let x = c.explain_read-status.ensures.printed known well held is in (
      x.0,
      elim x.1 [
        | inl memory ↦ inl memory
        | inr found ↦ inr (with-book (form_of (form_asked c.args.plan.now)) c.args.plan.now.raw _ c.in-Ok.book (g.F.Files.file c.args.files.now) (g.F.Files.file c.book_for_words.new.files) c.args.plan.now.file.now (g.I.Input.remaining c.args.input.now) (g.I.Input.has_failed c.explain_read-status.new.input) c.args.plan.now.config x.0 (c.in-Ok.ensures.ok book) c.book_for_words.ensures.same_files found)
      ],
      x.2,
    )
