use Rattle.std.proofs.Common.{◌≡◌, ◌++◌, List, drop, true}
use Rattle.toml.specs.View.{items_view}
use Rattle.h2_spec.specs.Requests.Answer.{Entry}
use Rattle.h2_cmd_book_file.specs.Entries.{book_with}
use Rattle.h2_cmd_book_file.proofs.book_file.add_answers.Given as goal

abbrev pub invariant-loop-place : goal.invariant-loop-place
invariant-loop-place g l = record {
  same_printed : g.F.Files.is_printed l.files ≡ g.F.Files.is_printed l.fn.files;
  same_files : g.F.Files.file l.files ≡ g.F.Files.file l.fn.files;
  grown : (entries : List Entry) × (l.book ≡ l.fn.book ++ entries);
  goes_on : g.F.Files.is_printed l.fn.files ≡ true
      → book_with (g.F.Files.file l.fn.files) l.path l.book (items_view (drop l.place l.answers)) ≡ book_with (g.F.Files.file l.fn.files) l.path l.fn.book (items_view l.answers);
}
