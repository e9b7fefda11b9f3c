use Rattle.std.proofs.Common.{◌≡◌, drop}
use Rattle.h2_cmd_book_file.specs.Files.{file_in}
use Rattle.h2_cmd_book_file.proofs.memory.FilesInMemory.find.Given as goal

abbrev pub invariant-loop-file : goal.invariant-loop-file
invariant-loop-file l = file_in (drop l.file-index l.self.files.now) l.path ≡ file_in l.self.files.now l.path
