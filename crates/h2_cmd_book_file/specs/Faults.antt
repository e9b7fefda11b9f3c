-- The numbers of what makes a book's file refused.
use Rattle.std.specs.Prelude.{ℕ}
use Rattle.h2_request_book.specs.Fault.{entry_number}
use Rattle.h2_cmd_book_file.specs.declared.fault.BookRefusal.{BookRefusal}
use Rattle.h2_cmd_book_file.specs.declared.fault.BookRefusal.TheVariants.{NoMemory, Unread, NoText, NoToml, UnknownTop, NoTable, UnknownKey, Missing, Malformed, ManyBodies, FileUnread, FileTooLong, FillTooLong, BadEntry}

-- the number of a cause
abbrev pub cause_number : BookRefusal → ℕ
cause_number NoMemory = 0
cause_number (Unread why) = 22
cause_number NoText = 26
cause_number (NoToml error) = 26
cause_number (UnknownTop key) = 26
cause_number NoTable = 26
cause_number (UnknownKey key) = 26
cause_number (Missing key) = 26
cause_number (Malformed key) = 26
cause_number ManyBodies = 26
cause_number (FileUnread why) = 22
cause_number FileTooLong = 15
cause_number FillTooLong = 15
cause_number (BadEntry fault) = entry_number fault
