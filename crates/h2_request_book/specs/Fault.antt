-- The numbers of what a book refuses.
use Rattle.std.specs.Prelude.{◌≡◌, ℕ, Option, Some, None}
use Rattle.h2_request_book.specs.declared.fault.EntryFault.{EntryFault}
use Rattle.h2_request_book.specs.declared.fault.EntryFault.TheVariants.{BadStatus, BadField, BodyNotAllowed, TooLong}
use Rattle.h2_request_book.specs.declared.fault.BookFault.{BookFault}
use Rattle.h2_request_book.specs.declared.fault.BookFault.TheVariants.{NoMemory, BadEntry}

-- the number of what is wrong with an entry
abbrev pub entry_number : EntryFault → ℕ
entry_number BadStatus = 12
entry_number BadField = 13
entry_number BodyNotAllowed = 14
entry_number TooLong = 15

-- the number of a fault
abbrev pub fault_number : BookFault → ℕ
fault_number NoMemory = 0
fault_number (BadEntry fault) = entry_number fault

-- the fault says the number that the definitions give, or that memory was refused where they give none
abbrev pub IsRefusal : Option ℕ → BookFault → Type 0
IsRefusal number NoMemory = number ≡ None
IsRefusal number (BadEntry fault) = number ≡ Some (entry_number fault)
