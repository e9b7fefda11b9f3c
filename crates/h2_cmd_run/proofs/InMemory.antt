-- What is printed over memory.
use Rattle.std.proofs.Common.{◌≡◌, ◌∙◌, ◌⊎◌, ℕ, false, true≢false, List, [], Option, Some, Result, Ok, Err, inl, inr, refl, sym, subst}
use Rattle.h2_spec.specs.Requests.Answer.{Entry}
use Rattle.h2_spec.specs.declared.connection.Config.{Config}
use Rattle.h2_cmd_book_file.specs.Entries.{Directory}
use Rattle.h2_cmd_args.specs.Grammar.{BatchAsked, BookAsked}
use Rattle.h2_cmd_batch.specs.Books.{book_in, book_said}
use Rattle.h2_cmd_run.specs.Memory.{IsDebugged, IsDebuggedWith, unserved}
use Rattle.h2_cmd_batch.specs.Printed.{OrCutShort, Printed, failed, places_with, places_within, printed_with, printed_within}
use Rattle.h2_cmd_batch.specs.CommandEnd.{AnswersAs, EndsBatch, Prints, PrintsSome}
use Rattle.h2_cmd_run.specs.ProgramEnd.{EndsServe, EndsSession, SessionAs}
use Rattle.h2_debug.specs.Session.{IsSession}
use Rattle.h2_cmd_batch.specs.declared.fault.BenchFault.TheVariants.{NoMemory}

-- all that was gathered is what was printed
printed-is : (o : List ℕ) (status : ℕ) (t : Printed) → Prints t [] (Some o) status → record { text = o; status = status } ≡ t
printed-is o status t prints = let same : o ≡ t.text = cc prints.0 in rw (same, prints.1) refl

pub printed-such : (P : Printed → Type 0) (o : List ℕ) (status : ℕ) → PrintsSome P (Some []) (Some o) status → P (record { text = o; status = status })
printed-such P o status prints = let x = prints [] refl in subst P (sym (printed-is o status x.0 x.2)) x.1

by-book : (made : Result (List Entry) ℕ) (asked : BatchAsked) (input : List ℕ) (t : Printed) → AnswersAs made asked (Some input) false t
    → OrCutShort (places_with made asked input) (printed_with made asked input) t
by-book (Err fault) asked input t is = inl is
by-book (Ok book) asked input t (inl broken) = absurd (true≢false (sym broken.0))
by-book (Ok book) asked input t (inr x) = x.1 input refl

pub batch-whole : (files : Directory) (asked : BatchAsked) (input o : List ℕ) (status : ℕ) → EndsBatch files asked (Some input) false (Some []) (Some o) status
    → OrCutShort (places_within files asked input) (printed_within files asked input) (record { text = o; status = status })
batch-whole files asked input o status ends = elim (printed-such _ o status ends) [
  | inl memory ↦ inr (0, memory.0)
  | inr known ↦ by-book (book_in files asked) asked input _ known
]

with-book : (made : Result (List Entry) ℕ) (config : Config) (input o : List ℕ) (left : Option (List ℕ)) (status : ℕ) → SessionAs IsSession made config (Some input) left false (Some []) (Some o) status
    → IsDebuggedWith made config input (record { text = o; status = status })
with-book (Err fault) config input o left status ends = printed-such _ o status ends
with-book (Ok entries) config input o left status ends =
    let x = ends input [] refl refl in
    let same : o ≡ x.0.text = cc x.2.0 in
    rw (same, x.2.1) x.1

pub session-whole : (files : Directory) (config : Config) (book : BookAsked) (input o : List ℕ) (left : Option (List ℕ)) (status : ℕ) → EndsSession files config book (Some input) left false (Some []) (Some o) status
    → IsDebugged files config book input (record { text = o; status = status })
session-whole files config book input o left status (inl memory) = inl (printed-such _ o status memory.0)
session-whole files config book input o left status (inr session) = inr (with-book (book_said files book) config input o left status session)

pub serve-whole : (o : List ℕ) (status : ℕ) (t : Printed) → t ≡ record { text = o; status = status } → EndsServe (Some []) (Some o) status → (t ≡ unserved) ⊎ (t ≡ failed NoMemory)
serve-whole o status t is (inl nothing) = let same : o ≡ [] = cc nothing.1 in inl (rw (is, same, nothing.0) refl)
serve-whole o status t is (inr memory) = inr (is ∙ printed-such _ o status memory)
