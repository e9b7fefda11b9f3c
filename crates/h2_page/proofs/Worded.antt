-- The explanation of a run, as a page is given it.
use Rattle.std.proofs.Common.{◌≡◌, ◌⊎◌, ℕ, Bool, true, false, List, [], Option, Some, None, Result, Ok, Err, inl, inr, is_err, ap, subst, sym}
use Rattle.h2_spec.specs.Requests.Answer.{Entry}
use Rattle.h2_spec.specs.State.{State, is_allowed, opening}
use Rattle.h2_spec.specs.declared.connection.Config.{Config}
use Rattle.h2_cmd_play.specs.Books.{book_of}
use Rattle.h2_cmd_play.specs.Faults as numbers
use Rattle.h2_cmd_play.specs.declared.fault.AnswerFault.{AnswerFault}
use Rattle.h2_cmd_play.specs.declared.fault.AnswerFault.TheVariants as answer
use Rattle.h2_conn.specs.Connection.{Connection, going}
use Rattle.h2_explain.specs.Explains.{Gains, IsExplanation, not_written}
use Rattle.h2_explain.specs.declared.run.ExplainFault.{ExplainFault}
use Rattle.h2_explain.specs.declared.run.ExplainFault.TheVariants as explain
use Rattle.h2_explain.specs.declared.run.Form.{Form}
use Rattle.h2_explain.specs.declared.run.Summary.{Summary}
use Rattle.h2_page.specs.Web.{answers_said, refused_line, told}
use Rattle.h2_page.specs.Words.{ExplainedText, Explains, ExplainsFrom, ExplainsInto, explained_as}
use Rattle.h2_page.specs.declared.fault.WebFault.{WebFault}
use Rattle.h2_page.specs.declared.run.RunFault.{RunFault}
use Rattle.h2_page.specs.declared.run.RunFault.TheVariants.{BadConfig, NoMemory, NotWritten}

-- what an explanation wrote
pub words-written : (form : Form) (s : State) (octets held : List ℕ) (before after : Option (List ℕ)) (r : Result Summary ExplainFault) (failed : Bool) → before ≡ Some held → failed ≡ not_written r
    → (failed ≡ false → Gains (λ (t : List ℕ). IsExplanation form (is_err r) s octets t) before after) → ExplainsFrom form s octets held after (explained_as r)
words-written form s octets held before after (Ok x) failed known flag gains = gains flag held known
words-written form s octets held before after (Err explain.NoMemory) failed known flag gains = tt
words-written form s octets held before after (Err explain.NotWritten) failed known flag gains = tt

-- a connection that was just opened is explained as the definition says
pub explanation-written : (form : Form) (config : Config) (book : List Entry) (octets held : List ℕ) (c : Connection) (after : Option (List ℕ)) (r : Result (Unit {0}) RunFault) → is_allowed config ≡ true → c ≡ going (opening book config) []
    → ExplainsFrom form c.state octets held after r → ExplainsInto form config book octets held after r
explanation-written form config book octets held c after r allowed opened x = go r (subst (λ (d : Connection). ExplainsFrom form d.state octets held after r) opened x)
  where
    go : (r : Result (Unit {0}) RunFault) → ExplainsFrom form (opening book config) octets held after r → ExplainsInto form config book octets held after r
    go (Ok u) y = (allowed, y)
    go (Err BadConfig) y = absurd y
    go (Err NoMemory) y = tt
    go (Err NotWritten) y = tt

abbrev text-in : Option (List ℕ) → List ℕ
text-in None = []
text-in (Some text) = text

-- what was gathered is the explanation
pub explained-all : (form : Form) (config : Config) (book : List Entry) (octets text : List ℕ) → ExplainsInto form config book octets [] (Some text) (Ok tt) → ExplainedText form config book octets text (Ok tt)
explained-all form config book octets text x = (x.0, subst (IsExplanation form false (opening book config) octets) (sym (ap text-in x.1.1)) x.1.2)

-- or it is left out
pub explained-none : (form : Form) (config : Config) (book : List Entry) (octets text : List ℕ) (after : Option (List ℕ)) (fault : RunFault) → text ≡ [] → ExplainsInto form config book octets [] after (Err fault) → ExplainedText form config book octets text (Err fault)
explained-none form config book octets text after BadConfig none x = (none, x)
explained-none form config book octets text after NoMemory none x = none
explained-none form config book octets text after NotWritten none x = none

-- with the book of the answers
pub explained-with : (form : Form) (config : Config) (answers octets : List ℕ) (book : List Entry) (text : List ℕ) (r : Result (Unit {0}) RunFault) (ended : Result (Unit {0}) WebFault) → ended ≡ told r → book_of [] (answers_said answers) ≡ Ok book
    → ExplainedText form config book octets text r → Explains form config answers octets text ended
explained-with form config answers octets book text r ended is said x = subst (Explains form config answers octets text) (sym is) (go r x)
  where
    go : (r : Result (Unit {0}) RunFault) → ExplainedText form config book octets text r → Explains form config answers octets text (told r)
    go (Ok u) y = (book, said, y.0, y.1)
    go (Err NoMemory) y = y
    go (Err BadConfig) y = y
    go (Err NotWritten) y = y

pub explained-without : (form : Form) (config : Config) (answers octets : List ℕ) (line : ℕ) (fault : AnswerFault) (text : List ℕ) (as_told : WebFault) → as_told ≡ refused_line line fault → text ≡ []
    → (fault ≡ answer.NoMemory) ⊎ (book_of [] (answers_said answers) ≡ Err (numbers.fault_number fault)) → Explains form config answers octets text (Err as_told)
explained-without form config answers octets line fault text as_told is none why = subst (λ (f : WebFault). Explains form config answers octets text (Err f)) (sym is) (go fault why)
  where
    go : (fault : AnswerFault) → (fault ≡ answer.NoMemory) ⊎ (book_of [] (answers_said answers) ≡ Err (numbers.fault_number fault)) → Explains form config answers octets text (Err (refused_line line fault))
    go answer.NoMemory x = none
    go answer.BadAnswer (inl e) = cc
    go answer.BadAnswer (inr e) = (none, e)
    go (answer.BadEntry f) (inl e) = cc
    go (answer.BadEntry f) (inr e) = (none, e)
