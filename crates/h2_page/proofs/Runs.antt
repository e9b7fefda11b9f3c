-- The places of a run, as a page is shown them.
use Rattle.std.proofs.Common.{◌≡◌, ◌∙◌, ◌⊎◌, ◌++◌, ℕ, Bool, true, false, List, [], Option, Some, None, Result, Ok, Err, drop, take, inl, inr, refl, sym, ap, ap₂, subst, arith}
use Rattle.std.specs.List.{concat}
use Rattle.std.proofs.lemmas.List.{append-nil, drop_all, take_all}
use Rattle.h2_spec.specs.Requests.Answer.{Entry}
use Rattle.h2_spec.specs.Opening.{opening_octets}
use Rattle.h2_spec.specs.State.{State, is_allowed, opening}
use Rattle.h2_spec.specs.Texts.View.{view}
use Rattle.h2_cmd_play.specs.Books.{book_of}
use Rattle.h2_cmd_play.specs.Faults as numbers
use Rattle.h2_cmd_play.specs.declared.fault.AnswerFault.{AnswerFault}
use Rattle.h2_cmd_play.specs.declared.fault.AnswerFault.TheVariants as answer
use Rattle.h2_conn.specs.Connection.{Connection, going}
use Rattle.h2_conn.specs.Faults.{refusal_for}
use Rattle.h2_conn.specs.declared.fault.ConnFault.{ConnFault}
use Rattle.h2_conn.specs.declared.fault.ConnFault.TheVariants as conn
use Rattle.h2_cmd_play.specs.Places.{Writes, item_text, places_from, places_run, places_shown, through, up_to}
use Rattle.h2_cmd_play.specs.declared.places.PlacesFault.{PlacesFault}
use Rattle.h2_cmd_play.specs.declared.places.PlacesFault.TheVariants as places
use Rattle.h2_cmd_play.specs.declared.places.ShownPlaces.{ShownPlaces}
use Rattle.h2_page.specs.Web.{RunText, RunsInto, ShowsRun, answers_said, ended_as, refused_line, told}
use Rattle.h2_page.specs.declared.fault.WebFault.{WebFault}
use Rattle.h2_page.specs.declared.run.Asked.{Asked}
use Rattle.h2_page.specs.declared.run.RunFault.{RunFault}
use Rattle.h2_page.specs.declared.run.RunFault.TheVariants.{BadConfig, NoMemory, NotWritten}

-- the places of a connection that was just opened are those of the definition
pub run-written : (asked : Asked) (book : List Entry) (octets sent : List ℕ) (c : Connection) (held : List ℕ) (after : Option (List ℕ)) (r : Result (Unit {0}) PlacesFault)
    → is_allowed asked.config ≡ true → c ≡ going (opening book asked.config) [] → sent ≡ opening_octets asked.config
    → Writes asked.shown (places_from (item_text 0 sent (view c.state)) c.state octets) held after r → RunsInto asked book octets held after (ended_as r)
run-written asked book octets sent c held after r allowed opened is x = go r (subst (λ (ps : List (List ℕ)). Writes asked.shown ps held after r) same x)
  where
    same : places_from (item_text 0 sent (view c.state)) c.state octets ≡ places_run book asked.config octets
    same = ap₂ (λ (o : List ℕ) (s : State). places_from (item_text 0 o (view s)) s octets) is (ap (λ (d : Connection). d.state) opened)

    go : (r : Result (Unit {0}) PlacesFault) → Writes asked.shown (places_run book asked.config octets) held after r → RunsInto asked book octets held after (ended_as r)
    go (Ok u) e = (allowed, e)
    go (Err places.NoMemory) e = (concat (places_shown asked.shown (take e.0 (places_run book asked.config octets))), (e.0, refl), e.1)
    go (Err places.NotWritten) e = tt

pub not-allowed : (allowed : Bool) (fault : ConnFault) → fault ≡ conn.BadConfig → fault ≡ refusal_for allowed → allowed ≡ false
not-allowed true fault is e = cc
not-allowed false fault is e = refl

-- nothing is shown of no texts
no-texts : (first : ℕ) (count : Option ℕ) (texts : List (List ℕ)) → concat (drop first (up_to count (take 0 texts))) ≡ []
no-texts first None texts = ap concat (drop_all first [] (omega arith))
no-texts first (Some n) texts = ap concat (ap (drop first) (take_all n [] (omega arith)) ∙ drop_all first [] (omega arith))

none-shown : (shown : ShownPlaces) (texts : List (List ℕ)) → concat (places_shown shown (take 0 texts)) ≡ []
none-shown shown texts = no-texts shown.first (through shown.last) texts

pub nothing-written : (asked : Asked) (book : List Entry) (octets held : List ℕ) (after : Option (List ℕ)) → after ≡ Some held → RunsInto asked book octets held after (Err NoMemory)
nothing-written asked book octets held after e =
    ([], (0, sym (none-shown asked.shown (places_run book asked.config octets))), e ∙ ap (λ (t : List ℕ). Some t) (sym (append-nil held)))

abbrev text-in : Option (List ℕ) → List ℕ
text-in None = []
text-in (Some text) = text

-- what was gathered is the text
pub gathered-all : (asked : Asked) (book : List Entry) (octets text : List ℕ) → RunsInto asked book octets [] (Some text) (Ok tt) → RunText asked book octets text (Ok tt)
gathered-all asked book octets text x = (x.0, ap text-in x.1)

pub gathered-some : (asked : Asked) (book : List Entry) (octets text : List ℕ) → RunsInto asked book octets [] (Some text) (Err NoMemory) → RunText asked book octets text (Err NoMemory)
gathered-some asked book octets text x = (x.1.0, ap text-in x.2 ∙ x.1.1)

pub gathered-none : (asked : Asked) (book : List Entry) (octets text : List ℕ) → RunsInto asked book octets [] (Some text) (Err BadConfig) → RunText asked book octets text (Err BadConfig)
gathered-none asked book octets text x = (x.0, ap text-in x.1)

-- no text, for memory was refused for it
pub no-text : (asked : Asked) (book : List Entry) (octets text : List ℕ) → text ≡ [] → RunText asked book octets text (Err NoMemory)
no-text asked book octets text e = (0, e ∙ sym (none-shown asked.shown (places_run book asked.config octets)))

-- with the book of the answers
pub with-book : (asked : Asked) (answers octets : List ℕ) (book : List Entry) (text : List ℕ) (r : Result (Unit {0}) RunFault) (ended : Result (Unit {0}) WebFault) → ended ≡ told r → book_of [] (answers_said answers) ≡ Ok book → RunText asked book octets text r
    → ShowsRun asked answers octets text ended
with-book asked answers octets book text r ended is said x = subst (ShowsRun asked answers octets text) (sym is) (go r x)
  where
    go : (r : Result (Unit {0}) RunFault) → RunText asked book octets text r → ShowsRun asked answers octets text (told r)
    go (Ok u) y = (book, said, y.0, y.1)
    go (Err NoMemory) y = inr (book, said, y)
    go (Err BadConfig) y = (y.1, y.0)
    go (Err NotWritten) y = absurd y

pub without-book : (asked : Asked) (answers octets : List ℕ) (line : ℕ) (fault : AnswerFault) (text : List ℕ) (as_told : WebFault) → as_told ≡ refused_line line fault → text ≡ []
    → (fault ≡ answer.NoMemory) ⊎ (book_of [] (answers_said answers) ≡ Err (numbers.fault_number fault)) → ShowsRun asked answers octets text (Err as_told)
without-book asked answers octets line fault text as_told is none why = subst (λ (f : WebFault). ShowsRun asked answers octets text (Err f)) (sym is) (go fault why)
  where
    go : (fault : AnswerFault) → (fault ≡ answer.NoMemory) ⊎ (book_of [] (answers_said answers) ≡ Err (numbers.fault_number fault)) → ShowsRun asked answers octets text (Err (refused_line line fault))
    go answer.NoMemory x = inl none
    go answer.BadAnswer (inl e) = cc
    go answer.BadAnswer (inr e) = (none, e)
    go (answer.BadEntry f) (inl e) = cc
    go (answer.BadEntry f) (inr e) = (none, e)
