-- A connection that stays between calls: its text over all calls, and what each call gives.
use Rattle.std.specs.Prelude.{◌≡◌, ◌⊎◌, ℕ, ◌<◌, ◌≤◌, ◌^◌, ◌++◌, Bool, true, false, List, [], length, Option, Some, None, IsSome, IsSomeAnd, Result, Ok, Err}
use Rattle.h2_spec.specs.Requests.Answer.{Entry}
use Rattle.h2_spec.specs.State.{State, is_allowed, opening}
use Rattle.h2_spec.specs.Texts.Show.{show}
use Rattle.h2_spec.specs.Texts.View.{view}
use Rattle.h2_spec.specs.declared.connection.Config.{Config}
use Rattle.h2_conn.specs.Connection.{going}
use Rattle.h2_explain.specs.Explaining.{IsBeginning, IsExplaining, total}
use Rattle.h2_explain.specs.Explains.{IsExplanation}
use Rattle.h2_explain.specs.declared.run.Form.{Form}
use Rattle.h2_cmd_args.specs.Grammar.{Asked, against, asked_of, batch, check, debug, explain, serve}
use Rattle.h2_cmd_book_file.specs.Entries.{Directory}
use Rattle.h2_cmd_batch.specs.Books.{book_said}
use Rattle.h2_cmd_run.specs.ExplainProgram.{form_of}
use Rattle.h2_embed.specs.Embed.{IsRefusedFor, PutsText, given, one_file, refused, words_said}
use Rattle.h2_embed.specs.declared.fault.RunEnd.{RunEnd}
use Rattle.h2_embed.specs.declared.fault.RunFault.{RunFault}
use Rattle.h2_embed.specs.declared.fault.RunFault.TheVariants.{NoConnection, NoMemory, NoRoom, NoText}
use Rattle.h2_embed.specs.declared.kept.KeptConnection.{KeptConnection}

-- ---- over all calls

-- it can go on: there is a connection, and this many octets came
abbrev pub IsReady : KeptConnection → Type 0
IsReady k = IsSome k.conn × (k.explanation.items ≤ k.explanation.offset) × (total k.explanation ≡ k.came) × (k.came < 2 ^ 63)

-- a connection that began in this state took these octets, in any cut: it is that of the definition after them, and what
-- was given so far, with the text that is not given yet, begins their explanation
abbrev pub Stands : Form → State → (octets given : List ℕ) → KeptConnection → Type 0
Stands form s octets given k =
    IsSomeAnd k.conn (λ now. (k.explanation.form ≡ form) × IsExplaining s octets (going now []) k.explanation × IsBeginning s octets k.explanation (given ++ k.pending.items))

-- it took octets more
abbrev pub GoesOn : KeptConnection → List ℕ → KeptConnection → Type 0
GoesOn k octets k' = (form : Form) (s : State) (before given : List ℕ) → Stands form s before given k → Stands form s (before ++ octets) given k'

-- the text about the end: with all before it, the explanation of all octets that came
abbrev pub IsEnd : KeptConnection → List ℕ → Type 0
IsEnd k text = (form : Form) (s : State) (octets given : List ℕ) → Stands form s octets given k → IsExplanation form false s octets ((given ++ k.pending.items) ++ text)

-- what `play` shows of the state
abbrev pub IsState : KeptConnection → List ℕ → Type 0
IsState k text = IsSomeAnd k.conn (λ now. text ≡ show (view now))

-- ---- what a call gives

-- the text that was not given was put at the front of a place with that much space; or it is still not given, where it has
-- no space
abbrev pub Hands : KeptConnection → (room : ℕ) → (put : List ℕ) → KeptConnection → RunEnd → Type 0
Hands k room put k' end =
    (k'.conn ≡ k.conn) × (k'.explanation ≡ k.explanation) × (k.pending.items ≡ put ++ k'.pending.items)
    × PutsText k.pending.items room put end

-- it took octets more, and this was given
abbrev pub GoesTo : KeptConnection → (octets put : List ℕ) → KeptConnection → Type 0
GoesTo k octets put k' = (form : Form) (s : State) (before given : List ℕ) → Stands form s before given k → Stands form s (before ++ octets) (given ++ put) k'

-- the connection took the octets, and the text that is new was put, or is kept for the next call; or memory was refused, and
-- there is no connection any more
abbrev pub FeedsTo : KeptConnection → List ℕ → (room : ℕ) → (put : List ℕ) → Option KeptConnection → RunEnd → Type 0
FeedsTo k octets room put kept' end =
    ((k' : KeptConnection) × (kept' ≡ Some k') × GoesTo k octets put k' × PutsText (put ++ k'.pending.items) room put end)
    ⊎ ((kept' ≡ None) × (put ≡ []) × (end ≡ refused NoMemory))

abbrev pub Feeds : Option KeptConnection → List ℕ → (room : ℕ) → (put : List ℕ) → Option KeptConnection → RunEnd → Type 0
Feeds None octets room put kept' end = (kept' ≡ None) × (put ≡ []) × (end ≡ refused NoConnection)
Feeds (Some k) octets room put kept' end = FeedsTo k octets room put kept' end

-- a text about the connection was put, and it is as it was; or memory was refused
abbrev pub SaysOf : (KeptConnection → List ℕ → Type 0) → KeptConnection → (room : ℕ) → (put : List ℕ) → RunEnd → Type 0
SaysOf P k room put end =
    ((text : List ℕ) × P k text × PutsText text room put end)
    ⊎ ((put ≡ []) × (end ≡ refused NoMemory))

abbrev pub Says : (KeptConnection → List ℕ → Type 0) → Option KeptConnection → (room : ℕ) → (put : List ℕ) → Option KeptConnection → RunEnd → Type 0
Says P None room put kept' end = (kept' ≡ None) × (put ≡ []) × (end ≡ refused NoConnection)
Says P (Some k) room put kept' end = (kept' ≡ Some k) × SaysOf P k room put end

-- ---- how a connection is opened

-- a connection with this book, to which no octets came
abbrev pub OpensWith : Form → Config → Result (List Entry) ℕ → KeptConnection → Type 0
OpensWith form config (Ok entries) k = Stands form (opening entries config) [] [] k
OpensWith form config (Err fault) k = ⊥

-- that of the words of `explain`
abbrev pub OpensBy : Option Asked → Directory → KeptConnection → Type 0
OpensBy None files k = ⊥
OpensBy (Some (batch asked)) files k = ⊥
OpensBy (Some (debug config book)) files k = ⊥
OpensBy (Some (serve config port count report book)) files k = ⊥
OpensBy (Some (explain config view raw file book)) files k = OpensWith (form_of view) config (book_said files book) k
OpensBy (Some (check config book bless in_place junit names)) files k = ⊥
OpensBy (Some (against config book port wait path authority judge junit names)) files k = ⊥

-- there is none: a limit or a setting is outside its range, or the book was refused
abbrev pub OpensNone : (allowed : Bool) → Result (List Entry) ℕ → Type 0
OpensNone false book = Unit {0}
OpensNone true (Ok entries) = ⊥
OpensNone true (Err fault) = Unit {0}

-- or the words are not those of `explain`
abbrev pub OpensNoneBy : Option Asked → Directory → Type 0
OpensNoneBy None files = Unit {0}
OpensNoneBy (Some (batch asked)) files = Unit {0}
OpensNoneBy (Some (debug config book)) files = Unit {0}
OpensNoneBy (Some (serve config port count report book)) files = Unit {0}
OpensNoneBy (Some (explain config view raw file book)) files = OpensNone (is_allowed config) (book_said files book)
OpensNoneBy (Some (check config book bless in_place junit names)) files = Unit {0}
OpensNoneBy (Some (against config book port wait path authority judge junit names)) files = Unit {0}

-- why these words opened no connection
abbrev pub IsUnopenedBy : Option Asked → Directory → RunFault → Type 0
IsUnopenedBy asked files NoMemory = Unit {0}
IsUnopenedBy asked files NoRoom = ⊥
IsUnopenedBy asked files NoConnection = OpensNoneBy asked files
IsUnopenedBy asked files NoText = ⊥

-- the same of the words that a text says
abbrev pub OpensSaid : Option (List (List ℕ)) → Directory → KeptConnection → Type 0
OpensSaid None files k = ⊥
OpensSaid (Some words) files k = OpensBy (asked_of words) files k

abbrev pub OpensNoneSaid : Option (List (List ℕ)) → Directory → Type 0
OpensNoneSaid None files = ⊥
OpensNoneSaid (Some words) files = OpensNoneBy (asked_of words) files

abbrev pub IsUnopened : (lines name file : List ℕ) → RunFault → Type 0
IsUnopened lines name file NoMemory = Unit {0}
IsUnopened lines name file NoRoom = ⊥
IsUnopened lines name file NoConnection = OpensNoneSaid (words_said lines) (one_file name file)
IsUnopened lines name file NoText = IsRefusedFor lines name NoText

-- what a call that opens a connection leaves, and the end that it reports
abbrev pub Opens : (lines name file : List ℕ) → Option KeptConnection → RunEnd → Type 0
Opens lines name file kept end =
    ((k : KeptConnection) × (kept ≡ Some k) × OpensSaid (words_said lines) (one_file name file) k × (end ≡ given 0 0))
    ⊎ ((fault : RunFault) × (kept ≡ None) × IsUnopened lines name file fault × (end ≡ refused fault))
