-- What is shown of a connection with a script.
use Rattle.std.specs.Prelude.{◌≡◌, ℕ, ◌+◌, ◌++◌, ◌||◌, ◌&&◌, ◌==◌, not, min, nat_lt, Bool, true, false, List, [], ◌∷◌, length, drop, if◌then◌else◌, Option, Some, None, is_some}
use Rattle.h2_cmd_dialogue.specs.Steps.{Comes, Incoming, Preface, Start, Step}
use Rattle.h2_cmd_dialogue.specs.Woven.{Parts, Weaving, after_item, no_steps_taken, parts_of}
use Rattle.h2_cmd_inject.specs.declared.view.View.{View}
use Rattle.h2_cmd_inject.specs.Asides.{ArePartLines, unjudged_lines}
use Rattle.h2_conn.specs.Connection.{Connection}
use Rattle.h2_explain.specs.Explains.{IsRestText, shows_item, shows_opening, summary_since}
use Rattle.h2_explain.specs.Verdicts.{TalliesItem, Tallied, no_tally, tally_with}
use Rattle.h2_explain.specs.declared.run.Form.{Form}
use Rattle.h2_explain.specs.declared.run.Summary.{Summary}
use Rattle.h2_explain_item.specs.Item.{payload_in}
use Rattle.h2_explain_item.specs.declared.change.changes.ShownChange.{ShownChange}
use Rattle.h2_explain_item.specs.Warnings.{AreWarnings}
use Rattle.h2_explain_item.specs.declared.diagnosis.special.CaseFacts.{CaseFacts}
use Rattle.h2_explain_item.specs.declared.diagnosis.warning.Warnings.{Warnings}
use Rattle.h2_explain_item.specs.declared.item.Explained.{Explained}
use Rattle.h2_explain_item.specs.declared.notes.StreamNote.{StreamNote}
use Rattle.h2_explain_json.specs.declared.json.Unjudged.{Unjudged}
use Rattle.h2_explain_step.specs.Account.{ListsChanges}
use Rattle.h2_explain_step.specs.Explained.{ExplainsItem, IsItemOf, IsTextWith}
use Rattle.h2_explain_step.specs.declared.taking.Observed.{Observed}
use Rattle.h2_serve.specs.Numbered.{prefix_of, prefixed}
use Rattle.h2_spec.specs.Frames.Parse.{Stop}
use Rattle.h2_spec.specs.Opening.{opening_octets}
use Rattle.h2_spec.specs.State.{State, ended_code}
use Rattle.h2_spec.specs.Trace.{next_event}
use Rattle.h2_spec.specs.declared.frames.ItemHead.{ItemHead}
use Rattle.h2_spec.specs.declared.frames.ItemHead.TheVariants as head

-- ---- who is blamed

-- the script has sent something, or kept something back
abbrev pub has_spoken : Parts → Bool
has_spoken p = nat_lt 0 (length p.script) || nat_lt 0 (length p.withheld)

-- the number of the item at which it has first, with an item more
abbrev pub since_with : Option ℕ → (number : ℕ) → Parts → Option ℕ
since_with (Some since) number p = Some since
since_with None number p = if has_spoken p then Some number else None

-- once it has nobody is blamed, so an error or a reason is not shown with its rule
abbrev pub judged : {X : Type 0} → Option ℕ → Option X → Option X
judged None x = x
judged (Some since) x = None

-- what is counted for `--strict`: no item once it has
abbrev pub TalliesSince : Option ℕ → Tallied → Explained → Tallied → Type 0
TalliesSince None t x t' = TalliesItem t x t'
TalliesSince (Some since) t x t' = t' ≡ t

-- the same of one with these facts and warnings
abbrev pub tally_since : Option ℕ → Tallied → Explained → CaseFacts → Warnings → Tallied
tally_since None t x f ws = tally_with t x f ws
tally_since (Some since) t x f ws = t

-- that an item is not judged, with its error or its reason
abbrev pub unjudged : Option ℕ → Explained → Option Unjudged
unjudged None x = None
unjudged (Some since) x = Some (record { since = since; cause = x.cause; is_connection = is_some (ended_code x.after.counts.phase); ignored = x.ignored })

-- what an item is for a script: of a frame that is too long the head alone
abbrev pub incoming_in : ItemHead → List ℕ → Incoming
incoming_in head.Preface octets = Preface
incoming_in head.BadPreface octets = Preface
incoming_in (head.Oversize h) octets = Comes h []
incoming_in (head.Frame h) octets = Comes h (payload_in octets)

-- ---- an item

-- what is shown of an item as observed: once the script has spoken without its error or its reason
abbrev pub judged_of : Option ℕ → Explained → Observed
judged_of since x = record {
  taken = record { used = x.used; item = x.what; cause = judged since x.cause; ignored = judged since x.ignored };
  before = x.before;
  after = x.after;
}

-- what the script made of the opening, if that is shown here
abbrev pub AreOpeningLines : (color is_opening : Bool) → Parts → List ℕ → Type 0
AreOpeningLines color false opening text = text ≡ []
AreOpeningLines color true opening text = ArePartLines color opening text

-- below an item of a text: what the script made of the opening, where the item is the first, the error or the reason that is not
-- judged, and what the script made of the item. In JSON all is in the item's line
abbrev pub IsBelow : (json color is_opening : Bool) → (opening : Parts) → Option ℕ → Parts → Explained → List ℕ → Type 0
IsBelow true color is_opening opening since p x text = text ≡ []
IsBelow false color is_opening opening since p x text = (first last : List ℕ) × AreOpeningLines color is_opening opening first
    × ArePartLines color p last × (text ≡ first ++ unjudged_lines color since x ++ last)

-- an item that is shown, with these changes: with what went out for it, and what is below
abbrev pub IsItemShown : Bool → Form → (is_opening : Bool) → (opening : Parts) → Option ℕ → Parts → Explained → List ShownChange → List ℕ → Type 0
IsItemShown false form is_opening opening since p x changes text = text ≡ []
IsItemShown true form is_opening opening since p x changes text =
    (y : Explained) × IsItemOf (judged_of since x) x.number x.offset x.ahead.now p.sent y × (own below : List ℕ)
    × IsTextWith form.json form.color form.brief y changes own × IsBelow form.json form.color is_opening opening since p x below × (text ≡ own ++ below)

-- the warnings by which an item is notable; those of one that is not judged are none of its own
abbrev pub AreWarningsSince : Option ℕ → Explained → Warnings → Type 0
AreWarningsSince None x ws = (f : CaseFacts) × AreWarnings x f ws
AreWarningsSince (Some since) x ws = Unit {0}

-- what is shown of an item that led to this state: what it changed is that since something was noted of its streams
abbrev pub IsItemView : Form → State → (is_opening : Bool) → (opening : Parts) → Option ℕ → Parts → Explained → List ℕ → Type 0
IsItemView form s is_opening opening since p x text =
    (begun : ℕ) × (note : ℕ → Option StreamNote) × (changes : List ShownChange) × ListsChanges x s begun note changes
    × (ws : Warnings) × AreWarningsSince since x ws × IsItemShown (shows_item form x ws) form is_opening opening since p x changes text

-- ---- a connection

-- what is known of a connection that is shown: its state; how far the script is, and since which item it has spoken; what is counted;
-- how many items it took, and how many octets they have
pub record Viewing : Type 0 where
  pub state : State
  pub weaving : Weaving
  pub since : Option ℕ
  pub tally : Tallied
  pub items : ℕ
  pub offset : ℕ

abbrev pub viewing_of : View → Viewing
viewing_of v = record { state = v.conn.state; weaving = v.weaver; since = v.since; tally = v.tally; items = v.items; offset = v.offset }

-- numbers stop at the greatest of 64 bits
abbrev pub sum_of : ℕ → ℕ → ℕ
sum_of n more = min (n + more) 18446744073709551615

-- what the script makes of the opening, and of an item
abbrev pub opening_parts : List Step → State → Parts
opening_parts steps s = parts_of steps no_steps_taken Start (opening_octets s.config)

abbrev pub item_parts : List Step → Weaving → Explained → Parts
item_parts steps w x = parts_of steps w (incoming_in x.what x.octets.now) x.sent.now

-- of a new connection
abbrev pub begun : List Step → State → Viewing
begun steps s = record {
  state = s;
  weaving = after_item steps no_steps_taken Start;
  since = since_with None 0 (opening_parts steps s);
  tally = no_tally;
  items = 0;
  offset = 0;
}

-- whether the opening is shown with the next item: it is the first
abbrev pub is_opening : Form → (items : ℕ) → Bool
is_opening form items = (items == 0) && shows_opening form

-- with an item more, which led to that connection
pub record Goes (steps : List Step) (v : Viewing) (c : Connection) (x : Explained) (v' : Viewing) : Type 0 where
  pub state_is : v'.state ≡ c.state
  pub weaving_is : v'.weaving ≡ after_item steps v.weaving (incoming_in x.what x.octets.now)
  pub since_is : v'.since ≡ since_with v.since x.number (item_parts steps v.weaving x)
  pub tally_is : TalliesSince v.since v.tally x v'.tally
  pub items_are : v'.items ≡ sum_of v.items 1
  pub offset_is : v'.offset ≡ sum_of v.offset x.used

-- the next item of octets was taken, and this is shown of it
pub record TakesItem (form : Form) (steps : List Step) (opening : Parts) (v : Viewing) (b : List ℕ) (x : Explained) (v' : Viewing) (text : List ℕ) : Type 0 where
  pub connection : Connection
  pub explains : ExplainsItem v.state b (sum_of v.items 1) v.offset connection x
  pub goes : Goes steps v connection x v'
  pub shown : IsItemView form connection.state (is_opening form v.items) opening v.since (item_parts steps v.weaving x) x text

-- the item of this many octets was taken, if there is one, and what is shown of it was appended
abbrev pub TakesIfThere : Form → List Step → Parts → Viewing → List ℕ → Viewing → (old new : List ℕ) → Option ℕ → Type 0
TakesIfThere form steps opening v b v' old new None = (next_event v.state b ≡ Stop) × (v' ≡ v) × (new ≡ old)
TakesIfThere form steps opening v b v' old new (Some used) =
    (x : Explained) × (used ≡ x.used) × (text : List ℕ) × TakesItem form steps opening v b x v' text × (new ≡ old ++ text)

-- these items of octets were, one after another; the octets that are left begin with none
abbrev pub AreTaken : Form → List Step → Parts → Viewing → List ℕ → Viewing → (left : List ℕ) → List Explained → List ℕ → Type 0
AreTaken form steps opening v b v' left [] text = (next_event v.state b ≡ Stop) × (v' ≡ v) × (left ≡ b) × (text ≡ [])
AreTaken form steps opening v b v' left (x ∷ xs) text = (one more : List ℕ) × (m : Viewing) × TakesItem form steps opening v b x m one
    × AreTaken form steps opening m (drop x.used b) v' left xs more × (text ≡ one ++ more)

abbrev pub TakesAll : Form → List Step → Parts → Viewing → List ℕ → Viewing → (left text : List ℕ) → Type 0
TakesAll form steps opening v b v' left text = (xs : List Explained) × AreTaken form steps opening v b v' left xs text

-- the end: that of an explanation, and in a text, where no item came, what the script made of the opening
abbrev pub IsEndIf : (json is_opening : Bool) → Form → (opening : Parts) → Viewing → (left : ℕ) → List ℕ → Type 0
IsEndIf true is_opening form opening v left text = IsRestText v.since form v.state v.items v.tally left text
IsEndIf false is_opening form opening v left text = (rest below : List ℕ) × IsRestText v.since form v.state v.items v.tally left rest
    × AreOpeningLines form.color is_opening opening below × (text ≡ rest ++ below)

abbrev pub IsEnd : Form → (opening : Parts) → Viewing → (left : ℕ) → List ℕ → Type 0
IsEnd form opening v left text = IsEndIf form.json (is_opening form v.items) form opening v left text

-- what is before the first item: in JSON the line of the opening, where it is shown
abbrev pub IsFront : (has_line : Bool) → List ℕ → Type 0
IsFront false text = text ≡ []
IsFront true text = Unit {0}

-- a view: what is before the items, these, and the end; and what sums it up
pub record IsView (form : Form) (steps : List Step) (s : State) (octets text : List ℕ) (summary : Summary) : Type 0 where
  pub after : Viewing
  pub left : List ℕ
  pub front : List ℕ
  pub middle : List ℕ
  pub back : List ℕ
  pub opens : IsFront (is_opening form 0 && form.json) front
  pub taken : TakesAll form steps (opening_parts steps s) (begun steps s) octets after left middle
  pub ends : IsEnd form (opening_parts steps s) after (length left) back
  pub whole : text ≡ (front ++ middle) ++ back
  pub summed : summary ≡ summary_since after.since after.tally after.state after.items (length left)

-- its lines, each after the number of the connection
abbrev pub IsNumberedView : Form → List Step → (number : ℕ) → State → (octets shown : List ℕ) → Summary → Type 0
IsNumberedView form steps number s octets shown summary =
    (text : List ℕ) × IsView form steps s octets text summary × (shown ≡ prefixed (prefix_of form.json number) form.json true text)
