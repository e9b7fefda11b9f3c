-- The texts of `explain` for the items of a case: those of the octets of all of its lines.
use Rattle.std.specs.Prelude.{◌≡◌, ℕ, zero, suc, ◌+◌, Bool, true, false, List, [], ◌∷◌, ◌++◌, length, drop, flat_map, slice_index_or, Option, Some, None}
use Rattle.std.specs.List.{list_any}
use Rattle.h2_conn.specs.Connection.{Connection}
use Rattle.h2_explain_step.specs.Explained.{ExplainsItem}
use Rattle.h2_explain_step.specs.Explained.{IsTextOf}
use Rattle.h2_explain_item.specs.declared.item.Explained.{Explained}
use Rattle.h2_spec.specs.Requests.Answer.{Entry}
use Rattle.h2_spec.specs.Frames.Parse.{Stop}
use Rattle.h2_spec.specs.State.{State, opening}
use Rattle.h2_spec.specs.Trace.{next_event}
use Rattle.h2_spec.specs.declared.connection.Config.{Config}
pub use Rattle.h2_cmd_cases.specs.Frames.{octets_at}
use Rattle.h2_cmd_cases.specs.Lines as line
use Rattle.h2_cmd_cases.specs.Lines.{CaseLine, line_said}

-- ---- the octets of a case

abbrev pub octets_or_none : Option (List ℕ) → List ℕ
octets_or_none None = []
octets_or_none (Some octets) = octets

-- the octets of a line: none where it is none of the script
abbrev pub octets_said : CaseLine → List ℕ
octets_said (line.Script text) = octets_or_none (octets_at text)
octets_said (line.Title text) = []
octets_said (line.Unspaced text) = []
octets_said (line.Words text) = []
octets_said (line.Sent text) = []
octets_said (line.Shown text) = []
octets_said (line.Cause text) = []
octets_said (line.Reason text) = []
octets_said (line.Explained text) = []
octets_said (line.Command text) = []

-- those of lines, one after another
abbrev pub octets_of_lines : List (List ℕ) → List ℕ
octets_of_lines lines = flat_map (λ l. octets_said (line_said l)) lines

-- ---- the texts of items

-- the texts of the items that a connection takes of octets, one for each, without colours; that many items came before
-- them, and that many octets
abbrev pub AreTexts : State → List ℕ → (items offset : ℕ) → List (List ℕ) → Type 0
AreTexts s b items offset [] = next_event s b ≡ Stop
AreTexts s b items offset (t ∷ ts) =
    (c : Connection) × (x : Explained) × ExplainsItem s b (items + 1) offset c x × IsTextOf false false false c.state x t
    × AreTexts c.state (drop x.used b) (items + 1) (offset + x.used) ts

-- the next item of octets was taken: its text was put last
pub record TakesOneText (s : State) (b : List ℕ) (offset : ℕ) (texts : List (List ℕ)) (c : Connection) (texts' : List (List ℕ)) (used : ℕ) : Type 0 where
  pub item : Explained
  pub explains : ExplainsItem s b (length texts + 1) offset c item
  pub used_is : used ≡ item.used
  pub text : List ℕ
  pub said : IsTextOf false false false c.state item text
  pub texts_are : texts' ≡ texts ++ text ∷ []

-- or there is none
abbrev pub TakesText : State → List ℕ → (offset : ℕ) → List (List ℕ) → Connection → List (List ℕ) → Option ℕ → Type 0
TakesText s b offset texts c texts' None = (next_event s b ≡ Stop) × (texts' ≡ texts)
TakesText s b offset texts c texts' (Some used) = TakesOneText s b offset texts c texts' used

-- the text of the last one of that many items; nothing where there is none
abbrev pub text_before : List (List ℕ) → ℕ → List ℕ
text_before texts zero = []
text_before texts (suc n) = slice_index_or texts n []

-- ---- the texts of a case

-- whether a line says one of `explain`
abbrev pub says_explained : CaseLine → Bool
says_explained (line.Explained text) = true
says_explained (line.Script text) = false
says_explained (line.Title text) = false
says_explained (line.Unspaced text) = false
says_explained (line.Words text) = false
says_explained (line.Sent text) = false
says_explained (line.Shown text) = false
says_explained (line.Cause text) = false
says_explained (line.Reason text) = false
says_explained (line.Command text) = false

-- whether lines do
abbrev pub have_explained : List (List ℕ) → Bool
have_explained lines = list_any (λ l. says_explained (line_said l)) lines

-- the texts of a connection over octets, where they are asked for
abbrev pub AreTextsIf : Bool → State → List ℕ → List (List ℕ) → Type 0
AreTextsIf false s b texts = texts ≡ []
AreTextsIf true s b texts = AreTexts s b 0 0 texts

-- the texts of the items of a case with this book, these limits and these settings, where a line of it says one of
-- `explain`
abbrev pub AreTextsOf : List Entry → Config → (lines texts : List (List ℕ)) → Type 0
AreTextsOf book config lines texts = AreTextsIf (have_explained lines) (opening book config) (octets_of_lines lines) texts
