-- The lines below an item that a script adds: the frames that do not go out, those of the script, and an error that is not judged.
use Rattle.std.specs.Prelude.{◌≡◌, ℕ, zero, suc, ◌-◌, ◌||◌, Bool, List, [], ◌∷◌, ◌++◌, codes, decimal, length, take, if◌then◌else◌, Option, Some, None, is_some}
use Rattle.h2_cmd_dialogue.specs.Woven.{Parts}
use Rattle.h2_cmd_inject.specs.Results.{Each}
use Rattle.h2_explain_item.specs.declared.item.Explained.{Explained}
use Rattle.h2_explain_text.specs.Lines.{ended, indent, started}
use Rattle.h2_explain_text.specs.Why.{head_line}
use Rattle.h2_explain_text.specs.declared.paint.Role.TheVariants as role
use Rattle.h2_explain_words.specs.Sent.{FirstFrame, first_frame}
use Rattle.h2_spec.specs.Texts.Show.{joined}

-- ---- frames

-- the line of a frame in these words, after this word
unfoldable pub frame_line : (color : Bool) → (word words : List ℕ) → List ℕ
frame_line color word words = joined (indent ∷ started color role.Sent ∷ word ∷ codes " " ∷ words ∷ ended color ∷ [])

abbrev pub IsFrameLine : (color : Bool) → (word : List ℕ) → FirstFrame → List ℕ → Type 0
IsFrameLine color word f text = (words : List ℕ) × (text ≡ frame_line color word words)

abbrev pub frames_if : Option FirstFrame → (List ℕ → List FirstFrame) → List FirstFrame
frames_if None more = []
frames_if (Some f) more = f ∷ more f.rest

-- the frames that octets begin with, at most this many
abbrev pub frames_in : ℕ → List ℕ → List FirstFrame
frames_in zero octets = []
frames_in (suc most) octets = frames_if (first_frame octets) (frames_in most)

-- a line for each frame of octets
abbrev pub AreFrameLines : (color : Bool) → (word octets text : List ℕ) → Type 0
AreFrameLines color word octets text = Each (IsFrameLine color word) (frames_in (length octets) octets) text

-- those that did not go out, and then those of the script
abbrev pub ArePartLines : (color : Bool) → Parts → List ℕ → Type 0
ArePartLines color p text = (withheld script : List ℕ) × AreFrameLines color (codes "withheld") p.withheld withheld
    × AreFrameLines color (codes "script") p.script script × (text ≡ withheld ++ script)

-- ---- what is not judged

-- a text without the end of its line
abbrev pub without_end : List ℕ → List ℕ
without_end text = take (length text - 1) text

-- the line of an error, or of a reason, that begins so
unfoldable pub unjudged_line : (color : Bool) → (since : ℕ) → (why : List ℕ) → List ℕ
unjudged_line color since why =
    indent ++ started color role.Ignored ++ without_end why ++ codes "; not judged, the script has spoken since #" ++ decimal since ++ ended color

-- the line of an item's, if it has one, once the script has spoken
abbrev pub unjudged_lines : (color : Bool) → Option ℕ → Explained → List ℕ
unjudged_lines color None x = []
unjudged_lines color (Some since) x =
    if is_some x.cause || is_some x.ignored then unjudged_line color since (head_line x.after.counts.phase x.cause x.ignored) else []
