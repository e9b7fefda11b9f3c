-- The text of a verdict, by version 13 of the Test Anything Protocol.
use Rattle.std.specs.Prelude.{◌≡◌, ℕ, ◌==◌, ◌||◌, ◌&&◌, ◌++◌, nat_lt, Bool, true, false, List, [], ◌∷◌, codes, decimal, flat_map, if◌then◌else◌, Option, Some, None}
use Rattle.hex.specs.Hex.{encode_lower}
use Rattle.h2_cmd_check.specs.Cases.{Outcome, Skipped, Holds, Fails}
use Rattle.h2_cmd_check.specs.declared.growing.Growing.{Growing}

-- the words before the number of a result
abbrev pub result_words : Outcome → List ℕ
result_words Skipped = codes "ok "
result_words Holds = codes "ok "
result_words Fails = codes "not ok "

-- the words after the name of a result
abbrev pub directive : Outcome → List ℕ
directive Skipped = codes " # SKIP it expects nothing\n"
directive Holds = codes "\n"
directive Fails = codes "\n"

-- an octet is a character of ASCII that is shown: from a blank to `~`
abbrev pub is_printable : ℕ → Bool
is_printable octet = nat_lt 31 octet && nat_lt octet 127

-- an octet of a name: after a backslash where it is a backslash or `#`, and any that is not printable as a backslash and two
-- hex digits
abbrev pub escaped_octet : ℕ → List ℕ
escaped_octet octet =
    if octet == 92 || octet == 35 then 92 ∷ octet ∷ []
    else if is_printable octet then octet ∷ [] else 92 ∷ encode_lower (octet ∷ [])

abbrev pub escaped : List ℕ → List ℕ
escaped octets = flat_map escaped_octet octets

-- the title of a case after its file
abbrev pub title_text : Option (List ℕ) → List ℕ
title_text None = []
title_text (Some title) = codes ": " ++ escaped title

abbrev pub ok_words : (is_ok : Bool) → List ℕ
ok_words true = codes "ok "
ok_words false = codes "not ok "

-- the line of a result up to its name
abbrev pub result_front : (is_ok : Bool) → (number : ℕ) → (file : List ℕ) → (title : Option (List ℕ)) → List ℕ
result_front is_ok number file title = ok_words is_ok ++ decimal number ++ codes " - " ++ escaped file ++ title_text title

-- the line of the result with this number
abbrev pub result_line : ℕ → List ℕ → Option (List ℕ) → Outcome → List ℕ
result_line number file title outcome =
    result_words outcome ++ decimal number ++ codes " - " ++ escaped file ++ title_text title ++ directive outcome

-- what was found is said where a case fails
abbrev pub IsDetails : Outcome → List ℕ → Type 0
IsDetails Skipped text = text ≡ []
IsDetails Holds text = text ≡ []
IsDetails Fails text = Unit {0}

-- the text of a result: its line, and what was found
pub record IsResult (number : ℕ) (file : List ℕ) (title : Option (List ℕ)) (outcome : Outcome) (text : List ℕ) : Type 0 where
  pub details : List ℕ
  pub whole : text ≡ result_line number file title outcome ++ details
  pub said : IsDetails outcome details

-- ---- a text that grows

-- it gained this text, unless memory was refused
abbrev pub Gains : List ℕ → Growing → Growing → Type 0
Gains text g g' = g'.refused ≡ false → (g.refused ≡ false) × (g'.octets.items ≡ g.octets.items ++ text)

-- or some text
abbrev pub GainsSome : Growing → Growing → Type 0
GainsSome g g' = g'.refused ≡ false → (g.refused ≡ false) × ((text : List ℕ) × (g'.octets.items ≡ g.octets.items ++ text))
