-- What a line `;<` says of a frame that is sent: its octets as a line of a script, or of DATA the length of its payload and
-- the SHA-256 of that (FIPS 180-4).
use Rattle.std.specs.Prelude.{ℕ, ◌+◌, ◌==◌, ◌&&◌, not, nat_lt, Bool, false, List, [], ◌∷◌, ◌++◌, length, flat_map, codes, decimal, if◌then◌else◌, Option, Some, None, Result, Ok, Err}
use Rattle.std.specs.Str.{bytes_eq}
use Rattle.hex.specs.Hex.{encode_lower}
use Rattle.sha2.specs.Sha256.{sha256}
use Rattle.h2_explain_words.specs.Sent.{FirstFrame, first_frame}
use Rattle.h2_spec.specs.Frames.FrameType.{DATA}
use Rattle.h2_spec.specs.Texts.Assemble.{statement_at}
use Rattle.h2_spec.specs.Texts.Script.{Statement, lines_of, octets_of}
use Rattle.h2_spec.specs.Texts.Written.{written}
use Rattle.h2_spec.specs.declared.frames.Head.{Head}
use Rattle.h2_spec.specs.declared.scripts.SyntaxKind.{SyntaxKind}
use Rattle.h2_cmd_cases.specs.Lines.{behind}

-- ---- the octets of a line of a script

abbrev pub octets_in : Result Statement SyntaxKind → Option (List ℕ)
octets_in (Ok s) = Some (octets_of s)
octets_in (Err kind) = None

-- the octets of a line of a script, if it is one
abbrev pub octets_at : List ℕ → Option (List ℕ)
octets_at line = octets_in (statement_at line)

-- ---- DATA by the length and the sum of its payload

-- what precedes the sum
unfoldable pub summary_front : Head → List ℕ → List ℕ
summary_front head payload =
    (((((codes "DATA " ++ encode_lower (head.flags ∷ [])) ++ codes " ") ++ decimal head.stream) ++ codes " length ") ++ decimal (length payload)) ++ codes " sha256 "

-- the sum
abbrev pub sum_text : List ℕ → List ℕ
sum_text payload = encode_lower (sha256 payload)

-- both
abbrev pub summary_text : Head → List ℕ → List ℕ
summary_text head payload = summary_front head payload ++ sum_text payload

-- only DATA without the reserved bit has a summary
abbrev pub has_summary : Head → Bool
has_summary head = head.kind == DATA && not head.reserved

-- ---- a line that says one

abbrev pub is_sum : Option (List ℕ) → List ℕ → Bool
is_sum None payload = false
is_sum (Some digits) payload = bytes_eq digits (sum_text payload)

-- a line is the summary of a frame
abbrev pub is_summary : List ℕ → Head → List ℕ → Bool
is_summary line head payload = has_summary head && is_sum (behind (summary_front head payload) line) payload

abbrev pub summed_by : List ℕ → Option FirstFrame → Option ℕ
summed_by line None = None
summed_by line (Some f) = if is_summary line f.head f.payload then Some (9 + length f.payload) else None

-- how many octets the frame has that octets begin with, if a line is its summary
unfoldable pub summed : List ℕ → List ℕ → Option ℕ
summed line octets = summed_by line (first_frame octets)

-- ---- the lines of octets that were sent

-- a frame has more payload than is written in full
abbrev pub is_long : Head → List ℕ → Bool
is_long head payload = has_summary head && nat_lt 100 (length payload)

abbrev pub short_of_frame : List ℕ → Option FirstFrame → List ℕ
short_of_frame line None = line
short_of_frame line (Some f) = if is_long f.head f.payload then summary_text f.head f.payload else line

abbrev pub short_of_octets : List ℕ → Option (List ℕ) → List ℕ
short_of_octets line None = line
short_of_octets line (Some octets) = short_of_frame line (first_frame octets)

-- a line that `dis` writes, or the summary of the DATA that it says
unfoldable pub short_line : List ℕ → List ℕ
short_line line = short_of_octets line (octets_at line)

-- it after the mark; none for the end of a text
abbrev pub told_line : List ℕ → List ℕ
told_line [] = []
told_line (c ∷ cs) = codes ";< " ++ (short_line (c ∷ cs) ++ codes "\n")

-- one for each frame of octets
unfoldable pub told_lines : List ℕ → List ℕ
told_lines octets = flat_map told_line (lines_of (written octets))
