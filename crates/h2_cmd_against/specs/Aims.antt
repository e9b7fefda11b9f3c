-- Requests as they go out: those with a method to another path, and with another authority.
use Rattle.std.specs.Prelude.{ℕ, ◌==◌, ◌||◌, ◌&&◌, not, Bool, true, false, if◌then◌else◌, List, [], ◌∷◌, ◌++◌, codes, drop, map, nat_eq, option_and_then, unwrap_or, Option, Some, None}
use Rattle.std.specs.List.{list_any, slice_split, starts_with}
use Rattle.std.specs.Str.{bytes_eq}
use Rattle.h2_spec.specs.Texts.Script.{cut_at}
use Rattle.h2_cmd_cases.specs.Lines.{behind}
use Rattle.h2_cmd_check.specs.Frames.{is_none}
use Rattle.h2_cmd_check.specs.ItemTexts.{octets_of_lines}
use Rattle.h2_cmd_check.specs.Texts.{before}
use Rattle.h2_cmd_against.specs.declared.aim.Aim.{Aim}

-- ---- where requests go

-- requests with this method go to this path; they have this where a case has localhost. An empty text leaves it to the case
pub record Aimed : Type 0 where
  pub method : List ℕ
  pub path : List ℕ
  pub authority : List ℕ

abbrev pub aimed_by : Aim → Aimed
aimed_by a = record { method = a.method.now; path = a.path.now; authority = a.authority.now }

abbrev pub aim_cut : Option (List ℕ × List ℕ) → (authority : List ℕ) → Aimed
aim_cut None authority = record { method = []; path = []; authority = authority }
aim_cut (Some c) authority = record { method = c.0; path = c.1; authority = authority }

-- the words METHOD=PATH and AUTHORITY say it
abbrev pub aim_said : (path authority : List ℕ) → Aimed
aim_said path authority = aim_cut (cut_at 61 path) authority

-- ---- instructions

-- the method of a literal, which has any letter
abbrev pub literal_method : List ℕ → Option (List ℕ)
literal_method part = option_and_then (before (codes "\"")) (behind (codes "2=\"") (drop 1 part))

-- the method that an instruction says; nothing where it says none
abbrev pub method_in : List ℕ → List ℕ
method_in part =
    if bytes_eq part (codes "i2") then codes "GET"
    else if bytes_eq part (codes "i3") then codes "POST" else unwrap_or (literal_method part) []

-- what is before the value of a path that begins with a slash
abbrev pub path_front : List ℕ → Option (List ℕ)
path_front part =
    if bytes_eq part (codes "i4") then Some (codes "n4")
    else if bytes_eq part (codes "i5") then Some (codes "n4")
    else if starts_with nat_eq part (codes "n4=\"/") then Some (codes "n4")
    else if starts_with nat_eq part (codes "a4=\"/") then Some (codes "a4")
    else if starts_with nat_eq part (codes "v4=\"/") then Some (codes "v4") else None

-- what is before a value localhost
abbrev pub authority_front : List ℕ → Option (List ℕ)
authority_front part = before (codes "=\"localhost\"") part

-- an instruction with this front and this value
abbrev pub with_value : (front value : List ℕ) → List ℕ
with_value front value = front ++ codes "=\"" ++ value ++ codes "\""

abbrev pub changed : Option (List ℕ) → (value part : List ℕ) → List ℕ
changed None value part = part
changed (Some front) value part = with_value front value

-- an instruction as it goes out where its request has the path of the case
abbrev pub without_path : Aimed → List ℕ → List ℕ
without_path a part = if is_none a.authority then part else changed (authority_front part) a.authority part

abbrev pub with_path : Aimed → Option (List ℕ) → List ℕ → List ℕ
with_path a None part = without_path a part
with_path a (Some front) part = with_value front a.path

-- an instruction as it goes out; `moved`: the path of its request changes
abbrev pub aimed_part : Aimed → (moved : Bool) → List ℕ → List ℕ
aimed_part a true part = with_path a (path_front part) part
aimed_part a false part = without_path a part

-- ---- lines

-- a string is open after a text; `inside`: one was before it
abbrev pub is_open : (inside : Bool) → List ℕ → Bool
is_open inside [] = inside
is_open inside (octet ∷ octets) = is_open (if octet == 34 || octet == 39 then not inside else inside) octets

-- the request of these instructions goes to another path
abbrev pub is_moved : Aimed → (parts : List (List ℕ)) → Bool
is_moved a parts = not (is_none a.path) && list_any (λ p. bytes_eq (method_in p) a.method) parts

-- instructions, each after an octet: this one, and then commas
abbrev pub aimed_parts : Aimed → (moved : Bool) → (lead : ℕ) → (parts : List (List ℕ)) → List ℕ
aimed_parts a moved lead [] = []
aimed_parts a moved lead (p ∷ ps) = lead ∷ (aimed_part a moved p ++ aimed_parts a moved 44 ps)

-- a line of which the instructions are these, after its front; it stays where a string of it has a comma
abbrev pub aimed_block : Aimed → (line front : List ℕ) → (parts : List (List ℕ)) → List ℕ
aimed_block a line front parts =
    if list_any (λ p. is_open false p) parts then line else front ++ aimed_parts a (is_moved a parts) 104 parts

abbrev pub aimed_cut : Aimed → (line : List ℕ) → Option (List ℕ × List ℕ) → List ℕ
aimed_cut a line None = line
aimed_cut a line (Some c) = aimed_block a line c.0 (slice_split (λ b. b == 44) c.1)

-- a line as it goes out: the instructions are after its first h
abbrev pub aimed_line : Aimed → List ℕ → List ℕ
aimed_line a line = aimed_cut a line (cut_at 104 line)

-- the lines of a case
abbrev pub aimed_lines : Aimed → List (List ℕ) → List (List ℕ)
aimed_lines a lines = if is_none a.path && is_none a.authority then lines else map (aimed_line a) lines

-- their octets
abbrev pub aimed_octets : Aimed → List (List ℕ) → List ℕ
aimed_octets a lines = octets_of_lines (aimed_lines a lines)
