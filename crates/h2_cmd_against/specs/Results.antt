-- The result of a case as TAP, and how results are counted.
use Rattle.std.specs.Prelude.{◌≡◌, ℕ, ◌+◌, ◌-◌, ◌^◌, ◌==◌, ◌&&◌, ◌||◌, min, Bool, true, false, is_some, if◌then◌else◌, List, [], ◌∷◌, ◌++◌, codes, decimal, flat_map, map, option_and_then, option_map, slice_get, Option, Some, None}
use Rattle.std.specs.List.{position}
use Rattle.std.specs.Str.{bytes_eq}
use Rattle.h2_cmd_check.specs.Tap.{result_front}
use Rattle.h2_cmd_items.specs.declared.sent.Sent.{Sent}
use Rattle.h2_cmd_judge.specs.CaseVerdicts.{Judgement}
use Rattle.h2_cmd_judge.specs.declared.case.Finding.{Finding}
use Rattle.h2_cmd_judge.specs.declared.judge.Verdict.{Verdict}
use Rattle.h2_cmd_judge.specs.declared.judge.Verdict.TheVariants as verdict
use Rattle.h2_cmd_against.specs.Ends.{is_same}
use Rattle.h2_cmd_against.specs.declared.counts.Broken.{Broken}
use Rattle.h2_cmd_against.specs.declared.counts.Broken.TheVariants.{Named, Stray, Unreadable}
use Rattle.h2_cmd_against.specs.declared.counts.Counts.{Counts}
use Rattle.h2_cmd_against.specs.declared.counts.Rule.{Rule}
use Rattle.h2_cmd_against.specs.declared.ends.CaseEnd.{CaseEnd}
use Rattle.h2_cmd_against.specs.declared.ends.CaseEnd.TheVariants.{Judged, Skipped, Refused}

-- ---- how many there are

abbrev pub no_counts : Counts
no_counts = record { all = 0; same = 0; allowed = 0; doubtful = 0; broken = 0; skipped = 0; refused = 0 }

-- numbers of 64 bits, which end at the greatest
abbrev pub one_more : ℕ → ℕ
one_more n = min (n + 1) (2 ^ 64 - 1)

-- no rule is broken, and each case can be played
abbrev pub is_passed : Counts → Bool
is_passed c = c.broken == 0 && c.refused == 0

abbrev pub with_skipped : Counts → Counts
with_skipped c = record c { skipped = one_more c.skipped }

abbrev pub with_verdict : Counts → Verdict → Counts
with_verdict c verdict.Same = record c { same = one_more c.same }
with_verdict c verdict.Allowed = record c { allowed = one_more c.allowed }
with_verdict c verdict.Doubtful = record c { doubtful = one_more c.doubtful }
with_verdict c verdict.Broken = record c { broken = one_more c.broken }
with_verdict c (verdict.Skipped why) = with_skipped c

abbrev pub with_kind : Counts → CaseEnd → Counts
with_kind c (Judged j) = with_verdict c j.verdict
with_kind c (Skipped why) = with_skipped c
with_kind c (Refused why) = record c { refused = one_more c.refused }

-- with one case more
abbrev pub counted : Counts → CaseEnd → Counts
counted c end = with_kind (record c { all = one_more c.all }) end

-- ---- which rules are broken

-- the name of a rule
abbrev pub broken_name : Broken → List ℕ
broken_name (Named name section) = name.now
broken_name Stray = codes "rst-stream-on-idle"
broken_name Unreadable = codes "unreadable-block"

-- its section
abbrev pub broken_section : Broken → List ℕ
broken_section (Named name section) = section.now
broken_section Stray = codes "RFC 9113 6.4"
broken_section Unreadable = codes "RFC 9113 4.3"

abbrev pub is_broken : Verdict → Bool
is_broken verdict.Same = false
is_broken verdict.Allowed = false
is_broken verdict.Doubtful = false
is_broken verdict.Broken = true
is_broken (verdict.Skipped why) = false

-- the rule of an item
abbrev pub named : Sent → Broken
named s = Named s.row.name s.row.section

-- that of the item at a place
abbrev pub named_at : List Sent → (place : ℕ) → Option Broken
named_at sent place = option_map named (slice_get sent place)

-- that of the first finding that is broken
abbrev pub first_broken : List Sent → List Finding → Option Broken
first_broken sent findings = option_and_then (named_at sent) (position (λ f. is_broken f.verdict) findings)

-- the first rule that the server broke in a case with these items: first what belongs to no item
abbrev pub broken_in : List Sent → Judgement → Option Broken
broken_in sent j =
    if is_some j.stray then Some Stray
    else if is_some j.unreadable then Some Unreadable else first_broken sent j.findings

abbrev pub broken_by : List Sent → CaseEnd → Option Broken
broken_by sent (Judged j) = broken_in sent j
broken_by sent (Skipped why) = None
broken_by sent (Refused why) = None

abbrev pub is_named : (name : List ℕ) → Rule → Bool
is_named name r = bytes_eq (broken_name r.broken) name

abbrev pub counted_if : (name : List ℕ) → Rule → Rule
counted_if name r = if is_named name r then record r { count = one_more r.count } else r

-- one of these has this name
abbrev pub have_name : (name : List ℕ) → List Rule → Bool
have_name name [] = false
have_name name (r ∷ rs) = is_named name r || have_name name rs

-- a rule that is there is counted once more, else put last
abbrev pub with_rule : List Rule → Broken → List Rule
with_rule rules b =
    if have_name (broken_name b) rules then map (counted_if (broken_name b)) rules else rules ++ record { broken = b; count = 1 } ∷ []

abbrev pub with_broken : List Rule → Option Broken → List Rule
with_broken rules None = rules
with_broken rules (Some b) = with_rule rules b

-- ---- the result of a case

abbrev pub is_ok_verdict : Verdict → Bool
is_ok_verdict verdict.Same = true
is_ok_verdict verdict.Allowed = true
is_ok_verdict verdict.Doubtful = false
is_ok_verdict verdict.Broken = false
is_ok_verdict (verdict.Skipped why) = true

-- its line begins with `ok`
abbrev pub is_ok : CaseEnd → Bool
is_ok (Judged j) = is_ok_verdict j.verdict
is_ok (Skipped why) = true
is_ok (Refused why) = false

abbrev pub verdict_directive : Verdict → List ℕ
verdict_directive verdict.Same = codes "\n"
verdict_directive verdict.Allowed = codes "\n"
verdict_directive verdict.Doubtful = codes " # TODO doubtful\n"
verdict_directive verdict.Broken = codes "\n"
verdict_directive (verdict.Skipped why) = codes " # SKIP "

-- the words after its name
abbrev pub directive : CaseEnd → List ℕ
directive (Judged j) = verdict_directive j.verdict
directive (Skipped why) = codes " # SKIP "
directive (Refused why) = codes "\n"

-- its line is all that is said: the server did what this one does
abbrev pub is_plain : CaseEnd → Bool
is_plain (Judged j) = is_same j.verdict
is_plain (Skipped why) = false
is_plain (Refused why) = false

-- its text: the line, and what is said after it
pub record IsResult (number : ℕ) (file : List ℕ) (title : Option (List ℕ)) (end : CaseEnd) (text : List ℕ) : Type 0 where
  pub more : List ℕ
  pub whole : text ≡ result_front (is_ok end) number file title ++ directive end ++ more
  pub said : is_plain end ≡ true → more ≡ []

-- it is appended
abbrev pub AddsResult : (number : ℕ) → (file : List ℕ) → (title : Option (List ℕ)) → CaseEnd → (text text' : List ℕ) → Type 0
AddsResult number file title end text text' = (result : List ℕ) × IsResult number file title end result × (text' ≡ text ++ result)

-- ---- results so far

-- what was counted, the rules that were broken, and the text of the results of a file
pub record SoFar : Type 0 where
  pub counts : Counts
  pub rules : List Rule
  pub text : List ℕ

abbrev pub no_case : SoFar
no_case = record { counts = no_counts; rules = []; text = [] }

-- the text was taken out
abbrev pub emptied : SoFar → SoFar
emptied s = record s { text = [] }

-- the result of a case with these items was added
pub record Adds (file : List ℕ) (title : Option (List ℕ)) (sent : List Sent) (end : CaseEnd) (s s' : SoFar) : Type 0 where
  pub counts : s'.counts ≡ counted s.counts end
  pub rules : s'.rules ≡ with_broken s.rules (broken_by sent end)
  pub text : AddsResult s'.counts.all file title end s.text s'.text

-- ---- the end

-- the line of a rule that was broken
unfoldable pub rule_text : Rule → List ℕ
rule_text r =
    codes "# broken: " ++ broken_name r.broken ++ codes ", " ++ broken_section r.broken ++ codes ": cases " ++ decimal r.count ++ codes "\n"

unfoldable pub unbroken_text : Counts → List ℕ
unbroken_text c = codes "# same " ++ decimal c.same ++ codes ", allowed " ++ decimal c.allowed ++ codes ", doubtful " ++ decimal c.doubtful

unfoldable pub others_text : Counts → List ℕ
others_text c = codes ", broken " ++ decimal c.broken ++ codes ", skipped " ++ decimal c.skipped ++ codes "\n1.." ++ decimal c.all ++ codes "\n"

-- how many there are of each kind, and how many in all
abbrev pub counts_text : Counts → List ℕ
counts_text c = unbroken_text c ++ others_text c

-- the lines after the results
abbrev pub end_text : Counts → List Rule → List ℕ
end_text c rules = flat_map rule_text rules ++ counts_text c
