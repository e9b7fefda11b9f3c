-- The first line of a session.
use Rattle.std.proofs.Common.{◌≡◌, ◌-◌, ◌≤◌, ◌⊎◌, ℕ, Bool, true, false, List, [], ◌∷◌, ◌++◌, Option, Some, None, Result, Ok, Err, IfErr, IfOk, OnErr, length, take, nat_le, cond, refl, ap, inl, inr, arith}
use Rattle.h2_io.specs.HexText.{octets_spelled}
use Rattle.h2_spec.specs.declared.connection.Config.{Config}
use Rattle.h2_spec.specs.Requests.Answer.{Entry}
use Rattle.h2_debug.specs.Debugging.{Debugging}
use Rattle.h2_debug.specs.SessionFaults.{fault_number}
use Rattle.h2_debug.specs.Lines.{ended_lines, lines_of}
use Rattle.h2_debug.specs.Loading.{Loads, load_fault}
use Rattle.h2_spec.specs.State.{is_allowed}
use Rattle.h2_debug.specs.Reading.{IsCut, most}
use Rattle.h2_debug.specs.Responses.{IsRefusal, IsResponse}
use Rattle.h2_debug.specs.Session.{IsAnswered, IsFollowed, IsGiven, IsLoaded, IsSession, IsSessionOver, Printed, Prints, closed, failed}
use Rattle.h2_debug.specs.Takes.{TakesFirst}
use Rattle.h2_debug.specs.declared.commands.session_fault.SessionFault.{SessionFault}
use Rattle.h2_debug.specs.declared.commands.session_fault.SessionFault.TheVariants.{NoMemory}
use Rattle.h2_debug.specs.declared.commands.line.LineEnd.{LineEnd}
use Rattle.h2_debug.specs.declared.commands.line.LineEnd.TheVariants.{Input, LineFeed}
use Rattle.h2_debug.proofs.Giving.{cut-given, end-given, known, last-given, line-given}

-- nothing more can be read
pub session-cut : (book : List Entry) (config : Config) (octets : List ℕ) (input_failed : Bool) (first : ℕ) (before after : Option (List ℕ)) → before ≡ Some octets → first ≡ 0
    → IsCut before after first input_failed → IsSession book config octets input_failed after (failed 22)
session-cut book config octets input_failed first before after e zero cut =
    let given = cut-given before after first octets input_failed e cut in
    inr ([], false, rw zero at given, refl)

-- the line that ends with the input
pub session-last : (book : List Entry) (config : Config) (octets line : List ℕ) (first last : ℕ) (before after rest : Option (List ℕ)) (t : Printed) → before ≡ Some octets → first ≡ 0
    → last ≤ most → TakesFirst before after first last line Input → IsLoaded book config (octets_spelled line) [] true t → IsSession book config octets false rest t
session-last book config octets [] first last before after rest t e zero le takes loads = inr ([], true, end-given before after first last most octets rest e takes, loads)
session-last book config octets (x ∷ xs) first last before after rest t e zero le takes loads =
    let given = last-given before after first last (x ∷ xs) octets rest e takes le (omega arith) in
    inr ((x ∷ xs) ∷ [], true, rw zero at given, loads)

-- the line that ends by a line feed
pub session-line : (book : List Entry) (config : Config) (octets line more : List ℕ) (input_failed : Bool) (first last : ℕ) (before after rest : Option (List ℕ)) (lines : List (List ℕ)) (whole : Bool) (t : Printed)
    → before ≡ Some octets → after ≡ Some more → first ≡ 0 → last ≤ most → TakesFirst before after first last line LineFeed → IsGiven (most - last) more input_failed rest lines whole
    → IsLoaded book config (octets_spelled line) lines whole t → IsSession book config octets input_failed rest t
session-line book config octets line more input_failed first last before after rest lines whole t e f zero le takes given loads =
    let all = line-given before after first last line octets more input_failed rest lines whole e f takes le given in
    inr (line ∷ lines, whole, rw zero at all, loads)

-- what is ahead after a first line
pub line-known : (octets line : List ℕ) (first last : ℕ) (before after : Option (List ℕ)) → before ≡ Some octets → TakesFirst before after first last line LineFeed
    → (more : List ℕ) × (after ≡ Some more)
line-known octets line first last before after e takes =
    let k = known before after octets (line ++ 10 ∷ []) e takes.taken in
    (k.0, k.1)

-- no debugger
not-loaded : (book : List Entry) (config : Config) (spelled : Option (List ℕ)) (fault : SessionFault) (lines : List (List ℕ)) (whole : Bool) → fault ≡ load_fault spelled (is_allowed config)
    → (fault ≡ NoMemory) ⊎ IsLoaded book config spelled lines whole (failed (fault_number fault))
not-loaded book config spelled fault lines whole why = go spelled (is_allowed config) refl why
  where
    go : (s : Option (List ℕ)) (allowed : Bool) → is_allowed config ≡ allowed → fault ≡ load_fault s allowed → (fault ≡ NoMemory) ⊎ IsLoaded book config s lines whole (failed (fault_number fault))
    go None allowed is bad = inr (rw bad refl)
    go (Some octets) true is none = inl none
    go (Some octets) false is bad = inr (rw (bad, is) refl)

pub session-unloaded : (book : List Entry) (config : Config) (octets line : List ℕ) (end : LineEnd) (first last : ℕ) (before after rest : Option (List ℕ)) (fault : SessionFault)
    → before ≡ Some octets → first ≡ 0 → last ≤ most → TakesFirst before after first last line end → fault ≡ load_fault (octets_spelled line) (is_allowed config)
    → IsSession book config octets false rest (failed (fault_number fault))
session-unloaded book config octets line Input first last before after rest fault e zero le takes not =
    elim (not-loaded book config (octets_spelled line) fault [] true not) [
      | inl none ↦ inl (ap (λ (f : SessionFault). failed (fault_number f)) none, refl)
      | inr loads ↦ session-last book config octets line first last before after rest _ e zero le takes loads
    ]
session-unloaded book config octets line LineFeed first last before after rest fault e zero le takes not =
    let k = line-known octets line first last before after e takes in
    let whole = nat_le (length k.0) (most - last) in
    let lines = cond whole (lines_of k.0) (ended_lines (take (most - last) k.0)) in
    elim (not-loaded book config (octets_spelled line) fault lines whole not) [
      | inl none ↦ inl (ap (λ (f : SessionFault). failed (fault_number f)) none, refl)
      | inr loads ↦ session-line book config octets line k.0 false first last before after rest lines whole _ e k.1 zero le takes (refl, refl) loads
    ]

-- a debugger
answered-loads : (book : List Entry) (config : Config) (spelled : Option (List ℕ)) (d : Debugging) (lines : List (List ℕ)) (whole : Bool) (t : Printed) → Loads book config spelled d
    → IsAnswered d lines whole t → IsLoaded book config spelled lines whole t
answered-loads book config spelled d lines whole t (octets, some, limits, is) answered = rw (some, limits) (rw is at answered)

pub session-empty : (book : List Entry) (config : Config) (octets line : List ℕ) (first last : ℕ) (before after rest : Option (List ℕ)) (d : Debugging) → before ≡ Some octets → first ≡ 0
    → last ≤ most → TakesFirst before after first last line Input → Loads book config (octets_spelled line) d → IsSession book config octets false rest (closed true [])
session-empty book config octets line first last before after rest d e zero le takes loads =
    session-last book config octets line first last before after rest (closed true []) e zero le takes
    (answered-loads book config (octets_spelled line) d [] true (closed true []) loads ([], refl, refl))

pub session-followed : (book : List Entry) (config : Config) (octets line more : List ℕ) (input_failed : Bool) (first last : ℕ) (before after rest : Option (List ℕ)) (d : Debugging) (t : Printed)
    → before ≡ Some octets → after ≡ Some more → first ≡ 0 → last ≤ most → TakesFirst before after first last line LineFeed → Loads book config (octets_spelled line) d
    → IsFollowed d (most - last) more input_failed rest t → IsSession book config octets input_failed rest t
session-followed book config octets line more input_failed first last before after rest d t e f zero le takes loads (lines, whole, given, answered) =
    session-line book config octets line more input_failed first last before after rest lines whole t e f zero le takes given
    (answered-loads book config (octets_spelled line) d lines whole t loads answered)

-- the session after its first line
pub session-responded : (book : List Entry) (config : Config) (octets held line : List ℕ) (loaded : Result Debugging SessionFault) (end : LineEnd) (first last : ℕ) (before middle rest : Option (List ℕ)) (input_failed : Bool)
    (written : Option (List ℕ)) (status : ℕ) → before ≡ Some octets → first ≡ 0 → last ≤ most → TakesFirst before middle first last line end
    → IfOk loaded (Loads book config (octets_spelled line)) → IfErr loaded (λ fault. fault ≡ load_fault (octets_spelled line) (is_allowed config))
    → IfOk loaded (λ d. IsResponse d end (most - last) middle input_failed rest false (Some held) written status)
    → IfErr loaded (λ fault. IsRefusal fault false (Some held) written status)
    → OnErr loaded (input_failed ≡ false) → (end ≡ Input → input_failed ≡ false)
    → (t : Printed) × IsSession book config octets input_failed rest t × Prints t held written status
session-responded book config octets held line (Err fault) end first last before middle rest input_failed written status e zero le takes ok err responds refuses well ended =
    (failed (fault_number fault), rw well (session-unloaded book config octets line end first last before middle rest fault e zero le takes err), refuses refl held refl)
session-responded book config octets held line (Ok d) Input first last before middle rest input_failed written status e zero le takes ok err responds refuses well ended =
    (closed true [], rw (ended refl) (session-empty book config octets line first last before middle rest d e zero le takes ok), responds refl held refl)
session-responded book config octets held line (Ok d) LineFeed first last before middle rest input_failed written status e zero le takes ok err responds refuses well ended =
    let k = line-known octets line first last before middle e takes in
    let f = responds refl k.0 held k.1 refl in
    (f.0, session-followed book config octets line k.0 input_failed first last before middle rest d f.0 e k.1 zero le takes ok f.1, f.2)

-- a session over octets that are not of the input
pub over-responded : (book : List Entry) (config : Config) (octets held peer : List ℕ) (loaded : Result Debugging SessionFault) (first : ℕ) (before rest : Option (List ℕ)) (input_failed : Bool)
    (written : Option (List ℕ)) (status : ℕ) → before ≡ Some octets → first ≡ 0
    → IfOk loaded (Loads book config (Some peer)) → IfErr loaded (λ fault. fault ≡ load_fault (Some peer) (is_allowed config))
    → IfOk loaded (λ d. IsResponse d LineFeed (most - first) before input_failed rest false (Some held) written status)
    → IfErr loaded (λ fault. IsRefusal fault false (Some held) written status)
    → OnErr loaded (input_failed ≡ false)
    → (t : Printed) × IsSessionOver peer book config octets input_failed rest t × Prints t held written status
over-responded book config octets held peer (Err fault) first before rest input_failed written status e zero ok err responds refuses well =
    let whole = nat_le (length octets) most in
    let lines = cond whole (lines_of octets) (ended_lines (take most octets)) in
    let given : IsGiven most octets input_failed rest lines whole = rw well (refl, refl) in (
      failed (fault_number fault),
      elim (not-loaded book config (Some peer) fault lines whole err) [
        | inl none ↦ inl (ap (λ (f : SessionFault). failed (fault_number f)) none, well)
        | inr loads ↦ inr (lines, whole, given, loads)
      ],
      refuses refl held refl,
    )
over-responded book config octets held peer (Ok d) first before rest input_failed written status e zero ok err responds refuses well =
    let f = responds refl octets held e refl in
    let a = f.1 in
    let given : IsGiven most octets input_failed rest a.0 a.1 = rw zero at a.2 in
    (f.0, inr (a.0, a.1, given, answered-loads book config (Some peer) d a.0 a.1 f.0 ok a.3), f.2)
