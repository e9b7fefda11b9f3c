-- A session, line after line: what follows a text that was printed.
use Rattle.std.proofs.Common.{◌≡◌, ◌∙◌, ◌-◌, ◌<◌, ◌≤◌, ℕ, Bool, true, false, List, [], ◌∷◌, ◌++◌, Option, Some, length, refl, ap, sym, subst}
use Rattle.std.proofs.lemmas.List.{append_assoc, append-nil}
use Rattle.h2_debug.specs.Debugging.{Debugging}
use Rattle.h2_debug.specs.Commands.{command_of}
use Rattle.h2_debug.specs.Reading.{IsCut, TakesLast, TakesLine, most}
use Rattle.h2_debug.specs.Replies.{Obeys}
use Rattle.h2_debug.specs.Session.{IsAnswered, IsFollowed, Printed, closed}
use Rattle.h2_debug.specs.Takes.{TakesNext}
use Rattle.h2_debug.specs.declared.commands.line.LineEnd.{LineEnd}
use Rattle.h2_debug.specs.declared.commands.line.LineEnd.TheVariants.{Input, LineFeed}
use Rattle.h2_debug.proofs.Giving.{cut-given, end-given, last-given, line-given}

-- a text, and after it what is reported
abbrev pub behind : List ℕ → Printed → Printed
behind text t = record { text = text ++ t.text; status = t.status }

closed-behind : (text more : List ℕ) (whole : Bool) → behind text (closed whole more) ≡ closed whole (text ++ more)
closed-behind text more true = refl
closed-behind text more false = ap (λ (x : List ℕ). let t : Printed = record { text = x; status = 1 } in t) (sym (append_assoc text more _))

-- what follows from a later state of the session follows, after the text printed so far, from an earlier one
abbrev pub Continues : Debugging → ℕ → List ℕ → Debugging → ℕ → List ℕ → List ℕ → Type 0
Continues d limit octets e left more text = (failed : Bool) (rest : Option (List ℕ)) (t : Printed) → IsFollowed e left more failed rest t → IsFollowed d limit octets failed rest (behind text t)

pub continues-none : (d : Debugging) (limit : ℕ) (octets : List ℕ) → Continues d limit octets d limit octets []
continues-none d limit octets = λ failed rest t follows. follows

-- a line more
answers-line : (d e : Debugging) (line reply : List ℕ) (lines : List (List ℕ)) (whole : Bool) (t : Printed) → Obeys d (command_of line) reply e → IsAnswered e lines whole t
    → IsAnswered d (line ∷ lines) whole (behind reply t)
answers-line d e line reply lines whole t obeys (text, answers, is) = (
  reply ++ text,
  (reply, e, text, obeys, answers, refl),
  ap (behind reply) is ∙ closed-behind reply text whole,
)

pub continues-line : (d e f : Debugging) (limit first last : ℕ) (octets more rest-octets text line reply : List ℕ) (before after : Option (List ℕ))
    → Continues d limit octets e (most - first) more text → before ≡ Some more → after ≡ Some rest-octets → TakesLine before after first last line → last ≤ most
    → Obeys e (command_of line) reply f → Continues d limit octets f (most - last) rest-octets (text ++ reply)
continues-line d e f limit first last octets more others text line reply before after continues k l takes le obeys = λ failed rest t (lines, whole, given, answered).
    let next : IsFollowed e (most - first) more failed rest (behind reply t)
    = (line ∷ lines, whole, line-given before after first last line more others failed rest lines whole k l takes le given, answers-line e f line reply lines whole t obeys answered) in
    subst (λ (x : List ℕ). let u : Printed = record { text = x; status = t.status } in IsFollowed d limit octets failed rest u) (sym (append_assoc text reply t.text))
    (continues failed rest (behind reply t) next)

-- the last line, which has no line feed
pub follows-last : (d e : Debugging) (first last : ℕ) (more line reply : List ℕ) (before after rest : Option (List ℕ)) → before ≡ Some more → TakesLast before after first last line → last ≤ most
    → 0 < length line → Obeys d (command_of line) reply e → IsFollowed d (most - first) more false rest (closed true reply)
follows-last d e first last more line reply before after rest k takes le some obeys = (
  line ∷ [],
  true,
  last-given before after first last line more rest k takes le some,
  (reply, (reply, e, [], obeys, refl, sym (append-nil reply)), refl),
)

-- the end of the input
pub follows-end : (d : Debugging) (first last limit : ℕ) (more : List ℕ) (before after rest : Option (List ℕ)) → before ≡ Some more → TakesLast before after first last []
    → IsFollowed d limit more false rest (closed true [])
follows-end d first last limit more before after rest k takes = ([], true, end-given before after first last limit more rest k takes, ([], refl, refl))

-- nothing more can be read
pub follows-cut : (d : Debugging) (first : ℕ) (more : List ℕ) (failed : Bool) (before after : Option (List ℕ)) → before ≡ Some more → IsCut before after first failed
    → IsFollowed d (most - first) more failed after (closed false [])
follows-cut d first more failed before after k cut = ([], false, cut-given before after first more failed k cut, ([], refl, refl))

-- a line that does not end with the input ends by a line feed
pub line-feed : (before after : Option (List ℕ)) (first last : ℕ) (octets : List ℕ) (end : LineEnd) → (end ≡ Input → ⊥) → TakesNext before after first last octets (Some end)
    → TakesNext before after first last octets (Some LineFeed)
line-feed before after first last octets LineFeed other takes = takes
line-feed before after first last octets Input other takes = absurd (other refl)
