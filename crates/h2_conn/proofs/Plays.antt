-- Octets in pieces, one after another.
use Rattle.std.proofs.Common.{◌≡◌, ◌∙◌, ℕ, ◌+◌, ◌≤◌, List, [], ◌++◌, length, take, drop, arith, length-take, length-append, refl, sym, ap, subst, append_assoc, false}
use Rattle.std.proofs.Math.Seq.{take-add}
use Rattle.std.proofs.lemmas.List.{append-nil, take-append-drop, take-append-le, take-take}
use Rattle.h2_spec.specs.declared.connection.Phase.{Phase}
use Rattle.h2_spec.specs.declared.connection.Phase.TheVariants as phase
use Rattle.h2_spec.specs.Frames.Parse.{Front, Stop, One}
use Rattle.h2_spec.specs.Requests.Answer.{Entry}
use Rattle.h2_spec.specs.Opening.{opening_octets}
use Rattle.h2_spec.specs.State.{State, opening}
use Rattle.h2_spec.specs.declared.connection.Config.{Config}
use Rattle.h2_spec.specs.Trace.{Event, Run, carried_on, left_by, next_event, sent_octets, trace}
use Rattle.h2_spec.proofs.ParseLaws.{Uses}
use Rattle.h2_spec.proofs.TraceLaws.{event-uses, trace-append}
use Rattle.h2_conn.specs.Connection.{Connection, going}
use Rattle.h2_conn.specs.Runs.{Fed, Halts, Opens, fed}
use Rattle.h2_conn.proofs.Runs.{sent-append, sent-none, trace-stop}

-- of no octets nothing is an item
none-uses : (x : Front State Event) → Uses [] x → x ≡ Stop
none-uses Stop h = refl
none-uses (One e t used) h = absurd (omega (arith, h.0, h.1))

pub empty-stop : (s : State) → next_event s [] ≡ Stop
empty-stop s = none-uses (next_event s []) (event-uses s [])

pub left-none : (p : Phase) → left_by p [] ≡ []
left-none phase.Preface = refl
left-none phase.Settings = refl
left-none phase.Running = refl
left-none (phase.Ended code) = refl

pub fed-none : (c : Connection) (out : List ℕ) → c ≡ going c.state [] → Fed c [] out c out
fed-none c out h =
    let none : trace c.state (c.rest ++ []) ≡ record { events = []; state = c.state; rest = [] }
    = ap (λ (d : Connection). trace c.state (d.rest ++ [])) h ∙ trace-stop c.state [] (empty-stop c.state) ∙ ap (λ (b : List ℕ). record { events = []; state = c.state; rest = b }) (left-none c.state.core.phase) in (
      0,
      record {
        items = ap (λ (r : Run). length r.events) (sym none);
        after = h ∙ ap (λ (r : Run). going r.state r.rest) (sym none);
        sent = sym (ap (λ (r : Run). out ++ sent_octets r.events) none ∙ rw sent-none (append-nil out));
      },
    )

both : (c c' : Connection) (q q' : List ℕ) → c' ≡ going (fed c q).state (fed c q).rest
    → fed c (q ++ q') ≡ record { events = (fed c q).events ++ (fed c' q').events; state = (fed c' q').state; rest = (fed c' q').rest }
unfolding carried_on
both c c' q q' h = rw h (ap (trace c.state) (sym (append_assoc c.rest q q')) ∙ trace-append c.state (c.rest ++ q) q')

pub fed-more : (c c' c'' : Connection) (q q' out out' out'' : List ℕ) → Fed c q out c' out' → Fed c' q' out' c'' out'' → Fed c (q ++ q') out c'' out''
fed-more c c' c'' q q' out out' out'' x y =
    let sum = both c c' q q' x.1.after in (
      x.0 + y.0,
      record {
        items = rw sum (omega (arith, x.1.items, y.1.items, length-append (fed c q).events (fed c' q').events));
        after = y.1.after ∙ ap (λ (r : Run). going r.state r.rest) (sym sum);
        sent = y.1.sent ∙ rw (sum, sent-append (fed c q).events (fed c' q').events, x.1.sent) (append_assoc out (sent_octets (fed c q).events) (sent_octets (fed c' q').events));
      },
    )

-- what a new connection results in
pub opened : (book : List Entry) (config : Config) (octets out first last : List ℕ) (c c' : Connection) → c ≡ going (opening book config) [] → first ≡ out ++ opening_octets config
    → Fed c octets first c' last → Opens book config octets out c' last
opened book config octets out first last c c' new begun x =
    let run = ap (λ (d : Connection). fed d octets) new in
    record {
      sent = x.1.sent ∙ ap (λ (r : Run). first ++ sent_octets r.events) run ∙ ap (λ (o : List ℕ). o ++ sent_octets (fed (going (opening book config) []) octets).events) begun;
      after = x.1.after ∙ ap (λ (r : Run). going r.state r.rest) run;
    }

-- ---- what is kept at the front

pub kept-more : (o p q m : List ℕ) → take (length o) p ≡ o → q ≡ p ++ m → take (length o) q ≡ o
kept-more o p q m h e =
    let within : length o ≤ length p = omega (arith, length-take (length o) p, ap length h) in
    rw (e, take-append-le (length o) p m within) h

-- a cut within what is kept
pub cut-behind : (n : ℕ) (o q : List ℕ) → n ≤ length o → take (length o) q ≡ o → take n q ≡ take n o
cut-behind n o q within h = sym (take-take n (length o) q within) ∙ ap (take n) h

pub fed-kept : (c c' : Connection) (q o out out' : List ℕ) → Fed c q out c' out' → take (length o) out ≡ o → take (length o) out' ≡ o
fed-kept c c' q o out out' x h = kept-more o out out' (sent_octets (fed c q).events) h x.1.sent

pub halts-kept : (c c' : Connection) (q o out out' : List ℕ) → Halts c q out c' out' → take (length o) out ≡ o → take (length o) out' ≡ o
halts-kept c c' q o out out' x h = kept-more o out out' (sent_octets (take x.items (fed c q).events)) h x.sent

pub fed-going : (c c' : Connection) (q out out' : List ℕ) → Fed c q out c' out' → c'.failed ≡ false
fed-going c c' q out out' x = ap (λ (d : Connection). d.failed) x.1.after

-- ---- octets in pieces

pub piece-fed : (c c' c'' : Connection) (octets : List ℕ) (at count : ℕ) (piece out out' out'' : List ℕ) → piece ≡ take count (drop at octets)
    → Fed c (take at octets) out c' out' → Fed c' piece out' c'' out'' → Fed c (take (at + count) octets) out c'' out''
piece-fed c c' c'' octets at count piece out out' out'' e x y =
    subst (λ (b : List ℕ). Fed c b out c'' out'') (ap (λ (q : List ℕ). take at octets ++ q) e ∙ sym (take-add at count octets))
    (fed-more c c' c'' (take at octets) piece out out' out'' x y)

pub rest-fed : (c c' c'' : Connection) (octets : List ℕ) (at : ℕ) (piece out out' out'' : List ℕ) → piece ≡ drop at octets
    → Fed c (take at octets) out c' out' → Fed c' piece out' c'' out'' → Fed c octets out c'' out''
rest-fed c c' c'' octets at piece out out' out'' e x y =
    subst (λ (b : List ℕ). Fed c b out c'' out'') (ap (λ (q : List ℕ). take at octets ++ q) e ∙ take-append-drop at octets)
    (fed-more c c' c'' (take at octets) piece out out' out'' x y)
