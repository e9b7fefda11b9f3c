-- What happens while a server is listened to, one event after another.
use Rattle.std.proofs.lemmas.Bool.{leb-true}
use Rattle.std.proofs.Common.{◌≡◌, ◌≤◌, ℕ, Bool, true, false, ◌&&◌, ◌||◌, not, is_some, nat_le, List, [], ◌∷◌, ◌++◌, length, Option, refl, sym, subst}
use Rattle.h2_cmd_judge.specs.Readings.{read_more}
use Rattle.h2_cmd_exchange.specs.Links.{LinkEvent, Opened, Sent, Got, Quiet, Ended, Late, happened}
use Rattle.h2_cmd_exchange.specs.Plays.{AsksIf, HearsOne, IsGot, Listens, ListensFor, Played, Sends, SendsIf, goes_on, have_answer, heard, is_open, most, probe_frame, taken_if, with_piece}

-- octets came, and more follows
more-by : (asked : Bool) (p p' q : Played) (log log' end : Option (List LinkEvent)) (e : LinkEvent) (es : List LinkEvent)
    → goes_on asked p ≡ true → IsGot e true → p' ≡ heard p e → log' ≡ happened log e → Listens asked p' log' es q end → ListensFor asked p log q end
more-by asked p p' q log log' end (Opened done) es go got same at rest = absurd got
more-by asked p p' q log log' end (Sent octets done) es go got same at rest = absurd got
more-by asked p p' q log log' end (Got octets) es go got same at rest =
    (Got octets ∷ es, (go, subst (λ (r : Played). Listens asked r (happened log (Got octets)) es q end) same (subst (λ (k : Option (List LinkEvent)). Listens asked p' k es q end) at rest)))
more-by asked p p' q log log' end Quiet es go got same at rest = cc
more-by asked p p' q log log' end Ended es go got same at rest = cc
more-by asked p p' q log log' end Late es go got same at rest = cc

pub listens-more : (asked : Bool) (p p' q : Played) (log log' end : Option (List LinkEvent)) → goes_on asked p ≡ true → HearsOne p log true p' log'
    → ListensFor asked p' log' q end → ListensFor asked p log q end
listens-more asked p p' q log log' end go one rest = more-by asked p p' q log log' end one.0 rest.0 go one.1 one.2 one.3 rest.1

-- a connection that is closed, or whose time is over, is listened to no longer
closed-stops : (x y : Bool) → ((x && false) && y) ≡ false
closed-stops true y = refl
closed-stops false y = refl

-- nothing came, and nothing follows
last-by : (asked : Bool) (p p' : Played) (log log' : Option (List LinkEvent)) (e : LinkEvent)
    → goes_on asked p ≡ true → IsGot e false → p' ≡ heard p e → log' ≡ happened log e → ListensFor asked p log p' log'
last-by asked p p' log log' (Opened done) go got same at = absurd got
last-by asked p p' log log' (Sent octets done) go got same at = absurd got
last-by asked p p' log log' (Got octets) go got same at = cc
last-by asked p p' log log' Quiet go got same at = (Quiet ∷ [], (go, (same, at)))
last-by asked p p' log log' Ended go got same at =
    (Ended ∷ [], (go, (closed-stops (not (p.late || not (nat_le (length p.reading.octets) most))) (not (asked && have_answer p.reading.events)), same, at)))
last-by asked p p' log log' Late go got same at = (Late ∷ [], (go, (refl, same, at)))

pub listens-last : (asked : Bool) (p p' : Played) (log log' : Option (List LinkEvent)) → goes_on asked p ≡ true → HearsOne p log false p' log'
    → ListensFor asked p log p' log'
listens-last asked p p' log log' go one = last-by asked p p' log log' one.0 go one.1 one.2 one.3

-- it does not go on
pub listens-none : (asked : Bool) (p : Played) (log : Option (List LinkEvent)) → goes_on asked p ≡ false → ListensFor asked p log p log
listens-none asked p log stop = ([], (stop, refl, refl))

-- ---- pieces

-- the connection is not open: nothing is sent
pub sends-not : (asked : Bool) (piece : List ℕ) (p p' : Played) (log log' : Option (List LinkEvent)) → is_open p ≡ false → p' ≡ p → log' ≡ log
    → Sends asked piece p log p' log'
sends-not asked piece p p' log log' shut same at = subst (λ (b : Bool). SendsIf b asked piece p log p' log') (sym shut) (same, at)

-- it is open
pub sends-one : (asked : Bool) (piece : List ℕ) (p q p' : Played) (log mid log' : Option (List LinkEvent)) (done : Bool) → is_open p ≡ true
    → mid ≡ happened log (Sent piece done) → ListensFor asked (with_piece p) mid q log' → p' ≡ taken_if done q → Sends asked piece p log p' log'
sends-one asked piece p q p' log mid log' done goes sent listens same =
    subst (λ (b : Bool). SendsIf b asked piece p log p' log') (sym goes)
    (done, q, subst (λ (k : Option (List LinkEvent)). ListensFor asked (with_piece p) k q log') sent listens, same)

-- ---- how much is read

within-by : (late fits x y : Bool) → ((not (late || not fits) && x) && y) ≡ true → fits ≡ true
within-by true fits x y go = cc
within-by false true x y go = refl
within-by false false x y go = cc

-- where it goes on, no more has arrived than is read in a case
pub goes_on-within : (asked : Bool) (p : Played) → goes_on asked p ≡ true → length p.reading.octets ≤ most
goes_on-within asked p go =
    leb-true (length p.reading.octets) most
    (within-by p.late (nat_le (length p.reading.octets) most) (not (is_some p.closed)) (not (asked && have_answer p.reading.events)) go)
