-- Runs that keep to the grants, and frames that do not, with the tests that they fail; and that what is computed
-- decides the tests.
use Rattle.std.proofs.Common.{◌≡◌, ℕ, zero, suc, ◌+◌, ◌≤◌, Bool, true, false, not, ◌&&◌, ◌||◌, List, [], ◌∷◌, ◌++◌, length, take, drop, refl, sym, ap, ◌∙◌, eqb}
use Rattle.std.proofs.lemmas.Bool.{le-leb, leb-true}
use Rattle.std.proofs.lemmas.Bool.Decides.{Decides-eqb, Decides-and, Decides-or}
use Rattle.std.proofs.lemmas.List.{take_at, take-append-drop}
use Rattle.std.proofs.lemmas.Slice.Eq.{bytes_eq-Decides}
use Rattle.std.specs.Bool.{Decides}
use Rattle.std.specs.Prelude.{codes, replicate, nat_le}
use Prim.Native.String.{String}
use Rattle.h2_spec.specs.declared.connection.Config.{Config}
use Rattle.h2_spec.specs.Frames.FrameType.{DATA, HEADERS, RST_STREAM, END_STREAM, END_HEADERS}
use Rattle.h2_spec.specs.Frames.Frame.{Frame, frame}
use Rattle.h2_spec.specs.Requests.Answer.{Entry, answer}
use Rattle.h2_spec.specs.State.{limits, opening}
use Rattle.h2_spec.specs.Trace.{Event, trace}
use Rattle.h2_spec_laws.specs.Grants.{StreamTally, Tally, When, AtEach, IsWithinStream, IsWithinFrameSize, IsInOrder, IsBeforeEnd, IsPrefixOf, IsOfBody, IsUsedUp, body_or_nothing, is_headers_on, is_data_on, is_unfinished, sends_data, sent_one, sent_all, start, Meets}
use Rattle.h2_spec_laws.specs.GrantsTest.{Test, WithinConnection, WithinStream, WithinFrameSize, AnswersOnce, SilentAfterEnd, NothingHeldBack, when, at_each, is_within_connection, is_within_stream, is_within_frame_size, is_in_order, is_prefix, is_of_body, is_before_end, is_used_up, fails, failing, failing_in}
use Rattle.h2_spec.specs.SendPending.{data_frames}
use Rattle.h2_spec_examples.proofs.Hex.{hex}

-- ---- what is computed decides the tests

nat_le-Decides : (m n : ℕ) → Decides (nat_le m n) (m ≤ n)
nat_le-Decides m n = (leb-true m n, le-leb m n)

not-Decides : (b : Bool) → Decides (not b) (b ≡ false)
not-Decides true = (λ e. sym e, λ e. sym e)
not-Decides false = (λ e. refl, λ e. refl)

when-Decides : (P : Type 0) (a b : Bool) → Decides b P → Decides (when a b) (When a P)
when-Decides P true b d = d
when-Decides P false b d = (λ e. tt, λ h. refl)

each-Decides : (P : Tally → Frame → Type 0) (test : Tally → Frame → Bool) → ((t : Tally) (f : Frame) → Decides (test t f) (P t f)) → (id : ℕ) (t : Tally) (fs : List Frame) → Decides (at_each test id t fs) (AtEach P id t fs)
each-Decides P test d id t [] = (λ e. tt, λ h. refl)
each-Decides P test d id t (f ∷ fs) = Decides-and (test t f) (at_each test id (sent_one id t f) fs) (d t f) (each-Decides P test d id (sent_one id t f) fs)

prefix-Decides : (xs ys : List ℕ) → Decides (is_prefix xs ys) (IsPrefixOf xs ys)
prefix-Decides xs ys =
    let same = bytes_eq-Decides (take (length xs) ys) xs in (
      λ e. (drop (length xs) ys, ap (λ zs. zs ++ drop (length xs) ys) (sym (same.0 e)) ∙ take-append-drop (length xs) ys),
      λ h. same.1 (ap (take (length xs)) (sym h.1) ∙ take_at xs h.0 (length xs) refl),
    )

frame_size-Decides : (t : Tally) (f : Frame) → Decides (is_within_frame_size t f) (IsWithinFrameSize t f)
frame_size-Decides t f = when-Decides (length f.payload ≤ t.frame) (eqb f.kind 0) _ (nat_le-Decides (length f.payload) t.frame)

order-Decides : (id : ℕ) (t : Tally) (f : Frame) → Decides (is_in_order id t f) (IsInOrder id t f)
order-Decides id t f =
    Decides-and _ _
    (when-Decides (t.on_stream.headers ≡ 0) (is_headers_on id f) _ (Decides-eqb t.on_stream.headers 0))
    (when-Decides (t.on_stream.headers ≡ 1) (is_data_on id f) _ (Decides-eqb t.on_stream.headers 1))

end-Decides : (id : ℕ) (t : Tally) (f : Frame) → Decides (is_before_end id t f) (IsBeforeEnd id t f)
end-Decides id t f =
    Decides-and _ _
    (when-Decides (t.on_stream.ended ≡ false) (is_headers_on id f || is_data_on id f) _ (not-Decides t.on_stream.ended))
    (when-Decides (t.on_stream.reset ≡ false) (eqb f.stream id) _ (not-Decides t.on_stream.reset))

body-Decides : (m : StreamTally) → Decides (is_of_body m) (IsOfBody m)
body-Decides m =
    Decides-and _ _ (prefix-Decides m.content (body_or_nothing m.promised))
    (when-Decides (m.content ≡ body_or_nothing m.promised) m.ended _ (bytes_eq-Decides m.content (body_or_nothing m.promised)))

used_up-Decides : (t : Tally) → Decides (is_used_up t) (IsUsedUp t)
used_up-Decides t = Decides-or _ _ (Decides-eqb t.sent (65535 + t.granted)) (nat_le-Decides (t.window + t.on_stream.granted) (length t.on_stream.content))

-- the list of those that fail is empty where each holds
fails-nothing : (test : Test) (b : Bool) (rest : List Test) → fails test b rest ≡ [] → (b ≡ true) × (rest ≡ [])
fails-nothing test true rest e = (refl, e)
fails-nothing test false rest e = absurd (cc)

-- no test fails exactly where all that is asked for after an item holds
failing-decides : (id : ℕ) (ends : Bool) (t : Tally) (sent : List Frame) → (failing id ends t sent ≡ [] → Meets id ends t sent) × (Meets id ends t sent → failing id ends t sent ≡ [])
failing-decides id ends t sent = (hold, none)
  where
    u : Tally
    u = sent_all id t sent

    a : Decides (is_within_connection u) (u.sent ≤ 65535 + u.granted)
    a = nat_le-Decides u.sent (65535 + u.granted)

    b : Decides (when (sends_data id sent) (is_within_stream u)) (When (sends_data id sent) (IsWithinStream u))
    b = when-Decides (IsWithinStream u) (sends_data id sent) (is_within_stream u) (nat_le-Decides (length u.on_stream.content) (u.window + u.on_stream.granted))

    c : Decides (at_each is_within_frame_size id t sent) (AtEach IsWithinFrameSize id t sent)
    c = each-Decides IsWithinFrameSize is_within_frame_size frame_size-Decides id t sent

    d : Decides (at_each (is_in_order id) id t sent && is_of_body u.on_stream) (AtEach (IsInOrder id) id t sent × IsOfBody u.on_stream)
    d = Decides-and _ _ (each-Decides (IsInOrder id) (is_in_order id) (order-Decides id) id t sent) (body-Decides u.on_stream)

    e : Decides (at_each (is_before_end id) id t sent) (AtEach (IsBeforeEnd id) id t sent)
    e = each-Decides (IsBeforeEnd id) (is_before_end id) (end-Decides id) id t sent

    f : Decides (when (not ends && is_unfinished u.on_stream) (is_used_up u)) (When (not ends && is_unfinished u.on_stream) (IsUsedUp u))
    f = when-Decides (IsUsedUp u) (not ends && is_unfinished u.on_stream) (is_used_up u) (used_up-Decides u)

    none : Meets id ends t sent → failing id ends t sent ≡ []
    none m = rw (a.1 m.within_connection, b.1 m.within_stream, c.1 m.within_frame_size, d.1 m.answers_once, e.1 m.silent_after_end, f.1 m.nothing_held_back) refl

    hold : failing id ends t sent ≡ [] → Meets id ends t sent
    hold h =
        let h1 = fails-nothing WithinConnection _ _ h in
        let h2 = fails-nothing WithinStream _ _ h1.1 in
        let h3 = fails-nothing WithinFrameSize _ _ h2.1 in
        let h4 = fails-nothing AnswersOnce _ _ h3.1 in
        let h5 = fails-nothing SilentAfterEnd _ _ h4.1 in
        let h6 = fails-nothing NothingHeldBack _ _ h5.1 in
        record { within_connection = a.0 h1.0; within_stream = b.0 h2.0; within_frame_size = c.0 h3.0; answers_once = d.0 h4.0; silent_after_end = e.0 h5.0; nothing_held_back = f.0 h6.0 }

-- ---- runs

default : Config
default = limits 100 32768

-- a book of one answer: 200 to GET of /
abbrev get : List ℕ → List Entry
get body = record { method = codes "GET"; path = codes "/"; answer = answer 200 [] body } ∷ []

-- the preface, and then these octets
events : List Entry → String → List Event
unfolding trace default
events book octets = (trace (opening book default) (hex (codes "505249202a20485454502f322e300d0a0d0a534d0d0a0d0a" ++ codes octets))).events

-- the tests that fail after each item, on this stream
tests : List Entry → ℕ → List Event → List (List Test)
unfolding default
tests book id es = failing_in book id (opening book default) start es

-- those that fail, with the number of the item from 0
abbrev numbered : ℕ → List (List Test) → List (ℕ × Test)
numbered n [] = []
numbered n ([] ∷ rest) = numbered (n + 1) rest
numbered n ((test ∷ more) ∷ rest) = (n, test) ∷ numbered n (more ∷ rest)

refused_by : List Entry → ℕ → List Event → List (ℕ × Test)
unfolding tests
refused_by book id es = numbered 0 (tests book id es)

-- a run up to the item with this number, for which these frames are sent instead
abbrev edited : ℕ → List Frame → List Event → List Event
edited n fs [] = []
edited zero fs (e ∷ es) = record e { sent = fs } ∷ []
edited (suc n) fs (e ∷ es) = e ∷ edited n fs es

abbrev data_on : ℕ → ℕ → List ℕ → Frame
data_on id flags payload = frame DATA flags id payload

abbrev headers_on : ℕ → Frame
headers_on id = frame HEADERS END_HEADERS id (136 ∷ [])

-- ---- right runs

short : List Entry
short = get (codes "hi")

-- SETTINGS, a GET that is answered at once
answered : List Event
unfolding events short
answered = events short "000000040000000000000003010500000001828684"

answer_at_once : tests short 1 answered ≡ [] ∷ [] ∷ [] ∷ []
unfolding tests short answered
answer_at_once = refl

-- the initial window 0, a GET, WINDOW_UPDATE of 1 on its stream twice
granted_by_one : List Event
unfolding events short
granted_by_one = events short "0000060400000000000004000000000000030105000000018286840000040800000000010000000100000408000000000100000001"

octet_by_octet : tests short 1 granted_by_one ≡ [] ∷ [] ∷ [] ∷ [] ∷ [] ∷ []
unfolding tests short granted_by_one
octet_by_octet = refl

-- an answer that begins before its request has ended
early : List Entry
early = record { method = codes "GET"; path = codes "/"; answer = record (answer 200 [] (codes "hi")) { early = true } } ∷ []

-- SETTINGS, the fields of a GET, which is answered at once, and DATA
answered_early : List Event
unfolding events early
answered_early = events early "000000040000000000000003010400000001828684000003000000000001616263"

early_answer : tests early 1 answered_early ≡ [] ∷ [] ∷ [] ∷ [] ∷ []
unfolding tests early answered_early
early_answer = refl

-- the initial window 0, the fields of a GET, DATA that ends it, WINDOW_UPDATE of 2
granted_behind_its_request : List Event
unfolding events early
granted_behind_its_request = events early "00000604000000000000040000000000000301040000000182868400000000010000000100000408000000000100000002"

body_behind_its_request : tests early 1 granted_behind_its_request ≡ [] ∷ [] ∷ [] ∷ [] ∷ [] ∷ []
unfolding tests early granted_behind_its_request
body_behind_its_request = refl

long : List Entry
long = get (replicate 70000 120)

-- the initial window 100,000, GETs on two streams of 70,000 octets each, which the connection's window holds back,
-- and 5,000 more octets for both
two_long : List Event
unfolding events long
two_long = events long "0000060400000000000004000186a000000301050000000182868400000301050000000382868400000408000000000000001388"

-- on each of the two streams
both : List Event → List (List (List Test))
both es = tests long 1 es ∷ tests long 3 es ∷ []

both_of_two : both two_long ≡ ([] ∷ [] ∷ [] ∷ [] ∷ [] ∷ []) ∷ ([] ∷ [] ∷ [] ∷ [] ∷ [] ∷ []) ∷ []
unfolding both tests long two_long
both_of_two = refl

-- ---- wrong frames, and the tests that refuse them

held_back : refused_by short 1 (edited 3 [] granted_by_one) ≡ (3, NothingHeldBack) ∷ []
unfolding refused_by short granted_by_one
held_back = refl

one_octet_too_much : refused_by short 1 (edited 3 (data_on 1 END_STREAM (codes "hi") ∷ []) granted_by_one) ≡ (3, WithinStream) ∷ []
unfolding refused_by short granted_by_one
one_octet_too_much = refl

wrong_octet : refused_by short 1 (edited 3 (data_on 1 0 (codes "i") ∷ []) granted_by_one) ≡ (3, AnswersOnce) ∷ []
unfolding refused_by short granted_by_one
wrong_octet = refl

ended_early : refused_by short 1 (edited 3 (data_on 1 END_STREAM (codes "h") ∷ []) granted_by_one) ≡ (3, AnswersOnce) ∷ []
unfolding refused_by short granted_by_one
ended_early = refl

body_again_from_its_start : refused_by short 1 (edited 4 (data_on 1 0 (codes "h") ∷ []) granted_by_one) ≡ (4, AnswersOnce) ∷ []
unfolding refused_by short granted_by_one
body_again_from_its_start = refl

second_response : refused_by short 1 (edited 3 (headers_on 1 ∷ data_on 1 0 (codes "h") ∷ []) granted_by_one) ≡ (3, AnswersOnce) ∷ []
unfolding refused_by short granted_by_one
second_response = refl

second_response_at_the_end_of_the_request : refused_by early 1 (edited 3 (headers_on 1 ∷ []) granted_behind_its_request) ≡ (3, AnswersOnce) ∷ []
unfolding refused_by early granted_behind_its_request
second_response_at_the_end_of_the_request = refl

data_behind_an_early_answer : refused_by early 1 (edited 3 (data_on 1 0 [] ∷ []) answered_early) ≡ (3, SilentAfterEnd) ∷ []
unfolding refused_by early answered_early
data_behind_an_early_answer = refl

data_before_headers : refused_by short 1 (edited 2 (data_on 1 END_STREAM (codes "hi") ∷ []) answered) ≡ (2, AnswersOnce) ∷ []
unfolding refused_by short answered
data_before_headers = refl

never_ended : refused_by short 1 (edited 2 (headers_on 1 ∷ data_on 1 0 (codes "hi") ∷ []) answered) ≡ (2, NothingHeldBack) ∷ []
unfolding refused_by short answered
never_ended = refl

data_behind_the_end : refused_by short 1 (edited 2 (headers_on 1 ∷ data_on 1 END_STREAM (codes "hi") ∷ data_on 1 0 [] ∷ []) answered) ≡ (2, SilentAfterEnd) ∷ []
unfolding refused_by short answered
data_behind_the_end = refl

-- the initial window 1, a GET, RST_STREAM, WINDOW_UPDATE of 1 on the stream that is reset
reset_by_peer : List Event
unfolding events short
reset_by_peer = events short "0000060400000000000004000000010000030105000000018286840000040300000000010000000800000408000000000100000001"

nothing_after_reset : tests short 1 reset_by_peer ≡ [] ∷ [] ∷ [] ∷ [] ∷ [] ∷ []
unfolding tests short reset_by_peer
nothing_after_reset = refl

data_behind_its_reset : refused_by short 1 (edited 4 (data_on 1 END_STREAM (codes "i") ∷ []) reset_by_peer) ≡ (4, SilentAfterEnd) ∷ []
unfolding refused_by short reset_by_peer
data_behind_its_reset = refl

-- the initial window 1, a GET, DATA where the peer has ended its side
reset_by_us : List Event
unfolding events short
reset_by_us = events short "000006040000000000000400000001000003010500000001828684000003000000000001616263"

data_behind_our_reset : refused_by short 1 (edited 3 (frame RST_STREAM 0 1 (0 ∷ 0 ∷ 0 ∷ 5 ∷ []) ∷ data_on 1 0 [] ∷ []) reset_by_us) ≡ (3, SilentAfterEnd) ∷ []
unfolding refused_by short reset_by_us
data_behind_our_reset = refl

-- wrong frames for those of the two streams
one_data_an_item : List Event → List Event
one_data_an_item es = edited 2 (headers_on 1 ∷ data_on 1 0 (replicate 16384 120) ∷ []) es

longer_than_the_frame_size : List Event → List Event
unfolding data_frames
longer_than_the_frame_size es = edited 2 (headers_on 1 ∷ data_frames 1 false 16385 (replicate 65535 120)) es

-- as if the initial window moved the connection's window too
past_the_connection_window : List Event → List Event
unfolding data_frames
past_the_connection_window es = edited 2 (headers_on 1 ∷ data_frames 1 true 16384 (replicate 70000 120)) es

-- the rest of the first, and on the second as much as if it were alone
connection_window_given_twice : List Event → List Event
unfolding data_frames
connection_window_given_twice es = edited 4 (data_frames 1 true 16384 (replicate 4465 120) ++ data_frames 3 false 16384 (replicate 5000 120)) es

long_refusals : List Event → List (List (ℕ × Test))
long_refusals es =
    refused_by long 1 (one_data_an_item es) ∷ refused_by long 1 (longer_than_the_frame_size es) ∷ refused_by long 1 (past_the_connection_window es) ∷
    refused_by long 1 (connection_window_given_twice es) ∷ []

long_runs_are_refused : long_refusals two_long ≡ ((2, NothingHeldBack) ∷ []) ∷ ((2, WithinFrameSize) ∷ []) ∷ ((2, WithinConnection) ∷ []) ∷ ((4, WithinConnection) ∷ []) ∷ []
unfolding long_refusals one_data_an_item longer_than_the_frame_size past_the_connection_window connection_window_given_twice refused_by long two_long
long_runs_are_refused = refl
