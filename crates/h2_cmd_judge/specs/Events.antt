-- What a server is seen to do beside an item that a client sends: what came before it, and what came after it.
use Rattle.std.specs.Prelude.{ℕ, ◌+◌, ◌-◌, ◌^◌, min, ◌==◌, ◌&&◌, ◌||◌, Bool, true, false, not, List, [], ◌∷◌, nat_le, nat_lt, if◌then◌else◌, Option, Some, None}
use Rattle.std.specs.Bool.{then_some}
use Rattle.std.specs.Option.{option_or}
use Rattle.std.specs.Str.{bytes_eq}
use Rattle.h2_cmd_judge.specs.declared.event.Event.{Event}
use Rattle.h2_cmd_judge.specs.declared.event.Event.TheVariants.{Goaway, Reset, Answered, Ended, Acknowledged, Pong, Credit, Unreadable}
use Rattle.h2_cmd_judge.specs.declared.event.Item.{Item}
use Rattle.h2_cmd_judge.specs.declared.event.Seen.{Seen}
use Rattle.h2_cmd_judge.specs.declared.event.Shown.{Shown}

-- a count with more, which stays at 2^64 - 1 once there
abbrev pub plus : ℕ → ℕ → ℕ
plus a b = min (a + b) (2 ^ 64 - 1)

-- the same, where the more counts
abbrev pub added : ℕ → ℕ → Bool → ℕ
added a b counts = if counts then plus a b else a

-- whether an event came before an item
abbrev pub is_before : Item → ℕ → Bool
is_before item after = nat_lt after item.low

-- whether it came after it, and before the next that is judged
abbrev pub is_behind : Item → ℕ → Bool
is_behind item after = nat_le item.low after && nat_lt after item.until

-- whether an event on a stream is on that of the item
abbrev pub is_own : Item → ℕ → Bool
is_own item stream = not (stream == 0) && stream == item.stream

-- whether an event on a stream came after the item, but not as what a server does for it: on another stream, or, on its own,
-- after the next item that is judged
abbrev pub is_elsewhere : Item → (after stream : ℕ) → Bool
is_elsewhere item after stream = if is_own item stream then nat_le item.until after else is_behind item after

-- nothing was seen
abbrev pub nothing : Shown
nothing = record { goaway = None; reset = None; elsewhere = None; answered = None; answered_before = false; was_over = false; is_over = false; had_ended = false; had_reset = false; ended_behind = false; ends = 0; acknowledged = 0; pong = false; credit = 0; stream_credit = 0 }

-- with GOAWAY: NO_ERROR is no error (RFC 9113, 6.8)
abbrev pub with_goaway : Item → Shown → (after code : ℕ) → Shown
with_goaway item s after code = record s {
  goaway = option_or s.goaway (then_some (is_behind item after && not (code == 0)) code);
  was_over = s.was_over || (is_before item after && not (code == 0));
  is_over = s.is_over || (nat_le item.low after && not (code == 0));
}

-- how many times the server has ended or reset a stream before the item
abbrev pub ends_with : Item → (ends after : ℕ) → ℕ
ends_with item ends after = if is_before item after then plus ends 1 else ends

-- with the end of the server's side of a stream (5.1)
abbrev pub with_end : Item → Shown → (after stream : ℕ) → Shown
with_end item s after stream = record s {
  had_ended = s.had_ended || (is_before item after && is_own item stream);
  ended_behind = s.ended_behind || (is_behind item after && is_own item stream);
  ends = ends_with item s.ends after;
}

-- with RST_STREAM, after which the server's side has not ended, but the stream is closed (5.1): NO_ERROR, or any code after the end
-- of the answer, only says that the rest of the request is not needed (8.1)
abbrev pub with_reset : Item → Shown → (after stream code : ℕ) → Shown
with_reset item s after stream code = record s {
  reset = option_or s.reset (then_some (is_behind item after && (is_own item stream && (not (code == 0) && not s.ended_behind))) code);
  elsewhere = option_or s.elsewhere (then_some (is_elsewhere item after stream && not (code == 0)) (stream, code));
  had_reset = s.had_reset || (is_before item after && is_own item stream);
  ends = ends_with item s.ends after;
}

-- with the end of a stream, where an answer has it
abbrev pub with_end_if : Item → Shown → (after stream : ℕ) → Bool → Shown
with_end_if item s after stream true = with_end item s after stream
with_end_if item s after stream false = s

-- with an answer, which may have the end of the stream (8.1)
abbrev pub with_answer : Item → Shown → (after stream status : ℕ) → Bool → Shown
with_answer item s after stream status ends = with_end_if item (record s {
  answered = option_or s.answered (then_some (is_behind item after && is_own item stream) status);
  answered_before = s.answered_before || is_own item stream;
}) after stream ends

-- with an acknowledgement of SETTINGS (6.5.3)
abbrev pub with_acknowledgement : Shown → Shown
with_acknowledgement s = record s { acknowledged = plus s.acknowledged 1 }

-- whether octets are those of the item's PING
abbrev pub is_ping_of : Option (List ℕ) → List ℕ → Bool
is_ping_of (Some own) octets = bytes_eq own octets
is_ping_of None octets = false

-- with an acknowledgement of PING (6.7)
abbrev pub with_pong : Item → Shown → (after : ℕ) → List ℕ → Shown
with_pong item s after octets = record s { pong = s.pong || (nat_le item.low after && is_ping_of item.ping octets) }

-- with octets that the client may send besides (6.9)
abbrev pub with_credit : Item → Shown → (after stream octets : ℕ) → Shown
with_credit item s after stream octets = record s {
  credit = added s.credit octets (is_before item after && stream == 0);
  stream_credit = added s.stream_credit octets (is_before item after && is_own item stream);
}

-- with one more event
abbrev pub with_event : Item → Shown → (after : ℕ) → Event → Shown
with_event item s after (Goaway code) = with_goaway item s after code
with_event item s after (Reset stream code) = with_reset item s after stream code
with_event item s after (Answered stream status ends) = with_answer item s after stream status ends
with_event item s after (Ended stream) = with_end item s after stream
with_event item s after Acknowledged = with_acknowledgement s
with_event item s after (Pong octets) = with_pong item s after octets
with_event item s after (Credit stream octets) = with_credit item s after stream octets
with_event item s after (Unreadable stream) = s

-- what is seen with these events besides
abbrev pub shown_after : Item → Shown → List Seen → Shown
shown_after item s [] = s
shown_after item s (e ∷ es) = shown_after item (with_event item s e.after e.event) es

-- what is seen of a server beside an item
abbrev pub shown_by : Item → List Seen → Shown
shown_by item events = shown_after item nothing events
