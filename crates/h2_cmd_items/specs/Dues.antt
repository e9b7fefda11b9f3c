-- Which items of a case are judged, and what has to be known of those before and after each.
use Rattle.std.specs.Prelude.{ℕ, ◌+◌, ◌-◌, ◌^◌, min, max, ◌==◌, ◌&&◌, ◌||◌, Bool, true, false, not, nat_lt, is_some, if◌then◌else◌, List, [], ◌∷◌, ◌++◌, Option, Some, None}
use Rattle.h2_spec.specs.declared.causes.Cause.{Cause}
use Rattle.h2_spec.specs.declared.causes.Cause.TheVariants.{BadContentLength, BadPreface, ConnectionWindowExceeded, ContentTooLong, FrameTooLarge, InitialWindowSizeOverflow, StreamFrameTooLarge, StreamWindowExceeded, UnknownPseudoField}
use Rattle.h2_cmd_judge.specs.declared.case.Due.{Due}
use Rattle.h2_cmd_judge.specs.declared.event.Condition.{Condition}
use Rattle.h2_cmd_judge.specs.declared.event.Condition.TheVariants.{Always, Frame, Windows, Protocol, Streams}
use Rattle.h2_cmd_judge.specs.declared.event.Item.{Item}
use Rattle.h2_cmd_items.specs.SentItems.{plus}
use Rattle.h2_cmd_items.specs.declared.due.Whole.{Whole}
use Rattle.h2_cmd_items.specs.declared.sent.Sent.{Sent}

-- ---- items

abbrev pub is_error : Sent → Bool
is_error s = is_some s.cause

-- it is an error, or no block is open after it
abbrev pub is_whole : Sent → Bool
is_whole s = is_error s || not s.opens

-- one of these is an error
abbrev pub have_error : List Sent → Bool
have_error [] = false
have_error (s ∷ ss) = is_error s || have_error ss

-- one of these ends the client's side of a stream (RFC 9113, 5.1)
abbrev pub have_end : (stream : ℕ) → List Sent → Bool
have_end stream [] = false
have_end stream (s ∷ ss) = (s.ends && s.stream == stream) || have_end stream ss

-- one of these resets a stream, or is an error on it, after which the server resets it or ends the connection (5.4)
abbrev pub closes : (stream : ℕ) → Sent → Bool
closes stream s = (s.resets || is_error s) && s.stream == stream

abbrev pub have_close : (stream : ℕ) → List Sent → Bool
have_close stream [] = false
have_close stream (s ∷ ss) = closes stream s || have_close stream ss

-- the window of a new stream that the client gives after these, or, where there are none, before them (6.5.2)
abbrev pub window_after : ℕ → List Sent → ℕ
window_after window [] = window
window_after window (s ∷ ss) = window_after s.window ss

-- octets that WINDOW_UPDATE lets be sent besides on a stream (6.9)
abbrev pub with_increment : (count stream : ℕ) → Sent → ℕ
with_increment count stream s = if s.stream == stream then plus count s.increment else count

abbrev pub increments_on : (count stream : ℕ) → List Sent → ℕ
increments_on count stream [] = count
increments_on count stream (s ∷ ss) = increments_on (with_increment count stream s) stream ss

-- the client lets no octet be sent on a stream: its window is 0 after all items of the case (6.9.1 and 6.9.2)
abbrev pub is_shut : (stream : ℕ) → (upto behind : List Sent) → Bool
is_shut stream upto behind =
    window_after (window_after 65535 upto) behind == 0 && increments_on (increments_on 0 stream upto) stream behind == 0

-- a request on a stream has to be answered: the client has ended it, does not reset it, has no error on it, and lets octets be sent
-- on it (8.1). With a window of 0 no part of an answer has to be sent, its fields neither
abbrev pub is_owed : (stream : ℕ) → (upto behind : List Sent) → Bool
is_owed stream upto behind = have_end stream upto && (not (have_close stream behind) && not (is_shut stream upto behind))

-- a count with one more, where an item is SETTINGS; it stays at 2^32 - 1 once there
abbrev pub with_settings : ℕ → Sent → ℕ
with_settings count s = if s.is_settings then min (count + 1) (2 ^ 32 - 1) else count

-- how many SETTINGS have to be acknowledged, those before these included (6.5.3)
abbrev pub acknowledgements : ℕ → List Sent → ℕ
acknowledgements count [] = count
acknowledgements count (s ∷ ss) = acknowledgements (with_settings count s) ss

-- more octets of DATA, on a stream, or on any where that is 0
abbrev pub with_data : (count stream : ℕ) → Sent → ℕ
with_data count stream s = if s.is_data && (stream == 0 || s.stream == stream) then plus count s.length else count

abbrev pub data_on : (count stream : ℕ) → List Sent → ℕ
data_on count stream [] = count
data_on count stream (s ∷ ss) = data_on (with_data count stream s) stream ss

-- the highest stream that these are on
abbrev pub highest : ℕ → List Sent → ℕ
highest found [] = found
highest found (s ∷ ss) = highest (max found s.stream) ss

-- ---- what is judged next

-- the number of the first error, or of its block's first item; 2^32 - 1 where there is none
abbrev pub first_error : List Sent → ℕ
first_error [] = 2 ^ 32 - 1
first_error (s ∷ ss) = if is_error s then s.low else first_error ss

-- the same of the first that is an error, or after which no block is open
abbrev pub first_whole : List Sent → ℕ
first_whole [] = 2 ^ 32 - 1
first_whole (s ∷ ss) = if is_whole s then s.low else first_whole ss

-- an error is judged, and before the first error also anything else, a fragment of a block with its end
abbrev pub is_judged : (before : List Sent) → Sent → Bool
is_judged before s = is_error s || (not s.opens && not (have_error before))

-- the number of the next item that is judged: after an error only errors are
abbrev pub until_of : Sent → (behind : List Sent) → ℕ
until_of s behind = if is_error s then first_error behind else first_whole behind

-- ---- an item as it is judged

-- what decides whether the rule of an item with this cause can be broken
abbrev pub condition_by : Option Cause → (upto : List Sent) → Sent → Condition
condition_by (Some FrameTooLarge) upto s = Frame s.length
condition_by (Some StreamFrameTooLarge) upto s = Frame s.length
condition_by (Some ConnectionWindowExceeded) upto s = Windows (data_on 0 0 upto) (data_on 0 s.stream upto)
condition_by (Some StreamWindowExceeded) upto s = Windows (data_on 0 0 upto) (data_on 0 s.stream upto)
condition_by (Some UnknownPseudoField) upto s = if s.has_protocol then Protocol else Always
condition_by (Some InitialWindowSizeOverflow) upto s = Streams
condition_by _ upto s = Always

-- whether a server may wait for more octets: for the end of a request whose content is too long or too short (8.1.1), for a
-- whole preface, for the payload of a frame, or for the end of what is unfinished
abbrev pub waits_by : Option Cause → (ends : Bool) → Sent → Whole → Bool
waits_by (Some ContentTooLong) ends s w = not ends
waits_by (Some BadContentLength) ends s w = not ends
waits_by (Some BadPreface) ends s w = true
waits_by (Some FrameTooLarge) ends s w = nat_lt (w.length - s.end) s.length
waits_by (Some StreamFrameTooLarge) ends s w = nat_lt (w.length - s.end) s.length
waits_by _ ends s w = w.is_unfinished

abbrev pub settings_of : (upto : List Sent) → Sent → Option ℕ
settings_of upto s = if s.is_settings then Some (acknowledgements 0 upto) else None

abbrev pub item_of : (upto : List Sent) → Sent → (behind : List Sent) → Whole → Item
item_of upto s behind w = record {
  number = s.number;
  low = s.low;
  until = until_of s behind;
  stream = s.stream;
  ping = s.ping;
  settings = settings_of upto s;
  is_owed = is_owed s.stream upto behind;
  is_begun = s.is_begun;
  waits = waits_by s.cause (have_end s.stream upto || have_end s.stream behind) s w;
  has_goaway = s.has_goaway;
  is_acknowledged = s.is_acknowledged;
  is_last = until_of s behind == 2 ^ 32 - 1;
  condition = condition_by s.cause upto s;
  rule = s.row.duties.conforming;
}

abbrev pub due_of : (upto : List Sent) → Sent → (behind : List Sent) → Whole → Due
due_of upto s behind w = record { item = item_of upto s behind w; is_left = w.is_tagged || s.is_left }

abbrev pub due_if : Bool → Due → List Due
due_if true due = due ∷ []
due_if false due = []

-- ---- those of a case

-- the items that are judged, after these
abbrev pub dues_behind : Whole → (before : List Sent) → List Sent → List Due
dues_behind w before [] = []
dues_behind w before (s ∷ ss) = due_if (is_judged before s) (due_of (before ++ s ∷ []) s ss w) ++ dues_behind w (before ++ s ∷ []) ss

-- the items that are judged
abbrev pub dues : Whole → List Sent → List Due
dues w items = dues_behind w [] items

abbrev pub sent_if : Bool → Sent → List Sent
sent_if true s = s ∷ []
sent_if false s = []

-- those of the items that are judged, as they were sent, after these
abbrev pub judged_behind : (before : List Sent) → List Sent → List Sent
judged_behind before [] = []
judged_behind before (s ∷ ss) = sent_if (is_judged before s) s ++ judged_behind (before ++ s ∷ []) ss
