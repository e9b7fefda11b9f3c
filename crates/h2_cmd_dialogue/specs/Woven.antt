-- What goes out for each item of a client, where a script adds frames to what the server sends.
use Rattle.std.specs.Prelude.{ℕ, zero, suc, ◌+◌, ◌%◌, min, ◌==◌, ◌&&◌, not, Bool, true, false, List, [], ◌∷◌, ◌++◌, length, take, drop, slice_get, flat_map, option_to_list, if◌then◌else◌, Option, Some, None, Result, Ok, Err}
use Rattle.std.specs.List.{list_any}
use Rattle.h2_explain_words.specs.Sent.{FirstFrame, first_frame}
use Rattle.h2_spec.specs.declared.frames.Head.{Head}
use Rattle.h2_spec.specs.declared.causes.Cause.{Cause}
use Rattle.h2_spec.specs.Frames.Frame.{frame, frame_octets}
use Rattle.h2_spec.specs.Frames.Payload.{Part, part_of, OfData, OfHeaders, OfPriority, OfRstStream, OfSettings, OfSettingsAck, OfPushPromise, OfPing, OfGoaway, OfWindowUpdate, OfContinuation, OfUnknown}
use Rattle.h2_spec.specs.Octets.{big_endian}
use Rattle.h2_cmd_dialogue.specs.declared.verdict.WantedLine.{WantedLine}
use Rattle.h2_cmd_dialogue.specs.Steps.{Incoming, ScriptFrame, Step, based, names, probe, with_request}

-- how many steps were taken, one less than the stream of the client's first request, and the streams that the script has reset
pub record Weaving : Type 0 where
  pub taken : ℕ
  pub base : Option ℕ
  pub reset : List ℕ

abbrev pub no_steps_taken : Weaving
no_steps_taken = record { taken = 0; base = None; reset = [] }

abbrev pub base_of : Option ℕ → ℕ
base_of (Some base) = base
base_of None = 0

-- ---- what the server sends

-- a frame at the front of octets, where the script has reset its stream, or where it has not
abbrev pub picked_frame : (is_stopped : Bool) → List ℕ → Head → List ℕ → List ℕ
picked_frame false reset h octets = if list_any (λ n. n == h.stream) reset then [] else take (9 + h.length) octets
picked_frame true reset h octets = if list_any (λ n. n == h.stream) reset then take (9 + h.length) octets else []

abbrev pub picked_first : Bool → List ℕ → List ℕ → Option FirstFrame → (List ℕ → List ℕ) → List ℕ
picked_first is_stopped reset octets None follow = []
picked_first is_stopped reset octets (Some f) follow = picked_frame is_stopped reset f.head octets ++ follow f.rest

-- of at most this many frames
abbrev pub picked_frames : Bool → List ℕ → ℕ → List ℕ → List ℕ
picked_frames is_stopped reset zero octets = []
picked_frames is_stopped reset (suc more) octets = picked_first is_stopped reset octets (first_frame octets) (picked_frames is_stopped reset more)

-- what the server sends, without the frames on streams that the script has reset (RFC 9113, 5.1): all where that is none
abbrev pub kept : List ℕ → List ℕ → List ℕ
kept [] octets = octets
kept (stream ∷ reset) octets = picked_frames false (stream ∷ reset) (length octets) octets

-- those frames
abbrev pub stopped : List ℕ → List ℕ → List ℕ
stopped [] octets = []
stopped (stream ∷ reset) octets = picked_frames true (stream ∷ reset) (length octets) octets

-- ---- what the script sends

-- the number of a stream in a head, with the reserved bit
abbrev pub stream_sent : (base : ℕ) → Head → ℕ
stream_sent base h = if h.reserved then min (based base h.stream + 2147483648) 4294967295 else based base h.stream

abbrev pub last_of : (base last : ℕ) → Option ℕ
last_of base last = if (last % 2 == 1) && not (last == 2147483647) then Some (min (last + base) 4294967295) else None

abbrev pub last_part : (base : ℕ) → Part → Option ℕ
last_part base (OfData d) = None
last_part base (OfHeaders p) = None
last_part base OfPriority = None
last_part base (OfRstStream code) = None
last_part base (OfSettings pairs) = None
last_part base OfSettingsAck = None
last_part base OfPushPromise = None
last_part base (OfPing octets) = None
last_part base (OfGoaway last code) = last_of base last
last_part base (OfWindowUpdate octets) = None
last_part base (OfContinuation fragment) = None
last_part base OfUnknown = None

abbrev pub last_in : (base : ℕ) → Result Part Cause → Option ℕ
last_in base (Ok part) = last_part base part
last_in base (Err cause) = None

-- the last stream of GOAWAY counts from the client's first request too, unless it is none of the client's, or 2^31-1 (6.8)
abbrev pub last_sent : (base : ℕ) → Head → List ℕ → Option ℕ
last_sent base h payload = last_in base (part_of h payload)

abbrev pub with_last : Option ℕ → List ℕ → List ℕ
with_last None payload = take 16777215 payload
with_last (Some last) payload = big_endian 4 last ++ take 16777211 (drop 4 payload)

-- a frame of the script; its payload is no longer than a frame's can be
abbrev pub script_frame : (base : ℕ) → ScriptFrame → List ℕ
script_frame base f = frame_octets (frame f.head.kind f.head.flags (stream_sent base f.head)
    (with_last (last_sent base f.head f.payload) f.payload))

abbrev pub script_frames : (base : ℕ) → List ScriptFrame → List ℕ
script_frames base frames = flat_map (script_frame base) frames

abbrev pub probe_frame : List ℕ
probe_frame = frame_octets (frame 6 0 0 probe)

abbrev pub probe_if : List WantedLine → List ℕ
probe_if [] = []
probe_if (l ∷ ls) = probe_frame

-- the frames of a step, and a PING where the client has to do something then
abbrev pub script_octets : (base : ℕ) → Step → List ℕ
script_octets base s = script_frames base s.frames ++ probe_if s.wanted

-- the stream that a frame of the script resets
abbrev pub reset_by : (base : ℕ) → ScriptFrame → Option ℕ
reset_by base f = if (f.head.kind == 3) && not (f.head.stream == 0) then Some (based base f.head.stream) else None

abbrev pub resets : (base : ℕ) → List ScriptFrame → List ℕ
resets base frames = flat_map (λ f. option_to_list (reset_by base f)) frames

-- ---- an item

abbrev pub with_item : Weaving → Incoming → Weaving
with_item w item = record w { base = with_request w.base item }

abbrev pub step_if : (base : ℕ) → Option Step → Incoming → Option Step
step_if base None item = None
step_if base (Some s) item = if names base s.awaited item then Some s else None

-- the step that an item is for: steps are taken in order, each once
abbrev pub next_step : List Step → Weaving → Incoming → Option Step
next_step steps w item = step_if (base_of w.base) (slice_get steps w.taken) item

-- what the server sends for an item, as far as it goes out, and as far as it does not; and what the script sends after that
pub record Parts : Type 0 where
  pub sent : List ℕ
  pub withheld : List ℕ
  pub script : List ℕ

abbrev pub no_parts : Parts
no_parts = record { sent = []; withheld = []; script = [] }

-- what the server sends goes out; with a step its frames after that, or instead of it
abbrev pub parts_with : Weaving → Option Step → List ℕ → Parts
parts_with w None sent = record { sent = kept w.reset sent; withheld = stopped w.reset sent; script = [] }
parts_with w (Some s) sent = record {
  sent = if s.is_instead then [] else kept w.reset sent;
  withheld = if s.is_instead then sent else stopped w.reset sent;
  script = script_octets (base_of w.base) s;
}

-- what goes out
abbrev pub goes_out : Parts → List ℕ
goes_out p = p.sent ++ p.script

abbrev pub later : Weaving → Option Step → Weaving
later w None = w
later w (Some s) = record w { taken = min (w.taken + 1) 18446744073709551615; reset = w.reset ++ resets (base_of w.base) s.frames }

-- the parts of an item, for which the server sends this
abbrev pub parts_of : List Step → Weaving → Incoming → List ℕ → Parts
parts_of steps w item sent = parts_with (with_item w item) (next_step steps (with_item w item) item) sent

-- what goes out for it
abbrev pub woven_item : List Step → Weaving → Incoming → List ℕ → List ℕ
woven_item steps w item sent = goes_out (parts_of steps w item sent)

abbrev pub after_item : List Step → Weaving → Incoming → Weaving
after_item steps w item = later (with_item w item) (next_step steps (with_item w item) item)

-- ---- a run

-- an item of the client, its octets, and what the server sends for it
pub record Answered : Type 0 where
  pub item : Incoming
  pub octets : List ℕ
  pub sent : List ℕ

-- what goes out in a run
abbrev pub woven : List Step → Weaving → List Answered → List ℕ
woven steps w [] = []
woven steps w (e ∷ es) = woven_item steps w e.item e.sent ++ woven steps (after_item steps w e.item) es

abbrev pub after_items : List Step → Weaving → List Answered → Weaving
after_items steps w [] = w
after_items steps w (e ∷ es) = after_items steps (after_item steps w e.item) es

-- what the server sends in it
abbrev pub sent_by_server : List Answered → List ℕ
sent_by_server es = flat_map (λ (e : Answered). e.sent) es
