-- What a client does on a connection, and what goes to it that it is judged by.
use Rattle.std.specs.Prelude.{ℕ, Bool, List, [], ◌∷◌, ◌++◌, length, take, option_to_list, is_some, if◌then◌else◌}
use Rattle.h2_spec.specs.declared.frames.Head.{Head}
use Rattle.h2_cmd_dialogue.specs.Heard.{event_of, sent_after}
use Rattle.h2_cmd_dialogue.specs.Limits.{Limits, came, new_limits, sent_frames}
use Rattle.h2_cmd_dialogue.specs.Woven.{Answered, Weaving, after_item, base_of, next_step, with_item, woven_item}
use Rattle.h2_cmd_dialogue.specs.declared.heard.Event.{Event}
use Rattle.h2_cmd_dialogue.specs.Steps.{Comes, Incoming, Preface, Start, Step}

-- what it does, how many of these events there were when each step was taken, and its limits
pub record Watched : Type 0 where
  pub events : List Event
  pub marks : List ℕ
  pub limits : Limits

abbrev pub nothing_watched : Watched
nothing_watched = record { events = []; marks = []; limits = new_limits }

-- a frame of the client came, after these steps
abbrev pub with_frame : (base : ℕ) → List Step → Watched → Head → List ℕ → Watched
with_frame base steps v h payload = record v {
  events = v.events ++ option_to_list (event_of h payload) ++ sent_after base steps h payload;
  limits = came v.limits h payload;
}

-- octets went to the client, and a step was taken with them or not
abbrev pub with_octets : Watched → List ℕ → (is_step : Bool) → Watched
with_octets v octets is_step = record v {
  marks = if is_step then v.marks ++ length v.events ∷ [] else v.marks;
  limits = sent_frames (length octets) v.limits octets;
}

abbrev pub with_incoming : (base : ℕ) → List Step → Watched → Incoming → Watched
with_incoming base steps v Start = v
with_incoming base steps v Preface = v
with_incoming base steps v (Comes h payload) = with_frame base steps v h payload

-- an item of the client came
abbrev pub heard_item : List Step → Weaving → Watched → Incoming → Watched
heard_item steps w v item = with_incoming (base_of (with_item w item).base) (take w.taken steps) v item

-- an item came, and what is woven for it went to the client
abbrev pub watched_item : List Step → Weaving → Watched → Incoming → (sent : List ℕ) → Watched
watched_item steps w v item sent =
    with_octets (heard_item steps w v item) (woven_item steps w item sent) (is_some (next_step steps (with_item w item) item))

-- some items came, one after another
abbrev pub watched_items : List Step → Weaving → Watched → List Answered → Watched
watched_items steps w v [] = v
watched_items steps w v (e ∷ es) = watched_items steps (after_item steps w e.item) (watched_item steps w v e.item e.sent) es
