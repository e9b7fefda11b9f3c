-- The verdict on a server in a case: by what it did while the case was played, or by octets that were recorded.
use Rattle.std.specs.Prelude.{ℕ, ◌==◌, min, max, List, length, None}
use Rattle.h2_spec.specs.declared.connection.Config.{Config}
use Rattle.h2_cmd_judge.specs.CaseVerdicts.{Judgement, judgement}
use Rattle.h2_cmd_judge.specs.Readings.{announced, is_http1, new_reading, read_more}
use Rattle.h2_cmd_judge.specs.Recorded.{aligned}
use Rattle.h2_cmd_judge.specs.declared.event.Seen.{Seen}
use Rattle.h2_cmd_judge.specs.declared.judge.Ending.{Ending}
use Rattle.h2_cmd_judge.specs.declared.judge.Peer.{Peer}
use Rattle.h2_cmd_exchange.specs.Plays.{Played, ending_of}
use Rattle.h2_cmd_items.specs.SentItems.{narrow}
use Rattle.h2_cmd_items.specs.declared.case.CaseItems.{CaseItems}

-- what the verdict needs to know of a server that sends these octets first (RFC 9113, 6.5.2, and RFC 8441, 3)
abbrev pub peer_of : List ℕ → (status : ℕ) → Peer
peer_of octets status = record {
  window = announced octets 4 65535;
  frame = announced octets 5 16384;
  protocol = announced octets 8 0 == 1;
  status = status;
}

-- a number within a range
abbrev pub within : (value least most : ℕ) → ℕ
within value least most = min (max value least) most

-- the limits and the settings that a server announces, as far as this server can have them
abbrev pub limits_of : List ℕ → Config
limits_of octets = record {
  streams = within (announced octets 3 1000) 1 1000;
  credit = 65535;
  table = within (announced octets 1 4096) 0 65536;
  window = within (announced octets 4 65535) 0 2147483647;
  frame = within (announced octets 5 16384) 16384 65536;
}

-- the verdict on a server that did this
abbrev pub judged_by : CaseItems → (theirs : List Seen) → Ending → Peer → Judgement
judged_by x theirs ending peer = judgement x.dues.items x.highest x.own.items theirs ending peer

-- nothing is known of the end of a connection of which octets were recorded
abbrev pub recorded_ending : List ℕ → Ending
recorded_ending octets = record { closed = None; answers = None; http1 = is_http1 octets }

-- the verdict on a server of which these octets were recorded
abbrev pub recorded_judgement : CaseItems → List ℕ → Judgement
recorded_judgement x octets =
    judged_by x (aligned x.own.items 0 (narrow (length x.ends.items)) (read_more 0 new_reading octets).events) (recorded_ending octets) (peer_of octets 0)

-- the verdict on a server to which the case was played
abbrev pub played_judgement : CaseItems → Played → (status : ℕ) → Judgement
played_judgement x p status = judged_by x p.reading.events (ending_of x.asks p) (peer_of p.reading.octets status)
