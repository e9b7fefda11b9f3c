-- What a client did wrong with an item, by what came before it in the run: what it was granted, and the empty frames of
-- its field block.
use Rattle.std.specs.Prelude.{ℕ, ◌+◌, ◌-◌, ◌^◌, min, Bool, false, ◌&&◌, not, ◌==◌, if◌then◌else◌, nat_lt, Option, Some, None, is_some}
use Rattle.h2_spec.specs.Frames.FrameType.{CONTINUATION, HEADERS}
use Rattle.h2_spec.specs.declared.frames.Head.{Head}
use Rattle.h2_explain_item.specs.Granted.{counted_octets, is_early}
use Rattle.h2_explain_item.specs.Item.{head_in}
use Rattle.h2_explain_item.specs.declared.change.granted.Granted.{Granted}
use Rattle.h2_explain_item.specs.declared.diagnosis.run_facts.RunFacts.{RunFacts}
use Rattle.h2_explain_item.specs.declared.item.Explained.{Explained}

-- whether a frame is CONTINUATION without octets (6.10)
abbrev pub is_empty_continuation : Option Head → Bool
is_empty_continuation None = false
is_empty_continuation (Some h) = h.kind == CONTINUATION && h.length == 0

-- whether a frame is HEADERS, with which a block begins (4.3)
abbrev pub is_headers : Option Head → Bool
is_headers None = false
is_headers (Some h) = h.kind == HEADERS

-- how many CONTINUATION frames of the last field block are empty, after this frame
abbrev pub empties_after : ℕ → Option Head → ℕ
empties_after n h = if is_headers h then 0 else if is_empty_continuation h then min (n + 1) (2 ^ 64 - 1) else n

-- whether this one is the first above 100
abbrev pub is_one_too_many : ℕ → Option Head → Bool
is_one_too_many n h = n == 100 && is_empty_continuation h

-- whether an item, where it is known what came in one read, is DATA beyond what every client may send, that has read nothing: it
-- needs WINDOW_UPDATE, which came after the server's SETTINGS, and these are not acknowledged (6.5.3)
abbrev pub is_unacknowledged_use : {A : Type 0} → Granted A → Explained → Bool
is_unacknowledged_use g x = is_some g.connection && nat_lt g.unasked (counted_octets x.what) && not x.before.counts.acked

-- what an item did; where it goes beyond what was granted before its read, nothing shows that the client has read
abbrev pub run_facts : {A : Type 0} → Granted A → ℕ → Explained → RunFacts
run_facts g empties x = record {
  sent_early = is_early g x;
  sent_unacknowledged = is_unacknowledged_use g x && not (is_early g x);
  many_empty = is_one_too_many empties (head_in x.what);
}
