-- What is reported of an item that was taken: what it was, why it was an error, or why it was ignored.
use Rattle.std.specs.Prelude.{ℕ, Option, Some, None, option_map}
use Rattle.h2_spec.specs.declared.frames.ItemHead.{ItemHead}
use Rattle.h2_spec.specs.declared.frames.ItemHead.TheVariants as head
use Rattle.h2_spec.specs.Effect.{cause_of}
use Rattle.h2_spec.specs.Frames.Frame.{Item, Preface, BadPreface, WholeFrame, Oversize, Next, NoItem, Got}
use Rattle.h2_spec.specs.Causes.Ignored.{ignored_of}
use Rattle.h2_spec.specs.State.{State}
use Rattle.h2_conn.specs.declared.report.TakenItem.{TakenItem}

-- an item without its payload
abbrev pub item_head : Item → ItemHead
item_head Preface = head.Preface
item_head BadPreface = head.BadPreface
item_head (WholeFrame h p) = head.Frame h
item_head (Oversize h) = head.Oversize h

-- what is reported of an item in a state, and how many octets it takes
abbrev pub report_of : State → Item → ℕ → TakenItem
report_of s item used = record { used = used; item = item_head item; cause = cause_of s item; ignored = ignored_of s item }

-- what is reported of the next item, if there is one
abbrev pub reported : State → Next → Option TakenItem
reported s NoItem = None
reported s (Got item used) = Some (report_of s item used)

-- how many octets an item takes
abbrev pub used_by : Option TakenItem → Option ℕ
used_by taken = option_map (λ (t : TakenItem). t.used) taken
