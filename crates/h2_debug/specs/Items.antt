-- An item by what a debugger has of it: the octets that it begins, and the octets sent for it.
use Rattle.std.specs.Prelude.{◌≡◌, ℕ, ◌==◌, Bool, true, false, List, if◌then◌else◌, Option, Some, None}
use Rattle.h2_spec.specs.declared.frames.Head.{Head}
use Rattle.h2_spec.specs.Frames.Frame.{Item, Preface, BadPreface, WholeFrame, Oversize, Next, NoItem, Got, frames_octets, head_at}
use Rattle.h2_spec.specs.Trace.{Event}
use Rattle.h2_spec.specs.Does.{AreShort}

-- whether there is an item
abbrev pub is_item : Next → Bool
is_item NoItem = false
is_item (Got item used) = true

-- the head of an item; the preface has none
abbrev pub head_of_item : Item → Option Head
head_of_item Preface = None
head_of_item BadPreface = None
head_of_item (WholeFrame h p) = Some h
head_of_item (Oversize h) = Some h

-- the item that leads to this position: the octets begin with it, where it is not the preface, and these octets were
-- sent for it
pub record IsItem (position : ℕ) (octets sent : List ℕ) (e : Event) : Type 0 where
  pub head_is : head_of_item e.item ≡ (if position == 1 then None else head_at octets)
  pub sent_is : sent ≡ frames_octets e.sent
  pub short : AreShort e.sent
