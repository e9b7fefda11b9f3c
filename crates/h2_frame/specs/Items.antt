-- The items that a splitter finds (RFC 9113, 3.4, 4.1 and 4.2).
use Rattle.std.specs.Prelude.{◌≡◌, ℕ, ◌+◌, ◌-◌, ◌++◌, Bool, true, false, not, ◌||◌, ◌==◌, List, [], length, drop, nat_lt, if◌then◌else◌, Option, Some, None}
use Rattle.h2_frame.specs.declared.splitter.Item.{Item}
use Rattle.h2_frame.specs.declared.splitter.Item.TheVariants as code
use Rattle.h2_frame.specs.Rest.{Rest}
use Rattle.h2_spec.specs.declared.frames.Head.{Head}
use Rattle.h2_spec.specs.Frames.Frame as spec
use Rattle.h2_spec.specs.Frames.Frame.{Next, NoItem, Got, head_of, next}
use Rattle.h2_spec.specs.Frames.FrameType.{DATA, PADDED, has}

-- an item with its payload as a list
abbrev pub item_of : Item → spec.Item
item_of code.Preface = spec.Preface
item_of code.BadPreface = spec.BadPreface
item_of (code.Frame f) = spec.WholeFrame f.head f.payload.now
item_of (code.Oversize h) = spec.Oversize h

-- an item and how many octets it takes, if there is one
abbrev pub found_in : Option (Item × ℕ) → Next
found_in None = NoItem
found_in (Some x) = Got (item_of x.0) x.1

-- after a bad preface or an oversized head no item follows
abbrev pub ends_items : spec.Item → Bool
ends_items spec.Preface = false
ends_items spec.BadPreface = true
ends_items (spec.WholeFrame h p) = false
ends_items (spec.Oversize h) = true

-- what is found in the octets that are held
abbrev pub found : ℕ → Rest → Next
found limit r = if r.is_over then NoItem else next r.expects_preface limit r.octets

abbrev pub item_in : Next → Option spec.Item
item_in NoItem = None
item_in (Got item used) = Some item

abbrev pub rest_behind : Rest → Next → Rest
rest_behind r NoItem = r
rest_behind r (Got item used) = record { octets = drop used r.octets; expects_preface = false; is_over = ends_items item }

-- the next item
abbrev pub next_in : ℕ → Rest → Option spec.Item
next_in limit r = item_in (found limit r)

-- what is held after it is taken
abbrev pub rest_after : ℕ → Rest → Rest
rest_after limit r = rest_behind r (found limit r)

-- with more octets pushed
abbrev pub with_more : Rest → List ℕ → Rest
with_more r more = record r { octets = r.octets ++ more }

-- how many octets the preface lacks at the least: one, since any octet may be the one that differs
abbrev pub missing_of_preface : Next → ℕ
missing_of_preface NoItem = 1
missing_of_preface (Got item used) = 0

-- how many octets a frame lacks: those of its head, then those of its payload, which is not awaited above the limit
abbrev pub missing_of_frame : ℕ → List ℕ → ℕ
missing_of_frame limit b =
    if nat_lt (length b) 9 then 9 - length b
    else if nat_lt limit (head_of b).length then 0 else 9 + (head_of b).length - length b

abbrev pub missing : Bool → ℕ → List ℕ → ℕ
missing true limit b = missing_of_preface (next true limit b)
missing false limit b = missing_of_frame limit b

-- how many octets the first item lacks, and none where no item follows
abbrev pub missing_in : ℕ → Rest → ℕ
missing_in limit r = if r.is_over then 0 else missing r.expects_preface limit r.octets

-- a head that is held, where its frame is DATA without padding, within the limit, and these octets are what it lacks (6.1)
abbrev pub completed_head : ℕ → ℕ → ℕ → Head → Option Head
completed_head limit held more h =
    if not (h.kind == DATA) || has h.flags PADDED then None
    else if nat_lt limit h.length || not (9 + h.length == held + more) then None
    else Some h

-- the head of the frame that is held, where that is such a frame
abbrev pub data_completed : ℕ → Rest → List ℕ → Option Head
data_completed limit r more =
    if r.is_over || r.expects_preface then None
    else if nat_lt (length r.octets) 9 then None
    else completed_head limit (length r.octets) (length more) (head_of r.octets)

-- with these octets more, what is held is one whole frame with this head: DATA without padding (6.1)
pub record IsDataCompleted (limit : ℕ) (r : Rest) (more : List ℕ) (h : Head) : Type 0 where
  pub is : next_in limit (with_more r more) ≡ Some (spec.WholeFrame h (drop 9 (r.octets ++ more)))
  pub rest : rest_after limit (with_more r more) ≡ record { octets = []; expects_preface = false; is_over = false }
  pub count : length (drop 9 (r.octets ++ more)) ≡ h.length
  pub going : r.is_over ≡ false
  pub past : r.expects_preface ≡ false
  pub kind : h.kind ≡ DATA
  pub unpadded : has h.flags PADDED ≡ false
