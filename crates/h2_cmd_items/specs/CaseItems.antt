-- The octets of a case, as they are sent and judged.
use Rattle.std.specs.Prelude.{◌≡◌, ℕ, Bool, true, false, ◌&&◌, ◌||◌, not, nat_lt, List, [], ◌∷◌, ◌++◌, length, map}
use Rattle.h2_spec.specs.State.{State}
use Rattle.h2_cmd_judge.specs.declared.event.Seen.{Seen}
use Rattle.h2_cmd_items.specs.Dues.{acknowledgements, dues, highest, judged_behind}
use Rattle.h2_cmd_items.specs.SentItems.{AreItems}
use Rattle.h2_cmd_items.specs.declared.case.CaseItems.{CaseItems}
use Rattle.h2_cmd_items.specs.declared.due.Whole.{Whole}
use Rattle.h2_cmd_items.specs.declared.sent.Sent.{Sent}

-- the place after the last item
abbrev pub last_end : ℕ → List Sent → ℕ
last_end end [] = end
last_end end (s ∷ ss) = last_end s.end ss

abbrev pub end_if : Bool → ℕ → List ℕ
end_if true end = end ∷ []
end_if false end = []

-- the places after the pieces in which octets are sent: the items, and what is after the last whole one
abbrev pub ends_of : List Sent → (length : ℕ) → List ℕ
ends_of items length = map (λ s. s.end) items ++ end_if (nat_lt (last_end 0 items) length) length

-- octets end in a block or a frame that is open, on a connection that has not ended
abbrev pub is_unfinished : List Sent → (length : ℕ) → (opens is_ended : Bool) → Bool
is_unfinished items length opens is_ended = not is_ended && (opens || nat_lt (last_end 0 items) length)

-- a PING at the end is lawful: SETTINGS came (RFC 9113, 3.4), and nothing is open
abbrev pub asks_of : List Sent → (unfinished : Bool) → Bool
asks_of items unfinished = nat_lt 0 (acknowledgements 0 items) && not unfinished

-- what is known of octets with these items
abbrev pub whole_of : List ℕ → List Sent → (opens is_ended is_tagged : Bool) → Whole
whole_of octets items opens is_ended is_tagged = record { length = length octets; is_unfinished = is_unfinished items (length octets) opens is_ended; is_tagged = is_tagged }

-- octets with these items, as they are sent and judged
pub record IsCaseOf (octets : List ℕ) (items : List Sent) (own : List Seen) (opens is_ended is_tagged : Bool) (x : CaseItems) : Type 0 where
  pub octets_are : x.octets.items ≡ octets
  pub ends_are : x.ends.items ≡ ends_of items (length octets)
  pub dues_are : x.dues.items ≡ dues (whole_of octets items opens is_ended is_tagged) items
  pub judged_are : x.judged.items ≡ judged_behind [] items
  pub own_is : x.own.items ≡ own
  pub highest_is : x.highest ≡ highest 0 items
  pub asks_is : x.asks ≡ asks_of items (is_unfinished items (length octets) opens is_ended)

-- the items of octets on a connection in this state, as they are sent and judged
abbrev pub IsCase : State → List ℕ → (is_tagged : Bool) → CaseItems → Type 0
IsCase s octets is_tagged x =
    (items : List Sent) × (own : List Seen) × (opens is_ended : Bool) × AreItems s octets items own opens × IsCaseOf octets items own opens is_ended is_tagged x
