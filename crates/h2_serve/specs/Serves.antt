-- What a server prints, where the octets that its output holds are known.
use Rattle.std.specs.Prelude.{◌≡◌, ◌⊎◌, ℕ, ◌<◌, ◌≤◌, ◌++◌, Bool, true, false, List, [], ◌∷◌, length, Option, Some, Result, Ok, Err}
use Rattle.h2_serve.specs.declared.driving.drive_fault.DriveEnd.{DriveEnd}
use Rattle.h2_serve.specs.declared.driving.drive_fault.DriveFault.{DriveFault}
use Rattle.h2_serve.specs.Wires.{grown}
use Rattle.h2_serve.specs.Lines.{end_line, end_lines, listening_line}
use Rattle.h2_serve.specs.Ports.{Event, HandlesAll, HandlesOne, Listening, Start, localhost}
use Rattle.h2_serve.specs.declared.fault.ServeFault.{ServeFault}
use Rattle.h2_serve.specs.declared.fault.ServeFault.TheVariants.{NoMemory, BadConfig, Write, Socket}

-- why a connection can't be opened with limits that are allowed, or not
abbrev pub opening_fault : (allowed : Bool) → ServeFault
opening_fault true = NoMemory
opening_fault false = BadConfig

-- the output gained this text
abbrev pub Gains : Option (List ℕ) → Option (List ℕ) → List ℕ → Type 0
Gains before after text = (held : List ℕ) → before ≡ Some held → after ≡ Some (held ++ text)

-- the output gained some text
abbrev pub Grew : Option (List ℕ) → Option (List ℕ) → Type 0
Grew before after = (text : List ℕ) × Gains before after text

-- after some text the output gained the lines of that many connections, numbered from 1
abbrev pub GainsLines : List ℕ → ℕ → Option (List ℕ) → Option (List ℕ) → Type 0
GainsLines text count before after = (ends : List (Result DriveEnd DriveFault)) × (length ends ≡ count)
    × Gains before after (text ++ end_lines 1 ends)

-- that many clients were accepted, one after another, the connection of each was driven from its start to its end, and
-- after some text the output gained the lines of these ends, numbered from 1
abbrev pub Serves : Start → List ℕ → ℕ → (before after : Option (List ℕ)) → (log log' : Option (List Event)) → Type 0
Serves start text count before after log log' = (ends : List (Result DriveEnd DriveFault)) × (length ends ≡ count)
    × Gains before after (text ++ end_lines 1 ends) × HandlesAll start ends log log'

-- one connection was driven, and the line of its end was printed
abbrev pub ServesOne : Start → ℕ → (before after : Option (List ℕ)) → (log log' : Option (List Event)) → Type 0
ServesOne start number before after log log' =
    (end : Result DriveEnd DriveFault) × Gains before after (end_line number end) × HandlesOne start end log log'

-- one connection was served; unless a write failed, nothing is printed otherwise
abbrev pub AcceptsAs : Start → ℕ → (before after : Option (List ℕ)) → (log log' : Option (List Event)) → Result (Unit {0}) ServeFault → Type 0
AcceptsAs start number before after log log' (Ok u) = ServesOne start number before after log log'
AcceptsAs start number before after log log' (Err NoMemory) = after ≡ before
AcceptsAs start number before after log log' (Err BadConfig) = ⊥
AcceptsAs start number before after log log' (Err Write) = Unit {0}
AcceptsAs start number before after log log' (Err Socket) = after ≡ before

-- `count` connections were served; a fault comes after fewer of them, and no memory may be left before the first one,
-- for no connection too; nobody is accepted with limits that are out of range
abbrev pub ServesAs : Start → ℕ → (before after : Option (List ℕ)) → (log log' : Option (List Event)) → Result (Unit {0}) ServeFault → Type 0
ServesAs start count before after log log' (Ok u) = Serves start [] count before after log log'
ServesAs start count before after log log' (Err NoMemory) = (served : ℕ) × (served ≤ count) × GainsLines [] served before after
ServesAs start count before after log log' (Err BadConfig) = (after ≡ before) × (log' ≡ log)
ServesAs start count before after log log' (Err Write) = 0 < count
ServesAs start count before after log log' (Err Socket) = (served : ℕ) × (served < count) × GainsLines [] served before after

-- the same after the line of the port; where that can't be listened on nothing is printed
abbrev pub ListensAs : Start → (allowed : Bool) → (port count : ℕ) → (before after : Option (List ℕ)) → (log log' : Option (List Event))
    → Result (Unit {0}) ServeFault → Type 0
ListensAs start allowed port count before after log log' (Ok u) = (allowed ≡ true)
    × Serves start (listening_line port) count before after (grown log (Listening localhost port ∷ [])) log'
ListensAs start allowed port count before after log log' (Err NoMemory) = (allowed ≡ true)
    × ((served : ℕ) × (served ≤ count) × GainsLines (listening_line port) served before after)
ListensAs start allowed port count before after log log' (Err BadConfig) = (allowed ≡ false)
    × Gains before after (listening_line port) × (log' ≡ grown log (Listening localhost port ∷ []))
ListensAs start allowed port count before after log log' (Err Write) = Unit {0}
ListensAs start allowed port count before after log log' (Err Socket) = (after ≡ before)
    ⊎ ((allowed ≡ true) × ((served : ℕ) × (served < count) × GainsLines (listening_line port) served before after))
