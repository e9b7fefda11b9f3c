-- The result of driving a connection over a wire.
use Rattle.std.specs.Prelude.{◌≡◌, ◌≢◌, ℕ, ◌<◌, ◌≤◌, ◌++◌, Bool, true, false, List, [], ◌∷◌, length, Option, Some, None, Result, Ok, Err}
use Rattle.std.specs.List.{AllByRecursion}
use Rattle.h2_conn.specs.Connection.{Connection}
use Rattle.h2_conn.specs.Runs.{Fed, Halts}
use Rattle.h2_serve.specs.Wires.{grown}
use Rattle.h2_serve.specs.declared.driving.drive_fault.DriveEnd.{DriveEnd}
use Rattle.h2_serve.specs.declared.driving.drive_fault.DriveEnd.TheVariants.{Input, Goaway}
use Rattle.h2_serve.specs.declared.driving.drive_fault.DriveFault.{DriveFault}
use Rattle.h2_serve.specs.declared.driving.drive_fault.DriveFault.TheVariants.{NoMemory, Failed, Read, Write, TurnLimit}

abbrev pub fault_number : DriveFault → ℕ
fault_number NoMemory = 0
fault_number Failed = 17
fault_number Read = 22
fault_number Write = 23
fault_number TurnLimit = 24

-- each read got at least one octet
abbrev pub AreNonempty : List ℕ → Type 0
AreNonempty lengths = AllByRecursion (λ n. 0 < n) lengths

-- what a wire reports (the octets read, the octets written and the lengths of the reads), the pending output, and the
-- connection
pub record DriveState : Type 0 where
  pub read : Option (List ℕ)
  pub written : Option (List ℕ)
  pub lengths : Option (List ℕ)
  pub out : List ℕ
  pub conn : Connection

abbrev pub drive_state : Option (List ℕ) → Option (List ℕ) → Option (List ℕ) → List ℕ → Connection → DriveState
drive_state read written lengths out conn = record {
  read = read;
  written = written;
  lengths = lengths;
  out = out;
  conn = conn;
}

-- all items of the octets were handled; or, out of memory, only the first items, each of them whole
abbrev pub FedOrHalted : Bool → Connection → List ℕ → List ℕ → Connection → List ℕ → Type 0
FedOrHalted false c octets out c' out' = Fed c octets out c' out'
FedOrHalted true c octets out c' out' = Halts c octets out c' out'

-- octets were read, in reads of these lengths, and fed to the connection; what was written, followed by the pending
-- output, is the earlier pending output, followed by the frames sent for those octets
pub record Exchanges (out_of_memory : Bool) (from to : DriveState) (lengths : List ℕ) : Type 0 where
  pub read : List ℕ
  pub written : List ℕ
  pub read_is : to.read ≡ grown from.read read
  pub written_is : to.written ≡ grown from.written written
  pub lengths_is : to.lengths ≡ grown from.lengths lengths
  pub feeds : FedOrHalted out_of_memory from.conn read from.out to.conn (written ++ to.out)

-- these octets were read, where the wire reports them, and P holds of them
abbrev pub HasRead : (List ℕ → Type 0) → (before after : Option (List ℕ)) → Type 0
HasRead P before after = (octets : List ℕ) × (after ≡ grown before octets) × P octets

-- the octets that the connection holds back complete no item
abbrev pub HasNoItem : Connection → Type 0
HasNoItem c = Fed c [] [] c []

-- ---- one turn

abbrev pub is_out_of_memory : {X : Type 0} → Result X DriveFault → Bool
is_out_of_memory (Ok x) = false
is_out_of_memory (Err NoMemory) = true
is_out_of_memory (Err Failed) = false
is_out_of_memory (Err Read) = false
is_out_of_memory (Err Write) = false
is_out_of_memory (Err TurnLimit) = false

-- whether a call of the wire failed
abbrev pub is_wire_fault : {X : Type 0} → Result X DriveFault → Bool
is_wire_fault (Ok x) = false
is_wire_fault (Err NoMemory) = false
is_wire_fault (Err Failed) = false
is_wire_fault (Err Read) = true
is_wire_fault (Err Write) = true
is_wire_fault (Err TurnLimit) = false

-- at most one read; one of 0 octets only where 0 is the result
abbrev pub ReadsOnce : Result ℕ DriveFault → List ℕ → Type 0
ReadsOnce (Ok count) lengths = lengths ≡ count ∷ []
ReadsOnce (Err fault) lengths = (length lengths ≤ 1) × AreNonempty lengths

-- one read; its octets are fed, and the frames sent for them are written
pub record TakesTurn (from to : DriveState) (result : Result ℕ DriveFault) : Type 0 where
  pub lengths : List ℕ
  pub exchanges : Exchanges (is_out_of_memory result) from to lengths
  pub reads : ReadsOnce result lengths

-- after a turn without a fault all output is written, and a read of 0 octets changes nothing; after a failed read
-- nothing has changed
abbrev pub TurnEndsAs : Result ℕ DriveFault → Connection → Connection → List ℕ → Type 0
TurnEndsAs (Ok count) c c' out = (out ≡ []) × (count ≡ 0 → c' ≡ c)
TurnEndsAs (Err NoMemory) c c' out = Unit {0}
TurnEndsAs (Err Failed) c c' out = ⊥
TurnEndsAs (Err Read) c c' out = (out ≡ []) × (c' ≡ c)
TurnEndsAs (Err Write) c c' out = 0 < length out
TurnEndsAs (Err TurnLimit) c c' out = ⊥

-- ---- all turns

-- at most `turns` reads; each got at least one octet, except the last one where the input ended
abbrev pub ReadsAs : ℕ → Result DriveEnd DriveFault → List ℕ → Type 0
ReadsAs turns (Ok Input) lengths = (length lengths ≤ turns)
    × ((before : List ℕ) × (lengths ≡ before ++ 0 ∷ []) × AreNonempty before)
ReadsAs turns (Ok (Goaway code)) lengths = (length lengths ≤ turns) × AreNonempty lengths
ReadsAs turns (Err NoMemory) lengths = (length lengths ≤ turns) × AreNonempty lengths
ReadsAs turns (Err Failed) lengths = (length lengths ≤ turns) × AreNonempty lengths
ReadsAs turns (Err Read) lengths = (length lengths ≤ turns) × AreNonempty lengths
ReadsAs turns (Err Write) lengths = (length lengths ≤ turns) × AreNonempty lengths
ReadsAs turns (Err TurnLimit) lengths = (length lengths ≡ turns) × AreNonempty lengths

-- whether the connection has ended, and with which code; where all output was written
abbrev pub EndsAs : Result DriveEnd DriveFault → Option ℕ → List ℕ → Type 0
EndsAs (Ok Input) ended out = (ended ≡ None) × (out ≡ [])
EndsAs (Ok (Goaway code)) ended out = (ended ≡ Some code) × (out ≡ [])
EndsAs (Err NoMemory) ended out = Unit {0}
EndsAs (Err Failed) ended out = Unit {0}
EndsAs (Err Read) ended out = (ended ≡ None) × (out ≡ [])
EndsAs (Err Write) ended out = 0 < length out
EndsAs (Err TurnLimit) ended out = (ended ≡ None) × (out ≡ [])

pub record TakesTurns (turns : ℕ) (from to : DriveState) (result : Result DriveEnd DriveFault) : Type 0 where
  pub lengths : List ℕ
  pub exchanges : Exchanges (is_out_of_memory result) from to lengths
  pub reads : ReadsAs turns result lengths

-- a connection that failed earlier (out of memory) is not driven, and nothing changes
abbrev pub DrivesAs : (failed : Bool) → ℕ → DriveState → DriveState → Result DriveEnd DriveFault → Type 0
DrivesAs true turns from to result = (result ≡ Err Failed) × (to ≡ from)
DrivesAs false turns from to result = (result ≢ Err Failed) × TakesTurns turns from to result

abbrev pub Drives : ℕ → DriveState → DriveState → Result DriveEnd DriveFault → Type 0
Drives turns from to result = DrivesAs from.conn.failed turns from to result
