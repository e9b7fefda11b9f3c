-- The text of a view, line by line: numbers are decimal, a missing value and no octets are a dash, flags 0 or 1,
-- octets lower-case hex.
use Rattle.std.specs.Prelude.{ℕ, ◌+◌, Bool, true, false, List, [], ◌∷◌, ◌++◌, length, codes, decimal, Option, Some, None}
use Rattle.std.specs.Fmt.{signed_decimal}
use Rattle.hex.specs.Hex.{encode_lower}
use Rattle.h2_spec.specs.declared.connection.BlockView.{BlockView}
use Rattle.h2_spec.specs.declared.connection.Phase.{Phase}
use Rattle.h2_spec.specs.declared.connection.Phase.TheVariants as phase
use Rattle.h2_spec.specs.declared.flow.LocalSettings.{LocalSettings}
use Rattle.h2_spec.specs.declared.flow.Settings.{Settings}
use Rattle.h2_spec.specs.declared.streams.StreamState.{StreamState}
use Rattle.h2_spec.specs.declared.streams.StreamState.TheVariants.{Idle, Skipped, BothOpen, HalfRemote, HalfLocal, Ended, PeerReset, WeReset}
use Rattle.h2_spec.specs.declared.streams.StreamView.{StreamView}
use Rattle.h2_spec.specs.Causes.Errors.{code_number}
use Rattle.h2_spec.specs.Hpack.Field.{Field}
use Rattle.h2_spec.specs.Stream.{is_live}
use Rattle.h2_spec.specs.Texts.View.{View}

-- pieces of text in a row
abbrev pub joined : List (List ℕ) → List ℕ
joined [] = []
joined (p ∷ []) = p
joined (p ∷ q ∷ ps) = p ++ joined (q ∷ ps)

-- a number that may be missing
unfoldable pub option_text : Option ℕ → List ℕ
option_text None = codes "-"
option_text (Some n) = decimal n

-- a flag, as 1 or 0
unfoldable pub flag_text : Bool → List ℕ
flag_text true = codes "1"
flag_text false = codes "0"

-- octets in hex, a dash for none
unfoldable pub octets_text : List ℕ → List ℕ
octets_text [] = codes "-"
octets_text (x ∷ xs) = encode_lower (x ∷ xs)

-- how far the connection has got
unfoldable pub phase_text : Phase → List ℕ
phase_text phase.Preface = codes "preface"
phase_text phase.Settings = codes "settings"
phase_text phase.Running = codes "running"
phase_text (phase.Ended code) = codes "ended " ++ decimal (code_number code)

-- a state of a stream that has a record
unfoldable pub kind_text : StreamState → List ℕ
kind_text Idle = codes "idle"
kind_text Skipped = codes "skipped"
kind_text BothOpen = codes "open"
kind_text HalfRemote = codes "half-remote"
kind_text HalfLocal = codes "half-local"
kind_text Ended = codes "ended"
kind_text PeerReset = codes "peer-reset"
kind_text WeReset = codes "we-reset"

-- the latest GOAWAY that was received
unfoldable pub goaway_text : Option (ℕ × ℕ) → List ℕ
goaway_text None = codes "-"
goaway_text (Some g) = joined (decimal g.0 ∷ codes " " ∷ decimal g.1 ∷ [])

-- the phase, and the last stream that was opened
unfoldable pub phase_line : Phase → ℕ → List ℕ
phase_line p last = joined (codes "phase " ∷ phase_text p ∷ codes " last " ∷ decimal last ∷ codes "\n" ∷ [])

-- the windows of the connection, and what is owed on it
unfoldable pub window_line : View → List ℕ
window_line v = joined (codes "window recv " ∷ signed_decimal v.recv ∷ codes " owed " ∷ decimal v.owed ∷ codes " send " ∷ signed_decimal v.send ∷ codes "\n" ∷ [])

-- the peer's settings
unfoldable pub peer_line : Settings → List ℕ
peer_line p = joined (
    codes "peer table " ∷ decimal p.header_table ∷
    codes " push " ∷ decimal p.push ∷
    codes " streams " ∷ option_text p.streams ∷
    codes " window " ∷ decimal p.window ∷
    codes " frame " ∷ decimal p.frame ∷
    codes " list " ∷ option_text p.list ∷
    codes " signal " ∷ flag_text p.size_update_pending ∷ codes "\n" ∷ [])

-- whether the server's settings are acknowledged, and the latest GOAWAY
unfoldable pub acked_line : Bool → Option (ℕ × ℕ) → List ℕ
acked_line acked goaway = joined (codes "acked " ∷ flag_text acked ∷ codes " goaway " ∷ goaway_text goaway ∷ codes "\n" ∷ [])

-- the server's settings in force, and whether the next field block has to begin with a size update
unfoldable pub own_line : LocalSettings → Bool → List ℕ
own_line own due = joined (
    codes "own table " ∷ decimal own.table ∷
    codes " window " ∷ decimal own.window ∷
    codes " frame " ∷ decimal own.frame ∷
    codes " due " ∷ flag_text due ∷ codes "\n" ∷ [])

-- the open block
unfoldable pub block_line : Option BlockView → List ℕ
block_line None = codes "block -\n"
block_line (Some b) = joined (
    codes "block stream " ∷ decimal b.stream ∷
    codes " octets " ∷ decimal b.octets ∷
    codes " list " ∷ decimal b.list_size ∷
    codes " ends " ∷ flag_text b.ends ∷ codes "\n" ∷ [])

-- the header table: how many entries, their size, the maximum
unfoldable pub table_line : ℕ → ℕ → ℕ → List ℕ
table_line count size max = joined (codes "table " ∷ decimal count ∷ codes " " ∷ decimal size ∷ codes " " ∷ decimal max ∷ codes "\n" ∷ [])

-- an entry of the header table
unfoldable pub entry_line : ℕ → Field → List ℕ
entry_line index f = joined (codes "entry " ∷ decimal index ∷ codes " " ∷ octets_text f.name ∷ codes " " ∷ octets_text f.value ∷ codes "\n" ∷ [])

-- the entries of the dynamic table, from an index on
unfoldable pub entry_lines : ℕ → List Field → List ℕ
unfolding entry_line
entry_lines index [] = []
entry_lines index (f ∷ fs) = entry_line index f ++ entry_lines (index + 1) fs

-- a live stream with its numbers, another with its state alone
unfoldable pub stream_line_as : Bool → StreamView → List ℕ
stream_line_as true st = joined (
    codes "stream " ∷ decimal st.id ∷ codes " " ∷ kind_text st.kind ∷
    codes " recv " ∷ signed_decimal st.numbers.recv ∷
    codes " owed " ∷ decimal st.numbers.owed ∷
    codes " send " ∷ signed_decimal st.numbers.send ∷
    codes " got " ∷ decimal st.numbers.content_received ∷
    codes " of " ∷ option_text st.numbers.declared ∷
    codes " left " ∷ option_text st.numbers.body_remaining ∷ codes "\n" ∷ [])
stream_line_as false st = joined (codes "stream " ∷ decimal st.id ∷ codes " " ∷ kind_text st.kind ∷ codes "\n" ∷ [])

-- a stream that has a record
unfoldable pub stream_line : StreamView → List ℕ
unfolding stream_line_as
stream_line st = stream_line_as (is_live st.kind) st

-- the streams that have records, in the order of their opening
unfoldable pub stream_lines : List StreamView → List ℕ
unfolding stream_line
stream_lines [] = []
stream_lines (st ∷ sts) = stream_line st ++ stream_lines sts

-- the text of a view
unfoldable pub show : View → List ℕ
unfolding phase_line window_line peer_line acked_line own_line block_line table_line entry_lines stream_lines option_text flag_text octets_text phase_text kind_text goaway_text
show v =
    phase_line v.phase v.last ++
    window_line v ++
    peer_line v.peer ++
    acked_line v.acked v.goaway ++
    own_line v.own v.due ++
    block_line v.block ++
    table_line (length v.table) v.table_size v.table_max ++
    entry_lines 62 v.table ++
    stream_lines v.streams
