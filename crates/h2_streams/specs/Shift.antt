-- Windows that settings move: the peer's the send windows, the server's own the receive windows (RFC 9113, 6.9.2).
use Rattle.std.specs.Prelude.{◌≡◌, ℕ, zero, suc, Bool, true, ◌&&◌, not, List, [], ◌∷◌, if◌then◌else◌, Option, Some, None, unwrap_or, ℤ, pos, negsuc, ◌+ℤ◌, ◌≤ℤ◌, int_lt}
use Rattle.std.specs.Option.{option_map}
use Rattle.h2_spec.specs.declared.streams.Stream.{Stream}
use Rattle.h2_spec.specs.Change.{follows_initial_window, with_send, with_recv}
use Rattle.h2_spec.specs.Stream.{is_live}
use Rattle.h2_spec.specs.Window.{max_window, is_above_max}
use Rattle.h2_streams.specs.declared.windows.shift.InitialWindow.{InitialWindow}
use Rattle.h2_streams.specs.declared.windows.shift.InitialWindow.TheVariants.{Peer, Own}

-- settings leave the stream's window above what a window can be at least
abbrev pub CanShift : ℤ → Stream → Type 0
CanShift d st = follows_initial_window st.kind ≡ true → negsuc max_window ≤ℤ (st.numbers.send +ℤ d)

-- the server's own settings leave the receive window of the stream within what a window can be
abbrev pub CanReceive : ℤ → Stream → Type 0
CanReceive d st = is_live st.kind ≡ true → (negsuc max_window ≤ℤ (st.numbers.recv +ℤ d)) × ((st.numbers.recv +ℤ d) ≤ℤ pos max_window)

abbrev pub is_window : ℤ → Bool
is_window w = not (int_lt w (negsuc max_window)) && not (is_above_max w)

-- a window moved, if it stays one
abbrev pub moved_window : ℤ → ℤ → Option ℤ
moved_window d w = if is_window (w +ℤ d) then Some (w +ℤ d) else None

-- a stream as settings move it, if its window stays one
abbrev pub moved : ℤ → Stream → Option Stream
moved d st = if follows_initial_window st.kind then option_map (with_send st) (moved_window d st.numbers.send) else Some st

abbrev pub moved_or_same : ℤ → Stream → Stream
moved_or_same d st = unwrap_or (moved d st) st

-- a live stream with its receive window moved, if it stays a window
abbrev pub received_or_same : ℤ → Stream → Stream
received_or_same d st = if is_live st.kind then unwrap_or (option_map (with_recv st) (moved_window d st.numbers.recv)) st else st

-- a stream as a change of one of the initial windows moves it
abbrev pub moved_as : InitialWindow → ℤ → Stream → Stream
moved_as Peer d st = moved_or_same d st
moved_as Own d st = received_or_same d st

-- records with a function done to the one at this place
abbrev pub update : (Stream → Stream) → ℕ → List Stream → List Stream
update f place [] = []
update f zero (st ∷ sts) = f st ∷ sts
update f (suc place) (st ∷ sts) = st ∷ update f place sts

-- and to those at these places in turn
abbrev pub update_each : (Stream → Stream) → List ℕ → List Stream → List Stream
update_each f [] sts = sts
update_each f (place ∷ places) sts = update_each f places (update f place sts)
