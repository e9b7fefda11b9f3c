-- Which streams can send, computed: those that have octets to send and a window above 0 (RFC 9113, 6.9).
use Rattle.std.specs.Prelude.{◌≡◌, ℕ, true, false, List, [], ◌∷◌, map, refl, Option, Some, None, ℤ, pos, negsuc}
use Rattle.h2_spec.specs.declared.streams.Numbers.{Numbers}
use Rattle.h2_spec.specs.declared.streams.Pick.TheVariants.{NotFound}
use Rattle.h2_spec.specs.declared.streams.Stream.{Stream}
use Rattle.h2_spec.specs.Stream.{octets_waiting, requested}
use Rattle.h2_streams.specs.Kept.{next_ready}

abbrev numbers : ℤ → Option ℕ → Numbers
numbers send left = record { recv = pos 65535; owed = 0; send = send; content_received = 0; declared = None; body_remaining = left }

-- a stream 1 with nothing to send and a stream 3 with 5 octets, with this window
abbrev two : ℤ → List Stream
two window = requested 1 (numbers window None) NotFound false ∷ requested 3 (numbers window (Some 5)) NotFound true ∷ []

octets_and_a_window_are_needed : map (λ (window : ℤ). next_ready 0 (two window)) (pos 0 ∷ pos 10 ∷ negsuc 0 ∷ []) ≡ None ∷ Some 3 ∷ None ∷ []
unfolding octets_waiting
octets_and_a_window_are_needed = refl

-- none is above the last
streams_behind_it_are_asked : next_ready 3 (two (pos 10)) ≡ None
unfolding octets_waiting
streams_behind_it_are_asked = refl
