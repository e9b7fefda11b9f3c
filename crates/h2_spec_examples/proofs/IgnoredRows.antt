-- Frames that are ignored, computed: octets that come after the preface and the first SETTINGS, and for which reasons
-- frames among them are ignored.
use Rattle.std.specs.Prelude.{◌≡◌, ℕ, zero, suc, List, [], ◌∷◌, ◌++◌, length, drop, map, option_to_list, refl, codes}
use Prim.Native.String.{String}
use Rattle.h2_spec.specs.declared.ignored.Ignored.{Ignored}
use Rattle.h2_spec.specs.declared.ignored.Ignored.TheVariants.{Priority, UnknownType, SecondAcknowledgement, PingAcknowledgement, RstStreamOnSkipped, RstStreamOnClosed, RstStreamOnPeerReset, RstStreamOnReset, WindowUpdateOnSkipped, WindowUpdateOnClosed, WindowUpdateOnPeerReset, WindowUpdateOnReset, WindowUpdateByZero, DataOnReset, TableOnlyBlock}
use Rattle.h2_spec.specs.Frames.Frame.{Next, NoItem, Got}
use Rattle.h2_spec.specs.State.{State}
use Rattle.h2_spec.specs.Causes.Ignored.{ignored_of}
use Rattle.h2_spec.specs.Trace.{step, next_item}
use Rattle.h2_spec_examples.proofs.Hex.{hex}
use Rattle.h2_spec_examples.proofs.Runs.{default, ready}

-- the reasons for which items of octets are ignored, in their order, up to a number of items
abbrev ignored_with : State → List ℕ → (State → List ℕ → List Ignored) → Next → List Ignored
ignored_with s b follow NoItem = []
ignored_with s b follow (Got item used) = option_to_list (ignored_of s item) ++ follow (step s item).state (drop used b)

ignored_upto : ℕ → State → List ℕ → List Ignored
unfolding ignored_of next_item step
ignored_upto zero s b = []
ignored_upto (suc n) s b = ignored_with s b (λ t rest. ignored_upto n t rest) (next_item s b)

-- of all items after the beginning
ignored_in : String → List Ignored
unfolding ignored_upto ready
ignored_in octets = ignored_upto (length (hex (codes octets))) (ready [] default) (hex (codes octets))

abbrev ignored_frames : List (String × List Ignored)
ignored_frames =
    -- 5.5, 6.3, 6.5.3 and 6.7
    ("0000050200000000010000000010", Priority ∷ []) ∷
    ("0000000a0000000000", UnknownType ∷ []) ∷
    ("0000010a000000000100", UnknownType ∷ []) ∷
    ("000000040100000000", []) ∷
    ("000000040100000000000000040100000000", SecondAcknowledgement ∷ []) ∷
    ("0000080600000000000102030405060708", []) ∷
    ("0000080601000000000102030405060708", PingAcknowledgement ∷ []) ∷
    -- 5.1: on streams that are live they are not
    ("00000301040000000182868400000403000000000100000008", []) ∷
    ("00000301040000000182868400000408000000000100000001", []) ∷
    ("00000301040000000182868400000100000000000161", []) ∷
    -- 5.1: closed by a request on a higher stream
    ("00000301050000000382868400000403000000000100000008", RstStreamOnSkipped ∷ []) ∷
    ("00000301050000000382868400000408000000000100000001", WindowUpdateOnSkipped ∷ []) ∷
    ("00000301050000000382868400000408000000000100000000", WindowUpdateByZero ∷ []) ∷
    -- 5.1: ended by both sides, or reset by the peer
    ("00000301050000000182868400000403000000000100000008", RstStreamOnClosed ∷ []) ∷
    ("00000301050000000182868400000408000000000100000001", WindowUpdateOnClosed ∷ []) ∷
    ("00000301050000000182868400000408000000000100000000", WindowUpdateByZero ∷ []) ∷
    ("0000030104000000018286840000040300000000010000000800000403000000000100000008", RstStreamOnPeerReset ∷ []) ∷
    ("0000030104000000018286840000040300000000010000000800000408000000000100000001", WindowUpdateOnPeerReset ∷ []) ∷
    ("0000030104000000018286840000040300000000010000000800000408000000000100000000", WindowUpdateByZero ∷ []) ∷
    -- 5.1: reset by the server
    ("000002010500000001828600000403000000000100000008", RstStreamOnReset ∷ []) ∷
    ("000002010500000001828600000408000000000100000001", WindowUpdateOnReset ∷ []) ∷
    ("000002010500000001828600000408000000000100000000", WindowUpdateByZero ∷ []) ∷
    ("000002010500000001828600000100010000000161", DataOnReset ∷ []) ∷
    ("000002010500000001828600000101050000000182", TableOnlyBlock ∷ []) ∷
    ("00000201050000000182860000010101000000018200000109040000000186", TableOnlyBlock ∷ TableOnlyBlock ∷ []) ∷
    -- what would be ignored without an error before it, or in it
    ("0000080601000000010102030405060708", []) ∷
    ("000003010500000001828684000001000000000001610000080601000000000102030405060708", []) ∷
    ("000002010500000001828600000101050000000180", []) ∷
    ("000001010100000001820000050200000000010000000010", []) ∷
    ("00000402000000000100000000", []) ∷ []

reasons_of_ignored_frames : map (λ (row : String × List Ignored). ignored_in row.0) ignored_frames ≡ map (λ (row : String × List Ignored). row.1) ignored_frames
unfolding ignored_in
reasons_of_ignored_frames = refl
