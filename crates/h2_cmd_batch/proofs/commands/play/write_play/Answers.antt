use Rattle.std.proofs.Common.{◌≡◌, ℕ, List, [], Bool, true, false, Option, Some, None, inl, inr, refl}
use Rattle.h2_spec.specs.Requests.Answer.{Entry}
use Rattle.h2_spec.specs.declared.connection.Config.{Config}
use Rattle.h2_spec.specs.State.{is_allowed}
use Rattle.h2_cmd_batch.specs.Input.{input_fault}
use Rattle.h2_cmd_batch.specs.Printing.{OrCutShort, failed_after}
use Rattle.h2_cmd_batch.specs.Printed.{places_play, printed_play}
use Rattle.h2_cmd_batch.specs.declared.fault.BenchFault.{BenchFault}
use Rattle.h2_cmd_batch.proofs.Written.{unchanged}
use Rattle.h2_cmd_batch.proofs.commands.play.write_play.Goals as goal

-- no octets are given
none-given : (each : Bool) (book : List Entry) (config : Config) (given : Option (List ℕ)) (fault : BenchFault) → fault ≡ input_fault given (is_allowed config)
    → OrCutShort (places_play each book config given) (printed_play each book config given) (failed_after [] fault)
none-given each book config given fault is = go given (is_allowed config) refl is
  where
    go : (given : Option (List ℕ)) (allowed : Bool) → is_allowed config ≡ allowed → fault ≡ input_fault given allowed
        → OrCutShort (places_play each book config given) (printed_play each book config given) (failed_after [] fault)
    go None allowed limits is = inl (rw is refl)
    go (Some octets) false limits is = inl (rw (limits, is) refl)
    go (Some octets) true limits is = inr (0, rw is refl)

pub returns-in-Err-clause-printed : goal.returns-in-Err-clause-printed
returns-in-Err-clause-printed g c = λ well held is.
    ([], unchanged held _ is, none-given c.args.play.now.each c.args.book.now c.args.play.now.config _ c.in-Err.fault c.in-Err.ensures.err)

pub returns-in-Ok-clause-printed : goal.returns-in-Ok-clause-printed
returns-in-Ok-clause-printed g c = λ well. rw (c.in-Ok.ensures.ok, ← c.as_slice.ensures.value) (c.write_played.ensures.printed well)
