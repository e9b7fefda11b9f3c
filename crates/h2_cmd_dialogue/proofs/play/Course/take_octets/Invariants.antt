use Rattle.std.proofs.Common.{◌≤◌, length, take}
use Rattle.h2_cmd_dialogue.specs.Plays.{TakesSome}
use Rattle.h2_cmd_dialogue.proofs.play.Course.take_octets.Given as goal

abbrev pub invariant-loop-item : goal.invariant-loop-item
invariant-loop-item l = record {
  within : l.at ≤ length l.octets;
  items : TakesSome l.steps l.fn.self (take l.at l.octets) l.self;
}
