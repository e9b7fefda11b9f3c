use Rattle.std.proofs.Common.{◌≡◌, ◌+◌, ◌-◌, ◌<◌, suc, ap, sym, length, Some, Option, option_map, subst}
use Rattle.h2_spec.specs.Texts.Script.{Instructions, Payload}
use Rattle.h2_script.specs.Readings.{IsBuilt}
use Rattle.h2_script.proofs.Eachs.{none_left, some_left, turn}
use Rattle.h2_script.proofs.Instructions.{reaches_last, reaches_more, reaches_none, reaches_other}
use Rattle.h2_script.proofs.instruction.instructions_at.Goals as goal

pub returns-in_default : goal.returns-in_default
returns-in_default g c =
    let text = c.args.text.now in
    let rest = c.loop-turn.rest.now in
    let n = length text + 1 - (c.loop-turn._turn + 1) in
    let fuel : length text + 1 - c.loop-turn._turn ≡ suc n = turn (length text + 1) c.loop-turn._turn c.loop-turn-test.true in
    let none = rw c.in_default.is at c.in_ok-behind.ensures in
    ap (option_map Instructions) (reaches_none c.loop-turn.long c.loop-turn.octets.items n (length text + 1 - c.loop-turn._turn) rest text fuel none c.loop-turn.invariant)

pub returns-then-is_empty : goal.returns-then-is_empty
returns-then-is_empty g c =
    let text = c.args.text.now in
    let rest = c.loop-turn.rest.now in
    let n = length text + 1 - (c.loop-turn._turn + 1) in
    let fuel : length text + 1 - c.loop-turn._turn ≡ suc n = turn (length text + 1) c.loop-turn._turn c.loop-turn-test.true in
    let first = rw c.in-Some.is at c.in_ok-behind.ensures in
    let empty : length c.in-Some.behind.now ≡ 0 = none_left c.is_empty.result (length c.in-Some.behind.now) c.is_empty.ensures c.if-is_empty.true in
    let last = reaches_last c.loop-turn.long c.push_first.new.long c.loop-turn.octets.items c.push_first.new.octets.items n (length text + 1 - c.loop-turn._turn) rest text first.0
    c.in-Some.behind.now fuel first.1 empty first.2 c.loop-turn.invariant in
    subst (λ (r : Option Payload). IsBuilt {A = g.row.A.Denot} (Some c.built.result) r) {x = Some (Instructions last.0)} (sym last.1) (c.built.ensures (Instructions last.0) last.2)

pub returns-in_default-after : goal.returns-in_default-after
returns-in_default-after g c =
    let text = c.args.text.now in
    let rest = c.loop-turn.rest.now in
    let n = length text + 1 - (c.loop-turn._turn + 1) in
    let fuel : length text + 1 - c.loop-turn._turn ≡ suc n = turn (length text + 1) c.loop-turn._turn c.loop-turn-test.true in
    let first = rw c.in-Some.is at c.in_ok-behind.ensures in
    let some : 0 < length c.in-Some.behind.now = some_left c.is_empty.result (length c.in-Some.behind.now) c.is_empty.ensures c.if-is_empty.false in
    ap (option_map Instructions) (reaches_other c.loop-turn.long c.loop-turn.octets.items n (length text + 1 - c.loop-turn._turn) rest text first.0 c.in-Some.behind.now
    fuel first.1 some c.in_default-after.ensures c.loop-turn.invariant)

pub loop-turn-preserved : goal.loop-turn-preserved
loop-turn-preserved g c =
    let text = c.args.text.now in
    let rest = c.loop-turn.rest.now in
    let n = length text + 1 - (c.loop-turn._turn + 1) in
    let fuel : length text + 1 - c.loop-turn._turn ≡ suc n = turn (length text + 1) c.loop-turn._turn c.loop-turn-test.true in
    let first = rw c.in-Some.is at c.in_ok-behind.ensures in
    let some : 0 < length c.in-Some.behind.now = some_left c.is_empty.result (length c.in-Some.behind.now) c.is_empty.ensures c.if-is_empty.false in
    reaches_more c.loop-turn.long c.push_first.new.long c.loop-turn.octets.items c.push_first.new.octets.items n (length text + 1 - c.loop-turn._turn) rest text first.0
    c.in-Some.behind.now c.in-Some-after.more.now fuel first.1 some c.in-Some-after.ensures first.2 c.loop-turn.invariant
