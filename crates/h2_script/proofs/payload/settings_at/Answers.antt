use Rattle.std.proofs.Common.{◌≡◌, ◌∙◌, ◌+◌, ◌-◌, ◌<◌, List, ℕ, suc, ap, sym, arith, length, [], Some}
use Rattle.h2_spec.specs.Texts.Assemble.{setting_at}
use Rattle.h2_spec.specs.Texts.Script.{setting_octets}
use Rattle.h2_script.specs.Each.{behind_each}
use Rattle.h2_script.proofs.Eachs.{each_last, each_more, each_none, each_other, none_left, some_left, turn}
use Rattle.h2_script.proofs.payload.settings_at.Goals as goal

pub loop-turn-init : goal.loop-turn-init
loop-turn-init g c =
    let all : length c.args.text.now + 1 - 0 ≡ length c.args.text.now + 1 = omega arith in
    rw c.new-octets.ensures.items (ap (λ (k : ℕ). behind_each setting_at setting_octets [] k c.args.text.now) all)

pub returns-in_default : goal.returns-in_default
returns-in_default g c =
    let rest = c.loop-turn.rest.now in
    let items = c.loop-turn.octets.items in
    let n = length c.args.text.now + 1 - (c.loop-turn._turn + 1) in
    let fuel : length c.args.text.now + 1 - c.loop-turn._turn ≡ suc n = turn (length c.args.text.now + 1) c.loop-turn._turn c.loop-turn-test.true in
    let none = each_none setting_at setting_octets items n rest c.in_default.ensures in
    sym none ∙ ap (λ (k : ℕ). behind_each setting_at setting_octets items k rest) (sym fuel) ∙ c.loop-turn.invariant

pub returns : goal.returns
returns g c =
    let none : length c.args.text.now + 1 - c.loop-turn._turn ≡ 0 = omega (arith, c.loop-turn-test.false) in
    ap (λ (k : ℕ). behind_each setting_at setting_octets c.loop-turn.octets.items k c.loop-turn.rest.now) (sym none) ∙ c.loop-turn.invariant

pub returns-then-is_empty : goal.returns-then-is_empty
returns-then-is_empty g c =
    let rest = c.loop-turn.rest.now in
    let items = c.loop-turn.octets.items in
    let n = length c.args.text.now + 1 - (c.loop-turn._turn + 1) in
    let fuel : length c.args.text.now + 1 - c.loop-turn._turn ≡ suc n = turn (length c.args.text.now + 1) c.loop-turn._turn c.loop-turn-test.true in
    let none : length c.in-Some.behind.now ≡ 0 = none_left c.is_empty.result (length c.in-Some.behind.now) c.is_empty.ensures c.if-is_empty.true in
    let last = each_last setting_at setting_octets items n rest c.in-Some.setting c.in-Some.behind.now c.in-Some.ensures none in
    ap (λ (o : List ℕ). Some o) c.in_ok-push_setting.ensures ∙ sym last ∙ ap (λ (k : ℕ). behind_each setting_at setting_octets items k rest) (sym fuel) ∙ c.loop-turn.invariant

pub returns-in_default-after : goal.returns-in_default-after
returns-in_default-after g c =
    let rest = c.loop-turn.rest.now in
    let items = c.loop-turn.octets.items in
    let n = length c.args.text.now + 1 - (c.loop-turn._turn + 1) in
    let fuel : length c.args.text.now + 1 - c.loop-turn._turn ≡ suc n = turn (length c.args.text.now + 1) c.loop-turn._turn c.loop-turn-test.true in
    let some : 0 < length c.in-Some.behind.now = some_left c.is_empty.result (length c.in-Some.behind.now) c.is_empty.ensures c.if-is_empty.false in
    let other = each_other setting_at setting_octets items n rest c.in-Some.setting c.in-Some.behind.now c.in-Some.ensures some c.in_default-after.ensures in
    sym other ∙ ap (λ (k : ℕ). behind_each setting_at setting_octets items k rest) (sym fuel) ∙ c.loop-turn.invariant

pub loop-turn-preserved : goal.loop-turn-preserved
loop-turn-preserved g c =
    let rest = c.loop-turn.rest.now in
    let items = c.loop-turn.octets.items in
    let n = length c.args.text.now + 1 - (c.loop-turn._turn + 1) in
    let fuel : length c.args.text.now + 1 - c.loop-turn._turn ≡ suc n = turn (length c.args.text.now + 1) c.loop-turn._turn c.loop-turn-test.true in
    let some : 0 < length c.in-Some.behind.now = some_left c.is_empty.result (length c.in-Some.behind.now) c.is_empty.ensures c.if-is_empty.false in
    let more = each_more setting_at setting_octets items n rest c.in-Some.setting c.in-Some.behind.now c.in-Some-after.more.now c.in-Some.ensures some c.in-Some-after.ensures in
    ap (λ (w : List ℕ). behind_each setting_at setting_octets w n c.in-Some-after.more.now) c.in_ok-push_setting.ensures
    ∙ sym more ∙ ap (λ (k : ℕ). behind_each setting_at setting_octets items k rest) (sym fuel) ∙ c.loop-turn.invariant
