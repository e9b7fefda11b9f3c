use Rattle.std.proofs.Common.{◌≡◌, ◌∙◌, ◌-◌, ◌+◌, ℕ, ap, length, arith, refl, sym}
use Rattle.h2_explain_words.specs.Sent.{first_seen}
use Rattle.h2_cmd_judge.specs.ServerFrames.{Progress, read_upto}
use Rattle.h2_cmd_judge.proofs.FrameLaws.{read-none, read-some}
use Rattle.h2_cmd_judge.proofs.frames.ServerFrames.read_on.Goals as goal

pub loop-frame-init : goal.loop-frame-init
loop-frame-init c =
    let all : length c.args.octets.now - 0 ≡ length c.args.octets.now = omega arith in
    rw all refl

pub loop-frame-preserved : goal.loop-frame-preserved
loop-frame-preserved c =
    let n = length c.args.octets.now in
    let here : Progress = record { frames = c.loop-frame.self; rest = c.loop-frame.rest.now; events = c.loop-frame.events.items } in
    c.loop-frame.invariant
    ∙ read-some n c.loop-frame._frame c.args.after here (first_seen (c.in-Some.frame, c.in-Some.behind)) (omega (arith, c.loop-frame-test.true)) (sym c.in-Some.ensures)
    ∙ ap (λ (p : Progress). read_upto (n - (c.loop-frame._frame + 1)) c.args.after p) (c.in_ok-take_seen.ensures c.in-Some.behind.now)

pub returns-in_default : goal.returns-in_default
returns-in_default c =
    let here : Progress = record { frames = c.loop-frame.self; rest = c.loop-frame.rest.now; events = c.loop-frame.events.items } in
    c.loop-frame.invariant ∙ read-none (length c.args.octets.now - c.loop-frame._frame) c.args.after here (sym c.in_default.ensures)

pub returns : goal.returns
returns c =
    let here : Progress = record { frames = c.loop-frame.self; rest = c.loop-frame.rest.now; events = c.loop-frame.events.items } in
    let none : length c.args.octets.now - c.loop-frame._frame ≡ 0 = omega (arith, c.loop-frame-test.false) in
    c.loop-frame.invariant ∙ ap (λ (k : ℕ). read_upto k c.args.after here) none
