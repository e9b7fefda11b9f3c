use Rattle.std.proofs.Common.{◌∙◌, ◌++◌, List, ℕ, ap, length, sym}
use Rattle.std.specs.String.{string_bytes}
use Rattle.h2_explain_words.specs.Sent.{first_seen}
use Rattle.h2_cmd_inject.specs.Asides.{IsFrameLine}
use Rattle.h2_cmd_inject.proofs.AsideLaws.{lines-end, lines-full, lines-init, lines-next}
use Rattle.h2_cmd_inject.proofs.aside.put_frames.Goals as goal

pub loop-frame-init : goal.loop-frame-init
loop-frame-init c = lines-init (IsFrameLine c.args.paint.0 c.args.word.now) (length c.args.octets.now) c.args.octets.now c.args.out.now.items

pub loop-frame-preserved : goal.loop-frame-preserved
loop-frame-preserved c =
    let old = c.loop-frame.out.items in
    lines-next (IsFrameLine c.args.paint.0 c.args.word.now) (length c.args.octets.now) c.loop-frame._frame c.args.octets.now c.loop-frame.rest.now c.args.out.now.items old c.extend_from_slice.new.self.items
    (first_seen (c.in-Some.frame, c.in-Some.after)) c.loop-frame-test.true (sym c.in-Some.ensures) c.loop-frame.invariant
    (string_bytes c.in_ok-line.line, c.in_ok-line.ensures, c.in_ok-extend_from_slice.ensures.items ∙ ap (λ (x : List ℕ). old ++ x) c.as_bytes.ensures.value)

pub returns-in_default : goal.returns-in_default
returns-in_default c =
    lines-end (IsFrameLine c.args.paint.0 c.args.word.now) (length c.args.octets.now) c.loop-frame._frame c.args.octets.now c.loop-frame.rest.now c.args.out.now.items c.loop-frame.out.items
    (sym c.in_default.ensures) c.loop-frame.invariant

pub returns : goal.returns
returns c =
    lines-full (IsFrameLine c.args.paint.0 c.args.word.now) (length c.args.octets.now) c.loop-frame._frame c.args.octets.now c.loop-frame.rest.now c.args.out.now.items c.loop-frame.out.items
    c.loop-frame-test.false c.loop-frame.invariant
