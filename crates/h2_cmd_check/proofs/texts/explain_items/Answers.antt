use Rattle.std.proofs.Common.{◌≡◌, ℕ, map, drop, subst, sym, arith}
use Rattle.std.specs.String.{string_bytes}
use Rattle.h2_spec.specs.Frames.Parse.{One}
use Rattle.h2_spec.specs.Trace.{next_event}
use Rattle.h2_cmd_check.proofs.TextLaws.{texts_end, texts_next, within_next}
use Rattle.h2_cmd_check.proofs.texts.explain_items.Goals as goal

pub loop-used-smaller : goal.loop-used-smaller
loop-used-smaller c =
    let one = rw (c.octets_from-rest.ensures, c.in-Ok-Some.field-0-is) at c.in-Ok-Some.ensures.takes in
    let s = c.loop-used.conn.state in
    let t = c.take_text.new.conn.state in
    let comes = subst (λ (u : ℕ). next_event s (drop c.loop-used.at c.args.octets.now) ≡ One one.explains.event t u) (sym one.used_is) one.explains.comes in
    let within = within_next s t c.args.octets.now c.loop-used.at c.in-Ok-Some.used one.explains.event c.loop-used.invariant.within comes in
    omega (arith, within.0, within.1)

pub loop-used-preserved : goal.loop-used-preserved
loop-used-preserved c =
    let one = rw (c.octets_from-rest.ensures, c.in-Ok-Some.field-0-is) at c.in-Ok-Some.ensures.takes in
    let s = c.loop-used.conn.state in
    let t = c.take_text.new.conn.state in
    let comes = subst (λ (u : ℕ). next_event s (drop c.loop-used.at c.args.octets.now) ≡ One one.explains.event t u) (sym one.used_is) one.explains.comes in
    let within = within_next s t c.args.octets.now c.loop-used.at c.in-Ok-Some.used one.explains.event c.loop-used.invariant.within comes in
    record {
      ready = c.take_text.ensures.ready;
      within = within.1;
      texts = texts_next c.args.conn.now.state s c.args.octets.now c.loop-used.at (map string_bytes c.loop-used.texts.items) c.take_text.new.conn (map string_bytes c.take_text.new.texts.items) c.in-Ok-Some.used one c.loop-used.invariant.texts;
    }

pub returns-in-Ok-None : goal.returns-in-Ok-None
returns-in-Ok-None c =
    let none = rw (c.octets_from-rest.ensures, c.in-Ok-None.field-0-is) at c.in-Ok-None.ensures.takes in
    texts_end c.args.conn.now.state c.loop-used.conn.state c.args.octets.now c.loop-used.at (map string_bytes c.loop-used.texts.items) (map string_bytes c.take_text.new.texts.items) c.loop-used.invariant.texts none.0 none.1
