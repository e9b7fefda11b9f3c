use Rattle.h2_spec.specs.Texts.View.{view}
use Rattle.h2_cmd_batch.specs.Printed.{item_text, places_from}
use Rattle.h2_cmd_batch.proofs.Written.{all-places, some-places}
use Rattle.h2_cmd_batch.proofs.commands.each.write_places.Goals as goal

pub returns-in-Ok-clause-printed : goal.returns-in-Ok-clause-printed
returns-in-Ok-clause-printed g c = λ well held is.
    let written = rw (c.all.ensures, c.in-Ok.is) at (c.write_places.ensures.printed held is) in
    all-places (places_from (item_text 0 c.args.sent.now (view c.args.conn.now.state)) c.args.conn.now.state c.args.octets.now) held _ written

pub returns-in-Err-NoMemory-clause-printed : goal.returns-in-Err-NoMemory-clause-printed
returns-in-Err-NoMemory-clause-printed g c = λ well held is.
    let written = rw (c.all.ensures, c.in-Err-NoMemory.is, c.in-Err-NoMemory.field-0-is) at (c.write_places.ensures.printed held is) in
    some-places (places_from (item_text 0 c.args.sent.now (view c.args.conn.now.state)) c.args.conn.now.state c.args.octets.now) held _ written
