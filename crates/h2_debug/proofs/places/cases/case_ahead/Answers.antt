use Rattle.std.proofs.Common.{◌≡◌, ◌∙◌}
use Rattle.h2_spec.specs.Frames.Frame.{Got}
use Rattle.h2_frame.specs.Items.{item_of}
use Rattle.h2_debug.proofs.CaseLaws.{ahead-known}
use Rattle.h2_debug.proofs.places.cases.case_ahead.Goals as goal

pub returns : goal.returns
returns g c = λ item used next caused octets after_end.
    let s = c.args.conn.now.state in
    let found : Got (item_of c.in-Some.item) _ ≡ Got item used = c.in-Some.ensures ∙ next in
    let same : item_of c.in-Some.item ≡ item = cc in
    let saw = rw (c.head_of-head.ensures, c.stream-stream.ensures, c.stream_in.ensures, c.head_of-head.ensures, c.counts.ensures, same) at c.seen_by-seen.ensures in
    let holds = rw same at c.part_in.ensures in
    let shows = rw same at c.shows_fields-shows.ensures in
    let fields = rw next at c.in_ok-fields.ensures in
    let is = rw c.case_facts-facts.ensures at c.case_of_cause.ensures in
    ahead-known s c.args.continued c.args.cause item _ _ _ _ saw holds c.requires.other (λ apart. fields (shows c.args.cause caused apart)) is octets after_end
