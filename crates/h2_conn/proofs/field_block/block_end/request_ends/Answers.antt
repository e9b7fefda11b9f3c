use Rattle.std.proofs.Common.{refl, sym, ap, subst, ◌∙◌, length}
use Rattle.h2_spec.specs.declared.connection.ConnectionState.{ConnectionState}
use Rattle.h2_spec.specs.declared.reactions.Change.{Change}
use Rattle.h2_spec.specs.declared.reactions.StreamOutcome.{StreamOutcome}
use Rattle.h2_spec.specs.Requests.Answer.{picked}
use Rattle.h2_spec.specs.Change.{only_counts, with_outcome}
use Rattle.h2_spec.specs.Requests.Headers.{request_outcome}
use Rattle.h2_spec.specs.Stream.{live_count}
use Rattle.h2_conn_rules.specs.Sound.{IsCalm}
use Rattle.h2_conn.proofs.BlockLaws.{opening-put, same-opening}
use Rattle.h2_conn.proofs.field_block.block_end.request_ends.Goals as goal

pub returns-clause-rule : goal.returns-clause-rule
returns-clause-rule g c = λ b table.
    let a = c.args in
    let book = a.book.now in
    let fields = a.fields.now.fields in
    let id = a.shown.now.stream in
    let ends = a.shown.now.ends in
    let opened : ConnectionState = record a.core { last = id } in
    let f = c.request_summary-summary.result in
    let made = c.request_summary-summary.ensures in
    let live = live_count a.streams.now.streams in
    let outcome =
    c.opening_outcome-outcome.ensures.rule ∙ ap (λ n. request_outcome a.config n (length (picked book f.pick).body) (picked book f.pick).early a.core id ends f) c.live_count-live.ensures
    ∙ same-opening book a.config live a.core id ends fields f made.size made.malformed made.well_formed in
    c.with_outcome.ensures.rule ∙ ap (λ (x : Change). with_outcome x c.opening_outcome-outcome.result) c.only_counts-opened.ensures ∙ ap (λ (t : StreamOutcome). with_outcome (only_counts opened) t) outcome

pub returns-clause-sound : goal.returns-clause-sound
returns-clause-sound g c =
    let a = c.args in
    let r = a.streams.now in
    let id = a.shown.now.stream in
    let opened : ConnectionState = record a.core { last = id } in
    let outcome = c.opening_outcome-outcome.ensures in
    let put = opening-put r id c.opening_outcome-outcome.result.stream c.requires.open.0 c.requires.open.1 outcome.id in
    let calm = subst (IsCalm opened) (sym c.only_counts-opened.ensures) (c.requires.sound.counts, refl, refl) in
    c.with_outcome.ensures.sound a.book.now r opened calm put.1 outcome.sound outcome.waits put.0 outcome.recorded
