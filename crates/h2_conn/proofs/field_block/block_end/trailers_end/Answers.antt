use Rattle.std.proofs.Common.{◌≡◌, true, refl, sym, ap, subst, ◌∙◌, length}
use Rattle.h2_spec.specs.declared.reactions.Change.{Change}
use Rattle.h2_spec.specs.declared.reactions.StreamOutcome.{StreamOutcome}
use Rattle.h2_spec.specs.Requests.Answer.{picked}
use Rattle.h2_spec.specs.Hpack.Block.{list_size}
use Rattle.h2_spec.specs.Change.{only_counts, with_outcome}
use Rattle.h2_spec.specs.Requests.Headers.{trailers_outcome}
use Rattle.h2_spec.specs.Requests.Request.{trailers_fault}
use Rattle.h2_spec.specs.declared.streams.Stream.{Stream}
use Rattle.h2_spec.specs.Stream.{is_live, kind_of, stream_at}
use Rattle.h2_conn_rules.specs.Sound.{HasBody, IsCalm, IsSoundStream, in_force}
use Rattle.h2_conn.proofs.RequestOutcomeLaws.{trailers-turn}
use Rattle.h2_conn_rules.proofs.SoundLaws.{found-sound, live-put, live-recorded, peer-open-live}
use Rattle.h2_conn.proofs.field_block.block_end.trailers_end.Goals as goal

pub returns-clause-rule : goal.returns-clause-rule
returns-clause-rule g c = λ config b table.
    let a = c.args in
    let r = a.streams.now in
    let id = a.shown.now.stream in
    let fields = a.fields.now.fields in
    let book = a.book.now in
    let st = c.stream_at-stream.result in
    let bad = trailers_fault fields in
    let ends = a.shown.now.ends in
    let outcome =
    c.trailers_outcome-outcome.ensures.rule ∙ trailers-turn c.list_size-size.result c.trailers_fault-malformed.result bad c.body_length-body.result ends st c.trailers_fault-malformed.ensures
    ∙ ap (λ n. trailers_outcome n bad c.body_length-body.result ends st) c.list_size-size.ensures
    ∙ ap (λ n. trailers_outcome (list_size fields) bad n ends st) c.body_length-body.ensures
    ∙ ap (λ (x : Stream). trailers_outcome (list_size fields) bad (length (picked book x.pick).body) ends x) (c.stream_at-stream.ensures.value ∙ ap (λ l. stream_at l r.streams id) c.requires.sound.last) in
    c.with_outcome.ensures.rule ∙ ap (λ (x : Change). with_outcome x c.trailers_outcome-outcome.result) c.only_counts.ensures ∙ ap (λ (t : StreamOutcome). with_outcome (only_counts a.core) t) outcome

pub returns-clause-sound : goal.returns-clause-sound
returns-clause-sound g c =
    let a = c.args in
    let r = a.streams.now in
    let f = in_force a.core in
    let within = c.requires.sound.counts.1 in
    let st = c.stream_at-stream.result in
    let is = c.stream_at-stream.ensures.value in
    let id = c.stream_at-stream.ensures.id in
    let outcome = c.trailers_outcome-outcome.ensures in
    let found = found-sound a.book.now f r.last a.shown.now.stream r.streams c.requires.sound.records in
    let sound = subst (IsSoundStream f) (sym is) found.0 in
    let has = subst (HasBody a.book.now) (sym is) found.1 in
    let itself : st ≡ stream_at r.last r.streams st.id = is ∙ ap (λ i. stream_at r.last r.streams i) (sym id) in
    let live : is_live st.kind ≡ true = ap (λ (x : Stream). is_live x.kind) is ∙ peer-open-live (kind_of r.last r.streams a.shown.now.stream) c.requires.open in
    let put = live-put r st c.trailers_outcome-outcome.result.stream itself live outcome.id in
    let calm = subst (IsCalm a.core) (sym c.only_counts.ensures) (c.requires.sound.counts, refl, refl) in
    c.with_outcome.ensures.sound a.book.now r a.core calm (sym c.requires.sound.last ∙ put.1) (outcome.sound f within sound) (outcome.waits a.book.now c.body_length-body.ensures has) put.0 (outcome.recorded (live-recorded st.kind live))
