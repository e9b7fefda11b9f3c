use Rattle.std.proofs.Common.{◌≡◌, ℕ, ap, ◌∙◌, None, Option, subst, sym}
use Rattle.std.proofs.lemmas.Result.{on_ok_weaker}
use Rattle.h2_spec.specs.declared.connection.Phase.{Phase}
use Rattle.h2_spec.specs.declared.reactions.ReceivedData.{ReceivedData}
use Rattle.h2_spec.specs.Change.{Step}
use Rattle.h2_spec.specs.Checks.{refusal}
use Rattle.h2_spec.specs.Effect.{block_stream, body_length, concluded, on_data}
use Rattle.h2_spec.specs.Requests.Headers.{makes}
use Rattle.h2_spec.specs.State.{State}
use Rattle.h2_spec.specs.Stream.{stream_at}
use Rattle.h2_spec.specs.Trace.{step}
use Rattle.h2_spec.specs.Does.{Does, stepped}
use Rattle.h2_conn.proofs.PlainDataLaws.{plain-effect}
use Rattle.h2_conn.proofs.state.State.on_plain_data.Goals as goal

pub returns-in-None-clause-ok : goal.returns-in-None-clause-ok
unfolding step
returns-in-None-clause-ok g c =
    let s = c.args.self.now in
    let h = c.args.head.now in
    let st = stream_at s.core.last s.streams h.stream in
    let out = (g.O.Outgoing.octets c.args.out.now) in
    let out' = (g.O.Outgoing.octets c.on_data.new.out) in
    let passed : refusal (block_stream s.block) s.core.phase h ≡ None =
    ap (λ (k : Phase). refusal (block_stream s.block) k h) (sym (ap (λ (x : State). x.core.phase) c.self.view_is))
    ∙ ap (λ (b : Option ℕ). refusal b c.self.inside.core.phase h) (sym c.block_stream.ensures) ∙ sym c.refusal.ensures ∙ c.in-None.is in
    on_ok_weaker c.on_data.result
    (λ does payload count.
    subst (λ (e : Step). Does (stepped e) out c.on_data.new.self out') (sym (plain-effect s h payload passed c.requires.kind c.requires.unpadded count))
    (subst (λ (d : ReceivedData). Does (stepped (concluded s (makes s (on_data s.config s.core (body_length s.book st) d st)))) out c.on_data.new.self out') c.plain_incoming.ensures does))
    c.on_data.ensures.ok
