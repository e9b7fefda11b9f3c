-- Frames of live streams with which nothing is wrong: what their tests say, and which rule they follow.
use Rattle.std.proofs.Common.{◌≡◌, ℕ, nat_lt, Bool, true, false, ◌&&◌, cond, Option, None, refl, ap, ◌∙◌, pos, int_lt}
use Rattle.std.proofs.lemmas.Bool.{false≢true, not-true}
use Rattle.h2_spec.specs.declared.causes.Cause.{Cause}
use Rattle.h2_spec.specs.declared.causes.Cause.TheVariants.{ConnectionWindowExceeded, StreamWindowExceeded}
use Rattle.h2_spec.specs.declared.connection.Config.{Config}
use Rattle.h2_spec.specs.declared.connection.ConnectionState.{ConnectionState}
use Rattle.h2_spec.specs.declared.reactions.Reaction.{Reaction}
use Rattle.h2_spec.specs.declared.reactions.Reaction.TheVariants.{ConnectionError, Continues}
use Rattle.h2_spec.specs.declared.reactions.ReceivedData.{ReceivedData}
use Rattle.h2_spec.specs.declared.reactions.StreamOutcome.{StreamOutcome}
use Rattle.h2_spec.specs.declared.streams.Stream.{Stream}
use Rattle.h2_spec.specs.declared.streams.StreamState.{StreamState}
use Rattle.h2_spec.specs.declared.streams.StreamState.TheVariants.{Idle, Skipped, BothOpen, HalfRemote, HalfLocal, Ended, PeerReset, WeReset}
use Rattle.h2_spec.specs.Change.{stream_error, unless_broken, with_outcome}
use Rattle.h2_spec.specs.Data.{content_with, counted, data_outcome, data_taken, length_broken, returned, taken}
use Rattle.h2_spec.specs.Effect.{data_rule, ignore, on_data}
use Rattle.h2_spec.specs.ReactionTable.{Cell, DataRule, Rule, Take, data_cell, run_cell}
use Rattle.h2_spec.specs.Stream.{is_live, is_peer_open}
use Rattle.h2_spec.specs.Requests.StreamEnds.{peer_ended}
use Rattle.h2_spec.proofs.Computed.{and-left, and-right}
use Rattle.h2_conn_rules.specs.Plain.{only_takes}
use Rattle.h2_conn_rules.proofs.SoundLaws.{no-cause, peer-open-live}

-- a stream on which the peer may still send takes DATA
open-takes : (kind : StreamState) → is_peer_open kind ≡ true → data_cell kind ≡ Rule Take
open-takes Idle h = absurd (false≢true h)
open-takes Skipped h = absurd (false≢true h)
open-takes BothOpen h = refl
open-takes HalfRemote h = absurd (false≢true h)
open-takes HalfLocal h = refl
open-takes Ended h = absurd (false≢true h)
open-takes PeerReset h = absurd (false≢true h)
open-takes WeReset h = absurd (false≢true h)

-- why DATA is not what was declared, if it is not
abbrev declared_broken : ReceivedData → Stream → Option Cause
declared_broken d st = length_broken st.numbers.declared (content_with st.numbers.content_received d.content) d.ends

-- what the test says, part by part
parts : (core : ConnectionState) (d : ReceivedData) (st : Stream) → only_takes core d st ≡ true →
    (is_peer_open st.kind ≡ true) × (int_lt core.recv (pos d.octets) ≡ false) × ((nat_lt 0 d.octets && int_lt st.numbers.recv (pos d.octets)) ≡ false) × (declared_broken d st ≡ None)
parts core d st h =
    let three = and-left _ _ h in
    let two = and-left _ _ three in
    (and-left _ _ two, not-true _ (and-right _ _ two), not-true _ (and-right _ _ three), no-cause (declared_broken d st) (and-right _ _ h))

pub takes-live : (core : ConnectionState) (d : ReceivedData) (st : Stream) → only_takes core d st ≡ true → is_live st.kind ≡ true
takes-live core d st h = peer-open-live st.kind (parts core d st h).0

-- what the stream does with it
outcome-taken : (threshold body : ℕ) (d : ReceivedData) (st : Stream) → (nat_lt 0 d.octets && int_lt st.numbers.recv (pos d.octets)) ≡ false → declared_broken d st ≡ None →
    data_outcome threshold body d st ≡ cond d.ends (peer_ended body (taken st d)) (returned threshold (taken st d))
unfolding data_outcome
outcome-taken threshold body d st fits none =
    let rest : StreamOutcome = cond d.ends (peer_ended body (taken st d)) (returned threshold (taken st d)) in
    ap (λ (t : Bool). cond t (stream_error st.id StreamWindowExceeded) (unless_broken (declared_broken d st) st.id rest)) fits
    ∙ ap (λ (o : Option Cause). unless_broken o st.id rest) none

-- DATA that is taken follows the rule of DATA
takes-rule : (config : Config) (core : ConnectionState) (body : ℕ) (d : ReceivedData) (st : Stream) → only_takes core d st ≡ true →
    on_data config core body d st ≡ Continues (with_outcome (counted config.credit core d.octets) (cond d.ends (peer_ended body (taken st d)) (returned config.credit (taken st d))))
unfolding on_data data_taken
takes-rule config core body d st h =
    let all = parts core d st h in
    ap (λ (cell : Cell DataRule). run_cell ConnectionError (ignore core) (λ rule. data_rule rule config core body d st) cell) (open-takes st.kind all.0)
    ∙ ap (λ (t : Bool). cond t (let r : Reaction = ConnectionError ConnectionWindowExceeded in r) (Continues (with_outcome (counted config.credit core d.octets) (data_outcome config.credit body d st)))) all.1
    ∙ ap (λ (o : StreamOutcome). Continues (with_outcome (counted config.credit core d.octets) o)) (outcome-taken config.credit body d st all.2 all.3)

-- where more may come, it only moves numbers
pub more-rule : (config : Config) (core : ConnectionState) (body : ℕ) (d : ReceivedData) (st : Stream) → only_takes core d st ≡ true → d.ends ≡ false →
    on_data config core body d st ≡ Continues (with_outcome (counted config.credit core d.octets) (returned config.credit (taken st d)))
more-rule config core body d st h stays =
    takes-rule config core body d st h
    ∙ ap (λ (t : Bool). Continues (with_outcome (counted config.credit core d.octets) (cond t (peer_ended body (taken st d)) (returned config.credit (taken st d))))) stays

-- with END_STREAM the peer's side ends
pub last-rule : (config : Config) (core : ConnectionState) (body : ℕ) (d : ReceivedData) (st : Stream) → only_takes core d st ≡ true → d.ends ≡ true →
    on_data config core body d st ≡ Continues (with_outcome (counted config.credit core d.octets) (peer_ended body (taken st d)))
last-rule config core body d st h ends =
    takes-rule config core body d st h
    ∙ ap (λ (t : Bool). Continues (with_outcome (counted config.credit core d.octets) (cond t (peer_ended body (taken st d)) (returned config.credit (taken st d))))) ends
