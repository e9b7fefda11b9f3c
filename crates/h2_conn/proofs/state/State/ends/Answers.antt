use Rattle.std.proofs.Common.{◌≡◌, ◌∙◌, ℕ, true, None, ap, refl, subst, sym}
use Rattle.h2_spec.specs.declared.connection.ConnectionState.{ConnectionState}
use Rattle.h2_spec.specs.Requests.Headers.{FrameEffect, block_ends, fragment_read}
use Rattle.h2_spec.specs.State.{Decoding, State}
use Rattle.h2_spec.specs.Stream.{Records}
use Rattle.h2_conn.specs.Fragments.{after_of}
use Rattle.h2_conn_rules.specs.Open.{IsOpenAt, state_of}
use Rattle.h2_conn_rules.specs.Sound.{IsSoundState}
use Rattle.h2_conn.specs.Blocks.{makes_open, with_table}
use Rattle.h2_spec.specs.Does.{Settles}
use Rattle.h2_conn.specs.Records.{records}
use Rattle.h2_conn.proofs.FinishLaws.{block-made}
use Rattle.h2_conn.proofs.FragmentLaws.{ends-badly, ends-well}
use Rattle.h2_conn.proofs.state.State.ends.Given.{Over}
use Rattle.h2_conn.proofs.state.State.ends.Goals as goal

pub finish-requires : goal.finish-requires
finish-requires g c = λ k.
    let s = c.args.self.now in
    let inside = c.self.inside in
    let block = c.decoding.inside in
    let is = c.self.view_is in
    let last = c.self.invariant.0.last ∙ ap (λ (x : State). x.core.last) is in
    let made = block-made s inside.book.now inside.config c.core.result inside.streams c.args.shown.stream c.args.shown.ends block.collected.fields block.purpose c.block_ends-change.result
    (ap (λ (x : State). x.book) is) (ap (λ (x : State). x.streams) is) last c.core.ensures.counts (c.block_ends-change.ensures.rule s.block s.table) c.block_ends-change.ensures.sound in
    ((refl, tt), (c.requires.stopped, (c.requires.sized, (c.requires.belongs, (made.0, (tt, made.1))))))

pub returns-in-Some-clause-settles : goal.returns-in-Some-clause-settles
returns-in-Some-clause-settles g c =
    let a = c.args in
    let s = a.self.now in
    let broken = ends-badly (with_table s a.edit.now) a.shown (after_of a.decoding.now a.tentative) c.in-Some.cause (sym c.bad_end.ensures ∙ c.in-Some.is) in
    subst (λ (e : FrameEffect). Settles s (g.O.Outgoing.octets a.out.now) e c.refuse.result c.refuse.new.self (g.O.Outgoing.octets c.refuse.new.out)) (sym broken) c.refuse.ensures.settles

-- what the block results in is made
made : (g : Over) (c : goal.After-finish g) → fragment_read (with_table c.args.self.now c.args.edit.now) c.args.shown (after_of c.args.decoding.now c.args.tentative) true ≡ makes_open c.args.self.now c.args.edit.now None (after_of c.args.decoding.now c.args.tentative) c.block_ends-change.result
made g c =
    let s = with_table c.args.self.now c.args.edit.now in
    let inside = c.self.inside in
    let is = c.self.view_is in
    let core : c.core.result ≡ inside.core = c.core.ensures.counts ∙ sym (ap (λ (x : State). x.core) is) in
    let same : state_of inside.book.now inside.config c.core.result s.block s.table inside.streams.streams ≡ s =
    ap (λ (k : ConnectionState). state_of inside.book.now inside.config k s.block s.table inside.streams.streams) core ∙ ap (λ (x : State). record x { block = s.block; table = s.table }) is in
    ends-well s c.args.shown (after_of c.args.decoding.now c.args.tentative) inside.book.now inside.config c.core.result inside.streams.streams c.block_ends-change.result (sym c.bad_end.ensures ∙ c.in-None.is) same
    (subst (λ (d : Decoding). c.block_ends-change.result ≡ block_ends (state_of inside.book.now inside.config c.core.result s.block s.table inside.streams.streams) c.args.shown.stream c.args.shown.ends d.fields d.purpose) c.decoding.view_is (c.block_ends-change.ensures.rule s.block s.table))

pub returns-in-None-clause-settles : goal.returns-in-None-clause-settles
returns-in-None-clause-settles g c =
    subst (λ (e : FrameEffect). Settles c.args.self.now (g.O.Outgoing.octets c.args.out.now) e c.finish.result c.finish.new.self (g.O.Outgoing.octets c.finish.new.out)) (sym (made g c)) c.finish.ensures.settles

pub block_ends-change-requires-clause-sound : goal.block_ends-change-requires-clause-sound
block_ends-change-requires-clause-sound g c = subst (λ (k : ConnectionState). IsSoundState c.self.inside.book.now k c.self.inside.streams) (ap (λ (x : State). x.core) c.self.view_is ∙ sym c.core.ensures.counts) c.self.invariant.0

pub block_ends-change-requires-clause-open : goal.block_ends-change-requires-clause-open
block_ends-change-requires-clause-open g c =
    let s = c.args.self.now in
    let inside = c.self.inside in
    let is = c.self.view_is in
    let last = c.self.invariant.0.last ∙ ap (λ (x : State). x.core.last) is in
    let same = ap (λ (x : State). record inside.streams { streams = x.streams }) is ∙ ap (λ (l : ℕ). record (records s) { last = l }) last in
    subst (λ (r : Records). IsOpenAt r c.args.shown.stream c.decoding.inside.purpose) (sym same)
    (subst (λ (d : Decoding). IsOpenAt (records s) c.args.shown.stream d.purpose) (sym c.decoding.view_is) c.requires.open)
