use Rattle.std.proofs.Common.{refl, sym, ap, subst, ◌∙◌}
use Rattle.h2_spec.specs.declared.connection.Purpose.{Purpose}
use Rattle.h2_spec.specs.declared.reactions.Change.{Change}
use Rattle.h2_spec.specs.Requests.Headers as rule
use Rattle.h2_conn_rules.specs.Open.{state_of}
use Rattle.h2_conn_rules.specs.Sound.{IsSoundChange, in_force}
use Rattle.h2_conn.proofs.field_block.block_end.block_ends.Goals as goal

pub returns-in-Request-clause-rule : goal.returns-in-Request-clause-rule
returns-in-Request-clause-rule g c = λ b table.
    let a = c.args in
    let s = state_of a.book.now a.config a.core b table a.streams.now.streams in
    c.request_ends.ensures.rule b table ∙ ap (λ (p : Purpose). rule.block_ends s a.shown.now.stream a.shown.now.ends a.fields.now.fields p) (sym c.in-Request.is)

pub returns-in-Trailers-clause-rule : goal.returns-in-Trailers-clause-rule
returns-in-Trailers-clause-rule g c = λ b table.
    let a = c.args in
    let s = state_of a.book.now a.config a.core b table a.streams.now.streams in
    c.trailers_end.ensures.rule a.config b table ∙ ap (λ (p : Purpose). rule.block_ends s a.shown.now.stream a.shown.now.ends a.fields.now.fields p) (sym c.in-Trailers.is)

pub returns-in-Closed-clause-rule : goal.returns-in-Closed-clause-rule
returns-in-Closed-clause-rule g c = λ b table.
    let a = c.args in
    let s = state_of a.book.now a.config a.core b table a.streams.now.streams in
    c.closed_end.ensures.rule ∙ ap (λ (p : Purpose). rule.block_ends s a.shown.now.stream a.shown.now.ends a.fields.now.fields p) (sym c.in-Closed.is)

pub returns-in-TableOnly-clause-rule : goal.returns-in-TableOnly-clause-rule
returns-in-TableOnly-clause-rule g c = λ b table.
    let a = c.args in
    let s = state_of a.book.now a.config a.core b table a.streams.now.streams in
    c.goes_on.ensures ∙ ap (λ (p : Purpose). rule.goes_on a.core p) c.in-TableOnly.is ∙ ap (λ (p : Purpose). rule.block_ends s a.shown.now.stream a.shown.now.ends a.fields.now.fields p) (sym c.in-TableOnly.is)

pub returns-in-Closed-clause-sound : goal.returns-in-Closed-clause-sound
returns-in-Closed-clause-sound g c = c.closed_end.ensures.sound

pub returns-in-TableOnly-clause-sound : goal.returns-in-TableOnly-clause-sound
returns-in-TableOnly-clause-sound g c =
    let a = c.args in
    let P : Change → Type 0 = λ x. IsSoundChange a.book.now a.streams.now (in_force a.core) x in
    subst P (sym c.goes_on.ensures) (c.requires.sound.counts, (refl, sym c.requires.sound.last))
