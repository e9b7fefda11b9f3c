use Rattle.std.proofs.Common.{◌≡◌, Bool, [], Err, Result, ap, subst, sym, ◌∙◌}
use Rattle.std.specs.Prelude.{OnOk}
use Rattle.std.proofs.lemmas.Result.{on_ok_weaker}
use Rattle.h2_spec.specs.declared.causes.Cause.{Cause}
use Rattle.h2_spec.specs.declared.connection.BlockView.{BlockView}
use Rattle.h2_spec.specs.declared.connection.Purpose.{Purpose}
use Rattle.h2_spec.specs.Effect as rule
use Rattle.h2_spec.specs.Frames.FrameType.{END_HEADERS, has}
use Rattle.h2_spec.specs.Requests.Headers.{FrameEffect, fragment, fresh_block}
use Rattle.h2_spec.specs.ReactionTable.{Cell, headers_cell}
use Rattle.h2_spec.specs.State.{Decoding}
use Rattle.h2_spec.specs.Stream.{stream_at}
use Rattle.h2_frame.specs.Parts.{headers_seen}
use Rattle.h2_conn_rules.specs.Block.{cell_of}
use Rattle.h2_spec.specs.Does.{Settles}
use Rattle.h2_conn.specs.Shown.{Shows, fields_at_hand, fields_opened, fields_with}
use Rattle.h2_conn.proofs.ShownLaws.{quiet}
use Rattle.h2_conn.proofs.state.State.on_headers.Given.{Over}
use Rattle.h2_conn.proofs.state.State.on_headers.Goals as goal

-- what HEADERS that are refused result in
refused : (g : Over) (c : goal.After-fail g) → (let s = c.args.self.now in let h = c.args.head.now in rule.on_headers s h (headers_seen c.args.part) (headers_cell h.stream (stream_at s.core.last s.streams h.stream).kind) ≡ rule.on_headers s h (headers_seen c.args.part) (cell_of (let r : Result Purpose Cause = Err c.in-Err.cause in r)))
refused g c = ap (rule.on_headers c.args.self.now c.args.head.now (headers_seen c.args.part)) (sym c.purpose_at.ensures.rule ∙ ap cell_of c.in-Err.is)

pub returns-in-Err-clause-settles : goal.returns-in-Err-clause-settles
returns-in-Err-clause-settles g c =
    subst (λ (e : FrameEffect). Settles c.args.self.now (g.O.Outgoing.octets c.args.out.now) e c.fail.result c.fail.new.self (g.O.Outgoing.octets c.fail.new.out)) (sym (refused g c)) c.fail.ensures

-- what HEADERS that open a block result in
opened : (g : Over) (c : goal.After-on_fragment g) → (let s = c.args.self.now in let h = c.args.head.now in rule.on_headers s h (headers_seen c.args.part) (headers_cell h.stream (stream_at s.core.last s.streams h.stream).kind) ≡ fragment s c.fresh_block-shown.result c.renew.new.self c.args.part.fragment.now c.has-end_headers.result)
opened g c =
    let s = c.args.self.now in
    let h = c.args.head.now in
    ap (rule.on_headers s h (headers_seen c.args.part)) (sym c.purpose_at.ensures.rule ∙ ap cell_of c.in-Ok.is)
    ∙ ap (λ (due : Bool). fragment s (fresh_block h) (record { purpose = c.in-Ok.purpose; fields = []; due = due; rest = [] }) c.args.part.fragment.now (has h.flags END_HEADERS)) (sym c.is_due.ensures)
    ∙ ap (λ (d : Decoding). fragment s (fresh_block h) d c.args.part.fragment.now (has h.flags END_HEADERS)) (sym c.renew.ensures)
    ∙ ap (λ (b : BlockView). fragment s b c.renew.new.self c.args.part.fragment.now (has h.flags END_HEADERS)) (sym c.fresh_block-shown.ensures)
    ∙ ap (fragment s c.fresh_block-shown.result c.renew.new.self c.args.part.fragment.now) (sym c.has-end_headers.ensures)

pub returns-in-Ok-clause-settles : goal.returns-in-Ok-clause-settles
returns-in-Ok-clause-settles g c =
    subst (λ (e : FrameEffect). Settles c.args.self.now (g.O.Outgoing.octets c.args.out.now) e c.on_fragment.result c.on_fragment.new.self (g.O.Outgoing.octets c.on_fragment.new.out)) (sym (opened g c)) c.on_fragment.ensures.settles

pub returns-in-Err-clause-fields : goal.returns-in-Err-clause-fields
returns-in-Err-clause-fields g c =
    let cell = sym (ap cell_of c.in-Err.is) ∙ c.purpose_at.ensures.rule in
    subst (λ (x : Cell Purpose). OnOk c.fail.result (Shows (fields_opened c.args.self.now c.args.head.now (headers_seen c.args.part) x) (fields_at_hand c.fail.new.self.block c.args.scratch.now.decoding.fields))) cell (quiet c.fail.result)

pub returns-in-Ok-clause-fields : goal.returns-in-Ok-clause-fields
returns-in-Ok-clause-fields g c =
    let s = c.args.self.now in
    let h = c.args.head.now in
    let cell = sym (ap cell_of c.in-Ok.is) ∙ c.purpose_at.ensures.rule in
    let fresh = c.renew.ensures ∙ ap (λ (due : Bool). let d : Decoding = record { purpose = c.in-Ok.purpose; fields = []; due = due; rest = [] } in d) c.is_due.ensures in
    let read = ap (λ (b : BlockView). fields_with s b c.renew.new.self c.args.part.fragment.now) c.fresh_block-shown.ensures ∙ ap (λ (d : Decoding). fields_with s (fresh_block h) d c.args.part.fragment.now) fresh in
    on_ok_weaker c.on_fragment.result (λ is. subst (λ (x : Cell Purpose). Shows (fields_opened s h (headers_seen c.args.part) x) (fields_at_hand c.on_fragment.new.self.block c.on_fragment.new.decoding.fields)) cell (is ∙ read)) c.on_fragment.ensures.fields
