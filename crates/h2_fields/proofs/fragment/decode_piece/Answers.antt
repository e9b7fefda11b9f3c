use Rattle.std.proofs.Common.{◌≡◌, ◌++◌, ℕ, List, [], OnOk, IfErr, length, ◌∙◌, sym, subst}
use Rattle.h2_spec.specs.Hpack.Block.{Decoded, Unfinished, decoded, progress_with}
use Rattle.h2_spec.specs.Hpack.DynamicTable.{Table}
use Rattle.h2_table.specs.Edits.{edited}
use Rattle.h2_fields.specs.Applied.{IsStopped}
use Rattle.h2_fields.specs.Rests.{IsTicked}
use Rattle.h2_fields.proofs.Stopping.{none_left}
use Rattle.h2_fields.proofs.fragment.decode_piece.Goals as goal

pub decode_alone-requires : goal.decode_alone-requires
decode_alone-requires g c = record { empty = none_left c.args.rest.now.all (sym c.is_empty.ensures ∙ c.if-is_empty.true); belongs = c.begin.ensures.belongs }

pub returns-then-is_empty-clause-before : goal.returns-then-is_empty-clause-before
returns-then-is_empty-clause-before g c =
    c.decode_alone.ensures.before ∙ sym (c.requires.fresh ∙ none_left c.args.rest.now.all (sym c.is_empty.ensures ∙ c.if-is_empty.true))

pub returns-then-is_empty-clause-decoded : goal.returns-then-is_empty-clause-decoded
returns-then-is_empty-clause-decoded g c =
    let none = c.requires.fresh ∙ none_left c.args.rest.now.all (sym c.is_empty.ensures ∙ c.if-is_empty.true) in
    let new = c.decode_alone.new in
    let end : Decoded = record { progress = progress_with (edited c.args.table.now.table.entries new.edit) new.collected; outcome = Unfinished new.rest.after } in
    let is = λ (t : Table) (b : List ℕ). OnOk c.decode_alone.result (decoded c.args.table.now.limit (progress_with t c.args.collected.now) (b ++ c.args.piece.now) ≡ end) in
    subst (λ (b : List ℕ). is c.args.table.now.table b) (sym none) (subst (λ (t : Table). is t []) c.begin.ensures.same c.decode_alone.ensures.decoded)

pub returns-then-is_empty-clause-ticks : goal.returns-then-is_empty-clause-ticks
returns-then-is_empty-clause-ticks g c =
    let none = c.requires.fresh ∙ none_left c.args.rest.now.all (sym c.is_empty.ensures ∙ c.if-is_empty.true) in
    let new = c.decode_alone.new.rest in
    subst (λ (b : List ℕ). OnOk c.decode_alone.result (IsTicked (length b) (length c.args.piece.now) (length new.after) new.ticks)) (sym none) c.decode_alone.ensures.ticks

pub returns-then-is_empty-clause-fault : goal.returns-then-is_empty-clause-fault
returns-then-is_empty-clause-fault g c =
    let none = c.requires.fresh ∙ none_left c.args.rest.now.all (sym c.is_empty.ensures ∙ c.if-is_empty.true) in
    let new = c.decode_alone.new in
    let now = progress_with (edited c.args.table.now.table.entries new.edit) new.collected in
    let is = λ (t : Table) (b : List ℕ). IfErr c.decode_alone.result (IsStopped c.args.table.now.limit (progress_with t c.args.collected.now) (b ++ c.args.piece.now) now) in
    subst (λ (b : List ℕ). is c.args.table.now.table b) (sym none) (subst (λ (t : Table). is t []) c.begin.ensures.same c.decode_alone.ensures.fault)

pub returns-else-is_empty-clause-decoded : goal.returns-else-is_empty-clause-decoded
returns-else-is_empty-clause-decoded g c =
    let new = c.decode_behind.new in
    let end : Decoded = record { progress = progress_with (edited c.args.table.now.table.entries new.edit) new.collected; outcome = Unfinished new.rest.after } in
    subst (λ (t : Table). OnOk c.decode_behind.result (decoded c.args.table.now.limit (progress_with t c.args.collected.now) (c.args.rest.now.before ++ c.args.piece.now) ≡ end)) c.begin.ensures.same c.decode_behind.ensures.decoded

pub returns-else-is_empty-clause-fault : goal.returns-else-is_empty-clause-fault
returns-else-is_empty-clause-fault g c =
    let new = c.decode_behind.new in
    let now = progress_with (edited c.args.table.now.table.entries new.edit) new.collected in
    subst (λ (t : Table). IfErr c.decode_behind.result (IsStopped c.args.table.now.limit (progress_with t c.args.collected.now) (c.args.rest.now.before ++ c.args.piece.now) now)) c.begin.ensures.same c.decode_behind.ensures.fault
