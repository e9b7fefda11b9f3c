use Rattle.std.proofs.Common.{◌≡◌, ℕ, Option, None, ap, sym, ◌∙◌}
use Rattle.std.specs.Option.{option_map}
use Rattle.h2_spec.specs.declared.causes.Cause.{Cause}
use Rattle.h2_spec.specs.declared.reactions.BlockSummary.{BlockSummary}
use Rattle.h2_spec.specs.declared.streams.Pick.{Pick}
use Rattle.h2_spec.specs.Requests.Answer.{pick_of}
use Rattle.h2_spec.specs.Hpack.Block.{list_size}
use Rattle.h2_spec.specs.Requests.Request.{Request, declared_length, request_cause, request_fault, request_of}
use Rattle.h2_request_book.specs.Asked.{asked}
use Rattle.h2_conn.proofs.field_block.block_end.request_summary.Goals as goal

abbrev summary : ℕ → Option Cause → Option ℕ → Pick → BlockSummary
summary size malformed declared pick = record { size = size; malformed = malformed; declared = declared; pick = pick }

pub returns-in-Ok-clause-well_formed : goal.returns-in-Ok-clause-well_formed
unfolding request_of
returns-in-Ok-clause-well_formed g c = λ small none.
    let fields = c.args.fields.now.fields in
    let book = c.args.book.now in
    let declared = c.in-Ok.request.declared in
    let pick = c.find.result in
    let asked_is : asked c.in-Ok.request ≡ request_of fields = c.in-Ok.ensures.request in
    ap (λ n. summary n None declared pick) c.list_size-size.ensures
    ∙ ap (λ b. summary (list_size fields) b declared pick) (sym (ap (option_map request_cause) none))
    ∙ ap (λ d. summary (list_size fields) (request_fault fields) d pick) (ap (λ (r : Request). r.declared) asked_is)
    ∙ ap (λ p. summary (list_size fields) (request_fault fields) (declared_length fields) p) (c.find.ensures.first ∙ ap (pick_of book) asked_is)
