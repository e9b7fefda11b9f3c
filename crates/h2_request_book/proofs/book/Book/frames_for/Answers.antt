use Rattle.std.proofs.Common.{◌∙◌, ◌≤◌, ◌+◌, ◌==◌, false, length, List, ℕ, ap, arith, sym, subst}
use Rattle.std.specs.List.{AllByRecursion}
use Rattle.h2_hpack_instruction.specs.Instructions.{IsWritableField}
use Rattle.h2_spec.specs.Requests.Answer.{Entry, response_block}
use Rattle.h2_spec.specs.Change.{flag_if}
use Rattle.h2_spec.specs.Hpack.Field.{Field}
use Rattle.h2_spec.specs.Frames.Frame.{frame, frame_octets}
use Rattle.h2_request_book.specs.Lent.{block_of_answer}
use Rattle.h2_request_book.proofs.BookLaws.{allowed-status, allowed-fields, allowed-block, allowed-body}
use Rattle.h2_request_book.proofs.book.Book.frames_for.Goals as goal

pub response_block-requires-clause-status : goal.response_block-requires-clause-status
response_block-requires-clause-status g c =
    subst (λ (e : Entry). (200 ≤ e.answer.status) × (e.answer.status ≤ 599)) (sym c.entry.view_is) (allowed-status c.args.self.now c.args.entry.now c.in-None.ensures)

pub response_block-requires-clause-fields : goal.response_block-requires-clause-fields
response_block-requires-clause-fields g c =
    subst (λ (fields : List Field). AllByRecursion IsWritableField fields) (sym c.as_slice.ensures)
    (subst (λ (e : Entry). AllByRecursion IsWritableField e.answer.fields) (sym c.entry.view_is) (allowed-fields c.args.self.now c.args.entry.now c.in-None.ensures))

pub frame_of_body-requires : goal.frame_of_body-requires
frame_of_body-requires g c =
    let same = ap length c.as_slice-body.ensures in
    let body = ap (λ (e : Entry). length e.answer.body) c.entry.view_is in
    let within = allowed-body c.args.self.now c.args.entry.now c.in-None.ensures in
    omega (arith, same, body, within)

pub headers_of_block-requires : goal.headers_of_block-requires
headers_of_block-requires g c =
    let block = c.in_ok-block-in-None.ensures.block ∙ ap (response_block false c.entry.inside.status) c.as_slice.ensures ∙ ap (λ (e : Entry). block_of_answer e.answer) c.entry.view_is in
    subst (λ (b : List ℕ). length b ≤ 16383) (sym (c.as_slice-in-None.ensures.value ∙ block)) (allowed-block c.args.self.now c.args.entry.now c.in-None.ensures)

pub returns-in_ok-body_frame-in-None-clause-frames : goal.returns-in_ok-body_frame-in-None-clause-frames
returns-in_ok-body_frame-in-None-clause-frames g c =
    let block = c.in_ok-block-in-None.ensures.block ∙ ap (response_block false c.entry.inside.status) c.as_slice.ensures ∙ ap (λ (e : Entry). block_of_answer e.answer) c.entry.view_is in
    let body = c.as_slice-body.ensures ∙ ap (λ (e : Entry). e.answer.body) c.entry.view_is in
    let empty = c.is_empty.ensures ∙ ap (λ (b : List ℕ). length b == 0) body in
    record {
      headers = c.in_ok-headers-in-None.ensures ∙ ap (λ is_empty. frame_octets (frame 1 (4 + flag_if is_empty 1) 0 c.as_slice-in-None.result.now)) empty
          ∙ ap (λ b. frame_octets (frame 1 (4 + flag_if (length c.args.entry.now.answer.body == 0) 1) 0 b)) (c.as_slice-in-None.ensures.value ∙ block);
      body_frame = c.in_ok-body_frame-in-None.ensures ∙ ap (λ b. frame_octets (frame 0 1 0 b)) body;
      within = allowed-block c.args.self.now c.args.entry.now c.in-None.ensures;
    }
