use Rattle.std.proofs.Common.{◌∙◌, drop}
use Rattle.h2_request_book.proofs.LentLaws.{body_frame-length}
use Rattle.h2_request_book.proofs.book.answer_of.Goals as goal

pub octets_from-requires : goal.octets_from-requires
octets_from-requires g c = body_frame-length (drop 9 c.stored.inside.body_frame.items) c.as_slice-2.result.now (c.as_slice-2.ensures.value ∙ c.stored.invariant.body_frame)
