use Rattle.std.proofs.Common.{◌≡◌, ◌≤◌, ◌∙◌, ℕ, List, length, drop, ap, sym, subst}
use Rattle.h2_spec.specs.Requests.Answer.{picked}
use Rattle.h2_request_book.proofs.LentLaws.{block-in-headers, headers-length}
use Rattle.h2_request_book.proofs.book.Book.block.Goals as goal

pub octets_from-requires : goal.octets_from-requires
octets_from-requires g c = subst (λ (octets : List ℕ). 9 ≤ length octets) (sym c.headers.ensures.headers) (headers-length (picked c.args.self.now c.args.pick))

pub returns-clause-block : goal.returns-clause-block
returns-clause-block g c = c.octets_from.ensures ∙ ap (drop 9) c.headers.ensures.headers ∙ block-in-headers (picked c.args.self.now c.args.pick)

pub returns-clause-within : goal.returns-clause-within
returns-clause-within g c = subst (λ (octets : List ℕ). length octets ≤ 16383) (sym (returns-clause-block g c)) c.headers.ensures.within
