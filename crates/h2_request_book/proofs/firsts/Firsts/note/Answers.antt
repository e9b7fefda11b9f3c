use Rattle.std.proofs.Common.{◌≡◌, ◌∙◌, ap, false, sym}
use Rattle.std.specs.Option.{is_some}
use Rattle.indexmap.specs.IndexMap.{insert_entry}
use Rattle.h2_request_book.specs.Firsts.{Key, find, same}
use Rattle.h2_request_book.proofs.FirstLaws.{noted-insert}
use Rattle.h2_request_book.proofs.firsts.Firsts.note.Goals as goal

pub returns-clause-noted : goal.returns-clause-noted
returns-clause-noted g c =
    let key : Key = (c.args.method.now, c.args.path.now) in
    let found : c.place_of.result ≡ find key c.args.self.now = c.place_of.ensures ∙ (λ i. find (c.as_slice.ensures i, c.as_slice-2.ensures i) c.args.self.now) in
    let nothing : is_some (find key c.args.self.now) ≡ false = ap is_some (sym found) ∙ sym c.is_some.ensures ∙ c.if-is_some.false in
    c.in_ok-insert.ensures.entries ∙ (λ i. insert_entry same (c.self.view_is i) (c.in_ok-key.ensures i) c.args.place) ∙ noted-insert key c.args.place c.args.self.now nothing
