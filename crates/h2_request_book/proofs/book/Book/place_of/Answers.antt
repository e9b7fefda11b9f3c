use Rattle.std.proofs.Common.{◌∙◌, ap, position}
use Rattle.h2_request_book.specs.Firsts.{Key, is_for}
use Rattle.h2_request_book.proofs.book.Book.place_of.Goals as goal

pub returns : goal.returns
returns g c =
    let key : Key = (c.args.method.now, c.args.path.now) in
    c.place_of.ensures ∙ c.self.invariant key ∙ ap (position (is_for key)) c.self.view_is
