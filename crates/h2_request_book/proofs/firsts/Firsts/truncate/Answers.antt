use Rattle.std.proofs.Common.{◌∙◌, ℕ, ap, nat_lt, rules}
use Rattle.indexmap.proofs.CallerLemmas.{filter-RetainsPairs}
use Rattle.h2_request_book.specs.Firsts.{Key, below, find}
use Rattle.h2_request_book.proofs.FirstLaws.{kept-below}
use Rattle.h2_request_book.proofs.firsts.Firsts.truncate.Goals as goal

pub returns : goal.returns
returns g c = λ key.
    let kept = filter-RetainsPairs _ (λ (e : Key × ℕ). nat_lt e.1 c.args.count) _ (λ k v b w h call. search rules) _ _ c.retain.ensures.filtered in
    ap (find key) kept ∙ kept-below c.args.count c.self.inside.places.entries c.len-len.ensures.unique key ∙ ap (λ es. below c.args.count (find key es)) c.self.view_is
