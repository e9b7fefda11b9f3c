use Rattle.std.proofs.Common.{◌≡◌, ◌++◌, ℕ, List, length, subst}
use Rattle.h2_spec.specs.Hpack.Block.{decoded}
use Rattle.h2_spec.specs.Requests.Headers.{decoded_with}
use Rattle.h2_explain_words.specs.Along.{IsAlong}
use Rattle.h2_explain_words.specs.Spelled.{read_more}
use Rattle.h2_explain_item.specs.ShownBlock.{progress_in, read_on}
use Rattle.h2_explain_item.proofs.ShownLaws.{fields-spelled, spellings-spelled}
use Rattle.h2_explain_item.proofs.shown_laws.a_block_is_shown_as_it_is_decoded.Goals as goal

pub returns : goal.returns
returns c = λ s d b octets spelled.
    let e = decoded_with s d octets in
    let after = read_on b e.progress.fields s.core.own.table octets in
    let limit = s.core.own.table in
    let p = progress_in s d in
    let along = subst (λ (rest : List ℕ). let f = decoded limit p (rest ++ octets) in IsAlong limit p b.block.taken f (read_more (length f.progress.fields) limit b.block octets)) spelled.1
    (c.fields_are_spelled_in_their_order-law.ensures limit p b.block octets spelled.0) in
    record {
      along = along;
      fields = fields-spelled after.most e.progress.fields after.block.taken.given along.each;
      spellings = spellings-spelled after.most e.progress.fields after.block.taken.given along.each;
    }
