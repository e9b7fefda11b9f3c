use Rattle.std.proofs.Common.{◌≡◌, ◌++◌, ℕ, List, length, subst, sym}
use Rattle.h2_spec.specs.Hpack.Block.{decoded}
use Rattle.h2_explain_words.specs.Along.{IsAlong}
use Rattle.h2_explain_words.specs.Spelled.{read_more}
use Rattle.h2_explain_item.specs.ShownBlock.{progress_in, read_on}
use Rattle.h2_explain_item.proofs.TableLaws.{followed-along, made-table}
use Rattle.h2_explain_item.proofs.shown_laws.the_table_followed_is_the_connections.Goals as goal

pub returns-clause-decoded : goal.returns-clause-decoded
returns-clause-decoded c = λ s d b octets item f listed spelled_so_far followed.
    let limit = s.core.own.table in
    let p = progress_in s d in
    let e = decoded limit p (d.rest ++ octets) in
    let after = read_on b e.progress.fields limit octets in
    let along = subst (λ (rest : List ℕ). let x = decoded limit p (rest ++ octets) in IsAlong limit p b.block.taken x (read_more (length x.progress.fields) limit b.block octets)) spelled_so_far.1
    (c.fields_are_spelled_in_their_order-law.ensures limit p b.block octets spelled_so_far.0) in
    followed-along limit item p b e after f listed along spelled_so_far.0 followed

pub returns-clause-made : goal.returns-clause-made
returns-clause-made c = λ s t v d octets ends change e. sym (made-table s t v d octets ends change e)
