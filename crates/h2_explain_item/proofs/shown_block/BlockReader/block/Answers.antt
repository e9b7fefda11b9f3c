use Rattle.std.proofs.Common.{◌≡◌, ◌∙◌, List, ap, map}
use Rattle.h2_explain_words.specs.Spelled.{Spelling, spelling_seen}
use Rattle.h2_explain_item.specs.ShownBlock.{BlocksRead, ShownFields, shown_fields, spelled, up_to}
use Rattle.h2_explain_item.proofs.ShownLaws.{up_to-map}
use Rattle.h2_explain_item.proofs.shown_block.BlockReader.block.Goals as goal

pub returns-clause-fields : goal.returns-clause-fields
returns-clause-fields g c =
    let fields = c.args.fields.now.fields in
    let most = c.self.inside.most in
    let seen = ap (map spelling_seen) c.up_to.ensures ∙ up_to-map most c.given.result.now ∙ ap (λ (ss : List Spelling). up_to most ss) c.given.ensures in
    ap (λ (ss : List Spelling). let x : ShownFields = record { decoded = fields; shown = spelled fields ss } in x) seen ∙ ap (λ (b : BlocksRead). shown_fields b fields) c.self.view_is
