use Rattle.std.proofs.Common.{◌≡◌, map, arith}
use Rattle.std.proofs.lemmas.List.{length-map}
use Rattle.h2_explain_words.specs.Spelled.{spelling_seen}
use Rattle.h2_explain_item.proofs.ShownLaws.{length-spelled}
use Rattle.h2_explain_item.proofs.shown_block.SpelledFields.len.Goals as goal

pub returns : goal.returns
returns g c =
    let spellings = c.args.self.now.spellings.now in
    let shown = length-spelled c.args.self.now.fields.now.fields (map spelling_seen spellings) in
    let same = length-map spellings spelling_seen in
    omega (arith, shown, same, c.min.ensures, c.len.ensures)
