use Rattle.std.proofs.Common.{◌≡◌, ◌∙◌, length, map, slice_get, Some, option_map, refl, ap, arith, sym}
use Rattle.std.proofs.lemmas.List.{length-map}
use Rattle.std.proofs.lemmas.Option.{slice_get-map, slice_get_read}
use Rattle.h2_explain_words.specs.Spelled.{spelling_seen}
use Rattle.h2_explain_item.specs.ShownBlock.{with_spelling}
use Rattle.h2_explain_item.proofs.ShownLaws.{spelled-at, spelled-past}
use Rattle.h2_explain_item.proofs.shown_block.SpelledFields.get.Goals as goal

pub returns-in-Some : goal.returns-in-Some
returns-in-Some g c =
    let fields = c.args.self.now.fields.now.fields in
    let spellings = c.args.self.now.spellings.now in
    let spelling = c.in-Some.spelling.now in
    let found = c.in-Some.ensures.lookup in
    let at = slice_get_read spellings (length spellings) c.args.place spelling refl found.3.0 found.1 in
    let seen : slice_get (map spelling_seen spellings) c.args.place ≡ Some (spelling_seen spelling) = slice_get-map spelling_seen spellings c.args.place ∙ ap (option_map spelling_seen) at in
    c.spelled_as.ensures ∙ ap (λ f. with_spelling f (spelling_seen spelling)) c.get-in-Some.ensures ∙ sym (spelled-at fields (map spelling_seen spellings) c.args.place (spelling_seen spelling) seen)

pub returns-in-None : goal.returns-in-None
returns-in-None g c =
    let spellings = c.args.self.now.spellings.now in
    let same = length-map spellings spelling_seen in
    let past = c.in-None.ensures.lookup.3 in
    sym (spelled-past c.args.self.now.fields.now.fields (map spelling_seen spellings) c.args.place (omega (arith, same, past)))
