use Rattle.std.proofs.Common.{ℕ, List, Some, [], ap}
use Rattle.h2_page.proofs.Worded.{explained-all, explained-none}
use Rattle.h2_page.proofs.words.text_of_explanation.Goals as goal

pub returns-in-Ok : goal.returns-in-Ok
returns-in-Ok g c =
    explained-all c.args.form c.args.config c.args.book.now c.args.octets.now _ (rw c.in-Ok.is at (c.write_explanation.ensures [] (ap (λ (t : List ℕ). Some t) c.new-gathered.ensures.0)))

pub returns-in-Err : goal.returns-in-Err
returns-in-Err g c =
    explained-none c.args.form c.args.config c.args.book.now c.args.octets.now _ (Some c.write_explanation.new.output.octets.items) c.in-Err.fault c.new.ensures.items (rw c.in-Err.is at (c.write_explanation.ensures [] (ap (λ (t : List ℕ). Some t) c.new-gathered.ensures.0)))
