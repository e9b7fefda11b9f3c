use Rattle.std.proofs.Common.{ℕ, List, Some, [], ap}
use Rattle.h2_page.proofs.Runs.{gathered-all, gathered-none, gathered-some}
use Rattle.h2_page.proofs.run.text_of_run.Goals as goal

pub returns-in-Ok : goal.returns-in-Ok
returns-in-Ok g c =
    gathered-all c.args.asked c.args.book.now c.args.octets.now _ (rw c.in-Ok.is at (c.write_run.ensures [] (ap (λ (t : List ℕ). Some t) c.new-gathered.ensures.0)))

pub returns-in-Err-BadConfig : goal.returns-in-Err-BadConfig
returns-in-Err-BadConfig g c =
    gathered-none c.args.asked c.args.book.now c.args.octets.now _ (rw (c.in-Err-BadConfig.is, c.in-Err-BadConfig.field-0-is) at (c.write_run.ensures [] (ap (λ (t : List ℕ). Some t) c.new-gathered.ensures.0)))

pub returns-in-Err-NoMemory : goal.returns-in-Err-NoMemory
returns-in-Err-NoMemory g c =
    gathered-some c.args.asked c.args.book.now c.args.octets.now _ (rw (c.in-Err-NoMemory.is, c.in-Err-NoMemory.field-0-is) at (c.write_run.ensures [] (ap (λ (t : List ℕ). Some t) c.new-gathered.ensures.0)))
