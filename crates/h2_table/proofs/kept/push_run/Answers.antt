use Rattle.std.proofs.Common.{◌≡◌, ◌+◌, ◌-◌, ap, ◌∙◌, arith, take, drop}
use Rattle.std.proofs.lemmas.List.{take-take}
use Rattle.h2_table.specs.Runs.{entries_in}
use Rattle.h2_table.proofs.KeptRuns.{entries-more}
use Rattle.h2_table.proofs.kept.push_run.Goals as goal

pub returns-in-Ok : goal.returns-in-Ok
returns-in-Ok g c =
    let xs = c.args.ring.now.items in
    let count = c.args.to - c.args.from in
    let all : c.args.from + count ≡ c.args.to = omega (arith, c.requires.order) in
    let folded : c.in-Ok.entries.value ≡ take count (drop c.args.from xs) = c.in-Ok.ensures.ok ∙ c.in_ok-entries.ensures in
    let is : take count c.in-Ok.entries.value ≡ take count (drop c.args.from xs) = ap (take count) folded ∙ take-take count count (drop c.args.from xs) (omega arith) in
    ap entries_in c.in_ok-push-in-Ok.ensures.items
    ∙ entries-more c.args.runs.now.items (take count c.in-Ok.entries.value) xs c.args.from count c.requires.first is
    ∙ ap (λ n. take n xs) all
