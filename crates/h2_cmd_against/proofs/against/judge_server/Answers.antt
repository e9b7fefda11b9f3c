use Rattle.std.proofs.Common.{◌≡◌, ◌∙◌, ◌⊎◌, Bor, List, ap, inr, map, subst, ℕ}
use Rattle.h2_cmd_batch.specs.Books.{book_said}
use Rattle.h2_cmd_batch.specs.CommandEnd.{PrintsSome}
use Rattle.h2_cmd_batch.specs.declared.fault.BenchFault.TheVariants.{NoMemory}
use Rattle.h2_cmd_book_file.specs.Entries.{Directory}
use Rattle.h2_cmd_against.specs.Aims.{Aimed, aimed_by}
use Rattle.h2_cmd_against.specs.Program.{IsJudged, Knows, Misses, case_names, task_of, trial}
use Rattle.h2_cmd_against.proofs.ProgramLaws.{case-names-map, known-judged, missed-judged, refused-judged}
use Rattle.h2_cmd_against.proofs.against.judge_server.Goals as goal

pub returns-in-Err-clause-printed : goal.returns-in-Err-clause-printed
returns-in-Err-clause-printed g c = λ printed well.
    let d = g.F.Files.file c.args.files.now in
    let task = task_of c.args.plan.now in
    let log = g.L.Link.log c.args.link.now in
    refused-judged (book_said d task.book) task d (g.F.Files.file c.book_for_words.new.files) log log c.in-Err.fault
    (g.O.Output.written c.args.output.now) (g.O.Output.written c.print_fault.new.output) c.print_fault.result (c.in-Err.ensures.err (inr printed)) c.book_for_words.ensures.same_files (c.print_fault.ensures.printed well)

pub returns-in-Ok-server_for-clause-printed : goal.returns-in-Ok-server_for-clause-printed
returns-in-Ok-server_for-clause-printed g c = λ printed well.
    let d = g.F.Files.file c.args.files.now in
    let d' = g.F.Files.file c.judge_known.new.files in
    let task = task_of c.args.plan.now in
    let book = c.in-Ok.book in
    let server = c.in-Ok-server_for.server in
    let log = g.L.Link.log c.args.link.now in
    let mid = g.L.Link.log c.server_for.new.link in
    let log' = g.L.Link.log c.judge_known.new.link in
    let a = g.O.Output.written c.args.output.now in
    let b = g.O.Output.written c.judge_known.new.output in
    let status = c.judge_known.result in
    let one = c.book_for_words.ensures.same_printed ∙ printed in
    let two = c.server_for.ensures.same_printed ∙ one in
    let at = c.server_for.ensures.same_files ∙ c.book_for_words.ensures.same_files in
    let aim : aimed_by c.aim_for-aim.result ≡ task.aim = c.aim_for-aim.ensures in
    let knows = subst (λ (x : Aimed). Knows x task.recorded d task.names log server mid) aim
    (subst (λ (e : Directory). Knows (aimed_by c.aim_for-aim.result) task.recorded e task.names log server mid) c.book_for_words.ensures.same_files
    (subst (λ (ns : List (Bor (List ℕ))). Knows (aimed_by c.aim_for-aim.result) task.recorded (g.F.Files.file c.book_for_words.new.files) (map (λ n. n.now) ns) log server mid) c.as_slice.ensures.value (c.in-Ok-server_for.ensures.known one))) in
    let cases : map (λ n. n.now) c.case_names-names.result.now ≡ case_names task.recorded task.names =
    ap (λ (ns : List (Bor (List ℕ))). map (λ n. n.now) ns) (c.case_names-names.ensures ∙ ap (λ (ns : List (Bor (List ℕ))). case_names task.recorded ns) c.as_slice-in-Ok-server_for.ensures.value)
    ∙ case-names-map task.recorded c.args.plan.now.files.items in
    let here = subst (λ (e : Directory). PrintsSome (λ t. IsJudged task.junit (record { files = e; aim = aimed_by c.aim_for-aim.result; server = server; book = book }) (map (λ n. n.now) c.case_names-names.result.now) mid d' log' t) a b status) at
    (c.judge_known.ensures.printed two well) in
    let aimed = subst (λ (x : Aimed). PrintsSome (λ t. IsJudged task.junit (record { files = d; aim = x; server = server; book = book }) (map (λ n. n.now) c.case_names-names.result.now) mid d' log' t) a b status) aim here in
    let judged = subst (λ (ns : List (List ℕ)). PrintsSome (λ t. IsJudged task.junit (trial task d server book) ns mid d' log' t) a b status) cases aimed in
    known-judged (book_said d task.book) book task d d' server log mid log' a b status (c.in-Ok.ensures.ok (inr printed)) knows judged

pub returns-clause-printed : goal.returns-clause-printed
returns-clause-printed g c = λ printed well.
    let d = g.F.Files.file c.args.files.now in
    let task = task_of c.args.plan.now in
    let log = g.L.Link.log c.args.link.now in
    let log' = g.L.Link.log c.server_for.new.link in
    let fault = c.in-Err-server_for.fault in
    let why = subst (λ (x : Aimed). (fault ≡ NoMemory) ⊎ Misses x task.recorded log fault log') c.aim_for-aim.ensures c.in-Err-server_for.ensures.fault in
    missed-judged (book_said d task.book) c.in-Ok.book task d (g.F.Files.file c.server_for.new.files) log log' fault
    (g.O.Output.written c.args.output.now) (g.O.Output.written c.print_fault-in-Err-server_for.new.output) c.print_fault-in-Err-server_for.result
    (c.in-Ok.ensures.ok (inr printed)) why (c.server_for.ensures.same_files ∙ c.book_for_words.ensures.same_files) (c.print_fault-in-Err-server_for.ensures.printed well)
