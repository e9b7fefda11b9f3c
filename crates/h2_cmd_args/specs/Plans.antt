-- What a plan represents, and what a refusal says of words.
use Rattle.std.specs.Prelude.{◌≡◌, Option, Some, None, Result, Ok, Err, map}
use Rattle.h2_cmd_args.specs.Grammar.{Asked, BatchAsked, BookAsked, DevicesAsked, FormAsked, ReportAsked, batch, play, asm, dis, table, debug, serve, explain, check, against}
use Rattle.h2_cmd_args.specs.declared.command.Batch.{Batch}
use Rattle.h2_cmd_args.specs.declared.command.Batch.TheVariants.{Play, Asm, Dis, Table}
use Rattle.h2_cmd_args.specs.declared.command.BookWords.{BookWords}
use Rattle.h2_cmd_args.specs.declared.command.Devices.{Devices}
use Rattle.h2_cmd_args.specs.declared.command.Explain.{Explain}
use Rattle.h2_cmd_args.specs.declared.command.ServeReport.{ServeReport}
use Rattle.h2_cmd_args.specs.declared.command.Plan.{Plan}
use Rattle.h2_cmd_args.specs.declared.command.Plan.TheVariants as plan
use Rattle.h2_cmd_args.specs.declared.command.Refusal.{Refusal}
use Rattle.h2_cmd_args.specs.declared.command.Refusal.TheVariants.{Words, NoMemory}

abbrev pub book_asked : BookWords → BookAsked
book_asked b = record { file = b.file.now; why = b.why; answers = map (λ s. s.now) b.answers.items }

abbrev pub devices_asked : Devices → DevicesAsked
devices_asked d = record { file = d.file.now; raw = d.raw; quiet = d.quiet; prompt = d.prompt.now }

abbrev pub batch_asked : Batch → BatchAsked
batch_asked (Play p) = play p.config p.cut p.each p.raw (book_asked p.book)
batch_asked (Asm words) = asm words.why
batch_asked (Dis raw words) = dis raw words.why
batch_asked (Table limit words) = table limit words.why

abbrev pub form_asked : Explain → FormAsked
form_asked e = record { json = e.json; color = e.color; strict = e.strict; full = e.full; brief = e.brief; errors = e.errors; stream = e.stream }

abbrev pub report_asked : ServeReport → ReportAsked
report_asked w = record {
  explain = w.explain;
  view = record { json = w.json; color = w.color; strict = w.strict; full = w.full; brief = w.brief; errors = w.errors; stream = w.stream };
  times = w.times;
  record_to = w.record_to.now;
  inject = w.inject.now;
  dialogue = w.dialogue;
}

abbrev pub planned : Plan → Asked
planned (plan.Batch b) = batch (batch_asked b)
planned (plan.Debug d) = debug d.config (book_asked d.book)
planned (plan.Serve s) = serve s.config s.port s.count (report_asked s.watch) (book_asked s.book)
planned (plan.Explain e) = explain e.config (form_asked e) e.raw e.file.now (book_asked e.book)
planned (plan.Check k) = check k.config (book_asked k.book) k.bless k.in_place k.junit.now (map (λ s. s.now) k.files.items)
planned (plan.Against a) = against a.config (book_asked a.book) a.port a.wait a.path.now a.authority.now a.judge a.junit.now (map (λ s. s.now) a.files.items)

-- what words that were parsed ask for; nothing where they were refused
abbrev pub asked_in : Result Plan Refusal → Option Asked
asked_in (Ok plan) = Some (planned plan)
asked_in (Err refusal) = None

-- words that are refused ask for nothing, unless the cause is that memory ran out
abbrev pub Refuses : Option Asked → Refusal → Type 0
Refuses asked (Words text) = asked ≡ None
Refuses asked NoMemory = Unit {0}
