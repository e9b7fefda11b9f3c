use Rattle.std.proofs.Common.{rules, ◌≡◌, ◌∙◌, ℕ, List, Option, ap, string_bytes, sym}
use Rattle.h2_spec.specs.Texts.Written.{written}
use Rattle.h2_cmd_batch.specs.ScriptPrograms.{printed_dis}
use Rattle.h2_cmd_batch.specs.Printing.{done}
use Rattle.h2_cmd_batch.proofs.commands.dis.dis_text.Goals as goal

pub returns-in-Ok : goal.returns-in-Ok
returns-in-Ok c =
    let text : string_bytes c.in-Ok.text ≡ written c.in_ok-octets.octets.items = search rules in
    ap (λ (o : Option (List ℕ)). printed_dis o) c.in_ok-octets.ensures.ok ∙ ap (λ (t : List ℕ). done t) (sym text)
