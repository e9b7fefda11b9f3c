use Rattle.std.proofs.Common.{◌≡◌, ◌∙◌, Bool, List, ℕ, ap, inl, map, subst}
use Rattle.h2_spec.specs.State.{opening}
use Rattle.h2_spec.specs.declared.connection.Config.{Config}
use Rattle.h2_cmd_items.specs.CaseItems.{IsCase}
use Rattle.h2_cmd_items.specs.Judgings.{limits_of}
use Rattle.h2_cmd_against.specs.Files.{is_tagged}
use Rattle.h2_cmd_against.proofs.FileLaws.{ok-then}
use Rattle.h2_cmd_against.proofs.cases.judge_octets.Goals as goal

pub returns-in-Ok : goal.returns-in-Ok
returns-in-Ok g c =
    let book = c.args.bench.book.now in
    let octets = c.args.octets.items in
    let x = c.in-Ok.items in
    let lines : List (List ℕ) = map (λ l. l.now) c.args.case.lines.now in
    let limits : c.limits_of-config.result ≡ limits_of c.args.bench.server.now.octets.items = c.limits_of-config.ensures ∙ ap limits_of c.as_slice.ensures.value in
    let tagged = subst (λ (b : Bool). IsCase (opening book c.limits_of-config.result) octets b x) c.is_tagged.ensures c.in-Ok.ensures.items in
    let case = subst (λ (k : Config). IsCase (opening book k) octets (is_tagged lines) x) limits tagged in
    ok-then c.judge_items.result (λ j. inl (x, case, j)) c.judge_items.ensures
