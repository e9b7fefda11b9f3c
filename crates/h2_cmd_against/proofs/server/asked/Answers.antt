use Rattle.std.proofs.Common.{◌≡◌, ◌∙◌, ◌∷◌, [], ap, Bool, false, List, Option, length, refl, subst, true, ℕ}
use Rattle.h2_cmd_exchange.specs.Links.{LinkEvent, Opened, happened}
use Rattle.h2_cmd_exchange.specs.Plays.{Plays}
use Rattle.h2_cmd_against.specs.Aims.{aimed_by}
use Rattle.h2_cmd_against.specs.Servers.{request}
use Rattle.h2_cmd_against.proofs.server.asked.Goals as goal

pub returns : goal.returns
returns g c =
    let end = g.L.Link.log c.play.new.link in
    let octets = request (aimed_by c.args.aim) c.args.is_post in
    let ends : List ℕ = 24 ∷ 33 ∷ length octets ∷ [] in
    let count : c.len.result ≡ length octets = c.len.ensures ∙ c.in_ok-octets.octets.ok.0 ∙ ap (λ (o : List ℕ). length o) c.in_ok-octets.ensures in
    let counted = subst (λ (n : ℕ). Plays c.as_slice.result.now (24 ∷ 33 ∷ n ∷ []) false (g.L.Link.log c.connect.new.self) c.in_ok-played.played end) count c.in_ok-played.ensures in
    let asked = subst (λ (o : List ℕ). Plays o ends false (g.L.Link.log c.connect.new.self) c.in_ok-played.played end) (c.as_slice.ensures.value ∙ c.in_ok-octets.ensures) counted in
    let opened = c.connect.ensures ∙ ap (λ (b : Bool). happened (g.L.Link.log c.args.link.now) (Opened b)) c.if-not-connect.false in
    (true, (c.in_ok-played.played, refl, subst (λ (k : Option (List LinkEvent)). Plays octets ends false k c.in_ok-played.played end) opened asked))
