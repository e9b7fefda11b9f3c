-- What is reported of each place of a new connection is what `play` reports of it.
use Rattle.std.proofs.Common.{◌≡◌, ℕ, List, [], Bool, true, false, ◌∙◌, if◌then◌else◌, inl, sym, ap, ap₂, subst}
use Rattle.std.proofs.lemmas.List.{append-nil}
use Rattle.std.specs.List.{concat}
use Rattle.h2_spec.specs.declared.connection.Config.{Config}
use Rattle.h2_spec.specs.Requests.Answer.{Entry}
use Rattle.h2_spec.specs.Opening.{opening_octets}
use Rattle.h2_spec.specs.State.{State, opening}
use Rattle.h2_spec.specs.Texts.View.{view}
use Rattle.h2_conn.specs.Connection.{Connection, going}
use Rattle.h2_spec.specs.State.{is_allowed}
use Rattle.h2_conn.specs.Runs.{Opens}
use Rattle.h2_spec.specs.Frames.Parse.{parse_all}
use Rattle.h2_spec.specs.Trace.{sent_octets, trace}
use Rattle.h2_cmd_batch.specs.Each.{PrintsRun, fed_first}
use Rattle.h2_cmd_batch.specs.Printing.{OrCutShort, Printed, done, failed}
use Rattle.h2_cmd_batch.specs.Printed.{item_text, places_from, places_played, places_run, sent_and_state, printed_played, printed_run}
use Rattle.h2_cmd_batch.specs.declared.fault.BenchFault.TheVariants.{BadConfig}

of-opened : (book : List Entry) (config : Config) (octets sent : List ℕ) (c : Connection) (t : Printed) → is_allowed config ≡ true → c ≡ going (opening book config) [] → sent ≡ opening_octets config
    → OrCutShort (places_from (item_text 0 sent (view c.state)) c.state octets) (done (concat (places_from (item_text 0 sent (view c.state)) c.state octets))) t
    → OrCutShort (places_played true book config octets) (printed_played true book config octets) t
of-opened book config octets sent c t allowed opened is x =
    let same : places_from (item_text 0 sent (view c.state)) c.state octets ≡ places_run book config octets =
    ap₂ (λ (o : List ℕ) (s : State). places_from (item_text 0 o (view s)) s octets) is (ap (λ (d : Connection). d.state) opened) in
    subst (λ (b : Bool). OrCutShort (if b then places_run book config octets else []) (if b then done (concat (places_run book config octets)) else failed BadConfig) t) (sym allowed)
    (subst (λ (ps : List (List ℕ)). OrCutShort ps (done (concat ps)) t) same x)

-- what is reported of a connection that the octets were fed to
whole-played : (book : List Entry) (config : Config) (octets sent : List ℕ) (c : Connection) → is_allowed config ≡ true → Opens book config octets [] c sent
    → done (sent_and_state sent (view c.state)) ≡ printed_played false book config octets
whole-played book config octets sent c allowed x =
    ap₂ (λ (o : List ℕ) (s : State). done (sent_and_state o (view s))) x.sent (ap (λ (d : Connection). d.state) x.after)
    ∙ ap (λ (b : Bool). if b then printed_run false book config octets else failed BadConfig) (sym allowed)

-- a new connection has no octets where nothing was fed
pub new-opened : (book : List Entry) (config : Config) (sent : List ℕ) (c : Connection) → Opens book config [] [] c sent → (c ≡ going (opening book config) []) × (sent ≡ opening_octets config)
unfolding trace parse_all sent_octets
new-opened book config sent c x = (x.after, x.sent ∙ append-nil (opening_octets config))

pub printed-opened : (each : Bool) (book : List Entry) (config : Config) (octets sent : List ℕ) (c : Connection) (t : Printed) → is_allowed config ≡ true → Opens book config (fed_first each octets) [] c sent
    → PrintsRun each c.state sent octets t → OrCutShort (places_played each book config octets) (printed_played each book config octets) t
printed-opened true book config octets sent c t allowed opened x =
    let new = new-opened book config sent c opened in
    of-opened book config octets sent c t allowed new.0 new.1 x
printed-opened false book config octets sent c t allowed opened x = inl (x ∙ whole-played book config octets sent c allowed opened)

pub fresh-opened : (each : Bool) (book : List Entry) (config : Config) (octets sent : List ℕ) (c : Connection) → Opens book config (fed_first each octets) [] c sent → each ≡ true → c ≡ going c.state []
fresh-opened true book config octets sent c opened e =
    let new = new-opened book config sent c opened in
    new.0 ∙ ap (λ (s : State). going s []) (sym (ap (λ (d : Connection). d.state) new.0))
fresh-opened false book config octets sent c opened e = cc
