-- What comes of a case: the verdict on the server, by what happened on the connections to it or by what was recorded.
use Rattle.std.specs.Prelude.{◌≡◌, ℕ, nat_eq, Bool, true, false, ◌&&◌, ◌||◌, not, is_some, if◌then◌else◌, List, [], ◌∷◌, Option, Some, None, Vec}
use Rattle.std.specs.List.{starts_with}
use Rattle.std.specs.declared.alloc.Global.{Global}
use Rattle.h2_cmd_exchange.specs.Links.{LinkEvent, Opened, happened}
use Rattle.h2_cmd_exchange.specs.Plays.{Played, Plays, is_cut}
use Rattle.h2_cmd_items.specs.Judgings.{played_judgement, recorded_judgement}
use Rattle.h2_cmd_items.specs.declared.case.CaseItems.{CaseItems}
use Rattle.h2_cmd_judge.specs.declared.judge.Verdict.{Verdict}
use Rattle.h2_cmd_judge.specs.declared.judge.Verdict.TheVariants as verdict
use Rattle.h2_cmd_against.specs.declared.ends.CaseEnd.{CaseEnd}
use Rattle.h2_cmd_against.specs.declared.ends.CaseEnd.TheVariants.{Judged, Skipped, Refused}
use Rattle.h2_cmd_against.specs.declared.ends.Refusal.TheVariants.{NothingListens}
use Rattle.h2_cmd_against.specs.declared.ends.Skip.{Skip}
use Rattle.h2_cmd_against.specs.declared.ends.Skip.TheVariants.{SendsNothing, OtherOctets, Cut}
use Rattle.h2_cmd_against.specs.declared.server.Server.{Server}

-- ---- one run

-- what comes of a case that was played so, where a lawful request gets this status
abbrev pub end_of : CaseItems → Played → (status : ℕ) → CaseEnd
end_of x p status = if is_cut p && not (is_some p.closed) then Skipped Cut else Judged (played_judgement x p status)

-- it is played where the server takes a connection
abbrev pub PlaysIf : (done : Bool) → CaseItems → (status : ℕ) → Option (List LinkEvent) → CaseEnd → Option (List LinkEvent) → Type 0
PlaysIf false x status log end log' = (end ≡ Refused NothingListens) × (log' ≡ log)
PlaysIf true x status log end log' = (p : Played) × Plays x.octets.items x.ends.items x.asks log p log' × (end ≡ end_of x p status)

abbrev pub PlaysOnce : CaseItems → (status : ℕ) → Option (List LinkEvent) → CaseEnd → Option (List LinkEvent) → Type 0
PlaysOnce x status log end log' = (done : Bool) × PlaysIf done x status (happened log (Opened done)) end log'

-- ---- two runs

abbrev pub is_same : Verdict → Bool
is_same verdict.Same = true
is_same verdict.Allowed = false
is_same verdict.Doubtful = false
is_same verdict.Broken = false
is_same (verdict.Skipped why) = false

-- the server did something else than this one does
abbrev pub is_other : CaseEnd → Bool
is_other (Judged j) = not (is_same j.verdict)
is_other (Skipped why) = false
is_other (Refused why) = false

-- then the second run counts
abbrev pub AgainIf : (again : Bool) → CaseItems → (status : ℕ) → CaseEnd → Option (List LinkEvent) → CaseEnd → Option (List LinkEvent) → Type 0
AgainIf false x status one log end log' = (end ≡ one) × (log' ≡ log)
AgainIf true x status one log end log' = PlaysOnce x status log end log'

abbrev pub PlaysTwice : CaseItems → (status : ℕ) → Option (List LinkEvent) → CaseEnd → Option (List LinkEvent) → Type 0
PlaysTwice x status log end log' =
    (one : CaseEnd) × (mid : Option (List LinkEvent)) × PlaysOnce x status log one mid × AgainIf (is_other one) x status one mid end log'

-- ---- a case with these items

-- the status of a lawful request of its method
abbrev pub status_for : Server → CaseItems → ℕ
status_for s x = if x.is_post then s.post else s.get

-- it is played, or judged by what was recorded
abbrev pub EndsItemsIf : (recorded : Bool) → Server → CaseItems → Option (List LinkEvent) → CaseEnd → Option (List LinkEvent) → Type 0
EndsItemsIf false s x log end log' = PlaysTwice x (status_for s x) log end log'
EndsItemsIf true s x log end log' = (end ≡ Judged (recorded_judgement x s.octets.items)) × (log' ≡ log)

abbrev pub EndsItems : Server → CaseItems → Option (List LinkEvent) → CaseEnd → Option (List LinkEvent) → Type 0
EndsItems s x log end log' = EndsItemsIf (is_some s.client) s x log end log'

-- ---- a case that is passed over

-- one of two texts begins with the other
abbrev pub is_part : List ℕ → List ℕ → Bool
is_part octets others = starts_with nat_eq octets others || starts_with nat_eq others octets

abbrev pub is_known : Option (Vec ℕ Global) → List ℕ → Bool
is_known None octets = true
is_known (Some client) octets = is_part octets client.items

abbrev pub skip_if : (known : Bool) → Option Skip
skip_if true = None
skip_if false = Some OtherOctets

-- why a case with these octets is passed over: it sends nothing, or the client did not send them where that was recorded
abbrev pub skip_of : Server → List ℕ → Option Skip
skip_of s [] = Some SendsNothing
skip_of s (octet ∷ octets) = skip_if (is_known s.client (octet ∷ octets))
