-- The law of grants, of the octets that a run sends.
use Rattle.std.proofs.Common.{◌≡◌, ℕ, List, ◌++◌, refl, sym, subst, Result, Ok, Err, IfOk, OnOk}
use Rattle.h2_spec.specs.declared.connection.Config.{Config}
use Rattle.h2_spec.specs.Requests.Answer.{Entry}
use Rattle.h2_spec.specs.Opening.{opening_octets}
use Rattle.h2_spec.specs.State.{opening}
use Rattle.h2_spec.specs.Trace.{sent_octets, trace}
use Rattle.h2_spec_laws.proofs.grants.Law.{grants-kept}
use Rattle.h2_conn.specs.Granted.{SendsWithinGrants}

pub within-grants : (book : List Entry) (config : Config) (octets out out' : List ℕ)
    → out' ≡ out ++ opening_octets config ++ sent_octets (trace (opening book config) octets).events → SendsWithinGrants book config octets out out'
within-grants book config octets out out' sent = record { events = (trace (opening book config) octets).events; run = refl; sent = sent; kept = grants-kept book config octets }

-- nothing more is sent where the view is made
pub shown-within : {T E : Type 0} (r : Result T E) (P : T → Type 0) (book : List Entry) (config : Config) (octets out sent out' : List ℕ)
    → IfOk r (λ shown. P shown × (out' ≡ sent)) → SendsWithinGrants book config octets out sent → OnOk r (SendsWithinGrants book config octets out out')
shown-within (Ok shown) P book config octets out sent out' same granted = subst (SendsWithinGrants book config octets out) (sym same.1) granted
shown-within (Err fault) P book config octets out sent out' same granted = tt
