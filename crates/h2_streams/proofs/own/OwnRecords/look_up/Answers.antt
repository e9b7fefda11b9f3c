use Rattle.std.proofs.Common.{◌≡◌, ◌==◌, List, true, ap, sym, subst, ◌∙◌}
use Rattle.h2_spec.specs.declared.streams.Stream.{Stream}
use Rattle.h2_spec.specs.Stream.{Records, is_live, kind_of}
use Rattle.h2_streams.specs.Kept.{lives, passes_at}
use Rattle.h2_streams.proofs.PlaceLaws.{live-there}
use Rattle.h2_streams.proofs.own.OwnRecords.look_up.Goals as goal

pub returns-clause-live : goal.returns-clause-live
returns-clause-live g c live =
    let s = c.self.inside in
    let id = c.args.id in
    let here = subst (λ (rs : List Stream). passes_at (λ st. st.id == id) rs c.in-Some.place ≡ true) c.as_slice-records.ensures.value c.in-Some.ensures in
    let lives-here = subst (λ (rs : List Stream). passes_at lives rs c.in-Some.place ≡ true) c.as_slice-records.ensures.value (sym c.is_live_at.ensures ∙ live) in
    subst (λ (v : Records). is_live (kind_of v.last v.streams id) ≡ true) c.self.view_is (live-there s.last s.records.items id c.in-Some.place c.self.invariant.0.rising here lives-here)
