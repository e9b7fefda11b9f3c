use Rattle.std.proofs.Common.{◌≡◌, ◌∙◌, ◌++◌, ◌-◌, List, ap, drop, length, map, sym, take}
use Rattle.std.proofs.lemmas.List.{drop-map, take-map}
use Rattle.h2_spec.specs.declared.streams.Stream.{Stream}
use Rattle.h2_streams.specs.declared.brief.runs.IdRun.{IdRun}
use Rattle.h2_streams.specs.Brief.{brief, briefs_from}
use Rattle.h2_streams.specs.Rebuilt.{as_in}
use Rattle.h2_streams.proofs.JoinedEntries.{take-rest}
use Rattle.h2_streams.proofs.JoinedLaws.{rise-take}
use Rattle.h2_streams.proofs.brief.records.BriefRecords.join.Goals as goal

pub write_each-requires-clause-changed : goal.write_each-requires-clause-changed
write_each-requires-clause-changed g c = rise-take 0 c.args.front c.args.own.now c.requires.order

pub returns-clause-ok : goal.returns-clause-ok
returns-clause-ok g c =
    let own = c.args.own.now in
    let n = c.args.front in
    let all = c.args.self.now in
    let kinds = c.write_each.new.kinds.items in
    let slice = c.as_slice.ensures.value ∙ c.reserve-2.ensures.items in
    let written : briefs_from 0 c.self.inside.runs.items kinds ≡ map (as_in (map brief (take n own))) all = rw (slice, c.reserve.ensures.items, c.self.view_is) at c.write_each.ensures.items in
    c.append_each.ensures.items
    ∙ ap (λ (rs : List IdRun). briefs_from 0 rs kinds ++ map brief (take (length own - n) (drop n own))) c.reserve-2.ensures.items
    ∙ ap (λ (xs : List Stream). xs ++ map brief (take (length own - n) (drop n own))) written
    ∙ ap (λ (ys : List Stream). map (as_in (map brief (take n own))) all ++ map brief ys) (take-rest n own)
    ∙ ap (λ (cs : List Stream). map (as_in cs) all ++ map brief (drop n own)) (sym (take-map brief n own))
    ∙ ap (λ (ys : List Stream). map (as_in (take n (map brief own))) all ++ ys) (sym (drop-map brief n own))
