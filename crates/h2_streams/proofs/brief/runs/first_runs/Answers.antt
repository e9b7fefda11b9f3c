use Rattle.std.proofs.Common.{◌≡◌, ◌<◌, ◌-◌, ◌∙◌, ◌++◌, ◌∷◌, [], ℕ, List, ap, arith, nat_lt, rules, subst, sym, take}
use Rattle.std.proofs.lemmas.List.Sorted.{IsPartitionPoint-from_clause, IsPartitionedBy-ltb}
use Rattle.h2_streams.specs.declared.brief.runs.IdRun.{IdRun}
use Rattle.h2_streams.specs.Brief.{AreEnds, end_of, id_at}
use Rattle.h2_streams.proofs.RunLaws.{IsCut, cut, ends-ordered}
use Rattle.h2_streams.proofs.brief.runs.first_runs.Goals as goal

pub returns-clause-same : goal.returns-clause-same
returns-clause-same g c = λ place l.
    let runs = c.args.runs.now in
    let end = c.args.end in
    let k = c.partition_point-count.result in
    let run : IdRun = record { last = c.id_at.result; end = end } in
    let parted = IsPartitionedBy-ltb (λ (r : IdRun). r.end) runs end (ends-ordered 0 runs c.requires.ends) in
    let point = IsPartitionPoint-from_clause (λ (r : IdRun). nat_lt r.end end) runs k c.partition_point-count.ensures.partitioned parted (λ a r q h. search rules) in
    let done = cut 0 runs k run c.requires.ends (omega (arith, l)) c.requires.within c.id_at.ensures point.0 point.1 in
    let is : c.push.new.self.items ≡ take k runs ++ run ∷ [] = c.in_ok-push.ensures.items ∙ ap (λ (xs : List IdRun). xs ++ run ∷ []) (c.in_ok-extend_from_slice.ensures.items ∙ ap (λ (xs : List IdRun). xs ++ take k runs) c.new-first.ensures.items) in
    subst (λ (xs : List IdRun). id_at xs place ≡ id_at runs place) (sym is) (done.same place (omega arith) l)

pub returns-clause-ends : goal.returns-clause-ends
returns-clause-ends g c =
    let runs = c.args.runs.now in
    let end = c.args.end in
    let k = c.partition_point-count.result in
    let run : IdRun = record { last = c.id_at.result; end = end } in
    let some : 0 < end = let e = c.if-end-eq0.false in omega (arith, e) in
    let parted = IsPartitionedBy-ltb (λ (r : IdRun). r.end) runs end (ends-ordered 0 runs c.requires.ends) in
    let point = IsPartitionPoint-from_clause (λ (r : IdRun). nat_lt r.end end) runs k c.partition_point-count.ensures.partitioned parted (λ a r q h. search rules) in
    let done = cut 0 runs k run c.requires.ends some c.requires.within c.id_at.ensures point.0 point.1 in
    let is : c.push.new.self.items ≡ take k runs ++ run ∷ [] = c.in_ok-push.ensures.items ∙ ap (λ (xs : List IdRun). xs ++ run ∷ []) (c.in_ok-extend_from_slice.ensures.items ∙ ap (λ (xs : List IdRun). xs ++ take k runs) c.new-first.ensures.items) in
    subst (λ (xs : List IdRun). AreEnds 0 xs × (end_of 0 xs ≡ end)) (sym is) (done.ends, done.end_is)
