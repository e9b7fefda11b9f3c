use Rattle.std.proofs.Common.{arith, ◌++◌, length, length-append, refl, ap, ◌∙◌, sym}
use Rattle.std.proofs.lemmas.List.{length_push, nil_from_length}
use Rattle.circular_buffer.specs.Buffer.{buffer}
use Rattle.h2_table.proofs.Editing.{moved}
use Rattle.h2_table.proofs.edit.move_newest.Goals as goal

pub loop-entry-preserved : goal.loop-entry-preserved
loop-entry-preserved g c =
    let added = c.loop-entry.added.items in
    let ring = c.loop-entry.ring.items in
    record {
      all = rw c.put_newest.ensures (moved added c.pop_back.new.self.items ring c.in-Some.entry c.in-Some.ensures.items ∙ c.loop-entry.invariant.all);
      places = ap (λ b. b.capacity) c.put_newest.ensures ∙ c.loop-entry.invariant.places;
    }

pub loop-entry-init : goal.loop-entry-init
loop-entry-init g c = record { all = refl; places = refl }

pub put_newest-requires : goal.put_newest-requires
put_newest-requires g c =
    let added = c.loop-entry.added.items in
    let ring = c.loop-entry.ring.items in
    let more = ap length c.in-Some.ensures.items ∙ length_push c.pop_back.new.self.items c.in-Some.entry in
    omega (arith, more, length-append added ring, ap length c.loop-entry.invariant.all, c.loop-entry.invariant.places, c.requires)

pub loop-entry-smaller : goal.loop-entry-smaller
loop-entry-smaller g c = omega (arith, ap length c.in-Some.ensures.items, length_push c.pop_back.new.self.items c.in-Some.entry)

pub returns : goal.returns
returns g c =
    let added = c.loop-entry.added in
    let none = nil_from_length added.items (sym added.ok.0 ∙ c.in_default.ensures.cases.0) in
    let all = ap (λ a. a ++ c.loop-entry.ring.items) (sym none) ∙ c.loop-entry.invariant.all in
    λ k. buffer (all k) (c.loop-entry.invariant.places k)
