use Rattle.std.proofs.Common.{arith, ◌≡◌, ◌-◌, ◌<◌, ◌≤◌, ◌∷◌, length, ap, ◌∙◌, subst, sym, List}
use Rattle.h2_spec.specs.Hpack.Field.{Field, size}
use Rattle.h2_spec.specs.Hpack.DynamicTable.{IsLongestFit, LimitedTable, fit, insert}
use Rattle.h2_spec.proofs.TableLaws.{fit-is_longest, fit-none, fit-zero, fit-cons}
use Rattle.h2_table.specs.Held.{places_for}
use Rattle.h2_table.proofs.Popped.{has_place}
use Rattle.h2_table.proofs.dynamic_table.DynTable.insert.Goals as goal

with_entries : LimitedTable → List Field → LimitedTable
with_entries t es = record t { table = record { entries = es; max = t.table.max } }

pub returns-then-size-max-clause-value : goal.returns-then-size-max-clause-value
unfolding insert with_entries
returns-then-size-max-clause-value g c =
    let e : Field = record { name = c.args.name.items; value = c.args.value.items } in
    let t = c.self.inside in
    let over : t.max < size e = omega arith in
    let gone : c.evict-self-inside.new.ring.items ≡ fit (e ∷ t.ring.items) t.max =
    c.evict-self-inside.ensures.kept ∙ fit-zero t.ring.items ∙ sym (fit-none e t.ring.items t.max over) in
    ap (with_entries (record { table = record { entries = t.ring.items; max = t.max }; limit = t.limit })) gone ∙ ap (λ (v : LimitedTable). let r : LimitedTable = record v { table = insert v.table e } in r) c.self.view_is

pub put_newest-requires : goal.put_newest-requires
put_newest-requires g c =
    let left = c.evict.new.ring.items in
    let e = c.evict.ensures in
    let place : length left < places_for c.self.inside.max = has_place left c.self.inside.max (omega arith) in
    omega (arith, place, e.places, c.self.invariant.has_places)

pub returns-clause-value : goal.returns-clause-value
unfolding insert with_entries
returns-clause-value g c =
    let e : Field = record { name = c.args.name.items; value = c.args.value.items } in
    let t = c.self.inside in
    let same : c.saturating_add-size.result ≡ size e = omega arith in
    let fits : size e ≤ t.max = omega arith in
    let now : c.put_newest.new.ring.items ≡ fit (e ∷ t.ring.items) t.max =
    ap (λ b. b.items) c.put_newest.ensures ∙ ap (λ x. x ∷ c.evict.new.ring.items) c.new.ensures ∙ ap (λ es. e ∷ es) (c.evict.ensures.kept ∙ ap (λ n. fit t.ring.items (t.max - n)) same) ∙ sym (fit-cons e t.ring.items t.max fits) in
    ap (with_entries (record { table = record { entries = t.ring.items; max = t.max }; limit = t.limit })) now ∙ ap (λ (v : LimitedTable). let r : LimitedTable = record v { table = insert v.table e } in r) c.self.view_is

longest_of : (old new : LimitedTable) (e : Field) → new ≡ record old { table = insert old.table e } → IsLongestFit (e ∷ old.table.entries) old.table.max new.table.entries
unfolding insert
longest_of old new e h =
    subst (IsLongestFit (e ∷ old.table.entries) old.table.max) (ap (λ (t : LimitedTable). t.table.entries) (sym h)) (fit-is_longest (e ∷ old.table.entries) old.table.max)

pub returns-then-size-max-clause-longest : goal.returns-then-size-max-clause-longest
returns-then-size-max-clause-longest g c = longest_of _ _ _ (returns-then-size-max-clause-value g c)

pub returns-clause-longest : goal.returns-clause-longest
returns-clause-longest g c = longest_of _ _ _ (returns-clause-value g c)
