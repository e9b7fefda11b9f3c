use Rattle.std.proofs.Common.{◌≡◌, ◌==◌, ◌∙◌, ◌⊎◌, ℕ, Bool, true, false, List, Option, Some, Result, Ok, Err, eqb-true, inl, inr, refl, rules, subst}
use Rattle.h2_spec.specs.Requests.Answer.{Entry}
use Rattle.h2_spec.specs.declared.connection.Config.{Config}
use Rattle.h2_cmd_args.specs.Grammar.{BatchAsked, BookAsked}
use Rattle.h2_cmd_batch.specs.Books.{book_in}
use Rattle.h2_cmd_run.specs.CheckProgram.{EndsCheck}
use Rattle.h2_cmd_run.specs.ExplainProgram.{EndsExplain, form_of}
use Rattle.h2_explain.specs.declared.run.Form.{Form}
use Rattle.h2_cmd_batch.specs.CommandEnd.{AnswersAs, EndsBatch, Prints, no_files}
use Rattle.h2_cmd_run.specs.ProgramEnd.{EndsSession, EndsSomehow}
use Rattle.h2_cmd_batch.specs.Printed.{Printed, cut_short, failed, places_with, printed_with}
use Rattle.h2_cmd_batch.specs.declared.fault.BenchFault.TheVariants.{Read}
use Rattle.h2_cmd_run.proofs.execute.run.Goals as goal

by-book : (made : Result (List Entry) ℕ) (asked : BatchAsked) (input : Option (List ℕ)) (input_failed : Bool) (octets held : List ℕ) (after : Option (List ℕ)) (status : ℕ) (t : Printed)
    → input ≡ Some octets → AnswersAs made asked input input_failed t → Prints t held after status
    → (status ≡ 3) ⊎ (((count : ℕ) × Prints (cut_short count (places_with made asked octets)) held after status) ⊎ (Prints (failed Read) held after status ⊎ Prints (printed_with made asked octets) held after status))
by-book (Err fault) asked input input_failed octets held after status t read known prints = inr (inr (inr (subst (λ (u : Printed). Prints u held after status) known prints)))
by-book (Ok book) asked input input_failed octets held after status t read (inl f) prints = inr (inr (inl (subst (λ (u : Printed). Prints u held after status) f.1 prints)))
by-book (Ok book) asked input input_failed octets held after status t read (inr x) prints = elim (x.1 octets read) [
  | inl all ↦ inr (inr (inr (subst (λ (u : Printed). Prints u held after status) all prints)))
  | inr cut ↦ inr (inl (cut.0, subst (λ (u : Printed). Prints u held after status) cut.1 prints))
]

somehow : (asked : BatchAsked) (input : Option (List ℕ)) (failed : Bool) (before after : Option (List ℕ)) (status : ℕ)
    → EndsBatch no_files asked input failed before after status → EndsSomehow no_files asked input before after status
somehow asked input input_failed before after status h octets held read had = let x = h held had in elim x.1 [
  | inl memory ↦ inr (inl (0, subst (λ (t : Printed). Prints t held after status) memory.0 x.2))
  | inr known ↦ by-book (book_in no_files asked) asked input input_failed octets held after status x.0 read known x.2
]

by-status : (status : ℕ) (failed b : Bool) (P : Type 0) → failed ≡ (status == 3) → (status == 3) ≡ b → (failed ≡ false → P) → (status ≡ 3) ⊎ P
by-status status failed true P flag e printed = inl (eqb-true status 3 e)
by-status status failed false P flag e printed = inr (printed (flag ∙ e))

ends-or-three : (asked : BatchAsked) (input input' before before' after after' : Option (List ℕ)) (status : ℕ) (broken input_failed b : Bool) → input ≡ input' → before ≡ before' → after ≡ after' → broken ≡ (status == 3) → (status == 3) ≡ b
    → (broken ≡ false → EndsBatch no_files asked input input_failed before after status) → EndsSomehow no_files asked input' before' after' status
ends-or-three asked input input' before before' after after' status broken input_failed true i w o flag e printed = λ octets held read had. inl (eqb-true status 3 e)
ends-or-three asked input input' before before' after after' status broken input_failed false i w o flag e printed = somehow asked input' input_failed before' after' status (rw (← i, ← w, ← o) (printed (flag ∙ e)))

pub returns-clause-printed : goal.returns-clause-printed
returns-clause-printed g c = λ asked planned.
    let from = c.into_inner-reader.ensures.same_reference ∙ c.run_on-status.ensures.input ∙ c.new-from.ensures.same_reference in
    let into = c.into_inner-writer.ensures.same_reference ∙ c.run_on-status.ensures.name ∙ c.new-into.ensures.same_reference in
    ends-or-three asked (g.R.Read.remaining c.new-from.result.inner.now) (g.R.Read.remaining c.args.input.now) (g.W.Write.contents c.new-into.result.inner.now) (g.W.Write.contents c.args.output.now)
    (g.W.Write.contents c.run_on-status.new.output.inner.now) _ c.run_on-status.result c.run_on-status.new.output.failed c.run_on-status.new.input.failed _
    (search rules) (search rules) (search rules) c.run_on-status.ensures.flag refl (c.run_on-status.ensures.printed asked planned (inr refl))

pub returns-clause-refused : goal.returns-clause-refused
returns-clause-refused g c = λ none.
    let into = c.into_inner-writer.ensures.same_reference ∙ c.run_on-status.ensures.name ∙ c.new-into.ensures.same_reference in
    by-status c.run_on-status.result c.run_on-status.new.output.failed _ _ c.run_on-status.ensures.flag refl
    (λ well. let x = c.run_on-status.ensures.refused none well in search rules)

session-or-three : (config : Config) (book : BookAsked) (input input' left left' before before' after after' : Option (List ℕ)) (status : ℕ) (broken input_failed b : Bool)
    → input ≡ input' → left ≡ left' → before ≡ before' → after ≡ after' → broken ≡ (status == 3) → (status == 3) ≡ b
    → (broken ≡ false → EndsSession no_files config book input left input_failed before after status)
    → (status ≡ 3) ⊎ ((failed : Bool) × EndsSession no_files config book input' left' failed before' after' status)
session-or-three config book input input' left left' before before' after after' status broken input_failed true i l w o flag e printed = inl (eqb-true status 3 e)
session-or-three config book input input' left left' before before' after after' status broken input_failed false i l w o flag e printed =
    inr (input_failed, rw (← i, ← l, ← w, ← o) (printed (flag ∙ e)))

pub returns-clause-debugs : goal.returns-clause-debugs
returns-clause-debugs g c = λ config book planned.
    let from = c.into_inner-reader.ensures.same_reference ∙ c.run_on-status.ensures.input ∙ c.new-from.ensures.same_reference in
    let into = c.into_inner-writer.ensures.same_reference ∙ c.run_on-status.ensures.name ∙ c.new-into.ensures.same_reference in
    session-or-three config book (g.R.Read.remaining c.new-from.result.inner.now) (g.R.Read.remaining c.args.input.now) (g.R.Read.remaining c.run_on-status.new.input.inner.now) _
    (g.W.Write.contents c.new-into.result.inner.now) (g.W.Write.contents c.args.output.now) (g.W.Write.contents c.run_on-status.new.output.inner.now) _
    c.run_on-status.result c.run_on-status.new.output.failed c.run_on-status.new.input.failed _
    (search rules) (search rules) (search rules) (search rules) c.run_on-status.ensures.flag refl (c.run_on-status.ensures.debugs config book planned (inr refl))

explained-or-three : (form : Form) (raw : Bool) (config : Config) (file : List ℕ) (book : BookAsked) (input input' before before' after after' : Option (List ℕ)) (status : ℕ) (broken input_failed b : Bool)
    → input ≡ input' → before ≡ before' → after ≡ after' → broken ≡ (status == 3) → (status == 3) ≡ b
    → (broken ≡ false → EndsExplain form raw no_files config file book input input_failed before after status)
    → (status ≡ 3) ⊎ ((failed : Bool) × EndsExplain form raw no_files config file book input' failed before' after' status)
explained-or-three form raw config file book input input' before before' after after' status broken input_failed true i w o flag e printed = inl (eqb-true status 3 e)
explained-or-three form raw config file book input input' before before' after after' status broken input_failed false i w o flag e printed =
    inr (input_failed, rw (← i, ← w, ← o) (printed (flag ∙ e)))

pub returns-clause-explains : goal.returns-clause-explains
returns-clause-explains g c = λ config view raw file book planned.
    let from = c.into_inner-reader.ensures.same_reference ∙ c.run_on-status.ensures.input ∙ c.new-from.ensures.same_reference in
    let into = c.into_inner-writer.ensures.same_reference ∙ c.run_on-status.ensures.name ∙ c.new-into.ensures.same_reference in
    explained-or-three (form_of view) raw config file book (g.R.Read.remaining c.new-from.result.inner.now) (g.R.Read.remaining c.args.input.now)
    (g.W.Write.contents c.new-into.result.inner.now) (g.W.Write.contents c.args.output.now) (g.W.Write.contents c.run_on-status.new.output.inner.now) _
    c.run_on-status.result c.run_on-status.new.output.failed c.run_on-status.new.input.failed _
    (search rules) (search rules) (search rules) c.run_on-status.ensures.flag refl (c.run_on-status.ensures.explains config view raw file book planned (inr refl) (inr refl))

checked-or-three : (config : Config) (book : BookAsked) (names : List (List ℕ)) (before before' after after' : Option (List ℕ)) (status : ℕ) (broken b : Bool)
    → before ≡ before' → after ≡ after' → broken ≡ (status == 3) → (status == 3) ≡ b
    → (broken ≡ false → EndsCheck no_files config book names before after status)
    → (status ≡ 3) ⊎ EndsCheck no_files config book names before' after' status
checked-or-three config book names before before' after after' status broken true w o flag e printed = inl (eqb-true status 3 e)
checked-or-three config book names before before' after after' status broken false w o flag e printed = inr (rw (← w, ← o) (printed (flag ∙ e)))

pub returns-clause-checks : goal.returns-clause-checks
returns-clause-checks g c = λ config book in_place names planned.
    let into = c.into_inner-writer.ensures.same_reference ∙ c.run_on-status.ensures.name ∙ c.new-into.ensures.same_reference in
    checked-or-three config book names (g.W.Write.contents c.new-into.result.inner.now) (g.W.Write.contents c.args.output.now)
    (g.W.Write.contents c.run_on-status.new.output.inner.now) _ c.run_on-status.result c.run_on-status.new.output.failed _
    (search rules) (search rules) c.run_on-status.ensures.flag refl (c.run_on-status.ensures.checks config book in_place names planned refl)
