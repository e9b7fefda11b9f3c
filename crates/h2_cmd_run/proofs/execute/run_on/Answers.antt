use Rattle.std.proofs.Common.{◌∙◌, ap, inl, inr, refl}
use Rattle.h2_cmd_run.specs.ProgramEnd.{asks_why, is_reader, is_serve}
use Rattle.h2_cmd_run.proofs.Parsed.{none-asked, parsed, prints-other, prints-refusal}
use Rattle.h2_cmd_run.proofs.execute.run_on.Goals as goal

pub returns-clause-printed : goal.returns-clause-printed
returns-clause-printed g c = λ is words file well. elim (parsed _ c.parse-asked.result c.parse-asked.ensures.ok c.parse-asked.ensures.refused) [
  | inl same ↦ c.carry_out.ensures.printed is (same ∙ words) file well
  | inr memory ↦ let unread = (rw memory at c.carry_out.ensures.unread) refl in
      prints-other _ _ _ _ _ (λ t e. inl (e, unread.1)) ((rw memory at c.carry_out.ensures.refused) well)
]

pub returns-clause-debugs : goal.returns-clause-debugs
returns-clause-debugs g c = λ config book words file well. elim (parsed _ c.parse-asked.result c.parse-asked.ensures.ok c.parse-asked.ensures.refused) [
  | inl same ↦ c.carry_out.ensures.debugs config book (same ∙ words) file well
  | inr memory ↦ let unread = (rw memory at c.carry_out.ensures.unread) refl in
      inl ((rw memory at c.carry_out.ensures.refused) well, unread.1)
]

pub returns-clause-explains : goal.returns-clause-explains
returns-clause-explains g c = λ config view raw file book words bookfile textfile well. elim (parsed _ c.parse-asked.result c.parse-asked.ensures.ok c.parse-asked.ensures.refused) [
  | inl same ↦ c.carry_out.ensures.explains config view raw file book (same ∙ words) bookfile textfile well
  | inr memory ↦ let unread = (rw memory at c.carry_out.ensures.unread) refl in
      prints-other _ _ _ _ _ (λ t e. inl (inl e, unread.1)) ((rw memory at c.carry_out.ensures.refused) well)
]

pub returns-clause-checks : goal.returns-clause-checks
returns-clause-checks g c = λ config book in_place names words files well. elim (parsed _ c.parse-asked.result c.parse-asked.ensures.ok c.parse-asked.ensures.refused) [
  | inl same ↦ c.carry_out.ensures.checks config book in_place names (same ∙ words) files well
  | inr memory ↦ prints-other _ _ _ _ _ (λ t e. inl e) ((rw memory at c.carry_out.ensures.refused) well)
]

pub returns-clause-serves : goal.returns-clause-serves
returns-clause-serves g c = λ is well. elim (parsed _ c.parse-asked.result c.parse-asked.ensures.ok c.parse-asked.ensures.refused) [
  | inl same ↦ inl (c.carry_out.ensures.serves (ap is_serve same ∙ is))
  | inr memory ↦ inr ((rw memory at c.carry_out.ensures.refused) well)
]

pub returns-clause-refused : goal.returns-clause-refused
returns-clause-refused g c = λ none well. prints-refusal _ c.parse-asked.result _ _ _ _ c.parse-asked.ensures.ok none (c.carry_out.ensures.refused) well

pub returns-clause-unread : goal.returns-clause-unread
returns-clause-unread g c = λ none. c.carry_out.ensures.unread (none-asked is_reader refl _ c.parse-asked.result c.parse-asked.ensures.ok c.parse-asked.ensures.refused none)

pub returns-clause-quiet : goal.returns-clause-quiet
returns-clause-quiet g c = λ none. c.carry_out.ensures.quiet (none-asked asks_why refl _ c.parse-asked.result c.parse-asked.ensures.ok c.parse-asked.ensures.refused none)
