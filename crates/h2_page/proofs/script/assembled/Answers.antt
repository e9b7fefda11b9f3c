use Rattle.h2_page.proofs.script.assembled.Goals as goal

pub returns-in_default : goal.returns-in_default
returns-in_default g c = (c.new.ensures.items, c.in_default.ensures.cases.0)
