use Rattle.h2_spec_laws.proofs.FormLaws.{form-read, read-form, text-read, read-text}
use Rattle.h2_spec_laws.proofs.block_laws.instructions_have_five_forms.Goals as goal

pub returns-clause-read : goal.returns-clause-read
returns-clause-read c = form-read

pub returns-clause-formed : goal.returns-clause-formed
returns-clause-formed c = read-form

pub returns-clause-text_read : goal.returns-clause-text_read
returns-clause-text_read c = text-read

pub returns-clause-text_formed : goal.returns-clause-text_formed
returns-clause-text_formed c = read-text
