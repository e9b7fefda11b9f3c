use Rattle.h2_spec.proofs.TableLaws.{fit-all, fit-evict}
use Rattle.h2_spec_laws.proofs.table_laws.eviction_leads_to_the_fit.Goals as goal

pub returns-clause-evicts : goal.returns-clause-evicts
returns-clause-evicts c = fit-evict

pub returns-clause-stops : goal.returns-clause-stops
returns-clause-stops c = fit-all
