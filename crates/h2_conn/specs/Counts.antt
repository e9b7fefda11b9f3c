-- Changes that leave most counts of a connection as they are.
use Rattle.std.specs.Prelude.{◌≡◌}
use Rattle.h2_spec.specs.declared.connection.ConnectionState.{ConnectionState}
use Rattle.h2_spec.specs.declared.reactions.Reaction.{Reaction}
use Rattle.h2_spec.specs.declared.reactions.Reaction.TheVariants.{ConnectionError, Continues}

-- counts with the last stream and the windows of other ones, what is owed there, and whether a table size update is
-- pending there
abbrev pub with_counts : ConnectionState → ConnectionState → ConnectionState
with_counts core after = record core {
  last = after.last;
  recv = after.recv;
  owed = after.owed;
  send = after.send;
  peer = record core.peer { size_update_pending = after.peer.size_update_pending };
}

-- where a reaction goes on, it changes no others of the counts
abbrev pub IsCounted : ConnectionState → Reaction → Type 0
IsCounted core (ConnectionError code) = Unit {0}
IsCounted core (Continues c) = c.core ≡ with_counts core c.core

-- where a reaction goes on, it leaves all counts as they are
abbrev pub LeavesCounts : ConnectionState → Reaction → Type 0
LeavesCounts core (ConnectionError code) = Unit {0}
LeavesCounts core (Continues c) = c.core ≡ core
