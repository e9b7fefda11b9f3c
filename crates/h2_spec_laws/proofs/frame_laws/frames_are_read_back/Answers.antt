use Rattle.h2_spec.proofs.FrameLaws.{head_at-frame_octets, next-frame_octets}
use Rattle.h2_spec_laws.proofs.frame_laws.frames_are_read_back.Goals as goal

pub returns-clause-head : goal.returns-clause-head
returns-clause-head c = head_at-frame_octets

pub returns-clause-item : goal.returns-clause-item
returns-clause-item c = next-frame_octets
