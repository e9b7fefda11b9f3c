use Rattle.h2_spec.proofs.FrameLaws.{next-preface, next-begun}
use Rattle.h2_spec_laws.proofs.frame_laws.the_preface_is_found.Goals as goal

pub returns-clause-whole : goal.returns-clause-whole
returns-clause-whole c = next-preface

pub returns-clause-awaited : goal.returns-clause-awaited
returns-clause-awaited c = next-begun
