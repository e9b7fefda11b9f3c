use Rattle.std.proofs.Common.{sym}
use Rattle.h2_conn.proofs.FeedingLaws.{fits-empty}
use Rattle.h2_conn.proofs.feed.first.empty_splitter.Goals as goal

pub returns-clause-fits : goal.returns-clause-fits
returns-clause-fits g c = rw (c.expect_preface.ensures, c.new-splitter.ensures) (fits-empty c.args.phase _ (sym c.awaits_preface.ensures))
