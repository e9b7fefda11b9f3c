use denote.Enum.Declared.{tag_of}
use Rattle.std.proofs.Common.{◌≡◌, refl, Some}
use Rattle.std.specs.Prelude.{slice_get}
use Rattle.h2_explain_item.specs.contracts.change.count.Count.{the_type}
use Rattle.h2_explain_item.specs.declared.change.count.Count.TheVariants.{ReceiveWindow, UnreturnedOctets, SendWindow, LastStream, GoawayLastStream, GoawayCode, ClientHeaderTableSize, ClientEnablePush, ClientMaxConcurrentStreams, ClientInitialWindowSize, ClientMaxFrameSize, ClientMaxHeaderListSize, SizeUpdatePending, OwnHeaderTableSize, OwnInitialWindowSize, OwnMaxFrameSize, TableEntries, TableOctets, TableMaximum, ContentReceived}
use Rattle.h2_explain_item.specs.Counts.{all_counts}
use Rattle.h2_explain_item.proofs.change.count.place_of.Goals as goal

pub returns : goal.returns
unfolding all_counts
returns c = elim c.args.count as (λ x. slice_get all_counts (tag_of the_type x) ≡ Some x) [ ReceiveWindow ↦ refl | UnreturnedOctets ↦ refl | SendWindow ↦ refl | LastStream ↦ refl | GoawayLastStream ↦ refl | GoawayCode ↦ refl | ClientHeaderTableSize ↦ refl | ClientEnablePush ↦ refl | ClientMaxConcurrentStreams ↦ refl | ClientInitialWindowSize ↦ refl | ClientMaxFrameSize ↦ refl | ClientMaxHeaderListSize ↦ refl | SizeUpdatePending ↦ refl | OwnHeaderTableSize ↦ refl | OwnInitialWindowSize ↦ refl | OwnMaxFrameSize ↦ refl | TableEntries ↦ refl | TableOctets ↦ refl | TableMaximum ↦ refl | ContentReceived ↦ refl ]
