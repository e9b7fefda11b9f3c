use denote.Enum.Declared.{tag_of}
use Rattle.std.proofs.Common.{◌≡◌, refl, Some}
use Rattle.std.specs.Prelude.{slice_get}
use Rattle.h2_spec.specs.contracts.ignored.Ignored.{the_type}
use Rattle.h2_spec.specs.declared.ignored.Ignored.TheVariants.{Priority, UnknownType, SecondAcknowledgement, PingAcknowledgement, RstStreamOnSkipped, RstStreamOnClosed, RstStreamOnPeerReset, RstStreamOnReset, WindowUpdateOnSkipped, WindowUpdateOnClosed, WindowUpdateOnPeerReset, WindowUpdateOnReset, WindowUpdateByZero, DataOnReset, TableOnlyBlock}
use Rattle.h2_spec.specs.Causes.IgnoredWords.{all_reasons}
use Rattle.h2_spec.proofs.ignored.place_of.Goals as goal

pub returns : goal.returns
unfolding all_reasons
returns c = elim c.args.reason as (λ x. slice_get all_reasons (tag_of the_type x) ≡ Some x) [ Priority ↦ refl | UnknownType ↦ refl | SecondAcknowledgement ↦ refl | PingAcknowledgement ↦ refl | RstStreamOnSkipped ↦ refl | RstStreamOnClosed ↦ refl | RstStreamOnPeerReset ↦ refl | RstStreamOnReset ↦ refl | WindowUpdateOnSkipped ↦ refl | WindowUpdateOnClosed ↦ refl | WindowUpdateOnPeerReset ↦ refl | WindowUpdateOnReset ↦ refl | WindowUpdateByZero ↦ refl | DataOnReset ↦ refl | TableOnlyBlock ↦ refl ]
