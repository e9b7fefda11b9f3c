mod BaseLaws
mod BriefLaws
mod IdsLaws
mod JoinedEntries
mod JoinedLaws
mod JoinedPut
mod LiveLaws
mod PatchLaws
pub mod PlaceLaws
mod ReadyRows
pub mod RebuiltLaws
mod RunLaws
mod SendLaws
mod SharedLaws
mod ShiftLaws
