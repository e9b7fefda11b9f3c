mod CountsLaws
mod FeedingLaws
mod FinishLaws
mod FirstLaws
mod FragmentLaws
mod GrantedLaws
pub mod Items
mod InsideLaws
pub mod FollowsLaws
mod ApplyChangeLaws
mod BlockLaws
mod PartLaws
mod PlainDataLaws
pub mod Phases
mod Plays
mod RestoreLaws
mod RequestOutcomeLaws
mod RestLaws
pub mod Runs
pub mod Shortest
mod ShownLaws
mod TentativeLaws
mod QuietLaws
