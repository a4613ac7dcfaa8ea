pub mod TurnLaws
pub mod ByteLaws
pub mod BlockLaws
pub mod GroupLaws
pub mod MatchLaws
