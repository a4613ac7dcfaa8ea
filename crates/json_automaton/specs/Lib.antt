pub mod Token
pub mod Control
pub mod State
pub mod Reachable
pub mod Lost
