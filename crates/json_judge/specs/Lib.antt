pub mod MemberNames
pub mod Judged
pub mod Stack
pub mod Pass
