pub mod Number
pub mod MemberName
