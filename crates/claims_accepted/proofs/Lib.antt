pub mod Tests
pub mod ValueLaws
pub mod Accepted
pub mod RowLaws
