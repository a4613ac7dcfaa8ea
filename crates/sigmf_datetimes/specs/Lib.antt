pub mod Datetimes
pub mod DatetimeCode
