pub mod CommandText
pub mod Requests
pub mod Texts
pub mod inner
