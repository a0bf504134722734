pub mod NextKey
pub mod NextKeyLaws
