mod CountLaws
mod FirstLaws
mod ListLaws
mod SerialLaws
mod TimestampLaws
pub mod SightingLaws
