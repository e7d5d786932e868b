pub mod FindingLaws
pub mod SummaryLaws
pub mod ExtensionLaws
pub mod EntryLaws
pub mod TbsLaws
pub mod CrlLaws
pub mod FitLaws
